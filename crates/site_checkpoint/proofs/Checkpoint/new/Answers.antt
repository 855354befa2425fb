use Rattle.std.proofs.Common.{◌≡◌, [], ◌∷◌, Some, sym, subst}
use Rattle.tardis_base.specs.Ids.{root}
use Rattle.plain_dag.specs.States.{root_record}
use Rattle.state_dag.specs.Table.{Table, id_at}
use Rattle.state_dag.specs.Stands.{Stands}
use Rattle.plain_checkpoint.specs.Checkpoints.{untold}
use Rattle.site_checkpoint.proofs.Parts.{opening-stands}
use Rattle.site_checkpoint.proofs.Checkpoint.new.Goals as goal

pub invariant_of-result : goal.invariant_of-result
invariant_of-result c =
    let stands = c.in_ok-store.ensures.stands in
    let table = subst (λ (d : Table). Stands d (root_record ∷ []) []) (sym c.dag.ensures) stands.table in
    let at = subst (λ (d : Table). id_at d c.last-root.result ≡ Some root) c.dag.ensures (c.last-root.ensures.last (root_record ∷ []) [] table) in
    record { told = untold; stands = opening-stands c.in_ok-store.store c.last-root.result stands at }
