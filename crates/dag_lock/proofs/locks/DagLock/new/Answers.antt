use Rattle.std.proofs.Common.{◌∷◌, [], List, sym, ap, subst}
use Rattle.atomic_table.specs.Table.{opening}
use Rattle.trail_log.specs.Trail.{Kept}
use Rattle.dag_lock.specs.declared.views.Stage.TheVariants.{Idle}
use Rattle.dag_lock.specs.Turns.{Turns, knows}
use Rattle.dag_lock.specs.Steps.{IsOfLock}
use Rattle.dag_lock.proofs.Closing.{opens}
use Rattle.dag_lock.proofs.locks.DagLock.new.Goals as goal

pub new-requires-2 : goal.new-requires-2
new-requires-2 g c =
    let IsOf = IsOfLock g.M.Machine.opening g.M.Machine.plain c.of.result.value in
    let same = sym c.of.ensures in
    subst (λ (l : List (Kept g.row.M.Denot)). Turns IsOf c.args.pieces (opening (0 ∷ 0 ∷ []) l (knows Idle [] [] c.args.pieces))) (sym c.in_ok-slots.ensures)
    (opens IsOf c.args.pieces c.args.machine c.requires.empty (
      ap (λ (x : Kept g.row.M.Denot). g.M.Machine.opening x.machine) same,
      ap (λ (x : Kept g.row.M.Denot). x.max_trail) same,
    ) c.requires.some)
