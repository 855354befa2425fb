use Rattle.std.proofs.Common.{length, sym, subst}
use Rattle.plain_dag.specs.Forks.{leaves}
use Rattle.state_dag.specs.Table.{Table}
use Rattle.state_dag.specs.Stands.{Stands}
use Rattle.rest_site.proofs.Joined.{as-many, left-apart, one-alone}
use Rattle.rest_site.proofs.joins.apart.Goals as goal

pub returns-then-leaf_slots-gt1 : goal.returns-then-leaf_slots-gt1
returns-then-leaf_slots-gt1 c = λ s stands.
    let slots = c.leaf_slots.result.now in
    let table = subst (λ (t : Table). Stands t s.dag s.collected) (sym c.dag.ensures) (c.store.ensures.stands s stands.0).table in
    left-apart s (length slots) (as-many c.dag.result.now slots (leaves s.dag) (c.leaf_slots.ensures.leaves s.dag s.collected table)) c.if-leaf_slots-gt1.true

pub returns-else-leaf_slots-gt1 : goal.returns-else-leaf_slots-gt1
returns-else-leaf_slots-gt1 c = λ s stands.
    let slots = c.leaf_slots.result.now in
    let table = subst (λ (t : Table). Stands t s.dag s.collected) (sym c.dag.ensures) (c.store.ensures.stands s stands.0).table in
    one-alone s (length slots) (as-many c.dag.result.now slots (leaves s.dag) (c.leaf_slots.ensures.leaves s.dag s.collected table)) c.if-leaf_slots-gt1.false
