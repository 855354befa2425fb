use Rattle.std.proofs.Common.{IsTrue, Some, Ok, sym, subst, ◌∙◌, ◌≡◌, ◌==◌, length, [], replicate, arith}
use Rattle.std.proofs.lemmas.Bool.{and_parts}
use Rattle.plain_dag.specs.Begin.{last_arrived}
use Rattle.plain_dag.specs.Floors.{are_unpromised_above}
use Rattle.plain_dag.specs.Rows.{row_left}
use Rattle.state_dag.specs.Table.{id_at, is_slot}
use Rattle.state_dag.specs.Rows.{further}
use Rattle.plain_rows.specs.Rows.{row_of}
use Rattle.session_core.specs.Held.{seen}
use Rattle.session_core.specs.Stands.{CoreStands}
use Rattle.session_core.specs.Machine.{SiteStands}
use Rattle.session_core.specs.Rests.{MayGoOn, TakesRow}
use Rattle.session_core.proofs.Growing.{named-is_slot}
use Rattle.session_core.proofs.TakingRows.{none-there, newest-is, unfaulted-fit, row-taken, row-untaken, places-then, places-same, row-held}
use Rattle.session_core.proofs.Parts.take_row.Goals as goal

pub invariant_of-self : goal.invariant_of-self
invariant_of-self c =
    let old = c.self.inside.store.table in
    let new = c.advance.new.self.table in
    row-held c.self.inside c.advance.new.self c.set_floors.new.self c.self.invariant c.advance.ensures.kept c.advance.ensures.limits
    c.set_floors.ensures.rest
    (c.set_floors.ensures.slots new (places-same old new c.advance.ensures.kept c.self.inside.book c.self.invariant.places)
    (named-is_slot new c.in-Ok.slot (further old c.args.site c.args.count) c.in-Ok.ensures.slot))

pub id_of-newest-requires : goal.id_of-newest-requires
id_of-newest-requires c =
    subst (λ t. IsTrue (is_slot t c.in-Ok.slot)) (sym c.dag.ensures)
    (named-is_slot c.advance.new.self.table c.in-Ok.slot (further c.self.inside.store.table c.args.site c.args.count) c.in-Ok.ensures.slot)

pub returns-in-Ok : goal.returns-in-Ok
returns-in-Ok c = λ site both.
    let core = seen c.self.inside in
    let here : SiteStands core site = (subst (λ v. CoreStands v site) (sym c.self.view_is) both.0, both.1) in
    let n = c.args.site in
    let count = c.args.count in
    let store = c.advance.new.self in
    let newest = c.id_of-newest.result in
    let none = c.in-Ok.ensures.advanced.0 in
    let may = and_parts (length site.sessions == 0) (are_unpromised_above site.dag site.floors (last_arrived site.dag))
    (sym (c.may_go_on.ensures site both) ∙ c.if-not-may_go_on.false) in
    let sessions = none-there site.sessions may.0 in
    let told = subst (λ t. id_at t c.in-Ok.slot ≡ Some newest) c.dag.ensures c.id_of-newest.ensures.is in
    let is = newest-is core site n count here store c.in-Ok.slot newest none c.in-Ok.ensures.slot told in
    let placed = c.set_floors.ensures.placed store.table (row_of site.dag n count) (row_left site.dag site.collected n (replicate count []))
    (places-then core site n count here store sessions (c.in-Ok.ensures.stand_ins site.dag site.collected here.0.store)) told in
    row-taken core site n count here store c.set_floors.new.self newest (unfaulted-fit core site n count here none sessions may.1)
    (c.in-Ok.ensures.stands site.dag site.collected here.0.store) c.advance.ensures.limits is c.set_floors.ensures.rest c.set_floors.ensures.floors placed

pub returns-in-Err : goal.returns-in-Err
returns-in-Err c = λ site both.
    row-untaken (seen c.self.inside) site c.args.site c.args.count (subst (λ v. CoreStands v site) (sym c.self.view_is) both.0, both.1)
    (let some = c.if-count-eq0.false in omega arith) c.advance.new.self c.in-Err.fault c.untaken.result c.in-Err.ensures.advanced c.in-Err.ensures.same c.untaken.ensures

pub returns-then-count-eq0 : goal.returns-then-count-eq0
returns-then-count-eq0 c =
    let none : 0 ≡ c.args.count = (let e = c.if-count-eq0.true in omega arith) in
    subst (λ k. TakesRow c.args.self.now c.move_floors.new.self c.args.site k (Ok c.move_floors.result)) none
    (c.move_floors.ensures (subst (MayGoOn c.args.self.now) c.if-not-may_go_on.false c.may_go_on.ensures))
