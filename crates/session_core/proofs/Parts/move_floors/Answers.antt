use Rattle.std.proofs.Common.{◌≡◌, ◌≤◌, IsTrue, Some, refl, sym, ap, subst, ◌∙◌, arith}
use Rattle.tardis_base.specs.declared.records.Limits.{Limits}
use Rattle.plain_dag.specs.Begin.{last_arrived}
use Rattle.state_dag.specs.Table.{Table, id_at, is_slot}
use Rattle.state_dag.specs.Stands.{Stands}
use Rattle.session_core.specs.Held.{seen}
use Rattle.session_core.specs.Stands.{CoreStands}
use Rattle.session_core.specs.Machine.{SiteStands}
use Rattle.session_core.proofs.TakingRows.{floors-moved, places-same, row-held}
use Rattle.session_core.proofs.Parts.move_floors.Goals as goal

pub invariant_of-self : goal.invariant_of-self
invariant_of-self c =
    let store = c.self.inside.store in
    let places = places-same store.table store.table (λ s. refl) c.self.inside.book c.self.invariant.places in
    let slot = subst (λ t. IsTrue (is_slot t c.last-slot.result)) c.dag-2.ensures c.last-slot.ensures.slot in
    row-held c.self.inside store c.set_floors.new.self c.self.invariant (λ s. refl) refl c.set_floors.ensures.rest
    (c.set_floors.ensures.slots store.table places slot)

pub returns : goal.returns
returns c = λ goes site both.
    let core = seen c.self.inside in
    let here : SiteStands core site = (subst (λ v. CoreStands v site) (sym c.self.view_is) both.0, both.1) in
    let table = core.store.table in
    let slot = c.last-slot.result in
    let newest = c.id_of-newest.result in
    let stands = subst (λ t. Stands t site.dag site.collected) (sym c.dag-2.ensures) here.0.store.table in
    let last = subst (λ t. id_at t slot ≡ Some (last_arrived site.dag)) c.dag-2.ensures (c.last-slot.ensures.last site.dag site.collected stands) in
    let told = subst (λ t. id_at t slot ≡ Some newest) c.dag-3.ensures c.id_of-newest.ensures.is in
    let sites : c.limits.result.now.sites ≡ table.limits.sites =
    ap (λ (l : Limits). l.sites) c.limits.ensures ∙ ap (λ (t : Table). t.limits.sites) c.dag.ensures in
    let some : 1 ≤ c.args.site = (let other = c.if-site-eq0.false in omega arith) in
    let within : c.args.site ≤ table.limits.sites = (let past = c.if-site-limits.false in omega arith) in
    floors-moved core site c.args.site here c.set_floors.new.self slot newest some within (goes site both) last told
    c.set_floors.ensures.rest c.set_floors.ensures.floors
    (λ places. c.set_floors.ensures.placed table site.dag site.collected places told)
