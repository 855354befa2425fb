use Rattle.std.proofs.Common.{◌∙◌, List, Ok, IsTrue, sym, ap, subst}
use Rattle.tardis_base.specs.declared.ids.StateId.{StateId}
use Rattle.tardis_base.specs.declared.records.Item.TheVariants.{Promise}
use Rattle.tardis_base.specs.Ids.{is_among}
use Rattle.plain_dag.specs.Floors.{Floor, is_closed}
use Rattle.state_dag.specs.Stands.{Stands}
use Rattle.ceiling_book.specs.Places.{ArePlaced}
use Rattle.ceiling_book.specs.Consents.{consent_end}
use Rattle.plain_site.specs.Rest.{News}
use Rattle.session_core.specs.Held.{seen}
use Rattle.session_core.specs.Stands.{CoreStands}
use Rattle.session_core.specs.Rests.{TakenBy, KeepsSound}
use Rattle.session_core.proofs.Resting.{promise-taken}
use Rattle.session_core.proofs.Parts.take_promise.Goals as goal

pub returns : goal.returns
returns c = λ site both.
    let core = seen c.self.inside in
    let told = c.take_consent_back-end in
    let book = told.new.self in
    let promise = c.args.promise.now in
    let here = subst (λ v. CoreStands v site) (sym c.self.view_is) both.0 in
    let table = subst (λ t. Stands t site.dag site.collected) (sym c.dag.ensures) here.store.table in
    let before = subst (λ t. ArePlaced core.book t site.dag site.collected) (sym c.dag.ensures) here.placed in
    let placed = subst (λ t. ArePlaced book t site.dag site.collected) c.dag.ensures (told.ensures.placed site.dag site.collected table before) in
    let judged = told.ensures.judged site.dag site.collected table before
    (subst (λ (fs : List Floor). (x : StateId) → IsTrue (is_among x site.collected) → IsTrue (is_closed site.dag fs x))
    (sym here.floors) both.1.collected.closed) in
    let is = judged ∙ ap (λ (fs : List Floor). consent_end site.dag fs 0 promise) here.floors in
    let keeps = subst (λ v. KeepsSound v (News (Promise promise))) (sym c.self.view_is) c.requires.sound in
    subst (λ b. TakenBy (record core { book = book }) (News (Promise promise)) site (Ok b)) (sym c.is_applied.ensures)
    (promise-taken site promise core book here both.1 keeps told.ensures.rest placed told.result is told.ensures.taken)
