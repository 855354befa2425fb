use Rattle.std.proofs.Common.{◌∙◌, List, IsTrue, sym, ap, ap₂, subst}
use Rattle.tardis_base.specs.declared.ids.StateId.{StateId}
use Rattle.tardis_base.specs.Ids.{is_among}
use Rattle.plain_dag.specs.Floors.{Floor, is_closed}
use Rattle.state_dag.specs.Stands.{Stands}
use Rattle.ceiling_book.specs.Places.{ArePlaced}
use Rattle.ceiling_book.specs.Consents.{consent_end, TakenIn}
use Rattle.plain_site.specs.Exchange.{deliver_consent}
use Rattle.session_core.specs.Held.{seen}
use Rattle.session_core.specs.Stands.{CoreStands}
use Rattle.session_core.specs.Gives.{GivesOrStops}
use Rattle.site_answers.specs.Told.{consent_reply}
use Rattle.session_core.proofs.Exchanging.{consent-gives}
use Rattle.session_core.proofs.Parts.deliver_consent.Goals as goal

pub returns : goal.returns
returns c = λ site stands sound.
    let core = seen c.self.inside in
    let book = c.take_consent.new.self in
    let promise = c.args.promise.now in
    let here = subst (λ v. CoreStands v site) (sym c.self.view_is) stands in
    let table = subst (λ t. Stands t site.dag site.collected) (sym c.dag.ensures) here.store.table in
    let before = subst (λ t. ArePlaced core.book t site.dag site.collected) (sym c.dag.ensures) here.placed in
    let placed = subst (λ t. ArePlaced book t site.dag site.collected) c.dag.ensures (c.take_consent.ensures.placed site.dag site.collected table before) in
    let told = c.take_consent.ensures.judged site.dag site.collected table before
    (subst (λ (fs : List Floor). (x : StateId) → IsTrue (is_among x site.collected) → IsTrue (is_closed site.dag fs x))
    (sym here.floors) sound.collected.closed) in
    let is = told ∙ ap₂ (λ (fs : List Floor) own. consent_end site.dag fs own promise) here.floors here.own in
    subst (λ r. GivesOrStops (CoreStands (record core { book = book })) (deliver_consent site promise) site r)
    (sym (c.consent_reply.ensures ∙ ap consent_reply is))
    (consent-gives core book site promise here sound.one_floor_each c.take_consent.ensures.rest placed
    (subst (TakenIn core.book book promise) is c.take_consent.ensures.taken))
