use Rattle.std.proofs.Common.{◌≡◌, ◌∙◌, length, Some, refl, sym, ap, ap₂, subst}
use Rattle.std.proofs.lemmas.Option.{same_Some}
use Rattle.tardis_base.specs.declared.replies.Refusal.TheVariants.{FloorBack}
use Rattle.plain_dag.specs.Floors.{floor_of}
use Rattle.state_dag.specs.Table.{id_at}
use Rattle.state_dag.specs.Stands.{Stands}
use Rattle.ceiling_book.specs.Book.{floors_of}
use Rattle.ceiling_book.specs.Places.{AreSlots, ArePlaced}
use Rattle.ceiling_book.specs.Floors.{RaisedIn}
use Rattle.plain_site.specs.Answers.{refused}
use Rattle.plain_site.specs.Site.{own_floor}
use Rattle.plain_site.specs.FloorSteps.{raise}
use Rattle.plain_site.proofs.SoundCommits.{closed-above_own}
use Rattle.session_core.specs.Held.{seen}
use Rattle.session_core.specs.Stands.{CoreStands}
use Rattle.session_core.specs.Gives.{GivesOrStops, Stops}
use Rattle.site_answers.specs.declared.stops.Stop.TheVariants.{Refused as RefusedAs}
use Rattle.session_core.proofs.FloorMoves.{gone-above, past-known, raise-back, raise-gives, raise-stops}
use Rattle.session_core.proofs.Growing.{named-is_slot}
use Rattle.session_core.proofs.Parts.raise.Goals as goal
use Rattle.session_core.proofs.Parts.raise.Goals.{in-Ok, in-Err}

pub raise-requires-clause-slots : goal.raise-requires-clause-slots
raise-requires-clause-slots c = subst (AreSlots c.self.inside.book) (sym c.dag-dag.ensures) c.self.invariant.places

pub raise-requires-clause-slot : goal.raise-requires-clause-slot
raise-requires-clause-slot c = named-is_slot c.dag-dag.result.now c.in-Some.slot c.args.state c.in-Some.ensures.found

pub raise-requires-clause-sites : goal.raise-requires-clause-sites
raise-requires-clause-sites c =
    subst (λ t. length (floors_of c.self.inside.book) ≡ t.limits.sites) (sym c.dag-dag.ensures) c.self.invariant.floors

pub returns-in-None-clause-given : goal.returns-in-None-clause-given
returns-in-None-clause-given c = λ site stands sound.
    let x = c.args.state in
    let core = seen c.self.inside in
    let here = subst (λ v. CoreStands v site) (sym c.self.view_is) stands in
    let table = subst (λ t. Stands t site.dag site.collected) (sym c.dag-dag.ensures) here.store.table in
    let known = sym (c.knows.ensures site.dag site.collected table) ∙ c.if-not-knows.false in
    let gone = c.in-None.ensures.none refl site.dag site.collected table in
    let apart = gone-above site.dag sound.dag site.collected x (own_floor site).state known gone
    (λ y among. closed-above_own site y sound (sound.collected.closed y among)) in
    let own = c.own_site.ensures.is ∙ here.own in
    let named = c.floor.ensures.floor core.store.table site.dag site.collected here.placed ∙ ap₂ (λ fs n. Some (floor_of fs n).state) here.floors own in
    let told = subst (λ t. id_at t c.floor.result.0 ≡ Some c.id_of.result) c.dag-dag.ensures c.id_of.ensures.is in
    let same = same_Some (own_floor site).state c.id_of.result (sym named ∙ told) in
    (stands, past-known core core.book site x here known ∙ raise-back core core.book site x here apart ∙ ap (λ y. refused site (FloorBack y)) same)

pub returns-clause-given : goal.returns-clause-given
returns-clause-given c = λ site stands sound.
    let x = c.args.state in
    let core = seen c.self.inside in
    let book = c.raise.new.self in
    let here = subst (λ v. CoreStands v site) (sym c.self.view_is) stands in
    let table = subst (λ t. Stands t site.dag site.collected) (sym c.dag-dag.ensures) here.store.table in
    let known = sym (c.knows.ensures site.dag site.collected table) ∙ c.if-not-knows.false in
    let told = c.raise.ensures.raised site.dag site.collected table
    (subst (λ t. ArePlaced core.book t site.dag site.collected) (sym c.dag-dag.ensures) here.placed) x c.in-Some.ensures.found in
    let placed = subst (λ t. ArePlaced book t site.dag site.collected) c.dag-dag.ensures
    (c.raise.ensures.placed site.dag site.collected table (subst (λ t. ArePlaced core.book t site.dag site.collected) (sym c.dag-dag.ensures) here.placed)) in
    elim c.match-raise.branch [
      | in-Ok w ↦
          subst (λ r. GivesOrStops (CoreStands (record core { book = book })) (raise site x) site r) (sym w.result-is)
          (raise-gives core book site x here w.in-Ok.number known (subst (RaisedIn site.dag core.book book x) w.in-Ok.is told) c.raise.ensures.rest placed)
      | in-Err w ↦
          subst (λ r. GivesOrStops (CoreStands (record core { book = book })) (raise site x) site r) (sym w.result-is)
          (subst (λ f. Stops (CoreStands (record core { book = book })) (raise site x) site (RefusedAs f)) (sym w.raise_refusal.ensures)
          (raise-stops core book site x here w.in-Err.fault known (subst (RaisedIn site.dag core.book book x) w.in-Err.is told)))
    ]
