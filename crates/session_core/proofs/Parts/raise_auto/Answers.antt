use Rattle.std.proofs.Common.{◌≡◌, ◌∙◌, Some, Ok, true, sym, ap, ap₂, subst}
use Rattle.std.proofs.lemmas.Option.{same_Some}
use Rattle.tardis_base.specs.declared.replies.Reply.TheVariants.{Raised}
use Rattle.plain_dag.specs.Above.{is_proper_ancestor}
use Rattle.plain_dag.specs.Floors.{Floor, Sessions, automatic_floor}
use Rattle.state_dag.specs.Stands.{Stands}
use Rattle.ceiling_book.specs.Places.{ArePlaced}
use Rattle.ceiling_book.specs.Floors.{AutoRaisedIn, FloorMoved}
use Rattle.plain_site.specs.Site.{own_floor}
use Rattle.plain_site.specs.FloorSteps.{raise_auto}
use Rattle.plain_site.proofs.SoundCommits.{closed-above_own}
use Rattle.session_core.specs.Held.{seen}
use Rattle.session_core.specs.Stands.{CoreStands}
use Rattle.session_core.specs.Gives.{GivesOrStops, IsGiven}
use Rattle.session_core.proofs.OpenSessions.{same-floor, same-book}
use Rattle.session_core.proofs.FloorMoves.{number-left, number-gone}
use Rattle.session_core.proofs.Parts.raise_auto.Goals as goal
use Rattle.session_core.proofs.Parts.raise_auto.Goals.{in-Ok, in-Err}

pub returns-clause-given : goal.returns-clause-given
returns-clause-given c = λ site stands sound.
    let core = seen c.self.inside in
    let book = c.raise_auto.new.self in
    let here = subst (λ v. CoreStands v site) (sym c.self.view_is) stands in
    let table = subst (λ t. Stands t site.dag site.collected) (sym c.dag-dag.ensures) here.store.table in
    let before = subst (λ t. ArePlaced core.book t site.dag site.collected) (sym c.dag-dag.ensures) here.placed in
    let placed = subst (λ t. ArePlaced book t site.dag site.collected) c.dag-dag.ensures (c.raise_auto.ensures.placed site.dag site.collected table before) in
    let floor = same-floor core site here in
    let told = c.raise_auto.ensures.raised site.dag site.collected table before (λ x among.
    subst (λ (f : Floor). is_proper_ancestor site.dag x f.state ≡ true) (sym floor) (closed-above_own site x sound (sound.collected.closed x among))) in
    let y = automatic_floor site.dag (own_floor site).state site.sessions in
    let is = ap₂ (λ (f : Floor) (ss : Sessions). automatic_floor site.dag f.state ss) floor here.sessions in
    elim c.match-raise_auto.branch [
      | in-Ok w ↦
          let moved = subst (AutoRaisedIn site.dag c.dag-dag.result.now core.book book) w.in-Ok.is told in
          let same = same_Some w.id_of.result y (sym w.id_of.ensures.is ∙ moved.0 ∙ ap (λ z. Some z) is) in
          let given = number-left core book site y here w.in-Ok.number (subst (λ z. FloorMoved site.dag core.book book z (Ok w.in-Ok.number)) is moved.1)
          c.raise_auto.ensures.rest placed in
          subst (λ a. GivesOrStops (CoreStands (seen a)) (raise_auto site) site c.match-raise_auto.result) (sym w.self-inside-is)
          (subst (λ r. GivesOrStops (CoreStands (record core { book = book })) (raise_auto site) site r) (sym w.result-is)
          (subst (λ z. IsGiven (CoreStands (record core { book = book })) (raise_auto site) (Raised z w.in-Ok.number)) (sym same) given))
      | in-Err w ↦
          let gone = subst (AutoRaisedIn site.dag c.dag-dag.result.now core.book book) w.in-Err.is told in
          subst (λ a. GivesOrStops (CoreStands (seen a)) (raise_auto site) site c.match-raise_auto.result) (sym w.self-inside-is)
          (subst (λ r. GivesOrStops (CoreStands (record core { book = book })) (raise_auto site) site r) (sym w.result-is)
          (same-book core book site here gone.1, number-gone core book site y here gone.0))
    ]
