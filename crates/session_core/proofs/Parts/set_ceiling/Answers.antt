use Rattle.std.proofs.Common.{◌≡◌, ◌∙◌, IsTrue, Some, refl, sym, ap, subst}
use Rattle.std.proofs.lemmas.Option.{same_Some}
use Rattle.tardis_base.specs.declared.replies.Refusal.TheVariants.{CeilingBack}
use Rattle.plain_dag.specs.Entries.{entry_of}
use Rattle.state_dag.specs.Table.{id_at}
use Rattle.state_dag.specs.Stands.{Stands}
use Rattle.plain_site.specs.Answers.{refused}
use Rattle.plain_site.specs.Sessions.{set_ceiling}
use Rattle.session_core.specs.Held.{seen}
use Rattle.session_core.specs.Stands.{CoreStands}
use Rattle.session_core.proofs.Standing.{open-session, none-kept, no-txn-answer}
use Rattle.session_core.proofs.Beginning.{collected-above}
use Rattle.session_core.proofs.FloorMoves.{gone-above, back-ceiling}
use Rattle.ceiling_book.specs.Book.{is_open}
use Rattle.ceiling_book.specs.Places.{AreSlots}
use Rattle.session_core.proofs.Growing.{named-is_slot}
use Rattle.session_core.proofs.Parts.set_ceiling.Goals as goal

pub set_ceiling-requires-clause-open : goal.set_ceiling-requires-clause-open
set_ceiling-requires-clause-open c = subst (λ v. IsTrue (is_open v.book c.args.actor)) (sym c.self.view_is) c.in_ok-no_txn.ensures.open

pub set_ceiling-requires-clause-slots : goal.set_ceiling-requires-clause-slots
set_ceiling-requires-clause-slots c = subst (AreSlots c.self.inside.book) (sym c.dag-dag.ensures) c.self.invariant.places

pub set_ceiling-requires-clause-slot : goal.set_ceiling-requires-clause-slot
set_ceiling-requires-clause-slot c = named-is_slot c.dag-dag.result.now c.in-Some.slot c.args.state c.in-Some.ensures.found

pub returns-in-None-clause-given : goal.returns-in-None-clause-given
returns-in-None-clause-given c = λ site stands sound.
    let now = c.args.self.now in
    let n = c.args.actor in
    let x = c.args.state in
    let core = seen c.self.inside in
    let here = subst (λ v. CoreStands v site) (sym c.self.view_is) stands in
    let table = subst (λ t. Stands t site.dag site.collected) (sym c.dag-dag.ensures) here.store.table in
    let s = open-session now site stands n c.in_ok-no_txn.ensures.open in
    let known = sym (c.knows.ensures site.dag site.collected table) ∙ c.if-not-knows.false in
    let gone = c.in-None.ensures.none refl site.dag site.collected table in
    let apart = gone-above site.dag sound.dag site.collected x s.value.ceiling known gone (collected-above site n s.value sound s.is) in
    let named = c.ceiling.ensures.ceiling core.store.table site.dag site.collected here.placed s.value (ap (λ ss. entry_of n ss) here.sessions ∙ s.is) in
    let told = subst (λ t. id_at t c.ceiling.result ≡ Some c.id_of.result) c.dag-dag.ensures c.id_of.ensures.is in
    let same = same_Some s.value.ceiling c.id_of.result (sym named ∙ told) in (
      stands,
      no-txn-answer site n (λ r. set_ceiling site n r x) s.value s.is (none-kept now site stands n c.in_ok-no_txn.ensures.none)
          ∙ back-ceiling core core.book site n s.value x here known apart
          ∙ ap (λ y. refused site (CeilingBack y)) same,
    )
