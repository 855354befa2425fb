use Rattle.std.proofs.Common.{◌≡◌, ◌∙◌, Some, sym, ap, subst}
use Rattle.std.specs.Option.{option_copied_mut}
use Rattle.std.proofs.lemmas.Option.{same_Some}
use Rattle.plain_dag.specs.Entries.{changed}
use Rattle.plain_dag.specs.Floors.{after_commit}
use Rattle.ceiling_book.specs.Book.{session_of, sessions_of}
use Rattle.ceiling_book.specs.Places.{AllPlaces, IsSlotOf, IsAt, HasStandIn}
use Rattle.ceiling_book.specs.Held.{seen}
use Rattle.ceiling_book.proofs.Keeping.{never-missing, sessions-committed, found-ceiling, committed-keeps}
use Rattle.ceiling_book.proofs.Growth.{kept-is_stand_in}
use Rattle.ceiling_book.proofs.CeilingBook.committed.Goals as goal
use Rattle.ceiling_book.proofs.CeilingBook.committed.Goals.{in-Some, in_default}

pub after_commit-requires-clause-ceiling : goal.after_commit-requires-clause-ceiling
after_commit-requires-clause-ceiling c =
    found-ceiling (IsSlotOf c.args.dag.now) (IsSlotOf c.args.dag.now) (seen c.self.inside) c.args.session c.in-Some.held.now
    (subst (AllPlaces (IsSlotOf c.args.dag.now) (IsSlotOf c.args.dag.now)) (sym c.self.view_is) c.requires.slots)
    (sym c.get_mut.ensures.value ∙ ap option_copied_mut c.in-Some.is)

pub returns-clause-sessions : goal.returns-clause-sessions
returns-clause-sessions c = λ rs ks stands placed x named.
    let same : c.id_of.result ≡ x = same_Some c.id_of.result x (sym c.id_of.ensures.is ∙ named) in
    let before = subst (AllPlaces (IsAt c.args.dag.now) (HasStandIn c.args.dag.now rs ks)) (sym c.self.view_is) placed in
    elim c.match-get_mut.branch [
      | in-Some w ↦
          let found = sym c.get_mut.ensures.value ∙ ap option_copied_mut w.in-Some.is in
          let wrote = c.get_mut.follows.holds w.after_commit.result in
          let ceiling = found-ceiling (IsAt c.args.dag.now) (HasStandIn c.args.dag.now rs ks) (seen c.self.inside) c.args.session w.in-Some.held.now before
          found in
          subst (λ a. sessions_of (seen a) ≡ changed c.args.session (after_commit rs x) (sessions_of c.args.self.now)) (sym w.self-inside-is)
          (sessions-committed (seen c.self.inside) c.args.self.now c.self.view_is (c.get_mut.follows.lender w.after_commit.result).entries c.args.session
          (after_commit rs x) w.in-Some.held.now w.after_commit.result wrote.0
          c.get_mut.ensures.ordered found
          (w.after_commit.ensures.session rs ks stands ceiling c.id_of.ensures.is ∙ ap (λ y. after_commit rs y (session_of w.in-Some.held.now)) same))
      | in_default w ↦ absurd (never-missing (seen c.self.inside) c.args.self.now c.self.view_is c.args.session c.requires.open
          (sym c.get_mut.ensures.value ∙ ap option_copied_mut w.in_default.is))
    ]

pub returns-clause-slots : goal.returns-clause-slots
returns-clause-slots c = elim c.match-get_mut.branch [
  | in-Some w ↦
      let found = sym c.get_mut.ensures.value ∙ ap option_copied_mut w.in-Some.is in
      let wrote = c.get_mut.follows.holds w.after_commit.result in
      let before = subst (AllPlaces (IsSlotOf c.args.dag.now) (IsSlotOf c.args.dag.now)) (sym c.self.view_is) c.requires.slots in
      let ceiling = found-ceiling (IsSlotOf c.args.dag.now) (IsSlotOf c.args.dag.now) (seen c.self.inside) c.args.session w.in-Some.held.now before found in
      subst (λ a. AllPlaces (IsSlotOf c.args.dag.now) (IsSlotOf c.args.dag.now) (seen a)) (sym w.self-inside-is)
      (committed-keeps (IsSlotOf c.args.dag.now) (IsSlotOf c.args.dag.now) (seen c.self.inside) c.args.self.now c.self.view_is
      (c.get_mut.follows.lender w.after_commit.result).entries c.args.session c.requires.slots
      w.in-Some.held.now w.after_commit.result (record { state = c.id_of.result; slot = c.args.slot }) wrote.0 w.after_commit.ensures.ceiling
      w.after_commit.ensures.last ceiling c.requires.slot c.requires.slot)
  | in_default w ↦ absurd (never-missing (seen c.self.inside) c.args.self.now c.self.view_is c.args.session c.requires.open
      (sym c.get_mut.ensures.value ∙ ap option_copied_mut w.in_default.is))
]

pub returns-clause-placed : goal.returns-clause-placed
returns-clause-placed c = λ rs ks stands placed.
    let before = subst (AllPlaces (IsAt c.args.dag.now) (HasStandIn c.args.dag.now rs ks)) (sym c.self.view_is) placed in
    let own = c.id_of.ensures.is ∙ ap (λ x. Some x) (sym (kept-is_stand_in rs ks c.id_of.result (c.id_of.ensures.known rs ks stands))) in
    elim c.match-get_mut.branch [
      | in-Some w ↦
          let found = sym c.get_mut.ensures.value ∙ ap option_copied_mut w.in-Some.is in
          let wrote = c.get_mut.follows.holds w.after_commit.result in
          let ceiling = found-ceiling (IsAt c.args.dag.now) (HasStandIn c.args.dag.now rs ks) (seen c.self.inside) c.args.session w.in-Some.held.now before
          found in
          subst (λ a. AllPlaces (IsAt c.args.dag.now) (HasStandIn c.args.dag.now rs ks) (seen a)) (sym w.self-inside-is)
          (committed-keeps (IsAt c.args.dag.now) (HasStandIn c.args.dag.now rs ks) (seen c.self.inside) c.args.self.now c.self.view_is
          (c.get_mut.follows.lender w.after_commit.result).entries c.args.session placed
          w.in-Some.held.now w.after_commit.result (record { state = c.id_of.result; slot = c.args.slot }) wrote.0 w.after_commit.ensures.ceiling
          w.after_commit.ensures.last ceiling c.id_of.ensures.is own)
      | in_default w ↦ absurd (never-missing (seen c.self.inside) c.args.self.now c.self.view_is c.args.session c.requires.open
          (sym c.get_mut.ensures.value ∙ ap option_copied_mut w.in_default.is))
    ]
