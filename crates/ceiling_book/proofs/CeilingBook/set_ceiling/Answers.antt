use Rattle.std.proofs.Common.{◌≡◌, ◌∙◌, refl, sym, ap, subst}
use Rattle.std.specs.Option.{option_copied_mut}
use Rattle.std.proofs.lemmas.Option.{same_Some}
use Rattle.plain_dag.specs.Above.{is_above}
use Rattle.plain_dag.specs.Entries.{changed}
use Rattle.plain_dag.specs.Floors.{with_ceiling}
use Rattle.ceiling_book.specs.Book.{session_of, sessions_of}
use Rattle.ceiling_book.specs.Places.{AllPlaces, IsSlotOf, IsAt, HasStandIn}
use Rattle.ceiling_book.specs.Held.{seen}
use Rattle.ceiling_book.proofs.Entries.{looked-up}
use Rattle.ceiling_book.proofs.Keeping.{never-missing, session-found, sessions-committed, found-ceiling, found-last, changed-keeps}
use Rattle.ceiling_book.proofs.CeilingBook.set_ceiling.Goals as goal
use Rattle.ceiling_book.proofs.CeilingBook.set_ceiling.Goals.{in-Some, in_default}

pub is_ancestor-requires-clause-first : goal.is_ancestor-requires-clause-first
is_ancestor-requires-clause-first c =
    found-ceiling (IsSlotOf c.args.dag.now) (IsSlotOf c.args.dag.now) c.args.self.now c.args.session c.session.result.now c.requires.slots
    (looked-up c.args.session c.args.self.now.sessions ∙ c.session.ensures)

pub is_ancestor-requires-clause-second : goal.is_ancestor-requires-clause-second
is_ancestor-requires-clause-second c = c.requires.slot

pub returns-then-not-is_ancestor-clause-set : goal.returns-then-not-is_ancestor-clause-set
returns-then-not-is_ancestor-clause-set c = λ rs ks stands placed s is x named.
    let same = session-found c.args.self.now c.args.session c.session.result.now s c.session.ensures is in
    let at = found-ceiling (IsAt c.args.dag.now) (HasStandIn c.args.dag.now rs ks) c.args.self.now c.args.session c.session.result.now placed
    (looked-up c.args.session c.args.self.now.sessions ∙ c.session.ensures) in
    let told = c.is_ancestor.ensures.above rs ks stands c.session.result.now.ceiling.state x at named in
    (ap (λ t. is_above rs t.ceiling x) (sym same) ∙ sym told ∙ c.if-not-is_ancestor.true, ap (λ t. t.ceiling) same, refl)

pub returns-clause-set : goal.returns-clause-set
returns-clause-set c = λ rs ks stands placed s is x named.
    let at = found-ceiling (IsAt c.args.dag.now) (HasStandIn c.args.dag.now rs ks) c.args.self.now c.args.session c.session.result.now placed
    (looked-up c.args.session c.args.self.now.sessions ∙ c.session.ensures) in
    let told = c.is_ancestor.ensures.above rs ks stands c.session.result.now.ceiling.state x at named in
    let same = session-found c.args.self.now c.args.session c.session.result.now s c.session.ensures is in
    let here : c.id_of.result ≡ x = same_Some c.id_of.result x (sym c.id_of.ensures.is ∙ named) in (
      ap (λ t. is_above rs t.ceiling x) (sym same) ∙ sym told ∙ c.if-not-is_ancestor.false,
      elim c.match-get_mut.branch [
        | in-Some w ↦
            let found = sym c.get_mut.ensures.value ∙ ap option_copied_mut w.in-Some.is in
            let wrote = c.get_mut.follows.holds w.with_ceiling.result in
            subst (λ a. sessions_of (seen a) ≡ changed c.args.session (with_ceiling x) (sessions_of c.args.self.now)) (sym w.self-inside-is)
            (sessions-committed (seen c.self.inside) c.args.self.now c.self.view_is (c.get_mut.follows.lender w.with_ceiling.result).entries c.args.session
            (with_ceiling x) w.in-Some.held.now w.with_ceiling.result wrote.0
            c.get_mut.ensures.ordered found
            (w.with_ceiling.ensures.session ∙ ap (λ y. with_ceiling y (session_of w.in-Some.held.now)) here))
        | in_default w ↦ absurd (never-missing (seen c.self.inside) c.args.self.now c.self.view_is c.args.session c.requires.open
            (sym c.get_mut.ensures.value ∙ ap option_copied_mut w.in_default.is))
      ],
    )

pub returns-clause-slots : goal.returns-clause-slots
returns-clause-slots c = elim c.match-get_mut.branch [
  | in-Some w ↦
      let table = c.args.dag.now in
      let found = sym c.get_mut.ensures.value ∙ ap option_copied_mut w.in-Some.is in
      let wrote = c.get_mut.follows.holds w.with_ceiling.result in
      let before = subst (AllPlaces (IsSlotOf table) (IsSlotOf table)) (sym c.self.view_is) c.requires.slots in
      let last = found-last (IsSlotOf table) (IsSlotOf table) (seen c.self.inside) c.args.session w.in-Some.held.now before found in
      subst (λ a. AllPlaces (IsSlotOf table) (IsSlotOf table) (seen a)) (sym w.self-inside-is)
      (changed-keeps (IsSlotOf table) (IsSlotOf table) (seen c.self.inside) c.args.self.now c.self.view_is
      (c.get_mut.follows.lender w.with_ceiling.result).entries c.args.session c.requires.slots
      w.with_ceiling.result wrote.0 (subst (IsSlotOf table) (sym w.with_ceiling.ensures.ceiling) c.requires.slot)
      (subst (IsSlotOf table) (sym w.with_ceiling.ensures.last) last))
  | in_default w ↦ absurd (never-missing (seen c.self.inside) c.args.self.now c.self.view_is c.args.session c.requires.open
      (sym c.get_mut.ensures.value ∙ ap option_copied_mut w.in_default.is))
]

pub returns-clause-placed : goal.returns-clause-placed
returns-clause-placed c = λ rs ks stands placed.
    let table = c.args.dag.now in
    let before = subst (AllPlaces (IsAt table) (HasStandIn table rs ks)) (sym c.self.view_is) placed in
    elim c.match-get_mut.branch [
      | in-Some w ↦
          let found = sym c.get_mut.ensures.value ∙ ap option_copied_mut w.in-Some.is in
          let wrote = c.get_mut.follows.holds w.with_ceiling.result in
          let last = found-last (IsAt table) (HasStandIn table rs ks) (seen c.self.inside) c.args.session w.in-Some.held.now before found in
          subst (λ a. AllPlaces (IsAt table) (HasStandIn table rs ks) (seen a)) (sym w.self-inside-is)
          (changed-keeps (IsAt table) (HasStandIn table rs ks) (seen c.self.inside) c.args.self.now c.self.view_is
          (c.get_mut.follows.lender w.with_ceiling.result).entries c.args.session placed
          w.with_ceiling.result wrote.0 (subst (IsAt table) (sym w.with_ceiling.ensures.ceiling) c.id_of.ensures.is)
          (subst (HasStandIn table rs ks) (sym w.with_ceiling.ensures.last) last))
      | in_default w ↦ absurd (never-missing (seen c.self.inside) c.args.self.now c.self.view_is c.args.session c.requires.open
          (sym c.get_mut.ensures.value ∙ ap option_copied_mut w.in_default.is))
    ]
