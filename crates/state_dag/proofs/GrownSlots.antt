-- What the slots of a table that has grown name.
use Rattle.std.proofs.Common.{◌≡◌, ℕ, cond, eqb, List, [], ◌∷◌, ◌++◌, map, find, Option, Some, None, ◌⊎◌, inl, inr, refl, sym, ap, ap₂, subst, ◌∙◌, eqb-true}
use Rattle.std.proofs.Common.{eq-eqb}
use Rattle.std.specs.Option.{option_map}
use Rattle.std.proofs.lemmas.Bool.{cases_Bool, cond-true, cond-false}
use Rattle.std.proofs.lemmas.Option.{none-some, same_Some}
use Rattle.tardis_base.specs.declared.ids.StateId.{StateId}
use Rattle.tardis_base.specs.declared.ids.Slot.{Slot}
use Rattle.state_dag.specs.Table.{Entry, Table, entry_at, id_at}
use Rattle.state_dag.specs.Grown.{IsGrownEntry, AreGrownEntries, IsGrown}

-- ===== Searches

-- what is found, or else the other
abbrev pub or_else : Option Entry → Option Entry → Option Entry
or_else (Some e) other = Some e
or_else None other = other

pub find-after : (k : ℕ) (es : List Entry) (e : Entry) → find (λ f. eqb f.slot.0 k) (es ++ e ∷ [])
    ≡ or_else (find (λ f. eqb f.slot.0 k) es) (cond (eqb e.slot.0 k) (Some e) None)
find-after k [] e = refl
find-after k (f ∷ es) e = elim (cases_Bool (eqb f.slot.0 k)) [
  | inl t ↦ rw t refl
  | inr n ↦ rw n (find-after k es e)
]

pub found-slot : (k : ℕ) (es : List Entry) (e : Entry) → find (λ f. eqb f.slot.0 k) es ≡ Some e → e.slot.0 ≡ k
found-slot k [] e is = absurd (none-some e is)
found-slot k (f ∷ es) e is = elim (cases_Bool (eqb f.slot.0 k)) [
  | inl t ↦ sym (ap (λ (g : Entry). g.slot.0) (same_Some f e (rw t at is))) ∙ eqb-true f.slot.0 k t
  | inr n ↦ found-slot k es e (rw n at is)
]

module _ (old : Table) (parents : List Slot) (x : StateId) (slot : Slot) where
  -- both are there, and the one became the other; or neither is
  abbrev pub FoundBoth : Option Entry → Option Entry → Type 0
  FoundBoth None None = Unit {0}
  FoundBoth (Some o) (Some n) = IsGrownEntry old parents x slot o n
  FoundBoth None (Some n) = ⊥
  FoundBoth (Some o) None = ⊥

  pub found-both : (k : ℕ) (os ns : List Entry) → AreGrownEntries old parents x slot os ns →
      FoundBoth (find (λ e. eqb e.slot.0 k) os) (find (λ e. eqb e.slot.0 k) ns)
  found-both k [] [] each = tt
  found-both k [] (n ∷ ns) each = absurd (each)
  found-both k (o ∷ os) [] each = absurd (each)
  found-both k (o ∷ os) (n ∷ ns) each =
      let same = ap (λ (s : Slot). eqb s.0 k) each.0.slot_stays in
      elim (cases_Bool (eqb o.slot.0 k)) [
        | inl t ↦ rw (t, same ∙ t) each.0
        | inr f ↦ rw (f, same ∙ f) (found-both k os ns each.1)
      ]

  pub ids-stay : (os ns : List Entry) → AreGrownEntries old parents x slot os ns → map (λ e. e.id) ns ≡ map (λ e. e.id) os
  ids-stay [] [] each = refl
  ids-stay [] (n ∷ ns) each = absurd (each)
  ids-stay (o ∷ os) [] each = absurd (each)
  ids-stay (o ∷ os) (n ∷ ns) each = ap₂ (λ (i : StateId) (is : List StateId). i ∷ is) each.0.id_stays (ids-stay os ns each.1)

  pub slots-stay : (now : Slot → Option StateId) → ((s : Slot) (y : StateId) → id_at old s ≡ Some y → now s ≡ Some y) → (os ns : List Entry) →
      AreGrownEntries old parents x slot os ns →
      map (λ e. id_at old e.slot) os ≡ map (λ e. Some e.id) os → map (λ e. now e.slot) ns ≡ map (λ e. Some e.id) ns
  slots-stay now stays [] [] each named = refl
  slots-stay now stays [] (n ∷ ns) each named = absurd (each)
  slots-stay now stays (o ∷ os) [] each named = absurd (each)
  slots-stay now stays (o ∷ os) (n ∷ ns) each named =
      let here : id_at old o.slot ≡ Some o.id = cc in
      let rest : map (λ (e : Entry). id_at old e.slot) os ≡ map (λ (e : Entry). Some e.id) os = cc in
      ap₂ (λ (i : Option StateId) (is : List (Option StateId)). i ∷ is)
      (ap now each.0.slot_stays ∙ (stays o.slot o.id here ∙ ap (λ z. Some z) (sym each.0.id_stays))) (slots-stay now stays os ns each.1 rest)

module _ (old new : Table) (x : StateId) (parents : List Slot) (slot : Slot) (g : IsGrown old new x parents slot) where
  -- ===== Slots

  pub looked : (s : Slot) → entry_at new s ≡ or_else (find (λ e. eqb e.slot.0 s.0) g.grown) (cond (eqb g.newest.slot.0 s.0) (Some g.newest) None)
  looked s = ap (find (λ e. eqb e.slot.0 s.0)) g.entries ∙ find-after s.0 g.grown g.newest

  pub both : (s : Slot) → FoundBoth old parents x slot (entry_at old s) (find (λ e. eqb e.slot.0 s.0) g.grown)
  both s = found-both old parents x slot s.0 old.entries g.grown g.each

  -- a slot names what it named
  pub names-stay : (s : Slot) (y : StateId) → id_at old s ≡ Some y → id_at new s ≡ Some y
  names-stay s y named =
      ap (option_map (λ e. e.id)) (looked s) ∙ go (entry_at old s) (find (λ e. eqb e.slot.0 s.0) g.grown) (both s) named
    where
      go : (o n : Option Entry) → FoundBoth old parents x slot o n → option_map (λ e. e.id) o ≡ Some y →
          option_map (λ e. e.id) (or_else n (cond (eqb g.newest.slot.0 s.0) (Some g.newest) None)) ≡ Some y
      go None n b e = absurd (none-some y e)
      go (Some o) None b e = absurd (b)
      go (Some o) (Some n) b e = ap (λ z. Some z) b.id_stays ∙ e

  -- a slot that named nothing names nothing, or the new state
  pub none-named : (s : Slot) → ◌≡◌ {A = Option StateId} (id_at old s) None → (◌≡◌ {A = Option StateId} (id_at new s) None) ⊎ (id_at new s ≡ Some x)
  none-named s named =
      subst (λ (o : Option Entry). (◌≡◌ {A = Option StateId} (option_map (λ (e : Entry). e.id) o) None) ⊎ (option_map (λ (e : Entry). e.id) o ≡ Some x))
      (sym (looked s))
      (go (entry_at old s) (find (λ e. eqb e.slot.0 s.0) g.grown) (both s) named)
    where
      go : (o n : Option Entry) → FoundBoth old parents x slot o n → ◌≡◌ {A = Option StateId} (option_map (λ e. e.id) o) None →
          (◌≡◌ {A = Option StateId} (option_map (λ e. e.id) (or_else n (cond (eqb g.newest.slot.0 s.0) (Some g.newest) None))) None)
          ⊎ (option_map (λ e. e.id) (or_else n (cond (eqb g.newest.slot.0 s.0) (Some g.newest) None)) ≡ Some x)
      go None None b e = elim (cases_Bool (eqb g.newest.slot.0 s.0)) [
        | inl t ↦ inr (ap (option_map (λ (e : Entry). e.id)) (cond-true (eqb g.newest.slot.0 s.0) (Some g.newest) None t) ∙ ap (λ z. Some z) g.is_new.id_is)
        | inr f ↦ inl (ap (option_map (λ (e : Entry). e.id)) (cond-false (eqb g.newest.slot.0 s.0) (Some g.newest) None f))
      ]
      go None (Some n) b e = absurd (b)
      go (Some o) n b e = absurd (none-some o.id (sym e))

  -- the new slot names the new state
  pub new-named : id_at new slot ≡ Some x
  new-named = ap (option_map (λ e. e.id)) (looked slot) ∙ go (entry_at old slot) (find (λ e. eqb e.slot.0 slot.0) g.grown) (both slot) g.fresh
    where
      go : (o n : Option Entry) → FoundBoth old parents x slot o n → ◌≡◌ {A = Option Entry} o None →
          option_map (λ e. e.id) (or_else n (cond (eqb g.newest.slot.0 slot.0) (Some g.newest) None)) ≡ Some x
      go None None b e =
          ap (option_map (λ (f : Entry). f.id)) (cond-true (eqb g.newest.slot.0 slot.0) (Some g.newest) None
          (eq-eqb g.newest.slot.0 slot.0 (ap (λ (s : Slot). s.0) g.is_new.slot_is)))
          ∙ ap (λ z. Some z) g.is_new.id_is
      go None (Some n) b e = absurd (b)
      go (Some o) n b e = absurd (none-some o (sym e))
