-- At which states a key has versions once one was handed on.
use Rattle.std.proofs.Common.{◌≡◌, ℕ, Bool, true, false, ◌||◌, nat_lt, if◌then◌else◌, List, [], ◌∷◌, Option, Some, None, is_some, refl, sym, ◌∙◌, ap, ap₂}
use Rattle.std.proofs.Common.{inl, inr}
use Rattle.std.proofs.lemmas.Bool.{cases_Bool, eq-eqb}
use Rattle.tardis_base.specs.declared.ids.Slot.{Slot}
use Rattle.version_list.specs.declared.histories.Version.{Version}
use Rattle.version_list.specs.Versions.{same_slot, has_version_at}
use Rattle.version_list.specs.Promoted.{version_at, without_version, at_state, in_its_place, handed_on, promoted}
use Rattle.version_list.proofs.Noted.{or-false}
use Rattle.version_list.proofs.Promotes.{has-without}

found-at : (slot : Slot) (vs : List Version) → is_some (version_at slot vs) ≡ has_version_at slot vs
found-at slot [] = refl
found-at slot (v ∷ vs) = elim (cases_Bool (same_slot v.slot slot)) [
  | inl t ↦ rw t refl
  | inr f ↦ rw f (found-at slot vs)
]

gone-at : (from : Slot) (vs : List Version) → has_version_at from (without_version from vs) ≡ false
gone-at from [] = refl
gone-at from (v ∷ vs) = elim (cases_Bool (same_slot v.slot from)) [
  | inl t ↦ rw t (gone-at from vs)
  | inr f ↦ rw (f, f) (gone-at from vs)
]

has-placed : (arrival : Slot → ℕ) (q : Slot) (v : Version) (ws : List Version) → has_version_at q (in_its_place arrival v ws)
    ≡ (same_slot v.slot q || has_version_at q ws)
has-placed arrival q v [] = refl
has-placed arrival q v (w ∷ ws) = go (nat_lt (arrival v.slot) (arrival w.slot)) (has-placed arrival q v ws)
  where
    swapped : (a b c : Bool) → (a || (b || c)) ≡ (b || (a || c))
    swapped true true c = refl
    swapped true false c = refl
    swapped false b c = refl

    go : (b : Bool) → has_version_at q (in_its_place arrival v ws) ≡ (same_slot v.slot q || has_version_at q ws) →
        has_version_at q (if b then v ∷ w ∷ ws else w ∷ in_its_place arrival v ws) ≡ (same_slot v.slot q || has_version_at q (w ∷ ws))
    go true rest = refl
    go false rest = ap (λ b. same_slot w.slot q || b) rest ∙ swapped (same_slot w.slot q) (same_slot v.slot q) (has_version_at q ws)

module _ (arrival : Slot → ℕ) (from to : Slot) (vs : List Version) (apart : same_slot from to ≡ false) (turned : same_slot to from ≡ false) where
  placed : (o : Option Version) (q : Slot) → same_slot to q ≡ false → has_version_at q (handed_on arrival to (without_version from vs) o)
      ≡ has_version_at q (without_version from vs)
  placed None q other = refl
  placed (Some v) q other = elim (cases_Bool (has_version_at to (without_version from vs))) [
    | inl t ↦ rw t refl
    | inr f ↦ rw f (has-placed arrival q (at_state to v) (without_version from vs) ∙ ap (λ b. b || has_version_at q (without_version from vs)) other)
  ]

  -- none is left at the one state
  pub none-left : has_version_at from (promoted arrival from to vs) ≡ false
  none-left = placed (version_at from vs) from turned ∙ gone-at from vs

  -- other states have versions where they had
  pub others-have : (q : Slot) → same_slot from q ≡ false → same_slot to q ≡ false → has_version_at q (promoted arrival from to vs) ≡ has_version_at q vs
  others-have q from_other to_other = placed (version_at from vs) q to_other ∙ has-without from q vs from_other

  to-placed : (o : Option Version) → has_version_at to (handed_on arrival to (without_version from vs) o)
      ≡ (has_version_at to (without_version from vs) || is_some o)
  to-placed None = sym (or-false (has_version_at to (without_version from vs)))
  to-placed (Some v) = go (has_version_at to (without_version from vs)) refl
    where
      go : (b : Bool) → has_version_at to (without_version from vs) ≡ b →
          has_version_at to (if b then without_version from vs else in_its_place arrival (at_state to v) (without_version from vs)) ≡ (b || true)
      go true e = e
      go false e = has-placed arrival to (at_state to v) (without_version from vs)
          ∙ ap (λ b. b || has_version_at to (without_version from vs)) (eq-eqb to.0 to.0 refl)

  -- the other has one where one of the two had
  pub other-has : has_version_at to (promoted arrival from to vs) ≡ (has_version_at to vs || has_version_at from vs)
  other-has = to-placed (version_at from vs) ∙ ap₂ (λ a b. a || b) (has-without from to vs apart) (found-at from vs)
