-- Entries that follow others, one for one.
use Rattle.std.proofs.Common.{◌≡◌, ℕ, suc, ◌+◌, ◌<◌, true, false, not, ◌&&◌, eqb, List, [], ◌∷◌, ◌++◌, length, map, filter, get_or, inl, inr, refl, ap, ap₂}
use Rattle.std.proofs.Common.{subst, ◌∙◌, arith}
use Rattle.std.proofs.lemmas.Bool.{cases_Bool}
use Rattle.tardis_base.specs.declared.ids.Slot.{Slot}
use Rattle.state_dag.specs.declared.nodes.Node.{Node}
use Rattle.state_dag.specs.Table.{Entry}
use Rattle.state_dag.specs.Views.{entry_of, entries_from, is_childless}
use Rattle.state_dag.specs.Grown.{is_slot_among}

-- each of these is related to that in its place
abbrev pub Follow : (Entry → Entry → Type 0) → List Entry → List Entry → Type 0
Follow R [] [] = Unit {0}
Follow R (o ∷ os) (n ∷ ns) = R o n × Follow R os ns
Follow R [] (n ∷ ns) = ⊥
Follow R (o ∷ os) [] = ⊥

pub follow-places : (R : Entry → Entry → Type 0) (p : ℕ) (os ns : List Node) → length ns ≡ length os →
    ((k : ℕ) (d : Node) → k < length os → R (entry_of (p + k) (get_or os k d)) (entry_of (p + k) (get_or ns k d))) →
    Follow R (entries_from p os) (entries_from p ns)
follow-places R p [] [] same each = tt
follow-places R p [] (n ∷ ns) same each = absurd (omega arith)
follow-places R p (o ∷ os) [] same each = absurd (omega arith)
follow-places R p (o ∷ os) (n ∷ ns) same each =
    let here : p + 0 ≡ p = omega arith in (
      subst (λ k. R (entry_of k o) (entry_of k n)) here (each 0 o (omega arith)),
      follow-places R (p + 1) os ns (omega arith) (λ k d lt.
          let next : p + suc k ≡ (p + 1) + k = omega arith in
          subst (λ j. R (entry_of j (get_or os k d)) (entry_of j (get_or ns k d))) next (each (suc k) d (omega arith))),
    )

-- what becomes of whether an entry's state has a child, where these get one
pub record LosesLeaf (parents : List Slot) (old new : Entry) : Type 0 where
  pub slot_stays : new.slot ≡ old.slot
  pub childless : is_childless new ≡ (is_childless old && not (is_slot_among old.slot parents))

-- the slots of entries whose states have no child
abbrev pub childless_slots : List Entry → List Slot
childless_slots es = map (λ e. e.slot) (filter is_childless es)

pub leaves-follow : (parents : List Slot) (os ns : List Entry) → Follow (LosesLeaf parents) os ns → childless_slots ns
    ≡ filter (λ s. not (is_slot_among s parents)) (childless_slots os)
leaves-follow parents [] [] f = refl
leaves-follow parents [] (n ∷ ns) f = absurd (f)
leaves-follow parents (o ∷ os) [] f = absurd (f)
leaves-follow parents (o ∷ os) (n ∷ ns) f =
    let rest = leaves-follow parents os ns f.1 in
    let stays = f.0.slot_stays in
    let told = f.0.childless in
    elim (cases_Bool (is_childless o)) [
      | inl t ↦ elim (cases_Bool (is_slot_among o.slot parents)) [
        | inl u ↦
            let none : is_childless n ≡ false = told ∙ ap₂ (λ a b. a && not b) t u in
            rw (t, none) (rw u rest)
        | inr g ↦
            let still : is_childless n ≡ true = told ∙ ap₂ (λ a b. a && not b) t g in
            rw (t, still) (rw g (ap₂ (λ (s : Slot) (ss : List Slot). s ∷ ss) stays rest))
      ]
      | inr g ↦
          let none : is_childless n ≡ false = told ∙ ap (λ a. a && not (is_slot_among o.slot parents)) g in
          rw (g, none) rest
    ]

-- with one more that has no child
pub leaves-last : (es : List Entry) (e : Entry) → e.children ≡ [] → childless_slots (es ++ e ∷ []) ≡ childless_slots es ++ e.slot ∷ []
leaves-last [] e none = rw (ap (λ xs. eqb (length xs) 0) none) refl
leaves-last (f ∷ es) e none = elim (cases_Bool (is_childless f)) [
  | inl t ↦ rw t (ap (λ ss. f.slot ∷ ss) (leaves-last es e none))
  | inr g ↦ rw g (leaves-last es e none)
]

pub slots-follow : (os ns : List Entry) → Follow (λ o n. n.slot ≡ o.slot) os ns → map (λ e. e.slot) ns ≡ map (λ e. e.slot) os
slots-follow [] [] f = refl
slots-follow [] (n ∷ ns) f = absurd (f)
slots-follow (o ∷ os) [] f = absurd (f)
slots-follow (o ∷ os) (n ∷ ns) f = ap₂ (λ (s : Slot) (ss : List Slot). s ∷ ss) f.0 (slots-follow os ns f.1)
