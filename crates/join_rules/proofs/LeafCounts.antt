-- A record below two leaves takes one of the leaves away.
use Rattle.std.proofs.Common.{◌≡◌, suc, ◌+◌, Bool, true, false, ◌&&◌, ◌||◌, not, List, [], ◌∷◌, ◌++◌, length, filter, IsTrue, IsFalse}
use Rattle.std.proofs.Common.{inl, inr, refl, sym, ap, subst, ◌∙◌}
use Rattle.std.proofs.lemmas.Bool.{and_parts, cases_Bool, both_ways, not-true, false_from_ne_true}
use Rattle.std.proofs.lemmas.List.Elements.{filter-append}
use Rattle.std.specs.List.{list_any}
use Rattle.tardis_base.specs.declared.ids.StateId.{StateId}
use Rattle.tardis_base.specs.declared.records.Record.{Record}
use Rattle.tardis_base.specs.Ids.{same_id, is_among}
use Rattle.plain_dag.specs.States.{arrived}
use Rattle.plain_dag.specs.Forks.{is_leaf, leaves}
use Rattle.plain_dag.specs.Dag.{IsDag}
use Rattle.plain_dag.proofs.Ids.{same_id-true, same_id_self, among-cases, among-differs}
use Rattle.plain_dag.proofs.Histories.{dag-grows, newest-is-known}
use Rattle.plain_dag.proofs.Leaves.{begins-at-leaves}
use Rattle.plain_dag.proofs.Searches.{filter-newest, filter-without, filter-agrees, filtered-passes}
use Rattle.plain_site.specs.Sound.{are_distinct}
use Rattle.join_rules.specs.Searches.{DifferentLeaves}
use Rattle.join_rules.proofs.LeafLaws.{arrived-distinct}

-- ===== All but one

-- those that pass, without this one
abbrev but : StateId → (StateId → Bool) → StateId → Bool
but x p z = not (same_id z x) && p z

module _ (p : StateId → Bool) (x : StateId) where
  passes-too : (z : StateId) → IsFalse (same_id z x) → p z ≡ but x p z
  passes-too z f = sym (ap (λ b. not b && p z) f)

  is-left-out : (z : StateId) → z ≡ x → IsFalse (but x p z)
  is-left-out z e = ap (λ b. not b && p z) (subst (λ w. IsTrue (same_id z w)) e (same_id_self z))

  -- the one stands once among these, so they are one less without it
  pub one-less : (xs : List StateId) → IsTrue (are_distinct xs) → IsTrue (is_among x xs) → IsTrue (p x) →
      suc (length (filter (but x p) xs)) ≡ length (filter p xs)
  one-less [] distinct among passes = absurd (both_ways false refl among)
  one-less (w ∷ ws) distinct among passes =
      let parts = and_parts (not (is_among w ws)) (are_distinct ws) distinct in
      let alone : IsFalse (is_among w ws) = not-true (is_among w ws) parts.0 in
      elim (among-cases x w ws among) [
        | inl e ↦
            let others : filter p ws ≡ filter (but x p) ws =
            filter-agrees p (but x p) ws (λ z m. passes-too z (among-differs z x ws m (subst (λ v. IsFalse (is_among v ws)) (sym e) alone))) in
            ap (λ zs. suc (length zs)) (filter-without (but x p) w ws (is-left-out w (sym e)) ∙ sym others)
            ∙ sym (ap length (filter-newest p w ws (subst (λ v. IsTrue (p v)) e passes)))
        | inr m ↦
            let rest = one-less ws parts.1 m passes in
            let other : IsFalse (same_id w x) =
            false_from_ne_true (same_id w x) (λ t. both_ways (is_among w ws) alone (subst (λ v. IsTrue (is_among v ws)) (sym (same_id-true w x t)) m)) in
            let same = passes-too w other in
            elim (cases_Bool (p w)) [
              | inl t ↦
                  ap (λ zs. suc (length zs)) (filter-newest (but x p) w ws (sym same ∙ t)) ∙ ap suc rest
                  ∙ sym (ap length (filter-newest p w ws t))
              | inr f ↦
                  ap (λ zs. suc (length zs)) (filter-without (but x p) w ws (sym same ∙ f)) ∙ rest
                  ∙ sym (ap length (filter-without p w ws f))
            ]
      ]

-- ===== A record below two

-- what is no parent of the record is a leaf as before
both-left-out : (a b c : Bool) → not ((a || (b || false)) || c) ≡ (not b && (not a && not c))
both-left-out true true c = refl
both-left-out true false c = refl
both-left-out false true c = refl
both-left-out false false c = refl

module _ (rs : List Record) (r : Record) (dag : IsDag rs) (grown : IsDag (r ∷ rs)) (x y : StateId) (two : DifferentLeaves rs x y)
    (parents : r.parents ≡ x ∷ y ∷ []) where
  abbrev was : StateId → Bool
  was = is_leaf rs

  abbrev now : StateId → Bool
  now = is_leaf (r ∷ rs)

  stays-leaf : (z : StateId) → now z ≡ but y (but x was) z
  stays-leaf z =
      ap (λ ps. not (is_among z ps || list_any (λ (s : Record). is_among z s.parents) rs)) parents
      ∙ both-left-out (same_id z x) (same_id z y) (list_any (λ (s : Record). is_among z s.parents) rs)

  newest : IsTrue (now r.id)
  newest = (begins-at-leaves (r ∷ rs) grown r.id (newest-is-known rs r)).1

  pub a-leaf-less : suc (length (leaves (r ∷ rs))) ≡ length (leaves rs)
  a-leaf-less =
      let all = arrived rs in
      let distinct = arrived-distinct rs (dag-grows rs dag) in
      let first = filtered-passes was all x two.first in
      let second = filtered-passes was all y two.second in
      let other : IsFalse (same_id y x) = false_from_ne_true (same_id y x) (λ t. two.differ (sym (same_id-true y x t))) in
      let without_first = one-less was x all distinct first.0 first.1 in
      let without_second = one-less (but x was) y all distinct second.0 (sym (passes-too was x y other) ∙ second.1) in
      let more : length (leaves (r ∷ rs)) ≡ suc (length (filter now all)) =
      ap length (filter-append now all (r.id ∷ []) ∙ ap (λ zs. filter now all ++ zs) (filter-newest now r.id [] newest))
      ∙ length-last (filter now all) r.id in
      ap suc (more ∙ ap (λ zs. suc (length zs)) (filter-agrees now (but y (but x was)) all (λ z m. stays-leaf z)) ∙ without_second)
      ∙ without_first
    where
      length-last : (zs : List StateId) (z : StateId) → length (zs ++ z ∷ []) ≡ suc (length zs)
      length-last [] z = refl
      length-last (w ∷ ws) z = ap suc (length-last ws z)
