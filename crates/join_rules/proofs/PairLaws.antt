-- The pairs of leaves that are looked at: each is of two different leaves.
use Rattle.std.proofs.Common.{◌≡◌, ℕ, ◌-◌, Bool, not, List, [], ◌∷◌, ◌++◌, length, map, filter, Option, Some, None, IsTrue}
use Rattle.std.proofs.Common.{inl, inr, sym, subst}
use Rattle.std.specs.Prelude.{⊤}
use Rattle.std.proofs.lemmas.Bool.{and_parts, cases_Bool, cond-true, cond-false, both_ways, not-true}
use Rattle.std.proofs.lemmas.Option.{none-some, same_Some}
use Rattle.std.specs.Option.{option_map, option_or}
use Rattle.tardis_base.specs.declared.ids.StateId.{StateId}
use Rattle.tardis_base.specs.declared.records.Record.{Record}
use Rattle.tardis_base.specs.Ids.{is_among, is_before}
use Rattle.tardis_base.specs.Keys.{KeyWrite}
use Rattle.plain_dag.specs.Forks.{leaves}
use Rattle.plain_dag.proofs.Ids.{among-first, among-later}
use Rattle.plain_site.specs.Site.{Site}
use Rattle.plain_site.specs.Sound.{IsSound, are_distinct}
use Rattle.rule_list.specs.declared.rules.PrefixRule.{PrefixRule}
use Rattle.join_rules.specs.declared.joints.Joint.{Joint}
use Rattle.join_rules.specs.Joints.{settled, in_order, pairs, first_of, is_within, last_ones, last_pairs, first_joint}
use Rattle.join_rules.specs.Searches.{DifferentLeaves}
use Rattle.join_rules.proofs.LeafLaws.{leaves-distinct}
use Rattle.join_rules.proofs.JointLaws.{dropped-among, dropped-distinct}

-- ===== What holds of each pair holds of the first joint

module _ (Q : StateId × StateId → Type 0) where
  -- it holds of each of these
  abbrev Each : List (StateId × StateId) → Type 0
  Each [] = ⊤
  Each (two ∷ later) = Q two × Each later

  each-of-both : (ps qs : List (StateId × StateId)) → Each ps → Each qs → Each (ps ++ qs)
  each-of-both [] qs one other = other
  each-of-both (p ∷ ps) qs one other = (one.0, each-of-both ps qs one.1 other)

  each-joint : (rules : List PrefixRule) (rs : List Record) (twos : List (StateId × StateId)) (joint : Joint) → Each twos →
      first_of rules rs twos ≡ Some joint → Q (joint.first, joint.second)
  each-joint rules rs [] joint each e = absurd (none-some joint e)
  each-joint rules rs (two ∷ later) joint each e = go (settled rules rs two.0 two.1) e (λ f. each-joint rules rs later joint each.1 f)
    where
      go : (o : Option (List KeyWrite)) →
          option_or (option_map (λ ws. record { first = two.0; second = two.1; writes = ws }) o) (first_of rules rs later) ≡ Some joint →
          (first_of rules rs later ≡ Some joint → Q (joint.first, joint.second)) → Q (joint.first, joint.second)
      go None f behind = behind f
      go (Some ws) f behind =
          subst (λ (j : Joint). Q (j.first, j.second)) (same_Some (record { first = two.0; second = two.1; writes = ws }) joint f) each.0

-- what holds of each holds of those that pass, which pass too
module _ (Q : StateId × StateId → Type 0) (p : StateId × StateId → Bool) where
  abbrev Passing : StateId × StateId → Type 0
  Passing two = Q two × IsTrue (p two)

  each-passing : (twos : List (StateId × StateId)) → Each Q twos → Each Passing (filter p twos)
  each-passing [] each = tt
  each-passing (two ∷ later) each =
      let rest = each-passing later each.1 in
      elim (cases_Bool (p two)) [
        | inl t ↦ subst (Each Passing) (sym (cond-true (p two) (two ∷ filter p later) (filter p later) t)) ((each.0, t), rest)
        | inr f ↦ subst (Each Passing) (sym (cond-false (p two) (two ∷ filter p later) (filter p later) f)) rest
      ]

-- ===== Two different leaves

module _ (rs : List Record) where
  abbrev Differ : StateId × StateId → Type 0
  Differ two = DifferentLeaves rs two.0 two.1

  exchanged : (x y : StateId) → DifferentLeaves rs x y → DifferentLeaves rs y x
  exchanged x y two = record { first = two.second; second = two.first; differ = λ e. two.differ (sym e) }

  ordered : (x y : StateId) → DifferentLeaves rs x y → Differ (in_order x y)
  ordered x y two = elim (cases_Bool (is_before x y)) [
    | inl t ↦ subst Differ (sym (cond-true (is_before x y) (x, y) (y, x) t)) two
    | inr f ↦ subst Differ (sym (cond-false (is_before x y) (x, y) (y, x) f)) (exchanged x y two)
  ]

  with-each : (x : StateId) (ys : List StateId) → ((y : StateId) → IsTrue (is_among y ys) → DifferentLeaves rs x y) → Each Differ (map (in_order x) ys)
  with-each x [] differ = tt
  with-each x (y ∷ ys) differ = (ordered x y (differ y (among-first y ys)), with-each x ys (λ z m. differ z (among-later z y ys m)))

  -- of these leaves, each of which is one
  pairs-differ : (xs : List StateId) → IsTrue (are_distinct xs) → ((z : StateId) → IsTrue (is_among z xs) → IsTrue (is_among z (leaves rs))) →
      Each Differ (pairs xs)
  pairs-differ [] distinct are = tt
  pairs-differ (x ∷ xs) distinct are =
      let parts = and_parts (not (is_among x xs)) (are_distinct xs) distinct in
      let out = not-true (is_among x xs) parts.0 in
      each-of-both Differ (map (in_order x) xs) (pairs xs)
      (with-each x xs (λ y m. record {
        first = are x (among-first x xs);
        second = are y (among-later y x xs m);
        differ = λ e. both_ways (is_among x xs) out (subst (λ z. IsTrue (is_among z xs)) (sym e) m);
      }))
      (pairs-differ xs parts.1 (λ z m. are z (among-later z x xs m)))

-- ===== The first joint

module _ (rules : List PrefixRule) (own patience : ℕ) (joint : Joint) where
  pub joint-is-within : (rs : List Record) → first_joint rules own patience rs ≡ Some joint → IsTrue (is_within own patience (joint.first, joint.second))
  joint-is-within rs e =
      let p = is_within own patience in
      let all : Each (λ two. ⊤) (last_pairs rs) = each-of-nothing (last_pairs rs) in
      (each-joint (Passing (λ two. ⊤) p) rules rs (filter p (last_pairs rs)) joint (each-passing (λ two. ⊤) p (last_pairs rs) all) e).1
    where
      each-of-nothing : (twos : List (StateId × StateId)) → Each (λ two. ⊤) twos
      each-of-nothing [] = tt
      each-of-nothing (two ∷ later) = (tt, each-of-nothing later)

  pub joint-is-of-leaves : (site : Site) → IsSound site → first_joint rules own patience site.dag ≡ Some joint →
      DifferentLeaves site.dag joint.first joint.second
  joint-is-of-leaves site sound e =
      let rs = site.dag in
      let p = is_within own patience in
      let n = length (leaves rs) - 16 in
      let all : Each (Differ rs) (last_pairs rs) =
      pairs-differ rs (last_ones (leaves rs)) (dropped-distinct n (leaves rs) (leaves-distinct site sound))
      (λ z m. dropped-among n (leaves rs) z m) in
      (each-joint (Passing (Differ rs) p) rules rs (filter p (last_pairs rs)) joint (each-passing (Differ rs) p (last_pairs rs) all) e).0
