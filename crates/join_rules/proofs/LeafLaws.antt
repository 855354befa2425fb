-- Leaves may be merged: they are known, apart and not closed, and where two of them part is kept.
use Rattle.std.proofs.Common.{◌≡◌, ◌≢◌, ℕ, zero, suc, ◌-◌, ◌≤◌, ◌<◌, Bool, true, false, ◌&&◌, ◌==◌, not, List, [], ◌∷◌, ◌++◌, length, filter, nat_lt, Option}
use Rattle.std.proofs.Common.{Some, IsTrue, IsFalse, unwrap_or, slice_get, inl, inr, refl, sym, subst, ◌∙◌, arith, lt-ltb, eq-eqb, ltb-false}
use Rattle.std.proofs.lemmas.Bool.{and_parts, and_from, or_parts, or_from, or_left, or_right, cases_Bool, both_ways, not-true, not_from_false}
use Rattle.std.proofs.lemmas.Bool.{false_from_ne_true}
use Rattle.std.specs.List.{list_any, list_all}
use Rattle.tardis_base.specs.declared.ids.StateId.{StateId}
use Rattle.tardis_base.specs.declared.records.Record.{Record}
use Rattle.tardis_base.specs.Ids.{same_id, is_among, is_before, are_ascending}
use Rattle.tardis_base.specs.Valid.{is_key, is_id, are_parents}
use Rattle.plain_dag.specs.States.{is_known, arrived}
use Rattle.plain_dag.specs.Above.{is_above, is_proper_ancestor, are_comparable, are_apart}
use Rattle.plain_dag.specs.Begin.{is_admitted}
use Rattle.plain_dag.specs.Collection.{is_kept}
use Rattle.plain_dag.specs.Conflicts.{conflict_keys}
use Rattle.plain_dag.specs.Floors.{Floor, opening_floor, is_closed}
use Rattle.plain_dag.specs.Forks.{is_leaf, leaves, is_fork_point, fork_points}
use Rattle.plain_dag.specs.Laws.{IsUnderFloor}
use Rattle.plain_dag.proofs.Ids.{not-both, same_id_from, same_id-true, same_id_turns, among-first, among-later, among-cases, among-append}
use Rattle.plain_dag.proofs.Histories.{Grows, dag-grows}
use Rattle.plain_dag.proofs.Known.{arrived-is_known, known-is_id}
use Rattle.plain_dag.proofs.Leaves.{leaves-are-admitted}
use Rattle.plain_dag.proofs.Order.{above-reflexive, apart-means-incomparable}
use Rattle.plain_dag.proofs.Searches.{filter-newest, filter-without, filtered-passes}
use Rattle.plain_dag.proofs.Collected.{proper-from, stays-kept}
use Rattle.plain_site.specs.Site.{Site, own_floor}
use Rattle.plain_site.specs.Sound.{IsSound, are_distinct}
use Rattle.plain_site.proofs.RepliesHistory.{dag-stored}
use Rattle.plain_site.proofs.RepliesOfCommits.{conflict-keys-are-keys}
use Rattle.plain_site.proofs.SoundBooks.{own-is_site, sound-own_floor}
use Rattle.plain_site.proofs.SoundCommits.{closed-above_own}
use Rattle.join_rules.specs.Searches.{IsKnownLeaf, TwoLeaves, DifferentLeaves}

-- ===== The order of ids

-- one of two different ids is before the other
pub before-or-behind : (x y : StateId) → IsFalse (is_before x y) → IsFalse (same_id x y) → IsTrue (is_before y x)
before-or-behind x y f n =
    let a = or_parts (nat_lt x.site y.site) (x.site == y.site && nat_lt x.sequence y.sequence) f in
    elim (cases_Bool (nat_lt y.site x.site)) [
      | inl t ↦ or_left (nat_lt y.site x.site) (y.site == x.site && nat_lt y.sequence x.sequence) t
      | inr g ↦ or_right (nat_lt y.site x.site) (y.site == x.site && nat_lt y.sequence x.sequence) (level a.0 a.1 g)
    ]
  where
    level : IsFalse (nat_lt x.site y.site) → IsFalse (x.site == y.site && nat_lt x.sequence y.sequence) → IsFalse (nat_lt y.site x.site) →
        IsTrue (y.site == x.site && nat_lt y.sequence x.sequence)
    level p q g =
        let l : y.site ≤ x.site = ltb-false x.site y.site p in
        let m : x.site ≤ y.site = ltb-false y.site x.site g in
        let e : y.site ≡ x.site = omega arith in
        let up : IsFalse (nat_lt x.sequence y.sequence) = false_from_ne_true (nat_lt x.sequence y.sequence)
        (λ t. both_ways (x.site == y.site && nat_lt x.sequence y.sequence) q
        (and_from (x.site == y.site) (nat_lt x.sequence y.sequence) (eq-eqb x.site y.site (sym e)) t)) in
        let le : y.sequence ≤ x.sequence = ltb-false x.sequence y.sequence up in
        let ne : x.sequence ≢ y.sequence = λ d. both_ways (same_id x y) n
        (and_from (x.site == y.site) (x.sequence == y.sequence) (eq-eqb x.site y.site (sym e)) (eq-eqb x.sequence y.sequence d)) in
        let lt : y.sequence < x.sequence = omega arith in
        and_from (y.site == x.site) (nat_lt y.sequence x.sequence) (eq-eqb y.site x.site e) (lt-ltb y.sequence x.sequence lt)

-- ===== Leaves differ

distinct-last : (xs : List StateId) (z : StateId) → IsTrue (are_distinct xs) → IsFalse (is_among z xs) → IsTrue (are_distinct (xs ++ z ∷ []))
distinct-last [] z h n = refl
distinct-last (x ∷ xs) z h n =
    let p = and_parts (not (is_among x xs)) (are_distinct xs) h in
    let q = or_parts (same_id z x) (is_among z xs) n in
    let last : IsFalse (is_among x (z ∷ [])) = or_from (same_id x z) false (same_id_turns x z ∙ q.0) refl in
    let out : IsFalse (is_among x (xs ++ z ∷ [])) =
    among-append x xs (z ∷ []) ∙ or_from (is_among x xs) (is_among x (z ∷ [])) (not-true (is_among x xs) p.0) last in
    and_from (not (is_among x (xs ++ z ∷ []))) (are_distinct (xs ++ z ∷ [])) (not_from_false (is_among x (xs ++ z ∷ [])) out) (distinct-last xs z p.1 q.1)

pub arrived-distinct : (rs : List Record) → Grows rs → IsTrue (are_distinct (arrived rs))
arrived-distinct [] g = refl
arrived-distinct (r ∷ rs) g =
    distinct-last (arrived rs) r.id (arrived-distinct rs g.1)
    (false_from_ne_true (is_among r.id (arrived rs)) (λ m. both_ways (is_known rs r.id) g.0.new (arrived-is_known rs r.id m)))

filtered-distinct : (p : StateId → Bool) (xs : List StateId) → IsTrue (are_distinct xs) → IsTrue (are_distinct (filter p xs))
filtered-distinct p [] h = refl
filtered-distinct p (x ∷ xs) h =
    let parts = and_parts (not (is_among x xs)) (are_distinct xs) h in
    let rest = filtered-distinct p xs parts.1 in
    let out : IsFalse (is_among x (filter p xs)) =
    false_from_ne_true (is_among x (filter p xs)) (λ m. both_ways (is_among x xs) (not-true (is_among x xs) parts.0) (filtered-passes p xs x m).0) in
    elim (cases_Bool (p x)) [
      | inl t ↦
          subst (λ ys. IsTrue (are_distinct ys)) (sym (filter-newest p x xs t))
          (and_from (not (is_among x (filter p xs))) (are_distinct (filter p xs)) (not_from_false (is_among x (filter p xs)) out) rest)
      | inr f ↦ subst (λ ys. IsTrue (are_distinct ys)) (sym (filter-without p x xs f)) rest
    ]

-- ===== Two leaves

known-leaf : (rs : List Record) (x : StateId) → IsTrue (is_among x (leaves rs)) → IsKnownLeaf rs x
known-leaf rs x m = let w = filtered-passes (is_leaf rs) (arrived rs) x m in record { known = arrived-is_known rs x w.0; leaf = w.1 }

module _ (site : Site) (sound : IsSound site) (x y : StateId) (more : List StateId) (are : leaves site.dag ≡ x ∷ y ∷ more) where
  leaf-x : IsKnownLeaf site.dag x
  leaf-x = known-leaf site.dag x (subst (λ zs. IsTrue (is_among x zs)) (sym are) (among-first x (y ∷ more)))

  leaf-y : IsKnownLeaf site.dag y
  leaf-y = known-leaf site.dag y (subst (λ zs. IsTrue (is_among y zs)) (sym are) (among-later y x (y ∷ more) (among-first y more)))

  first-differ : IsFalse (same_id x y)
  first-differ =
      let all = subst (λ zs. IsTrue (are_distinct zs)) are (filtered-distinct (is_leaf site.dag) (arrived site.dag)
      (arrived-distinct site.dag (dag-grows site.dag sound.dag))) in
      let out = not-true (is_among x (y ∷ more)) (and_parts (not (is_among x (y ∷ more))) (are_distinct (y ∷ more)) all).0 in
      (or_parts (same_id x y) (is_among x more) out).0

  one-isnt-other : x ≡ y → ⊥
  one-isnt-other e = both_ways (same_id x y) first-differ (same_id_from x y e)

  pub leaves-in-order : IsTrue (is_before x y) → TwoLeaves site.dag x y
  leaves-in-order t = record { first = leaf-x; second = leaf-y; differ = one-isnt-other; before = t }

  pub leaves-exchanged : IsFalse (is_before x y) → TwoLeaves site.dag y x
  leaves-exchanged f = record { first = leaf-y; second = leaf-x; differ = λ e. one-isnt-other (sym e); before = before-or-behind x y f first-differ }

-- each leaf is one
pub leaves-distinct : (site : Site) → IsSound site → IsTrue (are_distinct (leaves site.dag))
leaves-distinct site sound = filtered-distinct (is_leaf site.dag) (arrived site.dag) (arrived-distinct site.dag (dag-grows site.dag sound.dag))

-- two different leaves, the lesser id first
pub different-in-order : (rs : List Record) (x y : StateId) → DifferentLeaves rs x y → IsTrue (is_before x y) → TwoLeaves rs x y
different-in-order rs x y two t = record { first = known-leaf rs x two.first; second = known-leaf rs y two.second; differ = two.differ; before = t }

pub different-exchanged : (rs : List Record) (x y : StateId) → DifferentLeaves rs x y → IsFalse (is_before x y) → TwoLeaves rs y x
different-exchanged rs x y two f =
    let other : IsFalse (same_id x y) = false_from_ne_true (same_id x y) (λ t. two.differ (same_id-true x y t)) in
    record {
      first = known-leaf rs y two.second;
      second = known-leaf rs x two.first;
      differ = λ e. two.differ (sym e);
      before = before-or-behind x y f other;
    }

-- ===== What a merge of leaves may rely on

any-at : (p : Floor → Bool) (fs : List Floor) (i : ℕ) → i < length fs → ((f : Floor) → slice_get fs i ≡ Some f → IsTrue (p f)) → IsTrue (list_any p fs)
any-at p [] i l h = absurd (omega arith)
any-at p (f ∷ fs) zero l h = or_left (p f) (list_any p fs) (h f refl)
any-at p (f ∷ fs) (suc i) l h = or_right (p f) (list_any p fs) (any-at p fs i (omega arith) h)

module _ (site : Site) (sound : IsSound site) where
  abbrev floor : StateId
  floor = (own_floor site).state

  leaf-isnt_above : (z w : StateId) → IsKnownLeaf site.dag z → IsTrue (is_known site.dag w) → (z ≡ w → ⊥) → IsFalse (is_above site.dag z w)
  leaf-isnt_above z w leaf known other =
      false_from_ne_true (is_above site.dag z w) (λ above.
      both_ways (is_proper_ancestor site.dag z w) (not-true (is_proper_ancestor site.dag z w) (leaves-are-admitted site.dag sound.dag z w known leaf.leaf))
      (proper-from site.dag z w above other))

  leaf-under_floor : (z : StateId) → IsKnownLeaf site.dag z → IsTrue (is_admitted site.dag floor z)
  leaf-under_floor z leaf = leaves-are-admitted site.dag sound.dag z floor (sound-own_floor site sound).known leaf.leaf

  leaf-isnt_closed : (z : StateId) → IsKnownLeaf site.dag z → IsFalse (is_closed site.dag site.floors z)
  leaf-isnt_closed z leaf =
      false_from_ne_true (is_closed site.dag site.floors z) (λ closed.
      both_ways (is_proper_ancestor site.dag z floor) (not-true (is_proper_ancestor site.dag z floor) (leaf-under_floor z leaf))
      (closed-above_own site z sound closed))

  floor-under_itself : IsUnderFloor site.dag site.floors floor
  floor-under_itself =
      let own = own-is_site site sound in
      any-at (λ f. is_above site.dag f.state floor) site.floors (site.own - 1) (omega (arith, own.0, own.1, sound.one_floor_each))
      (λ f is. subst (λ (o : Option Floor). IsTrue (is_above site.dag (unwrap_or o opening_floor).state floor)) is (above-reflexive site.dag floor))

  pub leaf-keys : (xs : List StateId) → IsTrue (list_all is_key (conflict_keys site.dag xs))
  leaf-keys xs = conflict-keys-are-keys site.dag xs (dag-stored site.dag sound.dag)

  module _ (x y : StateId) (two : TwoLeaves site.dag x y) where
    pub two-known : IsTrue (list_all (is_known site.dag) (x ∷ y ∷ []))
    two-known = and_from (is_known site.dag x) (is_known site.dag y && true) two.first.known (and_from (is_known site.dag y) true two.second.known refl)

    two-admitted : IsTrue (list_all (is_admitted site.dag floor) (x ∷ y ∷ []))
    two-admitted =
        and_from (is_admitted site.dag floor x) (is_admitted site.dag floor y && true) (leaf-under_floor x two.first)
        (and_from (is_admitted site.dag floor y) true (leaf-under_floor y two.second) refl)

    pub two-apart : IsTrue (are_apart site.dag (x ∷ y ∷ []))
    two-apart =
        let neither : IsFalse (are_comparable site.dag x y) =
        or_from (is_above site.dag x y) (is_above site.dag y x) (leaf-isnt_above x y two.first two.second.known two.differ)
        (leaf-isnt_above y x two.second two.first.known (λ e. two.differ (sym e))) in
        let none : IsFalse (list_any (are_comparable site.dag x) (y ∷ [])) = or_from (are_comparable site.dag x y) false neither refl in
        apart-means-incomparable site.dag x (y ∷ [])
        ∙ and_from (not (list_any (are_comparable site.dag x) (y ∷ []))) (are_apart site.dag (y ∷ []))
        (not_from_false (list_any (are_comparable site.dag x) (y ∷ [])) none) refl

    pub two-free : (z : StateId) → IsTrue (is_among z (x ∷ y ∷ [])) → IsFalse (is_closed site.dag site.floors z)
    two-free z m = elim (among-cases z x (y ∷ []) m) [
      | inl e ↦ subst (λ w. IsFalse (is_closed site.dag site.floors w)) (sym e) (leaf-isnt_closed x two.first)
      | inr n ↦ elim (among-cases z y [] n) [
        | inl e ↦ subst (λ w. IsFalse (is_closed site.dag site.floors w)) (sym e) (leaf-isnt_closed y two.second)
        | inr none ↦ not-both true refl (sym none)
      ]
    ]

    pub two-are-parents : IsTrue (are_parents (x ∷ y ∷ []))
    two-are-parents =
        let id_x = known-is_id site.dag sound.dag x two.first.known in
        let id_y = known-is_id site.dag sound.dag y two.second.known in
        and_from (list_all is_id (x ∷ y ∷ [])) (are_ascending (x ∷ y ∷ []))
        (and_from (is_id x) (is_id y && true) id_x (and_from (is_id y) true id_y refl)) (and_from (is_before x y) true two.before refl)

    -- where they part at one state, that is kept
    pub fork-is_kept : (p : StateId) → fork_points site.dag (x ∷ y ∷ []) ≡ p ∷ [] → is_kept site.dag site.collected p ≡ true
    fork-is_kept p e =
        let stays = stays-kept site.dag site.floors site.collected sound.dag sound.collected in
        let at = filtered-passes (is_fork_point site.dag (x ∷ y ∷ [])) (arrived site.dag) p (subst (λ zs. IsTrue (is_among p zs)) (sym e) (among-first p [])) in
        stays.fork_points_stay p x floor (y ∷ []) (sound-own_floor site sound).known floor-under_itself two-known two-admitted
        (arrived-is_known site.dag p at.0) at.1
