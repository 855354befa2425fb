-- Collected states are out of the way: no transaction reads or lands at one, and none gets a child.
use Rattle.std.proofs.Common.{◌≡◌, ℕ, true, not, List, [], ◌∷◌, IsTrue, IsFalse, inl, inr, refl, sym, ap, subst, ◌∙◌}
use Rattle.std.proofs.lemmas.Bool.{and_parts, and_from, or_cases, both_ways, not-true, not_from_false, false_from_ne_true}
use Rattle.std.specs.List.{list_any, list_all}
use Rattle.tardis_base.specs.declared.ids.StateId.{StateId}
use Rattle.tardis_base.specs.declared.records.Record.{Record}
use Rattle.tardis_base.specs.Ids.{same_id, is_among}
use Rattle.plain_dag.specs.States.{is_known, children}
use Rattle.plain_dag.specs.Above.{is_above, is_proper_ancestor, is_above_all}
use Rattle.plain_dag.specs.Forks.{is_fork_point}
use Rattle.plain_dag.specs.Begin.{is_admitted}
use Rattle.plain_dag.specs.Landing.{landing}
use Rattle.plain_dag.specs.Floors.{Floor, is_closed}
use Rattle.plain_dag.specs.Collection.{is_kept, stand_in}
use Rattle.plain_dag.specs.Dag.{IsDag}
use Rattle.plain_dag.specs.Laws.{AreCollected, IsUnderFloor, CollectedAreAboveCeilings, StaysKept, CollectedGetNoChild, StandInsAreShared}
use Rattle.plain_dag.proofs.States.{not-both, same_id-true, same_id_from, among-first, any-from, all-at, all-from, child_is_known, proper_goes_by_child}
use Rattle.plain_dag.proofs.Order.{above-transitive, above-antisymmetric}
use Rattle.plain_dag.proofs.Landing.{lands-below}
use Rattle.plain_dag.proofs.StandIns.{collected-share-stand-ins, stands-in-well}

-- ===== Proper ancestors

-- a proper ancestor is at or above the state and isn't it
pub proper-parts : (rs : List Record) (x y : StateId) → IsTrue (is_proper_ancestor rs x y) → IsTrue (is_above rs x y) × (x ≡ y → ⊥)
proper-parts rs x y proper =
    let parts = and_parts (is_above rs x y) (not (same_id x y)) proper in
    (parts.0, λ e. both_ways (same_id x y) (not-true (same_id x y) parts.1) (same_id_from x y e))

pub proper-from : (rs : List Record) (x y : StateId) → IsTrue (is_above rs x y) → (x ≡ y → ⊥) → IsTrue (is_proper_ancestor rs x y)
proper-from rs x y above other =
    and_from (is_above rs x y) (not (same_id x y)) above
    (not_from_false (same_id x y) (false_from_ne_true (same_id x y) (λ e. other (same_id-true x y e))))

-- no state is a proper ancestor of itself
pub proper-of-itself : (rs : List Record) (x : StateId) → IsTrue (is_proper_ancestor rs x x) → ⊥
proper-of-itself rs x proper = (proper-parts rs x x proper).1 refl

-- a proper ancestor of a state is one of each state below that
pub proper-above : (rs : List Record) → IsDag rs → (x y z : StateId) → IsTrue (is_proper_ancestor rs x y) → IsTrue (is_above rs y z) →
    IsTrue (is_proper_ancestor rs x z)
proper-above rs dag x y z proper above =
    let parts = proper-parts rs x y proper in
    proper-from rs x z (above-transitive rs dag x y z parts.0 above) (λ e.
    parts.1 (above-antisymmetric rs dag x y parts.0 (subst (λ w. IsTrue (is_above rs y w)) (sym e) above)))

-- a state at or above a proper ancestor is one too
pub above-proper : (rs : List Record) → IsDag rs → (x y z : StateId) → IsTrue (is_above rs x y) → IsTrue (is_proper_ancestor rs y z) →
    IsTrue (is_proper_ancestor rs x z)
above-proper rs dag x y z above proper =
    let parts = proper-parts rs y z proper in
    proper-from rs x z (above-transitive rs dag x y z above parts.0) (λ e.
    parts.1 (above-antisymmetric rs dag y z parts.0 (subst (λ w. IsTrue (is_above rs w y)) e above)))

-- ===== Floors

-- a closed state is a proper ancestor of what some floor is at or above
pub closed-above : (rs : List Record) → IsDag rs → (floors : List Floor) (x c : StateId) → IsTrue (is_closed rs floors x) → IsUnderFloor rs floors c →
    IsTrue (is_proper_ancestor rs x c)
closed-above rs dag [] x c closed under = not-both true refl (sym under)
closed-above rs dag (f ∷ floors) x c closed under =
    let parts = and_parts (is_proper_ancestor rs x f.state) (is_closed rs floors x) closed in
    elim (or_cases (is_above rs f.state c) (list_any (λ g. is_above rs g.state c) floors) under) [
      | inl here ↦ proper-above rs dag x f.state c parts.0 here
      | inr there ↦ closed-above rs dag floors x c parts.1 there
    ]

module _ (rs : List Record) (floors : List Floor) (ks : List StateId) (dag : IsDag rs) (collected : AreCollected rs floors ks) where
  pub collected-are-above-ceilings : CollectedAreAboveCeilings rs floors ks
  collected-are-above-ceilings x c known under among = closed-above rs dag floors x c (collected.closed x among) under

  -- what is no proper ancestor of such a ceiling isn't collected
  uncollected : (x c : StateId) → IsTrue (is_known rs c) → IsUnderFloor rs floors c → (IsTrue (is_proper_ancestor rs x c) → ⊥) → IsFalse (is_among x ks)
  uncollected x c known under apart = false_from_ne_true (is_among x ks) (λ among. apart (collected-are-above-ceilings x c known under among))

  kept-from : (x : StateId) → IsTrue (is_known rs x) → IsFalse (is_among x ks) → IsTrue (is_kept rs ks x)
  kept-from x known out = and_from (is_known rs x) (not (is_among x ks)) known (not_from_false (is_among x ks) out)

  admitted-is-kept : (x c : StateId) → IsTrue (is_known rs c) → IsUnderFloor rs floors c → IsTrue (is_known rs x) → IsTrue (is_admitted rs c x) →
      IsTrue (is_kept rs ks x)
  admitted-is-kept x c ceiling under known admitted =
      kept-from x known (uncollected x c ceiling under (λ proper. both_ways (is_proper_ancestor rs x c) (not-true (is_proper_ancestor rs x c) admitted) proper))

  floors-are-kept : (fs : List Floor) → ((x : StateId) → IsTrue (is_among x ks) → IsTrue (is_closed rs fs x)) →
      IsTrue (list_all (λ f. is_known rs f.state) fs) → IsTrue (list_all (λ f. is_kept rs ks f.state) fs)
  floors-are-kept [] closed known = refl
  floors-are-kept (f ∷ fs) closed known =
      let parts = and_parts (is_known rs f.state) (list_all (λ g. is_known rs g.state) fs) known in
      and_from (is_kept rs ks f.state) (list_all (λ g. is_kept rs ks g.state) fs)
      (kept-from f.state parts.0 (false_from_ne_true (is_among f.state ks) (λ among.
      proper-of-itself rs f.state (and_parts (is_proper_ancestor rs f.state f.state) (is_closed rs fs f.state) (closed f.state among)).0)))
      (floors-are-kept fs (λ x among. (and_parts (is_proper_ancestor rs x f.state) (is_closed rs fs x) (closed x among)).1) parts.1)

  -- a landing from an admitted state is admitted
  landing-is-admitted : (x c : StateId) (keys : List (List ℕ)) → IsTrue (is_known rs x) → IsTrue (is_admitted rs c x) →
      IsTrue (is_admitted rs c (landing rs keys x))
  landing-is-admitted x c keys known admitted =
      let there = landing rs keys x in
      not_from_false (is_proper_ancestor rs there c) (false_from_ne_true (is_proper_ancestor rs there c) (λ proper.
      both_ways (is_proper_ancestor rs x c) (not-true (is_proper_ancestor rs x c) admitted)
      (above-proper rs dag x there c (lands-below rs keys x dag known).1 proper)))

  -- a collected state is no fork point of admitted states: each child would be above all of them too, as its stand-in is
  fork-point-is-uncollected : (x y c : StateId) (ys : List StateId) → IsTrue (is_known rs c) → IsUnderFloor rs floors c →
      IsTrue (list_all (is_known rs) (y ∷ ys)) → IsTrue (list_all (is_admitted rs c) (y ∷ ys)) → IsTrue (is_fork_point rs (y ∷ ys) x) →
      IsTrue (is_among x ks) → ⊥
  fork-point-is-uncollected x y c ys ceiling under known admitted fork among =
      let children_above = list_any (λ d. is_above_all rs d (y ∷ ys)) (children rs x) in
      let parts = and_parts (is_above_all rs x (y ∷ ys)) (not children_above) fork in
      let first = by_child parts.0 y (among-first y ys) in
      both_ways children_above (not-true children_above parts.1)
      (any-from (λ d. is_above_all rs d (y ∷ ys)) (children rs x) first.0 first.1 (all-from (is_above rs first.0) (y ∷ ys) (also parts.0 first.0 first.1)))
    where
      shared : StandInsAreShared rs ks
      shared = collected-share-stand-ins rs floors ks dag collected

      by_child : IsTrue (is_above_all rs x (y ∷ ys)) → (z : StateId) → IsTrue (is_among z (y ∷ ys)) → (d : StateId) × IsTrue (is_among d (children rs x))
          × IsTrue (is_above rs d z)
      by_child above z m = proper_goes_by_child rs dag x z (all-at (is_above rs x) (y ∷ ys) z above m) (λ e.
          both_ways (is_proper_ancestor rs z c) (not-true (is_proper_ancestor rs z c) (all-at (is_admitted rs c) (y ∷ ys) z admitted m))
          (subst (λ v. IsTrue (is_proper_ancestor rs v c)) e (collected-are-above-ceilings x c ceiling under among)))

      also : IsTrue (is_above_all rs x (y ∷ ys)) → (d : StateId) → IsTrue (is_among d (children rs x)) → (z : StateId) → IsTrue (is_among z (y ∷ ys)) →
          IsTrue (is_above rs d z)
      also above d child z m =
          let w = by_child above z m in
          let well = stands-in-well rs ks dag shared in
          let kept = admitted-is-kept z c ceiling under (all-at (is_known rs) (y ∷ ys) z known m) (all-at (is_admitted rs c) (y ∷ ys) z admitted m) in
          let one : stand_in rs ks d ≡ stand_in rs ks w.0 = (shared x among).1 d child ∙ sym ((shared x among).1 w.0 w.1) in
          well.tells d z (child_is_known rs x d child) kept
          ∙ (ap (λ v. is_above rs v z) one
          ∙ (sym (well.tells w.0 z (child_is_known rs x w.0 w.1) kept) ∙ w.2))

  pub stays-kept : StaysKept rs floors ks
  stays-kept = record {
    admitted = admitted-is-kept;
    ceilings = λ c known under. kept-from c known (uncollected c c known under (proper-of-itself rs c));
    floors_stay = floors-are-kept floors collected.closed;
    landings = λ x c keys ceiling under known admitted.
        (let lands = landing-is-admitted x c keys known admitted in
        (lands, admitted-is-kept (landing rs keys x) c ceiling under (lands-below rs keys x dag known).0 lands));
    fork_points_stay = λ x y c ys ceiling under known admitted here fork.
        kept-from x here (false_from_ne_true (is_among x ks) (fork-point-is-uncollected x y c ys ceiling under known admitted fork));
  }

  pub collected-get-no-child : CollectedGetNoChild rs floors ks
  collected-get-no-child p known (inl unclosed) =
      false_from_ne_true (is_among p ks) (λ among. both_ways (is_closed rs floors p) unclosed (collected.closed p among))
  collected-get-no-child p known (inr (c, ceiling, under, admitted)) =
      uncollected p c ceiling under (λ proper. both_ways (is_proper_ancestor rs p c) (not-true (is_proper_ancestor rs p c) admitted) proper)
