-- What two histories that one table stands for have in common.
use Rattle.std.proofs.Common.{◌≡◌, ◌∙◌, ◌&&◌, ◌||◌, not, List, [], ◌∷◌, IsTrue, refl, sym, ap, ap₂}
use Rattle.std.specs.List.{list_all}
use Rattle.std.proofs.lemmas.Bool.{and_parts}
use Rattle.tardis_base.specs.declared.ids.StateId.{StateId}
use Rattle.tardis_base.specs.declared.records.Record.{Record}
use Rattle.tardis_base.specs.Ids.{same_id, is_among}
use Rattle.plain_dag.specs.States.{is_known}
use Rattle.plain_dag.specs.Above.{is_above, are_comparable, are_apart}
use Rattle.plain_dag.specs.Begin.{is_admitted}
use Rattle.plain_dag.specs.Collection.{is_kept}
use Rattle.plain_dag.proofs.Ids.{any-agrees, all-from, all-agrees, among-first, among-later}
use Rattle.plain_dag.proofs.Order.{apart-means-incomparable}
use Rattle.state_dag.specs.Table.{Table}
use Rattle.state_dag.specs.Stands.{Stands}
use Rattle.state_dag.proofs.Standing.{slot-is_kept, kept-has_slot, slots-tell}

module _ (table : Table) (rs : List Record) (ks : List StateId) (rs' : List Record) (ks' : List StateId) (sa : Stands table rs ks)
    (sb : Stands table rs' ks') where
  -- a state that is kept in the one is kept in the other
  pub kept-there : (x : StateId) → IsTrue (is_kept rs ks x) → IsTrue (is_kept rs' ks' x)
  kept-there x kept = let w = kept-has_slot table rs ks sa x kept in slot-is_kept table rs' ks' sb w.0 x w.1

  pub known-there : (x : StateId) → IsTrue (is_kept rs ks x) → IsTrue (is_known rs' x)
  known-there x kept = (and_parts (is_known rs' x) (not (is_among x ks')) (kept-there x kept)).0

  -- kept states are above one another in both
  pub above-alike : (x y : StateId) → IsTrue (is_kept rs ks x) → IsTrue (is_kept rs ks y) → is_above rs x y ≡ is_above rs' x y
  above-alike x y kept_x kept_y =
      let v = kept-has_slot table rs ks sa x kept_x in
      let w = kept-has_slot table rs ks sa y kept_y in
      sym (slots-tell table rs ks sa v.0 w.0 x y v.1 w.1) ∙ slots-tell table rs' ks' sb v.0 w.0 x y v.1 w.1

  pub admitted-alike : (c x : StateId) → IsTrue (is_kept rs ks c) → IsTrue (is_kept rs ks x) → is_admitted rs c x ≡ is_admitted rs' c x
  admitted-alike c x kept_c kept_x = ap (λ b. not (b && not (same_id x c))) (above-alike x c kept_x kept_c)

  comparable-alike : (x y : StateId) → IsTrue (is_kept rs ks x) → IsTrue (is_kept rs ks y) → are_comparable rs x y ≡ are_comparable rs' x y
  comparable-alike x y kept_x kept_y = ap₂ (λ a b. a || b) (above-alike x y kept_x kept_y) (above-alike y x kept_y kept_x)

  pub apart-alike : (xs : List StateId) → ((x : StateId) → IsTrue (is_among x xs) → IsTrue (is_kept rs ks x)) → are_apart rs xs ≡ are_apart rs' xs
  apart-alike [] kept = refl
  apart-alike (x ∷ ys) kept =
      apart-means-incomparable rs x ys
      ∙ (ap₂ (λ a b. not a && b)
      (any-agrees (are_comparable rs x) (are_comparable rs' x) ys
      (λ y m. comparable-alike x y (kept x (among-first x ys)) (kept y (among-later y x ys m))))
      (apart-alike ys (λ y m. kept y (among-later y x ys m)))
      ∙ sym (apart-means-incomparable rs' x ys))

  pub all-known : (xs : List StateId) → ((x : StateId) → IsTrue (is_among x xs) → IsTrue (is_kept rs ks x)) → IsTrue (list_all (is_known rs') xs)
  all-known xs kept = all-from (is_known rs') xs (λ x m. known-there x (kept x m))

  pub all-admitted : (c : StateId) (xs : List StateId) → IsTrue (is_kept rs ks c) → ((x : StateId) → IsTrue (is_among x xs) → IsTrue (is_kept rs ks x)) →
      list_all (is_admitted rs c) xs ≡ list_all (is_admitted rs' c) xs
  all-admitted c xs kept_c kept = all-agrees (is_admitted rs c) (is_admitted rs' c) xs (λ x m. admitted-alike c x kept_c (kept x m))
