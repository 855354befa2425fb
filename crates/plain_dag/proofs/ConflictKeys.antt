-- Conflict keys: which states write them, and that they are listed.
use Rattle.std.proofs.Common.{◌≡◌, ℕ, true, ◌&&◌, List, [], ◌∷◌, IsTrue, IsFalse, inl, inr, refl, sym, ap, subst, ◌∙◌, Some, bytes_eq}
use Rattle.std.proofs.lemmas.Bool.{and_parts, and_from, and_left, or_cases, cases_Bool}
use Rattle.std.proofs.lemmas.Map.Views.{any-filter_same}
use Rattle.std.specs.List.{list_any, list_all}
use Rattle.tardis_base.specs.declared.ids.StateId.{StateId}
use Rattle.tardis_base.specs.declared.records.Record.{Record}
use Rattle.tardis_base.specs.Ids.{same_id, is_among}
use Rattle.tardis_base.specs.Keys.{is_key_among}
use Rattle.plain_dag.specs.States.{is_known, parents_of, writes_key}
use Rattle.plain_dag.specs.Above.{is_above}
use Rattle.plain_dag.specs.Writers.{is_writer, latest_writer}
use Rattle.plain_dag.specs.Conflicts.{latest_writers, is_conflict_key, written_keys}
use Rattle.plain_dag.specs.Dag.{IsDag}
use Rattle.plain_dag.specs.Laws.{NextWritesConflicts, ListsConflictKeys}
use Rattle.plain_dag.proofs.Ids.{not-both, same_id-true, among-first, among-cases, any-witness, all-at}
use Rattle.plain_dag.proofs.Histories.{Grows, dag-grows}
use Rattle.plain_dag.proofs.Order.{above-through, edges-above}
use Rattle.plain_dag.proofs.Searches.{among-mapped, mapped-from}
use Rattle.plain_dag.proofs.LatestWriter.{has-latest, has-lowest, lowest-is-unsplit, split-has-one, latest-is-latest, latest-is-found}
use Rattle.plain_dag.proofs.Keys.{same-key, chosen-ascend, written-keys-ascend, written-key-is-listed}

-- ===== Two states

module _ (rs : List Record) (g : Grows rs) (x y : StateId) (k : List ℕ)
    (known : IsTrue (is_known rs x)) (parents : IsTrue (list_all (λ p. is_above rs p x) (parents_of rs y))) (lacks : IsFalse (writes_key rs k y)) where
  -- where the parents of y are all at or above x, what writes the key at y writes it at x
  writer-at-other : (v : StateId) → IsTrue (is_writer rs k y v) → IsTrue (is_writer rs k x v)
  writer-at-other v h =
      let parts = and_parts (writes_key rs k v) (is_above rs v y) h in
      elim (or_cases (same_id v y) (list_any (is_above rs v) (parents_of rs y)) (sym (edges-above rs g v y) ∙ parts.1)) [
        | inl e ↦ not-both (writes_key rs k y) (subst (λ z. IsTrue (writes_key rs k z)) (same_id-true v y e) parts.0) lacks
        | inr m ↦
            let w = any-witness (is_above rs v) (parents_of rs y) m in
            and_from (writes_key rs k v) (is_above rs v x) parts.0
            (above-through rs g v w.0 x w.2 (all-at (λ p. is_above rs p x) (parents_of rs y) w.0 parents w.1))
      ]

  writer-at-one : (z v : StateId) → IsTrue (is_among z (x ∷ y ∷ [])) → IsTrue (is_writer rs k z v) → IsTrue (is_writer rs k x v)
  writer-at-one z v m h = elim (among-cases z x (y ∷ []) m) [
    | inl e ↦ subst (λ u. IsTrue (is_writer rs k u v)) e h
    | inr n ↦ elim (among-cases z y [] n) [
      | inl e ↦ writer-at-other v (subst (λ u. IsTrue (is_writer rs k u v)) e h)
      | inr none ↦ not-both true refl (sym none)
    ]
  ]

  -- so the latest one at x is below that at y, and the two aren't split
  unsplit : IsTrue (is_conflict_key rs (x ∷ y ∷ []) k) → ⊥
  unsplit h =
      let ws = latest_writers rs k (x ∷ y ∷ []) in
      let one = split-has-one rs ws h in
      let at = mapped-from (latest_writer rs k) (x ∷ y ∷ []) one.0 one.1 in
      let l = has-latest rs g k x known one.0 (writer-at-one at.0 one.0 at.1 (latest-is-latest rs k at.0 one.0 at.2).writes) in
      let w = latest-is-found rs k x l.0 l.1 in
      let least = has-lowest rs ws w.0 (among-mapped (latest_writer rs k) (x ∷ y ∷ []) x w.0 (among-first x (y ∷ [])) w.1) (above-latest w.0 w.1) in
      not-both (is_conflict_key rs (x ∷ y ∷ []) k) h (lowest-is-unsplit rs ws least.0 least.1)
    where
      above-latest : (w : StateId) → latest_writer rs k x ≡ Some w → (v : StateId) → IsTrue (is_among v (latest_writers rs k (x ∷ y ∷ []))) →
          IsTrue (is_above rs v w)
      above-latest w e v m =
          let at = mapped-from (latest_writer rs k) (x ∷ y ∷ []) v m in
          (latest-is-latest rs k x w e).below v (writer-at-one at.0 v at.1 (latest-is-latest rs k at.0 v at.2).writes)

pub next-writes-conflicts : (rs : List Record) → IsDag rs → NextWritesConflicts rs
next-writes-conflicts rs dag x y k known other parents h = elim (cases_Bool (writes_key rs k y)) [
  | inl t ↦ t
  | inr lacks ↦ absurd (unsplit rs (dag-grows rs dag) x y k known parents lacks h)
]

-- ===== The list

-- some state writes a conflict key
conflict-key-is-written : (rs : List Record) (xs : List StateId) (k : List ℕ) → IsTrue (is_conflict_key rs xs k) → IsTrue (is_key_among k (written_keys rs))
conflict-key-is-written rs xs k h =
    let one = split-has-one rs (latest_writers rs k xs) h in
    let at = mapped-from (latest_writer rs k) xs one.0 one.1 in
    let l = latest-is-latest rs k at.0 one.0 at.2 in
    written-key-is-listed rs k one.0 (and_parts (writes_key rs k one.0) (is_above rs one.0 at.0) l.writes).0

pub lists-conflict-keys : (rs : List Record) (xs : List StateId) → ListsConflictKeys rs xs
lists-conflict-keys rs xs = record {
  ascends = chosen-ascend (is_conflict_key rs xs) (written_keys rs) (written-keys-ascend rs);
  complete = λ k.
      any-filter_same (bytes_eq k) (is_conflict_key rs xs) (is_conflict_key rs xs k)
      (λ l e. ap (is_conflict_key rs xs) (sym (same-key k l e))) (written_keys rs)
      ∙ listed k;
}
  where
    listed : (k : List ℕ) → (is_conflict_key rs xs k && is_key_among k (written_keys rs)) ≡ is_conflict_key rs xs k
    listed k = elim (cases_Bool (is_conflict_key rs xs k)) [
      | inl t ↦ and_from (is_conflict_key rs xs k) (is_key_among k (written_keys rs)) t (conflict-key-is-written rs xs k t) ∙ sym t
      | inr f ↦ and_left (is_conflict_key rs xs k) (is_key_among k (written_keys rs)) f ∙ sym f
    ]
