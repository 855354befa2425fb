-- Where conflict keys are met.
use Rattle.std.proofs.Common.{◌≡◌, ℕ, ◌+◌, Bool, true, false, ◌&&◌, ◌||◌, not, List, [], ◌∷◌, ◌++◌, take, Some, IsTrue, IsFalse, inl, inr, refl, sym, ap, ◌∙◌}
use Rattle.std.specs.List.{list_any, list_all}
use Rattle.std.specs.Prelude.{slice_get}
use Rattle.std.proofs.lemmas.Bool.{and_parts, and_from, or_cases, or_left, or_right, cases_Bool, both_ways, not_from_false}
use Rattle.std.proofs.lemmas.List.Folds.{list_any-append}
use Rattle.tardis_base.specs.declared.ids.StateId.{StateId}
use Rattle.tardis_base.specs.declared.records.Record.{Record}
use Rattle.tardis_base.specs.Ids.{same_id, is_among}
use Rattle.tardis_base.specs.Keys.{is_key_among}
use Rattle.version_list.specs.Versions.{Chunks, is_key_in}
use Rattle.plain_dag.specs.States.{writes_key}
use Rattle.plain_dag.specs.Above.{is_above, is_above_all}
use Rattle.plain_dag.specs.Writers.{latest_writer}
use Rattle.plain_dag.specs.Conflicts.{latest_writers, is_conflict_key}
use Rattle.plain_dag.specs.Collection.{is_kept, kept_states, stand_in}
use Rattle.plain_dag.specs.Laws.{StandsInWell}
use Rattle.plain_dag.proofs.Ids.{not-both, among-first, any-witness, any-from, all-at, all-agrees}
use Rattle.plain_dag.proofs.Searches.{among-filter, mapped-from}
use Rattle.plain_dag.proofs.LatestWriter.{has-lowest, lowest-is-unsplit, split-has-one, latest-is-latest}
use Rattle.plain_dag.proofs.StandIns.{stands-in-well}
use Rattle.state_dag.specs.Table.{Table}
use Rattle.state_dag.specs.Stands.{Stands}
use Rattle.state_dag.proofs.Known.{kept-is_listed}
use Rattle.record_store.specs.Stands.{holds_key}
use Rattle.record_store.proofs.Holders.{writer-holds}
use Rattle.conflict_keys.specs.Regions.{is_met}
use Rattle.branch_region.specs.Regions.{is_above_part, apart_states}
use Rattle.conflict_keys.proofs.Walks.{take-next}
use Rattle.conflict_keys.proofs.Choices.{are-read, read-is_known}

-- one of these fails where not all pass
failing : (p : StateId → Bool) (xs : List StateId) → IsFalse (list_all p xs) → (x : StateId) × IsTrue (is_among x xs) × IsFalse (p x)
failing p [] none = absurd (both_ways true none refl)
failing p (x ∷ xs) none = elim (cases_Bool (p x)) [
  | inl t ↦ (let w = failing p xs (rw t at none) in (w.0, or_right (same_id w.0 x) (is_among w.0 xs) w.1, w.2))
  | inr f ↦ (x, among-first x xs, f)
]

-- ===== The law

module _ (rs : List Record) (ks : List StateId) (table : Table) (stands : Stands table rs ks) (xs : List StateId)
    (kept : (x : StateId) → IsTrue (is_among x xs) → IsTrue (is_kept rs ks x)) (k : List ℕ) where
  well : StandsInWell rs ks
  well = stands-in-well rs ks stands.dag stands.shared

  -- where all latest writers are at or above all of these states, one of them is below the others
  all-above : IsTrue (is_conflict_key rs xs k) → IsTrue (list_all (λ w. is_above_all rs w xs) (latest_writers rs k xs)) → ⊥
  all-above h all =
      let ws = latest_writers rs k xs in
      let u = split-has-one rs ws h in
      let at = mapped-from (latest_writer rs k) xs u.0 u.1 in
      let latest = latest-is-latest rs k at.0 u.0 at.2 in
      let least = has-lowest rs ws u.0 u.1 (λ v m. latest.below v (and_from (writes_key rs k v) (is_above rs v at.0) (its-writes v m)
      (all-at (is_above rs v) xs at.0 (all-at (λ w. is_above_all rs w xs) ws v all m) at.1))) in
      not-both (is_conflict_key rs xs k) h (lowest-is-unsplit rs ws least.0 least.1)
    where
      its-writes : (v : StateId) → IsTrue (is_among v (latest_writers rs k xs)) → IsTrue (writes_key rs k v)
      its-writes v m =
          let from = mapped-from (latest_writer rs k) xs v m in
          (and_parts (writes_key rs k v) (is_above rs v from.0) (latest-is-latest rs k from.0 v from.2).writes).0

  -- so a conflict key is held by a kept state that is above one of them and not above all
  pub conflict-is_met : IsTrue (is_conflict_key rs xs k) → IsTrue (is_met rs ks xs (kept_states rs ks) k)
  conflict-is_met h = elim (cases_Bool (list_all (λ w. is_above_all rs w xs) (latest_writers rs k xs))) [
    | inl all ↦ absurd (all-above h all)
    | inr some ↦
        let w = failing (λ w. is_above_all rs w xs) (latest_writers rs k xs) some in
        let at = mapped-from (latest_writer rs k) xs w.0 w.1 in
        let parts = and_parts (writes_key rs k w.0) (is_above rs w.0 at.0) (latest-is-latest rs k at.0 w.0 at.2).writes in
        let known = read-is_known rs ks stands.dag stands.shared k w.0 (are-read rs ks stands.dag stands.shared k xs kept w.0 w.1) in
        let y = stand_in rs ks w.0 in
        let one = any-from (is_above rs y) xs at.0 at.1 (sym (well.tells w.0 at.0 known (kept at.0 at.1)) ∙ parts.1) in
        let not_all : IsFalse (is_above_all rs y xs) = sym (all-agrees (is_above rs w.0) (is_above rs y) xs (λ x m. well.tells w.0 x known (kept x m))) ∙ w.2 in
        any-from (λ y. is_above_part rs y xs && holds_key rs ks k y) (kept_states rs ks) y (kept-is_listed rs ks y (well.kept w.0 known))
        (and_from (is_above_part rs y xs) (holds_key rs ks k y)
        (and_from (list_any (is_above rs y) xs) (not (is_above_all rs y xs)) one (not_from_false (is_above_all rs y xs) not_all))
        (writer-holds rs ks stands.dag stands.shared k w.0 known parts.0))
  ]

-- and by one of the states apart
pub apart-is_met : (rs : List Record) (ks xs : List StateId) (k : List ℕ) → IsTrue (is_met rs ks xs (kept_states rs ks) k) →
    IsTrue (is_met rs ks xs (apart_states rs ks xs) k)
apart-is_met rs ks xs k met =
    let y = any-witness (λ y. is_above_part rs y xs && holds_key rs ks k y) (kept_states rs ks) met in
    any-from (λ y. is_above_part rs y xs && holds_key rs ks k y) (apart_states rs ks xs) y.0
    (among-filter (λ x. is_above_part rs x xs) (kept_states rs ks) y.0 y.1 (and_parts (is_above_part rs y.0 xs) (holds_key rs ks k y.0) y.2).0) y.2

-- ===== One more state

module _ (rs : List Record) (ks xs zs : List StateId) (i : ℕ) (k : List ℕ) where
  met-more : (x : StateId) → slice_get zs i ≡ Some x → is_met rs ks xs (take (i + 1) zs) k
      ≡ (is_met rs ks xs (take i zs) k || (is_above_part rs x xs && holds_key rs ks k x || false))
  met-more x e =
      ap (λ ys. is_met rs ks xs ys k) (take-next zs i x e)
      ∙ list_any-append (λ y. is_above_part rs y xs && holds_key rs ks k y) (take i zs) (x ∷ [])

  -- what is met with it was met or is held by it
  pub met-here : (x : StateId) (chunks : Chunks) → slice_get zs i ≡ Some x → is_key_in k chunks ≡ holds_key rs ks k x →
      IsTrue (is_met rs ks xs (take (i + 1) zs) k) →
      IsTrue (is_met rs ks xs (take i zs) k || is_key_in k chunks)
  met-here x chunks e holds m = elim (or_cases (is_met rs ks xs (take i zs) k) (is_above_part rs x xs && holds_key rs ks k x || false)
      (sym (met-more x e) ∙ m)) [
        | inl old ↦ or_left (is_met rs ks xs (take i zs) k) (is_key_in k chunks) old
        | inr new ↦ elim (or_cases (is_above_part rs x xs && holds_key rs ks k x) false new) [
          | inl both ↦ or_right (is_met rs ks xs (take i zs) k) (is_key_in k chunks) (holds ∙ (and_parts (is_above_part rs x xs) (holds_key rs ks k x) both).1)
          | inr none ↦ not-both false none refl
        ]
      ]

  -- where it isn't above a part of the states, what is met with it was met
  pub met-passed : (x : StateId) → slice_get zs i ≡ Some x → IsFalse (is_above_part rs x xs) → IsTrue (is_met rs ks xs (take (i + 1) zs) k) →
      IsTrue (is_met rs ks xs (take i zs) k)
  met-passed x e apart m = elim (or_cases (is_met rs ks xs (take i zs) k) (is_above_part rs x xs && holds_key rs ks k x || false) (sym (met-more x e) ∙ m)) [
    | inl old ↦ old
    | inr new ↦ elim (or_cases (is_above_part rs x xs && holds_key rs ks k x) false new) [
      | inl both ↦ not-both (is_above_part rs x xs) (and_parts (is_above_part rs x xs) (holds_key rs ks k x) both).0 apart
      | inr none ↦ not-both false none refl
    ]
  ]

-- ===== One more chunk

-- what is met or in one more chunk is met, in those before, or in that one
pub chunk-met : (met : List ℕ → Bool) (done : Chunks) (chunk keys : List (List ℕ)) → keys ≡ chunk → (k : List ℕ) →
    IsTrue (met k || is_key_in k (done ++ chunk ∷ [])) → IsTrue ((met k || is_key_in k done) || is_key_among k keys)
chunk-met met done chunk keys is k m =
    ap (λ (js : List (List ℕ)). (met k || is_key_in k done) || is_key_among k js) is
    ∙ turned (met k) (is_key_in k done) (is_key_among k chunk)
    ∙ ap (λ b. met k || b) (sym (list_any-append (is_key_among k) done (chunk ∷ [])))
    ∙ m
  where
    turned : (a b c : Bool) → ((a || b) || c) ≡ (a || (b || (c || false)))
    turned true b c = refl
    turned false true c = refl
    turned false false true = refl
    turned false false false = refl
