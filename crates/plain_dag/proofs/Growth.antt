-- What one more record changes: nothing between old states, and no read at one.
use Rattle.std.proofs.Common.{◌≡◌, ℕ, true, ◌||◌, ◌&&◌, List, [], ◌∷◌, IsTrue, IsFalse, Option, Some, None, refl, sym, ap, ◌∙◌, inl, inr}
use Rattle.std.proofs.lemmas.Bool.{and_parts, and_from, and_right, or_cases, or_left, cases_Bool, both_ways, cond-false, false_from_ne_true}
use Rattle.std.specs.List.{list_any}
use Rattle.std.specs.Option.{option_map, option_and_then}
use Rattle.tardis_base.specs.declared.ids.StateId.{StateId}
use Rattle.tardis_base.specs.declared.records.Record.{Record}
use Rattle.tardis_base.specs.Ids.{same_id, is_among}
use Rattle.tardis_base.specs.Keys.{has_key, write_of}
use Rattle.plain_dag.specs.States.{states, is_known, record_at, writes_key}
use Rattle.plain_dag.specs.Above.{is_above}
use Rattle.plain_dag.specs.Writers.{is_writer, writers, are_above, lowest, latest_writer, version_at, read}
use Rattle.plain_dag.specs.Dag.{IsNext, IsDag}
use Rattle.plain_dag.specs.Laws.{OldStatesStay, OldReadsStay, NewStateIsBelowParents}
use Rattle.plain_dag.proofs.Ids.{same_test, not-both, same_id_self, all-agrees}
use Rattle.plain_dag.proofs.Histories.{Fits, Grows, dag-grows, next-fits, known-stays, known-isnt-newest}
use Rattle.plain_dag.proofs.Order.{above-newest, above-before, known-above}
use Rattle.plain_dag.proofs.Searches.{find-agrees, filter-agrees, filter-without, filtered-passes, found-passes}

-- ===== Writers

-- what writes a key is known
pub writer-is-known : (rs : List Record) (k : List ℕ) (w : StateId) → IsTrue (writes_key rs k w) → IsTrue (is_known rs w)
writer-is-known [] k w h = not-both true refl (sym h)
writer-is-known (r ∷ rs) k w h = elim (or_cases (same_id w r.id && has_key k r.writes) (writes_key rs k w) h) [
  | inl t ↦ or_left (same_id w r.id) (is_known rs w) (and_parts (same_id w r.id) (has_key k r.writes) t).0
  | inr m ↦ known-stays rs r w (writer-is-known rs k w m)
]

-- the old states write what they wrote
pub writes-before : (rs : List Record) (r : Record) (k : List ℕ) (w : StateId) → IsFalse (same_id w r.id) → writes_key (r ∷ rs) k w ≡ writes_key rs k w
writes-before rs r k w f = ap (λ b. b && has_key k r.writes || writes_key rs k w) f

-- the newest state writes the keys of its record
pub writes-newest : (rs : List Record) (r : Record) (k : List ℕ) (w : StateId) → Fits rs r → IsTrue (same_id w r.id) → writes_key (r ∷ rs) k w
    ≡ has_key k r.writes
writes-newest rs r k w f t = same_test (writes_key (r ∷ rs) k w) (has_key k r.writes) (λ h. there h)
    (λ h. or_left (same_id w r.id && has_key k r.writes) (writes_key rs k w) (and_from (same_id w r.id) (has_key k r.writes) t h))
  where
    there : IsTrue (writes_key (r ∷ rs) k w) → IsTrue (has_key k r.writes)
    there h = elim (or_cases (same_id w r.id && has_key k r.writes) (writes_key rs k w) h) [
      | inl m ↦ (and_parts (same_id w r.id) (has_key k r.writes) m).1
      | inr m ↦ not-both (same_id w r.id) t (known-isnt-newest rs r w f (writer-is-known rs k w m))
    ]

module _ (rs : List Record) (r : Record) (f : Fits rs r) (g : Grows rs) where
  -- ===== Between old states

  pub above-stays : (x y : StateId) → IsTrue (is_known rs y) → is_above (r ∷ rs) x y ≡ is_above rs x y
  above-stays x y k = above-before rs r x y (known-isnt-newest rs r y f k)

  -- the newest state is above no old one
  pub newest-isnt-above : (x : StateId) → IsTrue (is_known rs x) → IsFalse (is_above (r ∷ rs) r.id x)
  newest-isnt-above x k = above-stays r.id x k ∙ false_from_ne_true (is_above rs r.id x) (λ h. both_ways (is_known rs r.id) f.new (known-above rs g r.id x k h))

  -- ===== Reads

  -- the writers at an old state are as before
  pub writer-stays : (k : List ℕ) (x : StateId) → IsTrue (is_known rs x) → (w : StateId) → is_writer (r ∷ rs) k x w ≡ is_writer rs k x w
  writer-stays k x known w = elim (cases_Bool (is_above rs w x)) [
    | inl a ↦
        ap (λ b. writes_key (r ∷ rs) k w && b) (above-stays w x known)
        ∙ ap (λ b. b && is_above rs w x) (writes-before rs r k w (known-isnt-newest rs r w f (known-above rs g w x known a)))
    | inr n ↦
        and_right (writes_key (r ∷ rs) k w) (is_above (r ∷ rs) w x) (above-stays w x known ∙ n)
        ∙ sym (and_right (writes_key rs k w) (is_above rs w x) n)
  ]

  pub writers-stay : (k : List ℕ) (x : StateId) → IsTrue (is_known rs x) → writers (r ∷ rs) k x ≡ writers rs k x
  writers-stay k x known =
      filter-without (is_writer (r ∷ rs) k x) r.id (states rs) (and_right (writes_key (r ∷ rs) k r.id) (is_above (r ∷ rs) r.id x) (newest-isnt-above x known))
      ∙ filter-agrees (is_writer (r ∷ rs) k x) (is_writer rs k x) (states rs) (λ w m. writer-stays k x known w)

  -- the lowest of old states is as before
  pub lowest-stays : (ws : List StateId) → ((w : StateId) → IsTrue (is_among w ws) → IsTrue (is_known rs w)) → lowest (r ∷ rs) ws ≡ lowest rs ws
  lowest-stays ws known =
      find-agrees (are_above (r ∷ rs) ws) (are_above rs ws) ws
      (λ w m. all-agrees (λ v. is_above (r ∷ rs) v w) (λ v. is_above rs v w) ws (λ v n. above-stays v w (known w m)))

  pub latest-writer-stays : (k : List ℕ) (x : StateId) → IsTrue (is_known rs x) → latest_writer (r ∷ rs) k x ≡ latest_writer rs k x
  latest-writer-stays k x known =
      ap (lowest (r ∷ rs)) (writers-stay k x known)
      ∙ lowest-stays (writers rs k x) (λ w m. (filtered-passes (is_writer rs k x) (states rs) w m).0)

  -- what an old state wrote is as before
  pub version-stays : (k : List ℕ) (w : StateId) → IsTrue (is_known rs w) → version_at (r ∷ rs) k w ≡ version_at rs k w
  version-stays k w known =
      ap (λ o. option_map (λ v. (w, v)) (option_and_then (λ q. write_of k q.writes) o))
      (cond-false (same_id w r.id) (Some r) (record_at rs w) (known-isnt-newest rs r w f known))

  pub read-stays : (k : List ℕ) (x : StateId) → IsTrue (is_known rs x) → read (r ∷ rs) k x ≡ read rs k x
  read-stays k x known = ap (option_and_then (version_at (r ∷ rs) k)) (latest-writer-stays k x known) ∙ at (latest_writer rs k x) refl
    where
      at : (o : Option StateId) → latest_writer rs k x ≡ o → option_and_then (version_at (r ∷ rs) k) o ≡ option_and_then (version_at rs k) o
      at None e = refl
      at (Some w) e =
          let m = found-passes (are_above rs (writers rs k x)) (writers rs k x) w e in
          version-stays k w (filtered-passes (is_writer rs k x) (states rs) w m.0).0

-- ===== The laws

pub old-states-stay : (rs : List Record) (r : Record) → IsDag rs → IsNext rs r → OldStatesStay rs r
old-states-stay rs r dag n = above-stays rs r (next-fits rs r n) (dag-grows rs dag)

pub old-reads-stay : (rs : List Record) (r : Record) → IsDag rs → IsNext rs r → OldReadsStay rs r
old-reads-stay rs r dag n = read-stays rs r (next-fits rs r n) (dag-grows rs dag)

pub new-state-is-below-parents : (rs : List Record) (r : Record) → IsDag rs → IsNext rs r → NewStateIsBelowParents rs r
new-state-is-below-parents rs r dag n x known = (
  above-newest rs r x r.id (same_id_self r.id) ∙ ap (λ b. b || list_any (is_above rs x) r.parents) (known-isnt-newest rs r x (next-fits rs r n) known),
  newest-isnt-above rs r (next-fits rs r n) (dag-grows rs dag) x known,
)
