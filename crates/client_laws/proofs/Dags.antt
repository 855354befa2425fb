-- What is read at a state, told by its own record and its parents: at its arrival, and for good.
use Rattle.std.proofs.Common.{◌≡◌, ℕ, true, List, [], ◌∷◌, IsTrue, IsFalse, Option, Some, None, is_none, refl, sym, ap, subst, ◌∙◌, inl, inr}
use Rattle.std.proofs.lemmas.Bool.{and_parts, and_from, both_ways, cond-true, false_from_ne_true}
use Rattle.std.proofs.lemmas.Option.{none-some}
use Rattle.std.specs.List.{list_all, cons_option}
use Rattle.std.specs.Option.{option_and_then}
use Rattle.tardis_base.specs.declared.ids.StateId.{StateId}
use Rattle.tardis_base.specs.declared.records.Record.{Record}
use Rattle.tardis_base.specs.Ids.{same_id, is_among}
use Rattle.tardis_base.specs.Keys.{has_key}
use Rattle.plain_dag.specs.States.{is_known, writes_key}
use Rattle.plain_dag.specs.Above.{is_above}
use Rattle.plain_dag.specs.Writers.{is_writer, are_above, lowest, latest_writer, version_at, read}
use Rattle.plain_dag.specs.Conflicts.{latest_writers, is_split, is_conflict_key, value_over}
use Rattle.plain_dag.specs.Dag.{IsDag}
use Rattle.plain_dag.specs.Laws.{IsLatestWriter}
use Rattle.plain_dag.proofs.Ids.{not-both, same_id_self}
use Rattle.plain_dag.proofs.Histories.{Fits, Grows, known-isnt-newest, parent-is-known}
use Rattle.plain_dag.proofs.Order.{known-above, above-newest-cases, above-by-parent, above-reflexive, above-through, above-antisymmetric}
use Rattle.plain_dag.proofs.Growth.{writer-is-known, writes-before, writes-newest, above-stays, latest-writer-stays, lowest-stays, version-stays}
use Rattle.plain_dag.proofs.LatestWriter.{lowest-is-one, above-lowest, unsplit-has-lowest, latest-is-latest, latest-is-found, has-latest}
use Rattle.plain_dag.proofs.Searches.{option-cases, among-mapped, mapped-from}

-- ===== The value over states

-- over one state it is what is read there
pub value-over-one : (rs : List Record) (x : StateId) (k : List ℕ) → value_over rs (x ∷ []) k ≡ read rs k x
value-over-one rs x k = at (latest_writer rs k x)
  where
    at : (o : Option StateId) → option_and_then (version_at rs k) (lowest rs (cons_option o [])) ≡ option_and_then (version_at rs k) o
    at None = refl
    at (Some w) =
        ap (option_and_then (version_at rs k))
        (cond-true (are_above rs (w ∷ []) w) (Some w) None (and_from (is_above rs w w) true (above-reflexive rs w) refl))

module _ (rs : List Record) (r : Record) (f : Fits rs r) (g : Grows rs) (k : List ℕ) where
  latest-writers-stay : (xs : List StateId) → IsTrue (list_all (is_known rs) xs) → latest_writers (r ∷ rs) k xs ≡ latest_writers rs k xs
  latest-writers-stay [] known = refl
  latest-writers-stay (x ∷ xs) known =
      let parts = and_parts (is_known rs x) (list_all (is_known rs) xs) known in
      ap (λ o. cons_option o (latest_writers (r ∷ rs) k xs)) (latest-writer-stays rs r f g k x parts.0)
      ∙ ap (cons_option (latest_writer rs k x)) (latest-writers-stay xs parts.1)

  -- latest writers are known
  latest-are-known : (xs : List StateId) (w : StateId) → IsTrue (is_among w (latest_writers rs k xs)) → IsTrue (is_known rs w)
  latest-are-known xs w m =
      let origin = mapped-from (latest_writer rs k) xs w m in
      writer-is-known rs k w (and_parts (writes_key rs k w) (is_above rs w origin.0) (latest-is-latest rs k origin.0 w origin.2).writes).0

  lowest-writer-stays : (xs : List StateId) → IsTrue (list_all (is_known rs) xs) → lowest (r ∷ rs) (latest_writers (r ∷ rs) k xs)
      ≡ lowest rs (latest_writers rs k xs)
  lowest-writer-stays xs known =
      ap (lowest (r ∷ rs)) (latest-writers-stay xs known) ∙ lowest-stays rs r f g (latest_writers rs k xs) (latest-are-known xs)

  pub value-over-stays : (xs : List StateId) → IsTrue (list_all (is_known rs) xs) → value_over (r ∷ rs) xs k ≡ value_over rs xs k
  value-over-stays xs known = ap (option_and_then (version_at (r ∷ rs) k)) (lowest-writer-stays xs known) ∙ at (lowest rs (latest_writers rs k xs)) refl
    where
      at : (o : Option StateId) → lowest rs (latest_writers rs k xs) ≡ o → option_and_then (version_at (r ∷ rs) k) o ≡ option_and_then (version_at rs k) o
      at None e = refl
      at (Some w) e = version-stays rs r f g k w (latest-are-known xs w (lowest-is-one rs (latest_writers rs k xs) w e))

  split-agrees : (vs ws : List StateId) → vs ≡ ws → lowest (r ∷ rs) ws ≡ lowest rs ws → is_split (r ∷ rs) vs ≡ is_split rs ws
  split-agrees vs [] e same = ap (is_split (r ∷ rs)) e
  split-agrees vs (w ∷ ws) e same = ap (is_split (r ∷ rs)) e ∙ ap is_none same

  pub conflict-stays : (xs : List StateId) → IsTrue (list_all (is_known rs) xs) → is_conflict_key (r ∷ rs) xs k ≡ is_conflict_key rs xs k
  conflict-stays xs known =
      split-agrees (latest_writers (r ∷ rs) k xs) (latest_writers rs k xs) (latest-writers-stay xs known)
      (lowest-stays rs r f g (latest_writers rs k xs) (latest-are-known xs))

-- ===== The newest state

module _ (rs : List Record) (r : Record) (f : Fits rs r) (g : Grows rs) (k : List ℕ) (lacks : IsFalse (has_key k r.writes)) where
  -- a writer at the newest state is one at a parent
  writer-at-parent : (v : StateId) → IsTrue (is_writer (r ∷ rs) k r.id v) → (p : StateId) × IsTrue (is_among p r.parents) × IsTrue (is_writer rs k p v)
  writer-at-parent v h =
      let parts = and_parts (writes_key (r ∷ rs) k v) (is_above (r ∷ rs) v r.id) h in
      elim (above-newest-cases rs r v r.id (same_id_self r.id) parts.1) [
        | inl e ↦ not-both true refl (sym parts.0 ∙ (writes-newest rs r k v f (subst (λ z. IsTrue (same_id z r.id)) (sym e) (same_id_self r.id)) ∙ lacks))
        | inr w ↦
            let n = known-isnt-newest rs r v f (known-above rs g v w.0 (parent-is-known rs r w.0 f w.1) w.2) in
            (w.0, w.1, and_from (writes_key rs k v) (is_above rs v w.0) (sym (writes-before rs r k v n) ∙ parts.0) w.2)
      ]

  -- and the other way round
  writer-from-parent : (p v : StateId) → IsTrue (is_among p r.parents) → IsTrue (is_writer rs k p v) → IsTrue (is_writer (r ∷ rs) k r.id v)
  writer-from-parent p v m h =
      let parts = and_parts (writes_key rs k v) (is_above rs v p) h in
      let n = known-isnt-newest rs r v f (writer-is-known rs k v parts.0) in
      and_from (writes_key (r ∷ rs) k v) (is_above (r ∷ rs) v r.id) (writes-before rs r k v n ∙ parts.0)
      (above-by-parent rs r v p r.id (same_id_self r.id) m parts.1)

  -- a writer at a parent is at or above one of the parents' latest writers
  latest-below : (p v : StateId) → IsTrue (is_among p r.parents) → IsTrue (is_writer rs k p v) →
      (w : StateId) × IsTrue (is_among w (latest_writers rs k r.parents)) × IsTrue (is_above rs v w)
  latest-below p v m h =
      let l = has-latest rs g k p (parent-is-known rs r p f m) v h in
      let w = latest-is-found rs k p l.0 l.1 in
      (w.0, among-mapped (latest_writer rs k) r.parents p w.0 m w.1, (latest-is-latest rs k p w.0 w.1).below v h)

  -- the lowest of the parents' latest writers is the latest one
  lowest-is-latest : (w : StateId) → lowest rs (latest_writers rs k r.parents) ≡ Some w → IsLatestWriter (r ∷ rs) k r.id w
  lowest-is-latest w e =
      let origin = mapped-from (latest_writer rs k) r.parents w (lowest-is-one rs (latest_writers rs k r.parents) w e) in
      let writes = (latest-is-latest rs k origin.0 w origin.2).writes in
      let known = writer-is-known rs k w (and_parts (writes_key rs k w) (is_above rs w origin.0) writes).0 in
      record {
        writes = writer-from-parent origin.0 w origin.1 writes;
        below = λ v h.
            let at = writer-at-parent v h in
            let over = latest-below at.0 v at.1 at.2 in
            above-stays rs r f g v w known ∙ above-through rs g v over.0 w over.2 (above-lowest rs (latest_writers rs k r.parents) over.0 w e over.1);
      }

  latest-is-lowest : IsDag (r ∷ rs) → latest_writer (r ∷ rs) k r.id ≡ lowest rs (latest_writers rs k r.parents)
  latest-is-lowest dag = elim (option-cases (lowest rs (latest_writers rs k r.parents))) [
    | inl w ↦
        let l = lowest-is-latest w.0 w.1 in
        let u = latest-is-found (r ∷ rs) k r.id w.0 l in
        let m = latest-is-latest (r ∷ rs) k r.id u.0 u.1 in
        u.1 ∙ (ap (λ z. Some z) (above-antisymmetric (r ∷ rs) dag u.0 w.0 (l.below u.0 m.writes) (m.below w.0 l.writes)) ∙ sym w.1)
    | inr none ↦ elim (option-cases (latest_writer (r ∷ rs) k r.id)) [
      | inr also ↦ also ∙ sym none
      | inl u ↦
          let at = writer-at-parent u.0 (latest-is-latest (r ∷ rs) k r.id u.0 u.1).writes in
          let over = latest-below at.0 u.0 at.1 at.2 in
          let unsplit = false_from_ne_true (is_conflict_key rs r.parents k) (λ c. both_ways (has_key k r.writes) lacks (f.merges k c)) in
          let found = unsplit-has-lowest rs (latest_writers rs k r.parents) over.0 over.1 unsplit in
          absurd (none-some found.0 (sym none ∙ found.1))
    ]
  ]

  pub newest-joins : IsDag (r ∷ rs) → read (r ∷ rs) k r.id ≡ value_over rs r.parents k
  newest-joins dag = ap (option_and_then (version_at (r ∷ rs) k)) (latest-is-lowest dag) ∙ at (lowest rs (latest_writers rs k r.parents)) refl
    where
      at : (o : Option StateId) → lowest rs (latest_writers rs k r.parents) ≡ o → option_and_then (version_at (r ∷ rs) k) o
          ≡ option_and_then (version_at rs k) o
      at None e = refl
      at (Some w) e = version-stays rs r f g k w (latest-are-known rs r f g k r.parents w (lowest-is-one rs (latest_writers rs k r.parents) w e))
