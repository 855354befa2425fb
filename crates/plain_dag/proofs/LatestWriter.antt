-- Where a key is written at a state, one of its writers there is below all the others.
use Rattle.std.proofs.Common.{◌≡◌, ℕ, ◌<◌, ◌≤◌, true, List, [], ◌∷◌, IsTrue, IsFalse, is_some, is_none, Some, ◌⊎◌, refl, sym, ap, subst, ◌∙◌, inl, inr, arith}
use Rattle.std.proofs.lemmas.Bool.{and_parts, and_from, cases_Bool, both_ways, false_from_ne_true}
use Rattle.tardis_base.specs.declared.ids.StateId.{StateId}
use Rattle.tardis_base.specs.declared.records.Record.{Record}
use Rattle.tardis_base.specs.Ids.{same_id, is_among}
use Rattle.tardis_base.specs.Keys.{has_key}
use Rattle.plain_dag.specs.States.{states, is_known, writes_key, arrival}
use Rattle.plain_dag.specs.Above.{is_above}
use Rattle.plain_dag.specs.Writers.{is_writer, writers, are_above, lowest, latest_writer, version_at}
use Rattle.plain_dag.specs.Conflicts.{latest_writers, is_split, is_conflict_key}
use Rattle.plain_dag.specs.Dag.{IsDag}
use Rattle.plain_dag.specs.Laws.{IsLatestWriter, WritersHaveOneLatest}
use Rattle.plain_dag.proofs.Ids.{not-both, among-first, all-at, all-from}
use Rattle.plain_dag.proofs.Histories.{Fits, Grows, dag-grows, known-before, known-isnt-newest, parent-is-known}
use Rattle.plain_dag.proofs.Order.{known-above, above-newest-cases, above-by-parent, above-reflexive, above-through, above-antisymmetric}
use Rattle.plain_dag.proofs.Order.{ancestors-arrive-earlier}
use Rattle.plain_dag.proofs.Growth.{writer-is-known, writes-before, writes-newest, above-stays, writer-stays}
use Rattle.plain_dag.proofs.Versions.{writers-have-versions}
use Rattle.std.specs.Option.{option_and_then}
use Rattle.plain_dag.proofs.Searches.{found-passes, finds-passing, among-filter, filtered-passes, among-mapped, mapped-from, option-cases}

-- ===== The lowest of several

module _ (rs : List Record) where
  -- it is one of them, and each is at or above it
  pub lowest-is-one : (ws : List StateId) (w : StateId) → lowest rs ws ≡ Some w → IsTrue (is_among w ws)
  lowest-is-one ws w e = (found-passes (are_above rs ws) ws w e).0

  pub above-lowest : (ws : List StateId) (v w : StateId) → lowest rs ws ≡ Some w → IsTrue (is_among v ws) → IsTrue (is_above rs v w)
  above-lowest ws v w e m = all-at (λ u. is_above rs u w) ws v (found-passes (are_above rs ws) ws w e).1 m

  -- there is one where one of them is at or below all
  pub has-lowest : (ws : List StateId) (w : StateId) → IsTrue (is_among w ws) → ((v : StateId) → IsTrue (is_among v ws) → IsTrue (is_above rs v w)) →
      (u : StateId) × (lowest rs ws ≡ Some u)
  has-lowest ws w m above = finds-passing (are_above rs ws) ws w m (all-from (λ v. is_above rs v w) ws above)

  -- what isn't split has a lowest, where there are some
  pub unsplit-has-lowest : (ws : List StateId) (w : StateId) → IsTrue (is_among w ws) → IsFalse (is_split rs ws) → (u : StateId) × (lowest rs ws ≡ Some u)
  unsplit-has-lowest [] w m n = not-both true refl (sym m)
  unsplit-has-lowest (v ∷ vs) w m n = elim (option-cases (lowest rs (v ∷ vs))) [
    | inl found ↦ found
    | inr none ↦ not-both true refl (sym (ap is_none none) ∙ n)
  ]

  pub lowest-is-unsplit : (ws : List StateId) (w : StateId) → lowest rs ws ≡ Some w → IsFalse (is_split rs ws)
  lowest-is-unsplit [] w e = refl
  lowest-is-unsplit (v ∷ vs) w e = ap is_none e

  -- what is split has one
  pub split-has-one : (ws : List StateId) → IsTrue (is_split rs ws) → (w : StateId) × IsTrue (is_among w ws)
  split-has-one [] h = not-both true refl (sym h)
  split-has-one (w ∷ ws) h = (w, among-first w ws)

  -- ===== The latest writer as the definitions have it

  pub latest-is-latest : (k : List ℕ) (x w : StateId) → latest_writer rs k x ≡ Some w → IsLatestWriter rs k x w
  latest-is-latest k x w e = record {
    writes = (filtered-passes (is_writer rs k x) (states rs) w (lowest-is-one (writers rs k x) w e)).1;
    below = λ v h. above-lowest (writers rs k x) v w e (writer-is-listed v h);
  }
    where
      writer-is-listed : (v : StateId) → IsTrue (is_writer rs k x v) → IsTrue (is_among v (writers rs k x))
      writer-is-listed v h =
          among-filter (is_writer rs k x) (states rs) v (writer-is-known rs k v (and_parts (writes_key rs k v) (is_above rs v x) h).0) h

  pub latest-is-found : (k : List ℕ) (x w : StateId) → IsLatestWriter rs k x w → (u : StateId) × (latest_writer rs k x ≡ Some u)
  latest-is-found k x w l =
      has-lowest (writers rs k x) w
      (among-filter (is_writer rs k x) (states rs) w (writer-is-known rs k w (and_parts (writes_key rs k w) (is_above rs w x) l.writes).0) l.writes)
      (λ v m. l.below v (filtered-passes (is_writer rs k x) (states rs) v m).1)

-- ===== One more record

-- a latest writer, if the key has a writer
abbrev pub HasLatest : List Record → List ℕ → StateId → Type 0
HasLatest rs k x = (v : StateId) → IsTrue (is_writer rs k x v) → (w : StateId) × IsLatestWriter rs k x w

-- of several states, at least one with a writer of a key that is no conflict key of theirs: one of their latest writers is
-- below all writers at them
record LatestOver (rs : List Record) (k : List ℕ) (ps : List StateId) (w : StateId) : Type 0 where
  at : StateId
  one : IsTrue (is_among at ps)
  writes : IsTrue (is_writer rs k at w)
  below : (p v : StateId) → IsTrue (is_among p ps) → IsTrue (is_writer rs k p v) → IsTrue (is_above rs v w)

module _ (rs : List Record) (g : Grows rs) (k : List ℕ) (each : (x : StateId) → IsTrue (is_known rs x) → HasLatest rs k x) where
  latest-over : (ps : List StateId) → ((p : StateId) → IsTrue (is_among p ps) → IsTrue (is_known rs p)) → IsFalse (is_conflict_key rs ps k) →
      (p v : StateId) → IsTrue (is_among p ps) → IsTrue (is_writer rs k p v) → (w : StateId) × LatestOver rs k ps w
  latest-over ps known apart p v m h =
      let least = unsplit-has-lowest rs (latest_writers rs k ps) (its p v m h).0 (its p v m h).1 apart in
      let origin = mapped-from (latest_writer rs k) ps least.0 (lowest-is-one rs (latest_writers rs k ps) least.0 least.1) in (
        least.0,
        record {
          at = origin.0;
          one = origin.1;
          writes = (latest-is-latest rs k origin.0 least.0 origin.2).writes;
          below = λ q u n i.
              above-through rs g u (its q u n i).0 least.0 (its q u n i).2
              (above-lowest rs (latest_writers rs k ps) (its q u n i).0 least.0 least.1 (its q u n i).1);
        },
      )
    where
      -- the latest writer at one of these
      its : (q u : StateId) → IsTrue (is_among q ps) → IsTrue (is_writer rs k q u) → (w : StateId) × IsTrue (is_among w (latest_writers rs k ps))
          × IsTrue (is_above rs u w)
      its q u n i =
          let l = each q (known q n) u i in
          let w = latest-is-found rs k q l.0 l.1 in
          (w.0, among-mapped (latest_writer rs k) ps q w.0 n w.1, (latest-is-latest rs k q w.0 w.1).below u i)

module _ (rs : List Record) (r : Record) (f : Fits rs r) (g : Grows rs) (k : List ℕ) (x : StateId) where
  -- at an old state the latest writer is as before
  latest-stays : IsTrue (is_known rs x) → HasLatest rs k x → HasLatest (r ∷ rs) k x
  latest-stays known has v h =
      let l = has v (sym (writer-stays rs r f g k x known v) ∙ h) in (
        l.0,
        record {
          writes = writer-stays rs r f g k x known l.0 ∙ l.1.writes;
          below = λ u i.
              above-stays rs r f g u l.0 (writer-is-known rs k l.0 (and_parts (writes_key rs k l.0) (is_above rs l.0 x) l.1.writes).0)
              ∙ l.1.below u (sym (writer-stays rs r f g k x known u) ∙ i);
        },
      )

  -- the newest state is its own latest writer of the keys of its record
  latest-is-newest : IsTrue (same_id x r.id) → IsTrue (has_key k r.writes) → HasLatest (r ∷ rs) k x
  latest-is-newest t has v h = (
    x,
    record {
      writes =
          and_from (writes_key (r ∷ rs) k x) (is_above (r ∷ rs) x x) (writes-newest rs r k x f t ∙ has) (above-reflexive (r ∷ rs) x);
      below = λ u i. (and_parts (writes_key (r ∷ rs) k u) (is_above (r ∷ rs) u x) i).1;
    },
  )

  -- a writer at the newest state of a key that its record doesn't write is one at a parent
  writer-at-parent : IsTrue (same_id x r.id) → IsFalse (has_key k r.writes) → (v : StateId) → IsTrue (is_writer (r ∷ rs) k x v) →
      (p : StateId) × IsTrue (is_among p r.parents) × IsTrue (is_writer rs k p v)
  writer-at-parent t lacks v h =
      let parts = and_parts (writes_key (r ∷ rs) k v) (is_above (r ∷ rs) v x) h in
      elim (above-newest-cases rs r v x t parts.1) [
        | inl e ↦ not-both true refl (sym parts.0 ∙ (writes-newest rs r k v f (subst (λ z. IsTrue (same_id z r.id)) (sym e) t) ∙ lacks))
        | inr w ↦
            let n = known-isnt-newest rs r v f (known-above rs g v w.0 (parent-is-known rs r w.0 f w.1) w.2) in
            (w.0, w.1, and_from (writes_key rs k v) (is_above rs v w.0) (sym (writes-before rs r k v n) ∙ parts.0) w.2)
      ]

  -- and then the lowest of the parents' latest writers is the latest one
  latest-is-lowest : IsTrue (same_id x r.id) → IsFalse (has_key k r.writes) → ((y : StateId) → IsTrue (is_known rs y) → HasLatest rs k y) →
      HasLatest (r ∷ rs) k x
  latest-is-lowest t lacks each v h =
      let at = writer-at-parent t lacks v h in
      let unsplit = false_from_ne_true (is_conflict_key rs r.parents k) (λ c. both_ways (has_key k r.writes) lacks (f.merges k c)) in
      let l = latest-over rs g k each r.parents (λ p m. parent-is-known rs r p f m) unsplit at.0 v at.1 at.2 in
      let w = l.0 in
      let parts = and_parts (writes_key rs k w) (is_above rs w l.1.at) l.1.writes in
      let known = writer-is-known rs k w parts.0 in (
        w,
        record {
          writes =
              and_from (writes_key (r ∷ rs) k w) (is_above (r ∷ rs) w x) (writes-before rs r k w (known-isnt-newest rs r w f known) ∙ parts.0)
              (above-by-parent rs r w l.1.at x t l.1.one parts.1);
          below = λ u i. let q = writer-at-parent t lacks u i in above-stays rs r f g u w known ∙ l.1.below q.0 u q.1 q.2;
        },
      )

pub has-latest : (rs : List Record) → Grows rs → (k : List ℕ) (x : StateId) → IsTrue (is_known rs x) → HasLatest rs k x
has-latest [] g k x known = not-both true refl (sym known)
has-latest (r ∷ rs) g k x known = elim (cases_Bool (same_id x r.id)) [
  | inl t ↦ elim (cases_Bool (has_key k r.writes)) [
    | inl has ↦ latest-is-newest rs r g.0 g.1 k x t has
    | inr lacks ↦ latest-is-lowest rs r g.0 g.1 k x t lacks (has-latest rs g.1 k)
  ]
  | inr n ↦
      let before = known-before rs r x known n in
      latest-stays rs r g.0 g.1 k x before (has-latest rs g.1 k x before)
]

-- ===== The law

pub one-latest-writer : (rs : List Record) → IsDag rs → WritersHaveOneLatest rs
one-latest-writer rs dag k x known = record {
  found = λ v h.
      let l = has-latest rs (dag-grows rs dag) k x known v h in
      ap is_some (latest-is-found rs k x l.0 l.1).1;
  is_latest = latest-is-latest rs k x;
  only = λ v w e l.
      let m = latest-is-latest rs k x w e in
      above-antisymmetric rs dag v w (m.below v l.writes) (l.below w m.writes);
  last_arrived = λ v w e h. no-later v w (ancestors-arrive-earlier rs dag v w ((latest-is-latest rs k x w e).below v h));
  is_read = λ w e.
      let writes = (and_parts (writes_key rs k w) (is_above rs w x) (latest-is-latest rs k x w e).writes).0 in
      (writers-have-versions rs (dag-grows rs dag) k w writes, ap (option_and_then (version_at rs k)) e);
}
  where
    no-later : (v w : StateId) → (v ≡ w) ⊎ (arrival rs v < arrival rs w) → arrival rs v ≤ arrival rs w
    no-later v w (inl e) = let a = ap (arrival rs) e in omega arith
    no-later v w (inr l) = omega arith
