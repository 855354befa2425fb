-- What is read at a state for good, told by its record.
use Rattle.std.proofs.Common.{◌≡◌, ℕ, not, ◌||◌, ◌&&◌, List, [], ◌∷◌, IsTrue, IsFalse, Option, Some, None, refl, sym, ap, subst, ◌∙◌, inl, inr, find}
use Rattle.std.proofs.lemmas.Bool.{and_parts, and_from, or_left, or_right, cases_Bool, both_ways, cond-true, cond-false, false_from_ne_true, not_from_false}
use Rattle.std.proofs.lemmas.Option.{none-some, same_Some}
use Rattle.std.specs.Prelude.{bytes_eq}
use Rattle.std.specs.List.{list_all}
use Rattle.std.specs.Option.{option_map, option_and_then}
use Rattle.tardis_base.specs.declared.ids.StateId.{StateId}
use Rattle.tardis_base.specs.declared.records.Record.{Record}
use Rattle.tardis_base.specs.declared.records.Write.{Write}
use Rattle.tardis_base.specs.Ids.{root, same_id}
use Rattle.tardis_base.specs.Keys.{KeyWrite, has_key, write_of}
use Rattle.plain_dag.specs.States.{root_record, is_known, record_at, writes_key}
use Rattle.plain_dag.specs.Above.{is_above, is_proper_ancestor}
use Rattle.plain_dag.specs.Writers.{is_writer, version_at, read}
use Rattle.plain_dag.specs.Conflicts.{is_conflict_key, value_over}
use Rattle.plain_dag.specs.Dag.{IsDag}
use Rattle.plain_dag.specs.Laws.{IsLatestWriter}
use Rattle.plain_dag.proofs.Ids.{same_id-true, same_id_self}
use Rattle.plain_dag.proofs.Histories.{Fits, Grows, dag-grows, next-fits, known-stays, known-isnt-newest}
use Rattle.plain_dag.proofs.Order.{above-reflexive, above-antisymmetric}
use Rattle.plain_dag.proofs.Growth.{read-stays}
use Rattle.plain_dag.proofs.LatestWriter.{latest-is-latest, latest-is-found, has-latest}
use Rattle.plain_site.specs.ClientLaws.{IsBranch, one_after_another}
use Rattle.plain_site.proofs.SoundEntries.{all-implies}
use Rattle.plain_site.proofs.SoundHistories.{root-is-known}
use Rattle.client_laws.proofs.Dags.{value-over-one, value-over-stays, conflict-stays, newest-joins}

-- ===== Keys that are written

pub write-has-key : (k : List ℕ) (ws : List KeyWrite) (w : Write) → write_of k ws ≡ Some w → IsTrue (has_key k ws)
write-has-key k [] w e = absurd (none-some w e)
write-has-key k (v ∷ vs) w e = elim (cases_Bool (bytes_eq k v.0)) [
  | inl t ↦ or_left (bytes_eq k v.0) (has_key k vs) t
  | inr f ↦
      or_right (bytes_eq k v.0) (has_key k vs)
      (write-has-key k vs w
      (sym (ap (option_map (λ (u : KeyWrite). u.1)) (cond-false (bytes_eq k v.0) (Some v) (find (λ (u : KeyWrite). bytes_eq k u.0) vs) f)) ∙ e))
]

pub no-write-no-key : (k : List ℕ) (ws : List KeyWrite) → write_of k ws ≡ None → IsFalse (has_key k ws)
no-write-no-key k [] e = refl
no-write-no-key k (v ∷ vs) e = elim (cases_Bool (bytes_eq k v.0)) [
  | inl t ↦
      absurd (none-some v.1
      (sym e ∙ ap (option_map (λ (u : KeyWrite). u.1)) (cond-true (bytes_eq k v.0) (Some v) (find (λ (u : KeyWrite). bytes_eq k u.0) vs) t)))
  | inr f ↦
      ap (λ b. b || has_key k vs) f
      ∙ no-write-no-key k vs
      (sym (ap (option_map (λ (u : KeyWrite). u.1)) (cond-false (bytes_eq k v.0) (Some v) (find (λ (u : KeyWrite). bytes_eq k u.0) vs) f)) ∙ e)
]

-- ===== The record of a state

record-newest : (rs : List Record) (r : Record) (x : StateId) → IsTrue (same_id x r.id) → record_at (r ∷ rs) x ≡ Some r
record-newest rs r x t = cond-true (same_id x r.id) (Some r) (record_at rs x) t

record-older : (rs : List Record) (r : Record) (x : StateId) → IsFalse (same_id x r.id) → record_at (r ∷ rs) x ≡ record_at rs x
record-older rs r x f = cond-false (same_id x r.id) (Some r) (record_at rs x) f

pub record-of-newest : (rs : List Record) (r : Record) → record_at (r ∷ rs) r.id ≡ Some r
record-of-newest rs r = record-newest rs r r.id (same_id_self r.id)

-- it has the state's id, and the state is known
pub record-is-of : (rs : List Record) (x : StateId) (q : Record) → record_at rs x ≡ Some q → (q.id ≡ x) × IsTrue (is_known rs x)
record-is-of [] x q e = absurd (none-some q e)
record-is-of (r ∷ rs) x q e = elim (cases_Bool (same_id x r.id)) [
  | inl t ↦ (
    sym (ap (λ (p : Record). p.id) (same_Some r q (sym (record-newest rs r x t) ∙ e))) ∙ sym (same_id-true x r.id t),
    or_left (same_id x r.id) (is_known rs x) t,
  )
  | inr f ↦
      let old = record-is-of rs x q (sym (record-older rs r x f) ∙ e) in
      (old.0, known-stays rs r x old.1)
]

pub record-stays : (rs : List Record) (r : Record) → Fits rs r → (x : StateId) (q : Record) → record_at rs x ≡ Some q → record_at (r ∷ rs) x ≡ Some q
record-stays rs r f x q e = record-older rs r x (known-isnt-newest rs r x f (record-is-of rs x q e).1) ∙ e

-- its parents are known
pub parents-known : (rs : List Record) → Grows rs → (x : StateId) (q : Record) → record_at rs x ≡ Some q → IsTrue (list_all (is_known rs) q.parents)
parents-known [] g x q e = absurd (none-some q e)
parents-known (r ∷ rs) g x q e = elim (cases_Bool (same_id x r.id)) [
  | inl t ↦
      all-implies (is_known rs) (is_known (r ∷ rs)) (known-stays rs r) q.parents
      (subst (λ (p : Record). IsTrue (list_all (is_known rs) p.parents)) (same_Some r q (sym (record-newest rs r x t) ∙ e)) g.0.parents)
  | inr f ↦
      all-implies (is_known rs) (is_known (r ∷ rs)) (known-stays rs r) q.parents
      (parents-known rs g.1 x q (sym (record-older rs r x f) ∙ e))
]

-- the state writes the keys of its record
record-writes : (rs : List Record) (k : List ℕ) (x : StateId) (q : Record) → record_at rs x ≡ Some q → IsTrue (has_key k q.writes) → IsTrue (writes_key rs k x)
record-writes [] k x q e has = absurd (none-some q e)
record-writes (r ∷ rs) k x q e has = elim (cases_Bool (same_id x r.id)) [
  | inl t ↦
      let same = same_Some r q (sym (record-newest rs r x t) ∙ e) in
      or_left (same_id x r.id && has_key k r.writes) (writes_key rs k x)
      (and_from (same_id x r.id) (has_key k r.writes) t (subst (λ (p : Record). IsTrue (has_key k p.writes)) (sym same) has))
  | inr f ↦
      or_right (same_id x r.id && has_key k r.writes) (writes_key rs k x)
      (record-writes rs k x q (sym (record-older rs r x f) ∙ e) has)
]

-- ===== What it wrote

-- where its state is the latest writer, what it wrote is read
pub latest-is-read : (rs : List Record) → IsDag rs → (k : List ℕ) (y x : StateId) (q : Record) (w : Write) → record_at rs x ≡ Some q → write_of k q.writes
    ≡ Some w →
    IsLatestWriter rs k y x → read rs k y ≡ Some (x, w)
latest-is-read rs dag k y x q w e writes l =
    let u = latest-is-found rs k y x l in
    let m = latest-is-latest rs k y u.0 u.1 in
    let same = above-antisymmetric rs dag u.0 x (l.below u.0 m.writes) (m.below x l.writes) in
    let written : version_at rs k x ≡ Some (x, w) =
    ap (λ o. option_map (λ (v : Write). (x, v)) (option_and_then (λ (r : Record). write_of k r.writes) o)) e ∙ ap (option_map (λ (v : Write). (x, v))) writes in
    ap (option_and_then (version_at rs k)) (u.1 ∙ ap (λ z. Some z) same) ∙ written

-- at a state at or below it that no state below it wrote over
pub shown-below : (rs : List Record) → IsDag rs → (k : List ℕ) (x y : StateId) (q : Record) (w : Write) → record_at rs x ≡ Some q → write_of k q.writes
    ≡ Some w →
    IsTrue (is_known rs y) → IsTrue (is_above rs x y) → ((z : StateId) → IsTrue (is_proper_ancestor rs x z) → IsTrue (is_writer rs k y z) → ⊥) →
    read rs k y ≡ Some (x, w)
shown-below rs dag k x y q w e writes known above none =
    let key = record-writes rs k x q e (write-has-key k q.writes w writes) in
    let its = and_from (writes_key rs k x) (is_above rs x y) key above in
    let l = has-latest rs (dag-grows rs dag) k y known x its in
    let over = l.1.below x its in
    elim (cases_Bool (same_id x l.0)) [
      | inl t ↦ latest-is-read rs dag k y x q w e writes (subst (λ z. IsLatestWriter rs k y z) (sym (same_id-true x l.0 t)) l.1)
      | inr f ↦ absurd (none l.0 (and_from (is_above rs x l.0) (not (same_id x l.0)) over (not_from_false (same_id x l.0) f)) l.1.writes)
    ]

-- at its own state
pub own-is-read : (rs : List Record) → IsDag rs → (k : List ℕ) (x : StateId) (q : Record) (w : Write) → record_at rs x ≡ Some q → write_of k q.writes
    ≡ Some w → read rs k x ≡ Some (x, w)
own-is-read rs dag k x q w e writes =
    let key = record-writes rs k x q e (write-has-key k q.writes w writes) in
    latest-is-read rs dag k x x q w e writes
    (record {
      writes = and_from (writes_key rs k x) (is_above rs x x) key (above-reflexive rs x);
      below = λ v h. (and_parts (writes_key rs k v) (is_above rs v x) h).1;
    })

-- ===== What it didn't write

older-dag : (rs : List Record) (r : Record) (x : StateId) (q : Record) → IsDag (r ∷ rs) → record_at rs x ≡ Some q → IsDag rs
older-dag [] r x q dag e = absurd (none-some q e)
older-dag (s ∷ rs) r x q dag e = dag.1

-- it is read as the value over its parents
pub joined : (rs : List Record) → IsDag rs → (k : List ℕ) (x : StateId) (q : Record) → record_at rs x ≡ Some q → IsFalse (has_key k q.writes) →
    read rs k x ≡ value_over rs q.parents k
joined [] dag k x q e lacks = absurd (dag)
joined (r ∷ rs) dag k x q e lacks =
    let g = dag-grows (r ∷ rs) dag in
    elim (cases_Bool (same_id x r.id)) [
      | inl t ↦
          let same = same_Some r q (sym (record-newest rs r x t) ∙ e) in
          let at : read (r ∷ rs) k r.id ≡ value_over (r ∷ rs) r.parents k =
          newest-joins rs r g.0 g.1 k (ap (λ (p : Record). has_key k p.writes) same ∙ lacks) dag
          ∙ sym (value-over-stays rs r g.0 g.1 k r.parents g.0.parents) in
          ap (read (r ∷ rs) k) (same_id-true x r.id t) ∙ (at ∙ ap (λ (p : Record). value_over (r ∷ rs) p.parents k) same)
      | inr f ↦
          let before = sym (record-older rs r x f) ∙ e in
          let of = record-is-of rs x q before in
          read-stays rs r g.0 g.1 k x of.1
          ∙ (joined rs (older-dag rs r x q dag before) k x q before lacks ∙ sym (value-over-stays rs r g.0 g.1 k q.parents (parents-known rs g.1 x q before)))
    ]

-- and is no conflict key of them
pub no-conflict : (rs : List Record) → Grows rs → (k : List ℕ) (x : StateId) (q : Record) → record_at rs x ≡ Some q → IsFalse (has_key k q.writes) →
    IsFalse (is_conflict_key rs q.parents k)
no-conflict [] g k x q e lacks = absurd (none-some q e)
no-conflict (r ∷ rs) g k x q e lacks = elim (cases_Bool (same_id x r.id)) [
  | inl t ↦
      let same = same_Some r q (sym (record-newest rs r x t) ∙ e) in
      let none : IsFalse (is_conflict_key rs r.parents k) =
      false_from_ne_true (is_conflict_key rs r.parents k)
      (λ c. both_ways (has_key k r.writes) (ap (λ (p : Record). has_key k p.writes) same ∙ lacks) (g.0.merges k c)) in
      ap (λ (p : Record). is_conflict_key (r ∷ rs) p.parents k) (sym same) ∙ (conflict-stays rs r g.0 g.1 k r.parents g.0.parents ∙ none)
  | inr f ↦
      let before = sym (record-older rs r x f) ∙ e in
      conflict-stays rs r g.0 g.1 k q.parents (parents-known rs g.1 x q before) ∙ no-conflict rs g.1 k x q before lacks
]

-- ===== Branches

root-has-record : (rs : List Record) → IsDag rs → record_at rs root ≡ Some root_record
root-has-record [] dag = absurd (dag)
root-has-record (r ∷ []) dag = subst (λ (p : Record). record_at (p ∷ []) root ≡ Some root_record) (sym dag) refl
root-has-record (r ∷ s ∷ rs) dag =
    record-older (s ∷ rs) r root (known-isnt-newest (s ∷ rs) r root (next-fits (s ∷ rs) r dag.0) (root-is-known (s ∷ rs) dag.1))
    ∙ root-has-record (s ∷ rs) dag.1

pub branch-is-read : (rs : List Record) → IsDag rs → (k : List ℕ) (branch : List Record) (x : StateId) → IsBranch rs branch x →
    read rs k x ≡ one_after_another branch k
branch-is-read rs dag k [] x e = ap (read rs k) e ∙ joined rs dag k root root_record (root-has-record rs dag) refl
branch-is-read rs dag k (r ∷ branch) x h = go (branch-is-read rs dag k branch h.0 h.3) (write_of k r.writes) refl
  where
    go : read rs k h.0 ≡ one_after_another branch k → (o : Option Write) → write_of k r.writes ≡ o →
        read rs k x ≡ elim o as (λ p. Option (StateId × Write)) [ Some w ↦ Some (r.id, w) | None ↦ one_after_another branch k ]
    go above (Some w) e = own-is-read rs dag k x r w h.1 e ∙ ap (λ (z : StateId). Some (z, w)) (sym (record-is-of rs x r h.1).0)
    go above None e =
        joined rs dag k x r h.1 (no-write-no-key k r.writes e)
        ∙ (ap (λ (ps : List StateId). value_over rs ps k) h.2 ∙ (value-over-one rs h.0 k ∙ above))
