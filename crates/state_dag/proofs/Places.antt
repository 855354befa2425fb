-- Entries by the places of their nodes.
pub use Rattle.state_dag.specs.Views.{AllDiffer}
use Rattle.std.proofs.Common.{◌≡◌, ℕ, ◌+◌, ◌<◌, ◌≤◌, true, false, ◌≢◌, List, [], ◌∷◌, ◌++◌, length, map, get_or, find, Some, None, is_some, eqb, refl, sym}
use Rattle.std.proofs.Common.{ap, subst, inl, inr, eq-eqb, eqb-true, arith}
use Rattle.std.proofs.lemmas.Bool.{cases_Bool, both_ways, false_from_ne_true, or_left, or_right}
use Rattle.std.specs.Option.{option_map}
use Rattle.std.specs.Prelude.{slice_get}
use Rattle.std.proofs.lemmas.Option.{none-some, same_Some}
use Rattle.tardis_base.specs.declared.ids.StateId.{StateId}
use Rattle.tardis_base.specs.declared.ids.Slot.{Slot}
use Rattle.tardis_base.specs.Ids.{same_id, is_among}
use Rattle.plain_dag.proofs.Ids.{same_id-true, same_id_from}
use Rattle.state_dag.specs.declared.nodes.Node.{Node}
use Rattle.state_dag.specs.Table.{Entry}
use Rattle.state_dag.specs.Views.{entry_of, entries_from}
use Rattle.state_dag.specs.Answers.{next_of, slot_after}

-- at the number of a place its entry is found
find-place : (ns : List Node) (p k : ℕ) (d : Node) → k < length ns → find (λ e. eqb e.slot.0 (p + k)) (entries_from p ns)
    ≡ Some (entry_of (p + k) (get_or ns k d))
find-place [] p k d lt = absurd (omega arith)
find-place (n ∷ ns) p ℕ.zero d lt =
    let same : p + ℕ.zero ≡ p = omega arith in
    rw same (rw (eq-eqb p p refl) refl)
find-place (n ∷ ns) p (ℕ.suc k) d lt =
    let other : eqb p (p + ℕ.suc k) ≡ false = false_from_ne_true (eqb p (p + ℕ.suc k)) (λ t. let e = eqb-true p (p + ℕ.suc k) t in omega arith) in
    let same : (p + 1) + k ≡ p + ℕ.suc k = omega arith in
    rw other (subst (λ m. find (λ e. eqb e.slot.0 m) (entries_from (p + 1) ns) ≡ Some (entry_of m (get_or ns k d))) same
    (find-place ns (p + 1) k d (omega arith)))

-- beyond the places nothing is
pub find-beyond : (ns : List Node) (p k : ℕ) → p + length ns ≤ k → find (λ e. eqb e.slot.0 k) (entries_from p ns) ≡ None
find-beyond [] p k le = refl
find-beyond (n ∷ ns) p k le =
    let other : eqb p k ≡ false = false_from_ne_true (eqb p k) (λ t. let e = eqb-true p k t in omega arith) in
    rw other (find-beyond ns (p + 1) k (omega arith))

pub entry-found : (ns : List Node) (k : ℕ) (d : Node) → k < length ns → find (λ e. eqb e.slot.0 k) (entries_from 0 ns) ≡ Some (entry_of k (get_or ns k d))
entry-found ns k d lt =
    let same : 0 + k ≡ k = omega arith in
    subst (λ m. find (λ e. eqb e.slot.0 m) (entries_from 0 ns) ≡ Some (entry_of m (get_or ns k d))) same (find-place ns 0 k d lt)

pub length-entries : (ns : List Node) (p : ℕ) → length (entries_from p ns) ≡ length ns
length-entries [] p = refl
length-entries (n ∷ ns) p = let e = length-entries ns (p + 1) in omega arith

-- ===== Ids

-- the ids of the nodes from a place on
abbrev pub ids_from : ℕ → List Node → List StateId
ids_from p ns = map (λ e. e.id) (entries_from p ns)

-- the id behind so many others is that at so many places further on
pub named-at : (ns : List Node) (p : ℕ) (zs ys : List StateId) (x : StateId) → ids_from p ns ≡ zs ++ x ∷ ys →
    option_map (λ e. e.id) (find (λ e. eqb e.slot.0 (p + length zs)) (entries_from p ns)) ≡ Some x
named-at [] p [] ys x h = absurd (let bad : ⊥ = cc in bad)
named-at [] p (z ∷ zs) ys x h = absurd (let bad : ⊥ = cc in bad)
named-at (n ∷ ns) p [] ys x h =
    let is : n.id ≡ x = cc in
    let same : p + 0 ≡ p = omega arith in
    subst (λ k. option_map (λ (e : Entry). e.id) (find (λ (e : Entry). eqb e.slot.0 k) (entries_from p (n ∷ ns))) ≡ Some x) (sym same)
    (rw (eq-eqb p p refl) (ap (λ z. Some z) is))
named-at (n ∷ ns) p (z ∷ zs) ys x h =
    let rest : ids_from (p + 1) ns ≡ zs ++ x ∷ ys = cc in
    let same : (p + 1) + length zs ≡ p + length (z ∷ zs) = omega arith in
    let other : eqb p (p + length (z ∷ zs)) ≡ false = false_from_ne_true (eqb p (p + length (z ∷ zs))) (λ t. let e = eqb-true p (p + length (z ∷ zs)) t in
    omega arith) in
    rw other (subst (λ k. option_map (λ (e : Entry). e.id) (find (λ (e : Entry). eqb e.slot.0 k) (entries_from (p + 1) ns)) ≡ Some x) same
    (named-at ns (p + 1) zs ys x rest))

pub length-ids : (ns : List Node) (p : ℕ) → length (ids_from p ns) ≡ length ns
length-ids [] p = refl
length-ids (n ∷ ns) p = let e = length-ids ns (p + 1) in omega arith

-- ===== The next place

pub after-place : (ns : List Node) (p k : ℕ) → p ≤ k → k + 1 < p + length ns → slot_after (entries_from p ns) (Some (record { 0 = k }))
    ≡ Some (record { 0 = k + 1 })
after-place [] p k le lt = absurd (omega arith)
after-place (n ∷ []) p k le lt = absurd (omega arith)
after-place (n ∷ m ∷ ns) p k le lt = elim (cases_Bool (eqb p k)) [
  | inl t ↦
      let slot : ℕ → Slot = λ z. record { 0 = z } in
      let e = eqb-true p k t in
      rw t (ap (λ z. Some (slot (z + 1))) e)
  | inr f ↦
      let other : p ≢ k = λ e. both_ways (eqb p k) f (eq-eqb p k e) in
      rw f (after-place (m ∷ ns) (p + 1) k (omega arith) (omega arith))
]

pub after-last : (ns : List Node) (p k : ℕ) → k + 1 ≡ p + length ns → slot_after (entries_from p ns) (Some (record { 0 = k })) ≡ None
after-last [] p k e = refl
after-last (n ∷ []) p k e = rw (eq-eqb p k (omega arith)) refl
after-last (n ∷ m ∷ ns) p k e =
    let other : eqb p k ≡ false = false_from_ne_true (eqb p k) (λ t. let same = eqb-true p k t in omega arith) in
    rw other (after-last (m ∷ ns) (p + 1) k (omega arith))

-- ===== Ids that differ

first-named : (ns : List Node) (p : ℕ) → slice_get (ids_from p ns) 0 ≡ option_map (λ e. e.id) (find (λ e. eqb e.slot.0 p) (entries_from p ns))
first-named [] p = refl
first-named (n ∷ ns) p = rw (eq-eqb p p refl) refl

named-is_among : (ns : List Node) (p k : ℕ) (x : StateId) → option_map (λ e. e.id) (find (λ e. eqb e.slot.0 k) (entries_from p ns)) ≡ Some x →
    is_among x (ids_from p ns) ≡ true
named-is_among [] p k x h = absurd (none-some x h)
named-is_among (n ∷ ns) p k x h = elim (cases_Bool (eqb p k)) [
  | inl t ↦
      let is : n.id ≡ x = same_Some n.id x (rw t at h) in
      or_left (same_id x n.id) (is_among x (ids_from (p + 1) ns)) (same_id_from x n.id (sym is))
  | inr f ↦ or_right (same_id x n.id) (is_among x (ids_from (p + 1) ns)) (named-is_among ns (p + 1) k x (rw f at h))
]

named-isnt_before : (ns : List Node) (p k : ℕ) (x : StateId) → option_map (λ e. e.id) (find (λ e. eqb e.slot.0 k) (entries_from p ns)) ≡ Some x → p ≤ k
named-isnt_before [] p k x h = absurd (none-some x h)
named-isnt_before (n ∷ ns) p k x h = elim (cases_Bool (eqb p k)) [
  | inl t ↦ (let e = eqb-true p k t in omega arith)
  | inr f ↦ (let le = named-isnt_before ns (p + 1) k x (rw f at h) in omega arith)
]

-- where ids differ, the id behind that at a place is the next id
pub next-named : (ns : List Node) (p k : ℕ) (x : StateId) → AllDiffer (ids_from p ns) →
    option_map (λ e. e.id) (find (λ e. eqb e.slot.0 k) (entries_from p ns)) ≡ Some x →
    next_of (ids_from p ns) (Some x) ≡ option_map (λ e. e.id) (find (λ e. eqb e.slot.0 (k + 1)) (entries_from p ns))
next-named [] p k x differ h = absurd (none-some x h)
next-named (n ∷ ns) p k x differ h = elim (cases_Bool (eqb p k)) [
  | inl t ↦
      let place = eqb-true p k t in
      let is : n.id ≡ x = same_Some n.id x (rw t at h) in
      let other : eqb p (k + 1) ≡ false = false_from_ne_true (eqb p (k + 1)) (λ u. let e = eqb-true p (k + 1) u in omega arith) in
      rw (same_id_from x n.id (sym is), other)
      (subst (λ m. slice_get (ids_from (p + 1) ns) 0 ≡ option_map (λ (e : Entry). e.id)
      (find (λ (e : Entry). eqb e.slot.0 (m + 1)) (entries_from (p + 1) ns))) place (first-named ns (p + 1)))
  | inr f ↦
      let there = rw f at h in
      let behind = named-isnt_before ns (p + 1) k x there in
      let other : eqb p (k + 1) ≡ false = false_from_ne_true (eqb p (k + 1)) (λ u. let e = eqb-true p (k + 1) u in omega arith) in
      let apart : same_id x n.id ≡ false =
      false_from_ne_true (same_id x n.id) (λ u. both_ways (is_among n.id (ids_from (p + 1) ns)) differ.0
      (subst (λ z. is_among z (ids_from (p + 1) ns) ≡ true) (same_id-true x n.id u) (named-is_among ns (p + 1) k x there))) in
      rw (apart, other) (next-named ns (p + 1) k x differ.1 there)
]

-- ===== Each slot names its state

slot-names : (ns : List Node) (all : List Entry) (p : ℕ) → ((k : ℕ) (d : Node) → k < length ns → find (λ e. eqb e.slot.0 (p + k)) all
    ≡ Some (entry_of (p + k) (get_or ns k d))) →
    map (λ e. option_map (λ f. f.id) (find (λ f. eqb f.slot.0 e.slot.0) all)) (entries_from p ns) ≡ map (λ e. Some e.id) (entries_from p ns)
slot-names [] all p found = refl
slot-names (n ∷ ns) all p found =
    let zero : p + 0 ≡ p = omega arith in
    let here : find (λ e. eqb e.slot.0 p) all ≡ Some (entry_of p n) = subst (λ m. find (λ (e : Entry). eqb e.slot.0 m) all ≡ Some (entry_of m n)) zero
    (found 0 n (omega arith)) in
    let rest = slot-names ns all (p + 1) (λ k d lt.
    let next : p + ℕ.suc k ≡ (p + 1) + k = omega arith in
    subst (λ m. find (λ (e : Entry). eqb e.slot.0 m) all ≡ Some (entry_of m (get_or ns k d))) next (found (ℕ.suc k) d (omega arith))) in
    rw here (ap (λ zs. Some n.id ∷ zs) rest)

pub slots-name : (ns : List Node) →
    map (λ e. option_map (λ f. f.id) (find (λ f. eqb f.slot.0 e.slot.0) (entries_from 0 ns))) (entries_from 0 ns) ≡ map (λ e. Some e.id) (entries_from 0 ns)
slots-name ns = slot-names ns (entries_from 0 ns) 0 (λ k d lt. find-place ns 0 k d lt)

-- each place is found
pub find-some : (ns : List Node) (p k : ℕ) → p ≤ k → k < p + length ns → is_some (find (λ e. eqb e.slot.0 k) (entries_from p ns)) ≡ true
find-some [] p k le lt = absurd (omega arith)
find-some (n ∷ ns) p k le lt = elim (cases_Bool (eqb p k)) [
  | inl t ↦ rw t refl
  | inr f ↦
      let other : p ≢ k = λ e. both_ways (eqb p k) f (eq-eqb p k e) in
      rw f (find-some ns (p + 1) k (omega arith) (omega arith))
]
