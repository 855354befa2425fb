-- Reads that are held, of two histories.
use Rattle.std.proofs.Common.{◌≡◌, ℕ, zero, suc, ◌<◌, true, List, [], ◌∷◌, length, map, filter, get_or, slice_get, Option, Some, IsTrue, inl, inr}
use Rattle.std.proofs.Common.{refl, sym, ap, ap₂, subst, ◌∙◌, arith}
use Rattle.std.proofs.lemmas.Option.{none-some, same_Some}
use Rattle.std.proofs.lemmas.List.{length-map}
use Rattle.tardis_base.specs.declared.ids.StateId.{StateId}
use Rattle.tardis_base.specs.declared.ids.Slot.{Slot}
use Rattle.tardis_base.specs.declared.records.Record.{Record}
use Rattle.tardis_base.specs.declared.records.Write.{Write}
use Rattle.tardis_base.specs.Ids.{is_among}
use Rattle.plain_dag.specs.Writers.{read}
use Rattle.plain_dag.specs.Collection.{kept_states}
use Rattle.plain_dag.proofs.Ids.{same_test, not-both, among-first, among-later, among-cases}
use Rattle.plain_dag.proofs.Searches.{among-filter, filtered-passes, filter-agrees}
use Rattle.record_store.specs.Stands.{holds_key, held_reads}
use Rattle.twin_stores.specs.Reads.{HoldTheSame}

-- ===== Places

-- a state at a place is one of these
pub some-at : (xs : List StateId) (i : ℕ) → i < length xs → (x : StateId) × (slice_get xs i ≡ Some x) × IsTrue (is_among x xs)
some-at [] i lt = absurd (omega arith)
some-at (x ∷ xs) zero lt = (x, refl, among-first x xs)
some-at (x ∷ xs) (suc i) lt = (let w = some-at xs i (omega arith) in (w.0, w.1, among-later w.0 x xs w.2))

-- each of these has a place
pub place-of : (xs : List StateId) (x : StateId) → IsTrue (is_among x xs) → (i : ℕ) × (i < length xs) × (slice_get xs i ≡ Some x)
place-of [] x m = not-both true refl (sym m)
place-of (y ∷ xs) x m = elim (among-cases x y xs m) [
  | inl is ↦ (zero, omega arith, ap (λ z. Some z) (sym is))
  | inr later ↦ (let w = place-of xs x later in let lt = w.1 in (suc w.0, omega arith, w.2))
]

-- the slot at a place names the state there
pub place-names : (name : Slot → Option StateId) (ss : List Slot) (xs : List StateId) → map name ss ≡ map (λ x. Some x) xs → (i : ℕ) (x : StateId) (d : Slot) →
    slice_get xs i ≡ Some x → name (get_or ss i d) ≡ Some x
place-names name [] [] are i x d got = absurd (none-some x got)
place-names name [] (y ∷ xs) are i x d got = absurd (let bad : ⊥ = cc in bad)
place-names name (s ∷ ss) [] are i x d got = absurd (none-some x got)
place-names name (s ∷ ss) (y ∷ xs) are zero x d got = (let here : name s ≡ Some y = cc in here ∙ got)
place-names name (s ∷ ss) (y ∷ xs) are (suc i) x d got = (let rest : map name ss ≡ map (λ z. Some z) xs = cc in place-names name ss xs rest i x d got)

pub named-length : (name : Slot → Option StateId) (ss : List Slot) (xs : List StateId) → map name ss ≡ map (λ x. Some x) xs → length ss ≡ length xs
named-length name ss xs are = sym (length-map ss name) ∙ (ap length are ∙ length-map xs (λ x. Some x))

-- ===== States with what is read at them

abbrev Read : Type 0
Read = Option (StateId × Write)

abbrev Shown : Type 0
Shown = Option StateId × Read

abbrev with_read : (StateId → Read) → StateId → Shown
with_read u x = (Some x, u x)

-- the same states
same-states : (u v : StateId → Read) (xs ys : List StateId) → map (with_read u) xs ≡ map (with_read v) ys → xs ≡ ys
same-states u v [] [] e = refl
same-states u v [] (y ∷ ys) e = absurd (let bad : ⊥ = cc in bad)
same-states u v (x ∷ xs) [] e = absurd (let bad : ⊥ = cc in bad)
same-states u v (x ∷ xs) (y ∷ ys) e =
    let here : with_read u x ≡ with_read v y = cc in
    let rest : map (with_read u) xs ≡ map (with_read v) ys = cc in
    ap₂ (λ (z : StateId) (zs : List StateId). z ∷ zs) (same_Some x y (ap (λ (p : Shown). p.0) here)) (same-states u v xs ys rest)

-- the same reads
same-reads : (u v : StateId → Read) (xs : List StateId) → map (with_read u) xs ≡ map (with_read v) xs → (x : StateId) → IsTrue (is_among x xs) → u x ≡ v x
same-reads u v [] e x m = not-both true refl (sym m)
same-reads u v (y ∷ xs) e x m =
    let here : with_read u y ≡ with_read v y = cc in
    let rest : map (with_read u) xs ≡ map (with_read v) xs = cc in
    elim (among-cases x y xs m) [
      | inl is ↦ subst (λ z. u z ≡ v z) (sym is) (ap (λ (p : Shown). p.1) here)
      | inr later ↦ same-reads u v xs rest x later
    ]

reads-agree : (u v : StateId → Read) (xs : List StateId) → ((x : StateId) → IsTrue (is_among x xs) → u x ≡ v x) → map (with_read u) xs ≡ map (with_read v) xs
reads-agree u v [] same = refl
reads-agree u v (x ∷ xs) same =
    ap₂ (λ (p : Shown) (ps : List Shown). p ∷ ps) (ap (λ (r : Read). let shown : Shown = (Some x, r) in shown) (same x (among-first x xs)))
    (reads-agree u v xs (λ y m. same y (among-later y x xs m)))

module _ (rs : List Record) (ks : List StateId) (rs' : List Record) (ks' : List StateId) (kept : kept_states rs ks ≡ kept_states rs' ks') where
  -- where the same is held, the same reads are
  pub reads-from : HoldTheSame rs ks rs' ks' → (k : List ℕ) → held_reads rs ks k ≡ held_reads rs' ks' k
  reads-from all k =
      let p = holds_key rs ks k in
      let q = holds_key rs' ks' k in
      let xs = kept_states rs ks in
      let states : filter p xs ≡ filter q (kept_states rs' ks') =
      filter-agrees p q xs (λ x m. same_test (p x) (q x) (λ h. ((all x m).0 k h).0) (λ h. ((all x m).1 k h).0)) ∙ ap (filter q) kept in
      reads-agree (read rs k) (read rs' k) (filter p xs) (λ x m. let w = filtered-passes p xs x m in ((all x w.0).0 k w.1).1)
      ∙ ap (map (with_read (read rs' k))) states

  -- and where the same reads are held, the same is
  pub held-from : ((k : List ℕ) → held_reads rs ks k ≡ held_reads rs' ks' k) → HoldTheSame rs ks rs' ks'
  held-from same x m = (
    λ k h. (let there = subst (λ zs. IsTrue (is_among x zs)) (states k) (here k h) in
        ((filtered-passes (holds_key rs' ks' k) (kept_states rs' ks') x there).1, reads k (here k h))),
    λ k h. (let back = subst (λ zs. IsTrue (is_among x zs)) (sym (states k))
        (among-filter (holds_key rs' ks' k) (kept_states rs' ks') x (subst (λ zs. IsTrue (is_among x zs)) kept m) h) in
        ((filtered-passes (holds_key rs ks k) (kept_states rs ks) x back).1, sym (reads k back))),
  )
    where
      here : (k : List ℕ) → IsTrue (holds_key rs ks k x) → IsTrue (is_among x (filter (holds_key rs ks k) (kept_states rs ks)))
      here k h = among-filter (holds_key rs ks k) (kept_states rs ks) x m h

      states : (k : List ℕ) → filter (holds_key rs ks k) (kept_states rs ks) ≡ filter (holds_key rs' ks' k) (kept_states rs' ks')
      states k =
          same-states (read rs k) (read rs' k) (filter (holds_key rs ks k) (kept_states rs ks)) (filter (holds_key rs' ks' k) (kept_states rs' ks')) (same k)

      reads : (k : List ℕ) → IsTrue (is_among x (filter (holds_key rs ks k) (kept_states rs ks))) → read rs k x ≡ read rs' k x
      reads k n =
          same-reads (read rs k) (read rs' k) (filter (holds_key rs ks k) (kept_states rs ks))
          (same k ∙ ap (map (with_read (read rs' k))) (sym (states k))) x n
