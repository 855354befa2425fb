-- Keys in order: lists of keys that stay ascending, and which keys they have.
pub use Rattle.tardis_base.proofs.KeySets.{ascending-with_key as with-key-ascends}
pub use Rattle.tardis_base.proofs.KeyOrder.{before-trans as key-before-transitive, cases_key as key-cases, is_first as is_before_first, ascending-parts}
pub use Rattle.tardis_base.proofs.KeyOrder.{ascending-from}
use Rattle.std.proofs.Common.{◌≡◌, ℕ, Bool, true, false, ◌&&◌, cond, List, [], ◌∷◌, IsTrue, IsFalse, inl, inr, refl, sym, subst, ◌∙◌, filter, bytes_eq}
use Rattle.std.proofs.lemmas.Bool.{and_parts, or_cases, or_left, or_right, cases_Bool, cond-true, cond-false}
use Rattle.std.proofs.lemmas.Slice.Eq.{bytes_eq-Decides}
use Rattle.tardis_base.specs.declared.records.Record.{Record}
use Rattle.tardis_base.specs.declared.ids.StateId.{StateId}
use Rattle.tardis_base.specs.Ids.{same_id}
use Rattle.tardis_base.specs.Keys.{KeyWrite, is_key_before, are_ascending_keys, is_key_among, with_key, has_key}
use Rattle.plain_dag.specs.States.{writes_key}
use Rattle.plain_dag.specs.Conflicts.{with_keys_of, written_keys}
use Rattle.plain_dag.proofs.Ids.{not-both}

-- ===== One key and another

-- two keys of which neither is before the other are the same
pub neither : (k l : List ℕ) → IsFalse (is_key_before k l) → IsFalse (is_key_before l k) → k ≡ l
neither k l n m = elim (key-cases k l) [
  | inl t ↦ not-both (is_key_before k l) t n
  | inr later ↦ elim later [
    | inl t ↦ not-both (is_key_before l k) t m
    | inr e ↦ e
  ]
]

pub same-key : (k l : List ℕ) → IsTrue (bytes_eq k l) → k ≡ l
same-key k l = (bytes_eq-Decides k l).0

pub same-key-from : (k l : List ℕ) → k ≡ l → IsTrue (bytes_eq k l)
same-key-from k l = (bytes_eq-Decides k l).1

-- ===== Keys in their places

-- where a key comes into a list: before all, after the first, or in its place
pub with-key-before : (k l : List ℕ) (ls : List (List ℕ)) → IsTrue (is_key_before k l) → with_key k (l ∷ ls) ≡ k ∷ l ∷ ls
with-key-before k l ls t = cond-true (is_key_before k l) (k ∷ l ∷ ls) (cond (is_key_before l k) (l ∷ with_key k ls) (k ∷ ls)) t

pub with-key-after : (k l : List ℕ) (ls : List (List ℕ)) → IsFalse (is_key_before k l) → IsTrue (is_key_before l k) → with_key k (l ∷ ls) ≡ l ∷ with_key k ls
with-key-after k l ls f t =
    cond-false (is_key_before k l) (k ∷ l ∷ ls) (cond (is_key_before l k) (l ∷ with_key k ls) (k ∷ ls)) f
    ∙ cond-true (is_key_before l k) (l ∷ with_key k ls) (k ∷ ls) t

pub with-key-same : (k l : List ℕ) (ls : List (List ℕ)) → IsFalse (is_key_before k l) → IsFalse (is_key_before l k) → with_key k (l ∷ ls) ≡ k ∷ ls
with-key-same k l ls f g =
    cond-false (is_key_before k l) (k ∷ l ∷ ls) (cond (is_key_before l k) (l ∷ with_key k ls) (k ∷ ls)) f
    ∙ cond-false (is_key_before l k) (l ∷ with_key k ls) (k ∷ ls) g

-- the key that comes in is there
pub has-new-key : (k : List ℕ) (ls : List (List ℕ)) → IsTrue (is_key_among k (with_key k ls))
has-new-key k [] = or_left (bytes_eq k k) false (same-key-from k k refl)
has-new-key k (l ∷ ls) = elim (cases_Bool (is_key_before k l)) [
  | inl t ↦
      subst (λ ks. IsTrue (is_key_among k ks)) (sym (with-key-before k l ls t))
      (or_left (bytes_eq k k) (is_key_among k (l ∷ ls)) (same-key-from k k refl))
  | inr n ↦ elim (cases_Bool (is_key_before l k)) [
    | inl t ↦
        subst (λ ks. IsTrue (is_key_among k ks)) (sym (with-key-after k l ls n t))
        (or_right (bytes_eq k l) (is_key_among k (with_key k ls)) (has-new-key k ls))
    | inr m ↦
        subst (λ ks. IsTrue (is_key_among k ks)) (sym (with-key-same k l ls n m))
        (or_left (bytes_eq k k) (is_key_among k ls) (same-key-from k k refl))
  ]
]

-- and the keys that were there stay
pub keeps-keys : (j k : List ℕ) (ls : List (List ℕ)) → IsTrue (is_key_among j ls) → IsTrue (is_key_among j (with_key k ls))
keeps-keys j k [] h = not-both true refl (sym h)
keeps-keys j k (l ∷ ls) h = elim (cases_Bool (is_key_before k l)) [
  | inl t ↦ subst (λ ks. IsTrue (is_key_among j ks)) (sym (with-key-before k l ls t)) (or_right (bytes_eq j k) (is_key_among j (l ∷ ls)) h)
  | inr n ↦ elim (cases_Bool (is_key_before l k)) [
    | inl t ↦ subst (λ ks. IsTrue (is_key_among j ks)) (sym (with-key-after k l ls n t)) (elim (or_cases (bytes_eq j l) (is_key_among j ls) h) [
      | inl e ↦ or_left (bytes_eq j l) (is_key_among j (with_key k ls)) e
      | inr m ↦ or_right (bytes_eq j l) (is_key_among j (with_key k ls)) (keeps-keys j k ls m)
    ])
    | inr m ↦ subst (λ ks. IsTrue (is_key_among j ks)) (sym (with-key-same k l ls n m)) (elim (or_cases (bytes_eq j l) (is_key_among j ls) h) [
      | inl e ↦ or_left (bytes_eq j k) (is_key_among j ls) (subst (λ z. IsTrue (bytes_eq j z)) (sym (neither k l n m)) e)
      | inr i ↦ or_right (bytes_eq j k) (is_key_among j ls) i
    ])
  ]
]

-- ===== Chosen keys

module _ (p : List ℕ → Bool) where
  before-chosen : (j : List ℕ) (ks : List (List ℕ)) → IsTrue (are_ascending_keys ks) → IsTrue (is_before_first j ks) → IsTrue (is_before_first j (filter p ks))
  before-chosen j [] up e = refl
  before-chosen j (k ∷ ks) up e = elim (cases_Bool (p k)) [
    | inl t ↦ subst (λ ls. IsTrue (is_before_first j ls)) (sym (cond-true (p k) (k ∷ filter p ks) (filter p ks) t)) e
    | inr f ↦
        let parts = ascending-parts k ks up in
        subst (λ ls. IsTrue (is_before_first j ls)) (sym (cond-false (p k) (k ∷ filter p ks) (filter p ks) f))
        (before-chosen j ks parts.1 (before-rest j k ks e parts.0))
  ]
    where
      before-rest : (j k : List ℕ) (ls : List (List ℕ)) → IsTrue (is_key_before j k) → IsTrue (is_before_first k ls) → IsTrue (is_before_first j ls)
      before-rest j k [] e f = refl
      before-rest j k (l ∷ ls) e f = key-before-transitive j k l e f

  pub chosen-ascend : (ks : List (List ℕ)) → IsTrue (are_ascending_keys ks) → IsTrue (are_ascending_keys (filter p ks))
  chosen-ascend [] up = refl
  chosen-ascend (k ∷ ks) up =
      let parts = ascending-parts k ks up in
      elim (cases_Bool (p k)) [
        | inl t ↦
            subst (λ ls. IsTrue (are_ascending_keys ls)) (sym (cond-true (p k) (k ∷ filter p ks) (filter p ks) t))
            (ascending-from k (filter p ks) (before-chosen k ks parts.1 parts.0) (chosen-ascend ks parts.1))
        | inr f ↦
            subst (λ ls. IsTrue (are_ascending_keys ls)) (sym (cond-false (p k) (k ∷ filter p ks) (filter p ks) f)) (chosen-ascend ks parts.1)
      ]

-- ===== Written keys

keys-of-ascend : (ws : List KeyWrite) (ks : List (List ℕ)) → IsTrue (are_ascending_keys ks) → IsTrue (are_ascending_keys (with_keys_of ws ks))
keys-of-ascend [] ks up = up
keys-of-ascend (w ∷ ws) ks up = with-key-ascends w.0 (with_keys_of ws ks) (keys-of-ascend ws ks up)

pub written-keys-ascend : (rs : List Record) → IsTrue (are_ascending_keys (written_keys rs))
written-keys-ascend [] = refl
written-keys-ascend (r ∷ rs) = keys-of-ascend r.writes (written_keys rs) (written-keys-ascend rs)

has-keys-of : (k : List ℕ) (ws : List KeyWrite) (ks : List (List ℕ)) → IsTrue (has_key k ws) → IsTrue (is_key_among k (with_keys_of ws ks))
has-keys-of k [] ks h = not-both true refl (sym h)
has-keys-of k (w ∷ ws) ks h = elim (or_cases (bytes_eq k w.0) (has_key k ws) h) [
  | inl e ↦ subst (λ z. IsTrue (is_key_among z (with_key w.0 (with_keys_of ws ks)))) (sym (same-key k w.0 e)) (has-new-key w.0 (with_keys_of ws ks))
  | inr m ↦ keeps-keys k w.0 (with_keys_of ws ks) (has-keys-of k ws ks m)
]

keeps-older-keys : (k : List ℕ) (ws : List KeyWrite) (ks : List (List ℕ)) → IsTrue (is_key_among k ks) → IsTrue (is_key_among k (with_keys_of ws ks))
keeps-older-keys k [] ks h = h
keeps-older-keys k (w ∷ ws) ks h = keeps-keys k w.0 (with_keys_of ws ks) (keeps-older-keys k ws ks h)

-- a key that some state writes is among the written ones
pub written-key-is-listed : (rs : List Record) (k : List ℕ) (x : StateId) → IsTrue (writes_key rs k x) → IsTrue (is_key_among k (written_keys rs))
written-key-is-listed [] k x h = not-both true refl (sym h)
written-key-is-listed (r ∷ rs) k x h = elim (or_cases (same_id x r.id && has_key k r.writes) (writes_key rs k x) h) [
  | inl t ↦ has-keys-of k r.writes (written_keys rs) (and_parts (same_id x r.id) (has_key k r.writes) t).1
  | inr m ↦ keeps-older-keys k r.writes (written_keys rs) (written-key-is-listed rs k x m)
]
