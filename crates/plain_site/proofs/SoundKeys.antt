-- The keys and the writes of a transaction: what one more leaves of their order, their shape and their number.
use Rattle.std.proofs.Common.{◌≡◌, ℕ, suc, ◌≤◌, Bool, true, not, cond, List, [], ◌∷◌, length, IsTrue, IsFalse, inl, inr, refl, sym, ap, subst, ◌∙◌, arith}
use Rattle.std.proofs.Common.{bytes_eq}
use Rattle.std.specs.Prelude.{◌==◌, ◌&&◌, ◌||◌, nat_le}
use Rattle.std.specs.List.{list_all}
use Rattle.std.specs.Ordering.{is_lt}
use Rattle.std.proofs.lemmas.Bool.{and_parts, and_from, and_cases, or_cases, cases_Bool, cond_both, le-leb, leb-true, eqb-false, not-false}
use Rattle.std.proofs.lemmas.Cmp.{nat_list_cmp_total, tied_itself}
use Rattle.tardis_base.specs.declared.records.Write.{Write}
use Rattle.tardis_base.specs.Keys.{KeyWrite, is_key_before, are_ascending_keys, is_key_among, with_key, keys_of, has_key, with_write}
use Rattle.tardis_base.specs.Valid.{is_key, is_write, are_writes}
use Rattle.plain_dag.proofs.Ids.{not-both}
use Rattle.plain_dag.proofs.Keys.{key-before-transitive, neither, same-key, with-key-ascends, ascending-parts}

-- ===== Keys

before-itself : {P : Type 0} (k : List ℕ) → IsTrue (is_key_before k k) → P
before-itself k t = not-both (is_key_before k k) t (ap is_lt (tied_itself nat_list_cmp_total k))

pub with_key-cases : (k l : List ℕ) (ls : List (List ℕ)) (P : List (List ℕ) → Type 0) → (IsTrue (is_key_before k l) → P (k ∷ l ∷ ls)) →
    (IsTrue (is_key_before l k) → P (l ∷ with_key k ls)) → (k ≡ l → P (k ∷ ls)) → P (with_key k (l ∷ ls))
with_key-cases k l ls P before after here =
    let behind : List (List ℕ) = l ∷ with_key k ls in
    let instead : List (List ℕ) = k ∷ ls in
    cond_both (is_key_before k l) (k ∷ l ∷ ls) (cond (is_key_before l k) behind instead) P before
    (λ u. cond_both (is_key_before l k) behind instead P after (λ v. here (neither k l u v)))

pub with_key-all : (p : List ℕ → Bool) (k : List ℕ) (ls : List (List ℕ)) → IsTrue (list_all p ls) → IsTrue (p k) → IsTrue (list_all p (with_key k ls))
with_key-all p k [] h t = and_from (p k) true t refl
with_key-all p k (l ∷ ls) h t =
    let parts = and_parts (p l) (list_all p ls) h in
    let rest = with_key-all p k ls parts.1 t in
    with_key-cases k l ls (λ ks. IsTrue (list_all p ks)) (λ b. and_from (p k) (list_all p (l ∷ ls)) t h)
    (λ b. and_from (p l) (list_all p (with_key k ls)) parts.0 rest) (λ e. and_from (p k) (list_all p ls) t parts.1)

pub with_key-length : (k : List ℕ) (ls : List (List ℕ)) → length (with_key k ls) ≤ suc (length ls)
with_key-length k [] = omega arith
with_key-length k (l ∷ ls) =
    let rest = with_key-length k ls in
    with_key-cases k l ls (λ ks. length ks ≤ suc (suc (length ls))) (λ b. omega arith) (λ b. omega arith) (λ e. omega arith)

-- a key in front of the first of some ascending keys is none of them
not-behind : {P : Type 0} (k l : List ℕ) (ls : List (List ℕ)) → IsTrue (are_ascending_keys (l ∷ ls)) → IsTrue (is_key_before k l) →
    IsTrue (is_key_among k (l ∷ ls)) → P
not-behind k l [] up b m = elim (or_cases (bytes_eq k l) (is_key_among k []) m) [
  | inl e ↦ before-itself l (subst (λ j. IsTrue (is_key_before j l)) (same-key k l e) b)
  | inr none ↦ not-both true refl (sym none)
]
not-behind k l (j ∷ ls) up b m = elim (or_cases (bytes_eq k l) (is_key_among k (j ∷ ls)) m) [
  | inl e ↦ before-itself l (subst (λ i. IsTrue (is_key_before i l)) (same-key k l e) b)
  | inr n ↦
      let parts = ascending-parts l (j ∷ ls) up in
      not-behind k j ls parts.1 (key-before-transitive k l j b parts.0) n
]

-- a key that is there already makes them no more
pub with_key-no_more : (k : List ℕ) (ls : List (List ℕ)) → IsTrue (are_ascending_keys ls) → IsTrue (is_key_among k ls) → length (with_key k ls) ≤ length ls
with_key-no_more k [] up m = not-both true refl (sym m)
with_key-no_more k (l ∷ ls) up m =
    let parts = ascending-parts l ls up in
    with_key-cases k l ls (λ ks. length ks ≤ suc (length ls)) (λ b. not-behind k l ls up b m)
    (λ b. elim (or_cases (bytes_eq k l) (is_key_among k ls) m) [
      | inl e ↦ before-itself l (subst (λ j. IsTrue (is_key_before l j)) (same-key k l e) b)
      | inr n ↦ let rest = with_key-no_more k ls parts.1 n in omega arith
    ])
    (λ e. omega arith)

-- so many keys at most, where the number was looked at
pub with_key-fits : (most : ℕ) (k : List ℕ) (ls : List (List ℕ)) → IsTrue (are_ascending_keys ls) → length ls ≤ most →
    IsFalse (length ls == most && not (is_key_among k ls)) → length (with_key k ls) ≤ most
with_key-fits most k ls up few f = elim (and_cases (length ls == most) (not (is_key_among k ls)) f) [
  | inl n ↦
      let more = with_key-length k ls in
      let differ = eqb-false (length ls) most n in
      omega arith
  | inr m ↦ let same = with_key-no_more k ls up (not-false (is_key_among k ls) m) in omega arith
]

-- ===== Writes

pub keys_of-with_write : (k : List ℕ) (w : Write) (ws : List KeyWrite) → keys_of (with_write k w ws) ≡ with_key k (keys_of ws)
keys_of-with_write k w [] = refl
keys_of-with_write k w (v ∷ vs) = elim (cases_Bool (is_key_before k v.0)) [
  | inl t ↦ rw t refl
  | inr f ↦ elim (cases_Bool (is_key_before v.0 k)) [
    | inl t ↦ rw (f, t) (ap (λ (ks : List (List ℕ)). v.0 ∷ ks) (keys_of-with_write k w vs))
    | inr g ↦ rw (f, g) refl
  ]
]

with_write-all : (p : KeyWrite → Bool) (k : List ℕ) (w : Write) (ws : List KeyWrite) → IsTrue (list_all p ws) → IsTrue (p (k, w)) →
    IsTrue (list_all p (with_write k w ws))
with_write-all p k w [] h t = and_from (p (k, w)) true t refl
with_write-all p k w (v ∷ vs) h t =
    let parts = and_parts (p v) (list_all p vs) h in
    let rest = with_write-all p k w vs parts.1 t in
    let behind : List KeyWrite = v ∷ with_write k w vs in
    let instead : List KeyWrite = (k, w) ∷ vs in
    cond_both (is_key_before k v.0) ((k, w) ∷ v ∷ vs) (cond (is_key_before v.0 k) behind instead) (λ us. IsTrue (list_all p us))
    (λ b. and_from (p (k, w)) (list_all p (v ∷ vs)) t h)
    (λ u. cond_both (is_key_before v.0 k) behind instead (λ us. IsTrue (list_all p us))
    (λ b. and_from (p v) (list_all p (with_write k w vs)) parts.0 rest) (λ b. and_from (p (k, w)) (list_all p vs) t parts.1))

has_key-keys_of : (k : List ℕ) (ws : List KeyWrite) → has_key k ws ≡ is_key_among k (keys_of ws)
has_key-keys_of k [] = refl
has_key-keys_of k (w ∷ ws) = ap (λ b. bytes_eq k w.0 || b) (has_key-keys_of k ws)

length-keys_of : (ws : List KeyWrite) → length (keys_of ws) ≡ length ws
length-keys_of [] = refl
length-keys_of (w ∷ ws) = ap suc (length-keys_of ws)

pub record AreWrites (ws : List KeyWrite) : Type 0 where
  pub few : length ws ≤ 64
  pub valid : IsTrue (list_all (λ (w : KeyWrite). is_key w.0 && is_write w.1) ws)
  pub ascend : IsTrue (are_ascending_keys (keys_of ws))

pub writes-parts : (ws : List KeyWrite) → IsTrue (are_writes ws) → AreWrites ws
writes-parts ws h =
    let valid = list_all (λ (w : KeyWrite). is_key w.0 && is_write w.1) ws in
    let up = are_ascending_keys (keys_of ws) in
    let parts = and_parts (nat_le (length ws) 64 && valid) up h in
    let first = and_parts (nat_le (length ws) 64) valid parts.0 in
    record { few = leb-true (length ws) 64 first.0; valid = first.1; ascend = parts.1 }

-- a valid write to a valid key, where there is room
pub with_write-fits : (k : List ℕ) (w : Write) (ws : List KeyWrite) → IsTrue (are_writes ws) → IsTrue (is_key k) → IsTrue (is_write w) →
    IsFalse (length ws == 64 && not (has_key k ws)) → IsTrue (are_writes (with_write k w ws))
with_write-fits k w ws h key write room =
    let old = writes-parts ws h in
    let new = with_write k w ws in
    let names = keys_of-with_write k w ws in
    let valid = list_all (λ (v : KeyWrite). is_key v.0 && is_write v.1) new in
    let ks : List (List ℕ) = keys_of ws in
    let count = length-keys_of ws in
    let free : IsFalse (length ks == 64 && not (is_key_among k ks)) =
    subst (λ n. IsFalse (n == 64 && not (is_key_among k ks))) (sym count)
    (subst (λ b. IsFalse (length ws == 64 && not b)) (has_key-keys_of k ws) room) in
    let few_keys : length ks ≤ 64 = subst (λ n. n ≤ 64) (sym count) old.few in
    let fits = with_key-fits 64 k ks old.ascend few_keys free in
    let few : length new ≤ 64 = subst (λ n. n ≤ 64) (sym (ap length names) ∙ length-keys_of new) fits in
    and_from (nat_le (length new) 64 && valid) (are_ascending_keys (keys_of new))
    (and_from (nat_le (length new) 64) valid (le-leb (length new) 64 few)
    (with_write-all (λ (v : KeyWrite). is_key v.0 && is_write v.1) k w ws old.valid (and_from (is_key k) (is_write w) key write)))
    (subst (λ ls. IsTrue (are_ascending_keys ls)) (sym names) (with-key-ascends k ks old.ascend))
