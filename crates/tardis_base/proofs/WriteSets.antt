-- What `with_write`, `write_of` and `has_key` do to writes with ascending keys.
use Rattle.std.proofs.Common.{◌≡◌, ℕ, ◌<◌, ◌≤◌, Bool, true, false, ◌||◌, List, [], ◌∷◌, ◌++◌, Some, None, length, get_or, set, refl, sym, ◌∙◌, ap, subst, inl}
use Rattle.std.proofs.Common.{inr, arith}
use Rattle.std.specs.declared.cmp.Ordering.TheVariants.{Less, Greater}
use Rattle.std.specs.Ordering.{nat_cmp}
use Rattle.std.specs.Cmp.Lexicographic.{slice_cmp}
use Rattle.std.specs.Str.{bytes_eq}
use Rattle.std.specs.List.{AllWithin, insert, list_all}
use Rattle.std.specs.Option.{is_some}
use Rattle.std.proofs.lemmas.Bool.{and_parts, and_from, or_parts, cases_Bool}
use Rattle.std.proofs.lemmas.List.{map-append, length-map}
use Rattle.tardis_base.specs.declared.records.Write.{Write}
use Rattle.tardis_base.specs.Keys.{KeyWrite, is_key_before, are_ascending_keys, with_key, keys_of, has_key, is_key_among, write_of, with_write}
use Rattle.tardis_base.proofs.KeyOrder.{cases_key, before-back, before-itself, before-later, bytes_eq-itself, bytes_eq-other, bytes_eq-after, ascending-parts}
use Rattle.tardis_base.proofs.KeyOrder.{before-from_Less, before-from_Greater}
use Rattle.tardis_base.proofs.KeySets.{with_key-before, with_key-after, with_key-here, ascending-with_key, before-last}

pub with_write-before : (k : List ℕ) (w : Write) (v : KeyWrite) (vs : List KeyWrite) → is_key_before k v.0 ≡ true → with_write k w (v ∷ vs) ≡ (k, w) ∷ v ∷ vs
with_write-before k w v vs e = rw e refl

pub with_write-after : (k : List ℕ) (w : Write) (v : KeyWrite) (vs : List KeyWrite) → is_key_before v.0 k ≡ true → with_write k w (v ∷ vs) ≡ v
    ∷ with_write k w vs
with_write-after k w v vs e = rw (before-back v.0 k e, e) refl

pub with_write-here : (k : List ℕ) (w : Write) (v : KeyWrite) (vs : List KeyWrite) → k ≡ v.0 → with_write k w (v ∷ vs) ≡ (k, w) ∷ vs
with_write-here k w v vs e =
    let front : is_key_before k v.0 ≡ false = subst (λ z. is_key_before k z ≡ false) e (before-itself k) in
    let back : is_key_before v.0 k ≡ false = subst (λ z. is_key_before z k ≡ false) e (before-itself k) in
    rw (front, back) refl

-- where a write goes into writes that are not none
pub with_write_cases : (k : List ℕ) (w : Write) (v : KeyWrite) (vs : List KeyWrite) (P : List KeyWrite → Type 0) →
    (is_key_before k v.0 ≡ true → P ((k, w) ∷ v ∷ vs)) → (is_key_before v.0 k ≡ true → P (v ∷ with_write k w vs)) → (k ≡ v.0 → P ((k, w) ∷ vs)) →
    P (with_write k w (v ∷ vs))
with_write_cases k w v vs P before after here =
    elim (cases_key k v.0) as (λ _. P (with_write k w (v ∷ vs))) [
      | inl e ↦ subst P (sym (with_write-before k w v vs e)) (before e)
      | inr (inl e) ↦ subst P (sym (with_write-after k w v vs e)) (after e)
      | inr (inr e) ↦ subst P (sym (with_write-here k w v vs e)) (here e)
    ]

-- the keys that are written then are those from before, with this one
pub keys_of-with_write : (k : List ℕ) (w : Write) (ws : List KeyWrite) → keys_of (with_write k w ws) ≡ with_key k (keys_of ws)
keys_of-with_write k w [] = refl
keys_of-with_write k w (v ∷ vs) =
    with_write_cases k w v vs (λ zs. keys_of zs ≡ with_key k (v.0 ∷ keys_of vs))
    (λ e. sym (with_key-before k v.0 (keys_of vs) e))
    (λ e. ap (λ zs. v.0 ∷ zs) (keys_of-with_write k w vs) ∙ sym (with_key-after k v.0 (keys_of vs) e))
    (λ e. subst (λ z. k ∷ keys_of vs ≡ with_key k (z ∷ keys_of vs)) e (sym (with_key-here k (keys_of vs))))

-- a write goes into writes with ascending keys so that they ascend
pub ascending-with_write : (k : List ℕ) (w : Write) (ws : List KeyWrite) → are_ascending_keys (keys_of ws) ≡ true →
    are_ascending_keys (keys_of (with_write k w ws)) ≡ true
ascending-with_write k w ws up =
    subst (λ zs. are_ascending_keys zs ≡ true) (sym (keys_of-with_write k w ws)) (ascending-with_key k (keys_of ws) up)

-- what each write passes, each passes after a write that passes went in
pub all-with_write : (p : KeyWrite → Bool) (k : List ℕ) (w : Write) (ws : List KeyWrite) → p (k, w) ≡ true → list_all p ws ≡ true →
    list_all p (with_write k w ws) ≡ true
all-with_write p k w [] new old = and_from (p (k, w)) true new refl
all-with_write p k w (v ∷ vs) new old =
    let parts = and_parts (p v) (list_all p vs) old in
    with_write_cases k w v vs (λ zs. list_all p zs ≡ true)
    (λ _. and_from (p (k, w)) (list_all p (v ∷ vs)) new old)
    (λ _. and_from (p v) (list_all p (with_write k w vs)) parts.0 (all-with_write p k w vs new parts.1))
    (λ _. and_from (p (k, w)) (list_all p vs) new parts.1)

pub write_of-here : (k : List ℕ) (v : KeyWrite) (vs : List KeyWrite) → k ≡ v.0 → write_of k (v ∷ vs) ≡ Some v.1
write_of-here k v vs e =
    let same : bytes_eq k v.0 ≡ true = subst (λ z. bytes_eq k z ≡ true) e (bytes_eq-itself k) in
    rw same refl

pub write_of-there : (k : List ℕ) (v : KeyWrite) (vs : List KeyWrite) → bytes_eq k v.0 ≡ false → write_of k (v ∷ vs) ≡ write_of k vs
write_of-there k v vs e = rw e refl

-- what was written last to a key is what is read of it
pub write_of-with_write : (k : List ℕ) (w : Write) (ws : List KeyWrite) → write_of k (with_write k w ws) ≡ Some w
write_of-with_write k w [] = write_of-here k (k, w) [] refl
write_of-with_write k w (v ∷ vs) =
    with_write_cases k w v vs (λ zs. write_of k zs ≡ Some w)
    (λ _. write_of-here k (k, w) (v ∷ vs) refl)
    (λ e. write_of-there k v (with_write k w vs) (bytes_eq-after k v.0 e) ∙ write_of-with_write k w vs)
    (λ _. write_of-here k (k, w) vs refl)

write_of-rest : (k : List ℕ) (v : KeyWrite) (vs ws : List KeyWrite) → write_of k vs ≡ write_of k ws → write_of k (v ∷ vs) ≡ write_of k (v ∷ ws)
write_of-rest k v vs ws e =
    elim (cases_Bool (bytes_eq k v.0)) [
      | inl t ↦ rw t refl
      | inr f ↦ write_of-there k v vs f ∙ e ∙ sym (write_of-there k v ws f)
    ]

-- a write to one key changes nothing of another
pub write_of-with_write_other : (j k : List ℕ) (w : Write) (ws : List KeyWrite) → (j ≡ k → ⊥) → write_of j (with_write k w ws) ≡ write_of j ws
write_of-with_write_other j k w [] other = write_of-there j (k, w) [] (bytes_eq-other j k other)
write_of-with_write_other j k w (v ∷ vs) other =
    let apart = bytes_eq-other j k other in
    with_write_cases k w v vs (λ zs. write_of j zs ≡ write_of j (v ∷ vs))
    (λ _. write_of-there j (k, w) (v ∷ vs) apart)
    (λ _. write_of-rest j v (with_write k w vs) vs (write_of-with_write_other j k w vs other))
    (λ e. write_of-there j (k, w) vs apart ∙ sym (write_of-there j v vs (subst (λ z. bytes_eq j z ≡ false) e apart)))

-- a write behind all writes goes to their end
pub with_write-last : (ws : List KeyWrite) (k : List ℕ) (w : Write) → are_ascending_keys (keys_of (ws ++ (k, w) ∷ [])) ≡ true → with_write k w ws ≡ ws
    ++ (k, w) ∷ []
with_write-last [] k w up = refl
with_write-last (v ∷ vs) k w up =
    let split = map-append (λ (x : KeyWrite). x.0) vs ((k, w) ∷ []) in
    let keys : are_ascending_keys (v.0 ∷ keys_of vs ++ k ∷ []) ≡ true = subst (λ zs. are_ascending_keys (v.0 ∷ zs) ≡ true) split up in
    with_write-after k w v vs (before-last v.0 (keys_of vs) k keys)
    ∙ ap (λ zs. v ∷ zs) (with_write-last vs k w (ascending-parts v.0 (keys_of (vs ++ (k, w) ∷ [])) up).1)

-- a write goes to the place that a search found, with smaller keys before it and larger ones from it on
pub with_write-insert : (k : List ℕ) (w : Write) (ws : List KeyWrite) (i : ℕ) → i ≤ length ws → AllWithin (λ y. slice_cmp nat_cmp y.0 k ≡ Less) ws 0 i →
    AllWithin (λ y. slice_cmp nat_cmp y.0 k ≡ Greater) ws i (length ws) → with_write k w ws ≡ insert ws i (k, w)
with_write-insert k w [] ℕ.zero le below above = refl
with_write-insert k w [] (ℕ.suc i) le below above = absurd (omega arith)
with_write-insert k w (v ∷ vs) ℕ.zero le below above =
    with_write-before k w v vs (before-from_Greater v.0 k (above 0 v (omega arith) (omega arith)))
with_write-insert k w (v ∷ vs) (ℕ.suc i) le below above =
    with_write-after k w v vs (before-from_Less v.0 k (below 0 v (omega arith) (omega arith)))
    ∙ ap (λ zs. v ∷ zs)
    (with_write-insert k w vs i (omega arith) (λ j d lo hi. below (ℕ.suc j) d (omega arith) (omega arith))
    (λ j d lo hi. above (ℕ.suc j) d (omega arith) (omega arith)))

read-key : (ws : List KeyWrite) (i : ℕ) (d : KeyWrite) → get_or (keys_of ws) i d.0 ≡ (get_or ws i d).0
read-key [] i d = refl
read-key (w ∷ ws) ℕ.zero d = refl
read-key (w ∷ ws) (ℕ.suc i) d = read-key ws i d

before-place : (k : List ℕ) (v : KeyWrite) (vs : List KeyWrite) (i : ℕ) (d : KeyWrite) → are_ascending_keys (keys_of (v ∷ vs)) ≡ true →
    ℕ.suc i < length (v ∷ vs) → (get_or vs i d).0 ≡ k → is_key_before v.0 k ≡ true
before-place k v vs i d up lt e =
    let within : i < length (keys_of vs) = omega (arith, length-map vs (λ (x : KeyWrite). x.0)) in
    subst (λ z. is_key_before v.0 z ≡ true) (read-key vs i d ∙ e) (before-later v.0 (keys_of vs) i d.0 up within)

-- a write to a key that is written goes to its place
pub with_write-set : (k : List ℕ) (w : Write) (ws : List KeyWrite) (i : ℕ) (d : KeyWrite) → are_ascending_keys (keys_of ws) ≡ true → i < length ws →
    (get_or ws i d).0 ≡ k → with_write k w ws ≡ set ws i (k, w)
with_write-set k w [] i d up lt e = absurd (omega arith)
with_write-set k w (v ∷ vs) ℕ.zero d up lt e = with_write-here k w v vs (sym e)
with_write-set k w (v ∷ vs) (ℕ.suc i) d up lt e =
    let before = before-place k v vs i d up lt e in
    with_write-after k w v vs before ∙ ap (λ zs. v ∷ zs) (with_write-set k w vs i d (ascending-parts v.0 (keys_of vs) up).1 (omega arith) e)

-- what is written to a key is read at its place
pub write_of-found : (k : List ℕ) (ws : List KeyWrite) (i : ℕ) (d : KeyWrite) → are_ascending_keys (keys_of ws) ≡ true → i < length ws → (get_or ws i d).0
    ≡ k → write_of k ws ≡ Some (get_or ws i d).1
write_of-found k [] i d up lt e = absurd (omega arith)
write_of-found k (v ∷ vs) ℕ.zero d up lt e = write_of-here k v vs (sym e)
write_of-found k (v ∷ vs) (ℕ.suc i) d up lt e =
    write_of-there k v vs (bytes_eq-after k v.0 (before-place k v vs i d up lt e))
    ∙ write_of-found k vs i d (ascending-parts v.0 (keys_of vs) up).1 (omega arith) e

-- where a key is not written nothing is read
pub write_of-missing : (k : List ℕ) (ws : List KeyWrite) → has_key k ws ≡ false → write_of k ws ≡ None
write_of-missing k [] e = refl
write_of-missing k (v ∷ vs) e =
    let parts = or_parts (bytes_eq k v.0) (has_key k vs) e in
    write_of-there k v vs parts.0 ∙ write_of-missing k vs parts.1

-- a key is written exactly where something is read of it
pub has_key-write_of : (k : List ℕ) (ws : List KeyWrite) → has_key k ws ≡ is_some (write_of k ws)
has_key-write_of k [] = refl
has_key-write_of k (v ∷ vs) =
    elim (cases_Bool (bytes_eq k v.0)) [
      | inl t ↦ rw t refl
      | inr f ↦ rw f (has_key-write_of k vs)
    ]

-- a key is written exactly where it is among the keys that are
pub has_key-keys_of : (k : List ℕ) (ws : List KeyWrite) → has_key k ws ≡ is_key_among k (keys_of ws)
has_key-keys_of k [] = refl
has_key-keys_of k (v ∷ vs) = ap (λ b. bytes_eq k v.0 || b) (has_key-keys_of k vs)
