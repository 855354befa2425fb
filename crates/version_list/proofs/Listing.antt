-- Which keys are listed, before and after room was made and taken back.
use Rattle.std.proofs.Common.{◌≡◌, ℕ, ◌+◌, ◌<◌, Bool, true, false, not, ◌||◌, nat_lt, map, filter, if◌then◌else◌, List, [], ◌∷◌, ◌++◌, Option, Some, None}
use Rattle.std.proofs.Common.{Result, Ok, Err, OnOk, length, get_or, take, drop, bytes_eq, refl, sym, ◌∙◌, ap, subst, inl, inr}
use Rattle.std.specs.Map.{lookup}
use Rattle.std.specs.Option.{option_map_or}
use Rattle.std.proofs.lemmas.Bool.{and_parts, cases_Bool, both_ways}
use Rattle.std.proofs.lemmas.List.{append-nil, map-append, take_more, take-append-drop}
use Rattle.std.proofs.Math.Seq.{take-append_seam, drop-append_seam}
use Rattle.indexmap.specs.IndexMap.{insert_entry}
use Rattle.tardis_base.specs.Keys.{KeyWrite, are_ascending_keys, is_key_before, is_key_among, keys_of}
use Rattle.version_list.specs.Lists.{Lists, Listed, keys_in, listed_in, versions_in, has_room_in, with_listed, new_keys}
use Rattle.version_list.proofs.Adds.{differs, last-differs, listed-none}
use Rattle.version_list.proofs.Noted.{any-push}

pub on_ok : {T E : Type 0} (r : Result T E) (P : Type 0) → P → OnOk r P
on_ok (Ok x) P p = p
on_ok (Err e) P p = tt

-- the keys of these entries
abbrev pub listed_of : List (List ℕ × Listed) → List (List ℕ)
listed_of es = map (λ l. l.0) es

-- ===== One key

-- a key that is found is listed
pub found-listed : (k : List ℕ) (l : Listed) (es : List (List ℕ × Listed)) → lookup (bytes_eq k) es ≡ Some l → is_key_among k (listed_of es) ≡ true
found-listed k l [] e = cc
found-listed k l (f ∷ es) e = elim (cases_Bool (bytes_eq k f.0)) [
  | inl t ↦ rw t refl
  | inr n ↦ rw n (found-listed k l es (rw n at e))
]

pub listed-stays : (k : List ℕ) (ks : List (List ℕ)) → is_key_among k ks ≡ true → with_listed k ks ≡ ks
listed-stays k ks t = rw t refl

-- an insertion lists the key, if it isn't listed
pub inserted-listed : (k : List ℕ) (l : Listed) (es : List (List ℕ × Listed)) → listed_of (insert_entry bytes_eq es k l) ≡ with_listed k (listed_of es)
inserted-listed k l [] = refl
inserted-listed k l (f ∷ es) = elim (cases_Bool (bytes_eq k f.0)) [
  | inl t ↦ rw t refl
  | inr n ↦ rw n (ap (λ ks. f.0 ∷ ks) (inserted-listed k l es) ∙ behind (is_key_among k (listed_of es)) (listed_of es))
]
  where
    behind : (b : Bool) (ks : List (List ℕ)) → f.0 ∷ (if b then ks else ks ++ k ∷ []) ≡ (if b then f.0 ∷ ks else f.0 ∷ ks ++ k ∷ [])
    behind true ks = refl
    behind false ks = refl

-- ===== Room made for writes

ascending-prefix : (xs ys : List (List ℕ)) → are_ascending_keys (xs ++ ys) ≡ true → are_ascending_keys xs ≡ true
ascending-prefix [] ys up = refl
ascending-prefix (x ∷ []) ys up = refl
ascending-prefix (x ∷ z ∷ xs) ys up =
    let parts = and_parts (is_key_before x z) (are_ascending_keys (z ∷ xs ++ ys)) up in
    rw (parts.0, ascending-prefix (z ∷ xs) ys parts.1) refl

ascending-taken : (n : ℕ) (ws : List KeyWrite) → are_ascending_keys (keys_of ws) ≡ true → are_ascending_keys (keys_of (take n ws)) ≡ true
ascending-taken n ws up =
    ascending-prefix (keys_of (take n ws)) (keys_of (drop n ws))
    (subst (λ ks. are_ascending_keys ks ≡ true) (sym (ap keys_of (take-append-drop n ws)) ∙ map-append (λ (w : KeyWrite). w.0) (take n ws) (drop n ws)) up)

filter-push : {X : Type 0} (p : X → Bool) (xs ys : List X) → filter p (xs ++ ys) ≡ filter p xs ++ filter p ys
filter-push p [] ys = refl
filter-push p (x ∷ xs) ys = elim (cases_Bool (p x)) [
  | inl t ↦ rw t (ap (λ zs. x ∷ zs) (filter-push p xs ys))
  | inr f ↦ rw f (filter-push p xs ys)
]

-- a key that differs from all of these is none of those that pass
differs-none : (p : List ℕ → Bool) (k : List ℕ) (ws : List KeyWrite) → differs k ws ≡ true → is_key_among k (filter p (keys_of ws)) ≡ false
differs-none p k [] d = refl
differs-none p k (w ∷ ws) d =
    let parts = and_parts (not (bytes_eq k w.0)) (differs k ws) d in
    let other : bytes_eq k w.0 ≡ false = turned (bytes_eq k w.0) parts.0 in
    elim (cases_Bool (p w.0)) [
      | inl t ↦ rw (t, other) (differs-none p k ws parts.1)
      | inr f ↦ rw f (differs-none p k ws parts.1)
    ]
  where
    turned : (b : Bool) → not b ≡ true → b ≡ false
    turned true e = absurd (both_ways false refl e)
    turned false e = refl

-- one more key is listed, if it wasn't
pub listed-more : (ks now : List (List ℕ)) (ws : List KeyWrite) (i : ℕ) (w : KeyWrite) → are_ascending_keys (keys_of ws) ≡ true → i < length ws →
    w ≡ get_or ws i w → now ≡ ks ++ new_keys ks (take i ws) →
    with_listed w.0 now ≡ ks ++ new_keys ks (take (i + 1) ws)
listed-more ks now ws i w up lt here is =
    let p : List ℕ → Bool = λ k. not (is_key_among k ks) in
    let xs = take i ws in
    let more : take (i + 1) ws ≡ xs ++ w ∷ [] = subst (λ z. take (i + 1) ws ≡ xs ++ z ∷ []) (sym here) (take_more ws i w lt) in
    let up₂ = subst (λ vs. are_ascending_keys (keys_of vs) ≡ true) more (ascending-taken (i + 1) ws up) in
    let none = differs-none p w.0 xs (last-differs xs w up₂) in
    let pushed : new_keys ks (take (i + 1) ws) ≡ new_keys ks xs ++ new_keys ks (w ∷ []) =
    ap (new_keys ks) more ∙ ap (filter p) (map-append (λ (v : KeyWrite). v.0) xs (w ∷ [])) ∙ filter-push p (keys_of xs) (w.0 ∷ []) in
    let among : is_key_among w.0 now ≡ (is_key_among w.0 ks || false) = ap (is_key_among w.0) is ∙ any-push (bytes_eq w.0) ks (new_keys ks xs)
    ∙ ap (λ b. is_key_among w.0 ks || b) none in
    elim (cases_Bool (is_key_among w.0 ks)) [
      | inl t ↦
          let there : is_key_among w.0 now ≡ true = among ∙ ap (λ b. b || false) t in
          listed-stays w.0 now there ∙ is ∙ ap (λ zs. ks ++ zs) (sym (pushed ∙ ap (λ zs. new_keys ks xs ++ zs) (dropped t) ∙ append-nil (new_keys ks xs)))
      | inr f ↦
          let absent : is_key_among w.0 now ≡ false = among ∙ ap (λ b. b || false) f in
          added now absent ∙ ap (λ zs. zs ++ w.0 ∷ []) is
          ∙ assoc ks (new_keys ks xs) (w.0 ∷ [])
          ∙ ap (λ zs. ks ++ zs) (sym (pushed ∙ ap (λ zs. new_keys ks xs ++ zs) (kept f)))
    ]
  where
    dropped : is_key_among w.0 ks ≡ true → new_keys ks (w ∷ []) ≡ []
    dropped t = rw t refl

    kept : is_key_among w.0 ks ≡ false → new_keys ks (w ∷ []) ≡ w.0 ∷ []
    kept f = rw f refl

    added : (zs : List (List ℕ)) → is_key_among w.0 zs ≡ false → with_listed w.0 zs ≡ zs ++ w.0 ∷ []
    added zs f = rw f refl

    assoc : (xs bs cs : List (List ℕ)) → ((xs ++ bs) ++ cs) ≡ (xs ++ (bs ++ cs))
    assoc [] bs cs = refl
    assoc (x ∷ xs) bs cs = ap (λ zs. x ∷ zs) (assoc xs bs cs)

-- ===== Keys taken off the list

-- the keys behind the old ones were none of them
new-not_old : (ks : List (List ℕ)) (k : List ℕ) (js : List (List ℕ)) → is_key_among k (filter (λ j. not (is_key_among j ks)) js) ≡ true → (j : List ℕ)
    × ((bytes_eq k j ≡ true) × (is_key_among j ks ≡ false))
new-not_old ks k [] h = absurd (both_ways false refl h)
new-not_old ks k (j ∷ js) h = elim (cases_Bool (is_key_among j ks)) [
  | inl t ↦ new-not_old ks k js (rw t at h)
  | inr f ↦ elim (cases_Bool (bytes_eq k j)) [
    | inl e ↦ (j, (e, f))
    | inr n ↦ new-not_old ks k js (rw (f, n) at h)
  ]
]

module _ (old now : Lists) (ws : List KeyWrite) (n : ℕ) (same_key : (k j : List ℕ) → bytes_eq k j ≡ true → k ≡ j)
    (listed : keys_in now ≡ keys_in old ++ new_keys (keys_in old) ws) (count : n ≡ length (keys_in old)) where
  pub taken_back : take n (keys_in now) ≡ keys_in old
  taken_back = ap (take n) listed ∙ ap (λ m. take m (keys_in old ++ new_keys (keys_in old) ws)) count
      ∙ take-append_seam (keys_in old) (new_keys (keys_in old) ws)

  -- they have no versions
  pub new-unused : ((k : List ℕ) → versions_in now k ≡ versions_in old k) → (k : List ℕ) → is_key_among k (drop n (keys_in now)) ≡ true → versions_in now k ≡ []
  new-unused same k h =
      let fresh = ap (drop n) listed ∙ ap (λ m. drop m (keys_in old ++ new_keys (keys_in old) ws)) count
      ∙ drop-append_seam (keys_in old) (new_keys (keys_in old) ws) in
      let w = new-not_old (keys_in old) k (keys_of ws) (subst (λ ks. is_key_among k ks ≡ true) fresh h) in
      same k ∙ listed-none old k (subst (λ j. is_key_among j (keys_in old) ≡ false) (sym (same_key k w.0 w.1.0)) w.1.1)

-- a key with room is listed
pub room-listed : (vs : Lists) (k : List ℕ) → has_room_in vs k ≡ true → is_key_among k (keys_in vs) ≡ true
room-listed vs k h = go (lookup (bytes_eq k) vs.lists) refl h
  where
    go : (o : Option Listed) → lookup (bytes_eq k) vs.lists ≡ o → option_map_or (λ l. nat_lt 0 l.room) o false ≡ true → is_key_among k (keys_in vs) ≡ true
    go None e t = absurd (both_ways false refl t)
    go (Some l) e t = found-listed k l vs.lists e

-- ===== The first entries alone

keys-taken : (n : ℕ) (es : List (List ℕ × Listed)) → listed_of (take n es) ≡ take n (listed_of es)
keys-taken ℕ.zero es = refl
keys-taken (ℕ.suc n) [] = refl
keys-taken (ℕ.suc n) (e ∷ es) = ap (λ ks. e.0 ∷ ks) (keys-taken n es)

found-taken : (k : List ℕ) (n : ℕ) (es : List (List ℕ × Listed)) → is_key_among k (take n (listed_of es)) ≡ true → lookup (bytes_eq k) (take n es)
    ≡ lookup (bytes_eq k) es
found-taken k ℕ.zero es h = absurd (both_ways false refl h)
found-taken k (ℕ.suc n) [] h = absurd (both_ways false refl h)
found-taken k (ℕ.suc n) (e ∷ es) h = elim (cases_Bool (bytes_eq k e.0)) [
  | inl t ↦ rw t refl
  | inr f ↦ rw f (found-taken k n es (rw f at h))
]

module _ (old new : Lists) (n : ℕ) (cut : new.lists ≡ take n old.lists) where
  pub cut-keys : keys_in new ≡ take n (keys_in old)
  cut-keys = ap listed_of cut ∙ keys-taken n old.lists

  pub cut-found : (k : List ℕ) → is_key_among k (take n (keys_in old)) ≡ true → listed_in new k ≡ listed_in old k
  cut-found k h = ap (lookup (bytes_eq k)) cut ∙ found-taken k n old.lists h

  pub cut-same : ((k : List ℕ) → is_key_among k (drop n (keys_in old)) ≡ true → versions_in old k ≡ []) → (k : List ℕ) → versions_in new k ≡ versions_in old k
  cut-same unused k = elim (cases_Bool (is_key_among k (take n (keys_in old)))) [
    | inl t ↦ ap (λ o. option_map_or (λ (l : Listed). l.versions) o []) (cut-found k t)
    | inr f ↦ listed-none new k (ap (is_key_among k) cut-keys ∙ f) ∙ sym (nothing f)
  ]
    where
      nothing : is_key_among k (take n (keys_in old)) ≡ false → versions_in old k ≡ []
      nothing f = elim (cases_Bool (is_key_among k (drop n (keys_in old)))) [
        | inl t ↦ unused k t
        | inr g ↦
            listed-none old k
            (ap (is_key_among k) (sym (take-append-drop n (keys_in old))) ∙ any-push (bytes_eq k) (take n (keys_in old)) (drop n (keys_in old))
            ∙ ap (λ b. b || is_key_among k (drop n (keys_in old))) f ∙ g)
      ]
