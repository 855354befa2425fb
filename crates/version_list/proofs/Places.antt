-- A key's list, reached by the place where the key stands.
use Rattle.std.proofs.Common.{◌≡◌, ℕ, ◌≤◌, ◌<◌, true, false, cond, nat_lt, List, [], ◌∷◌, slice_get, get_or, position, Option, None, Some, is_some, IfSome, bytes_eq, refl, sym, ◌∙◌, ap, subst, inl, inr, arith}
use Rattle.std.specs.Map.{lookup}
use Rattle.std.specs.Option.{option_map, option_map_or}
use Rattle.std.proofs.lemmas.Bool.{cases_Bool, both_ways, cond-true, cond-false, lt-ltb, ltb-true}
use Rattle.std.proofs.lemmas.Cmp.{nat_list_eq_equiv}
use Rattle.std.proofs.lemmas.List.Folds.{list_any_at}
use Rattle.std.proofs.lemmas.List.Quantifiers.{position-Some}
use Rattle.std.proofs.lemmas.Map.Entries.{hash_map_get_place}
use Rattle.std.proofs.lemmas.Option.{slice_get-map, slice_get-get_or, slice_get_within, get_or_from_slice_get, same_Some}
use Rattle.std.proofs.lemmas.Slice.Eq.{bytes_eq-Decides}
use Rattle.indexmap.specs.IndexMap.{IndexMap, set_value_at, IsUnique}
use Rattle.indexmap.proofs.CallerLemmas.{keys-with_value_at, updates-with_value_at}
use Rattle.tardis_base.specs.Keys.{is_key_among}
use Rattle.version_list.specs.Lists.{Lists, Listed, keys_in, listed_in, versions_in, has_room_in}
use Rattle.version_list.proofs.Listing.{listed_of}

-- a listed key is found
pub listed-found : (k : List ℕ) (es : List (List ℕ × Listed)) → is_key_among k (listed_of es) ≡ true → is_some (lookup (bytes_eq k) es) ≡ true
listed-found k [] h = absurd (both_ways false refl h)
listed-found k (e ∷ es) h = elim (cases_Bool (bytes_eq k e.0)) [
  | inl t ↦ rw t refl
  | inr n ↦ rw n (listed-found k es (rw n at h))
]

-- and a key that is found is listed
pub some-listed : (k : List ℕ) (es : List (List ℕ × Listed)) → is_some (lookup (bytes_eq k) es) ≡ true → is_key_among k (listed_of es) ≡ true
some-listed k [] h = absurd (both_ways false refl h)
some-listed k (e ∷ es) h = elim (cases_Bool (bytes_eq k e.0)) [
  | inl t ↦ rw t refl
  | inr n ↦ rw n (some-listed k es (rw n at h))
]

-- a key that is found at a place stands there
pub found-stands : (k : List ℕ) (ks : List (List ℕ)) (i : ℕ) → position (bytes_eq k) ks ≡ Some i → slice_get ks i ≡ Some k
found-stands k ks i e =
    let s = position-Some (bytes_eq k) ks i k e in
    slice_get-get_or ks i k s.0 ∙ ap Some (sym ((bytes_eq-Decides k (get_or ks i k)).0 s.1))

-- wherever it is found
pub wherever-found : (k : List ℕ) (ks : List (List ℕ)) (o : Option ℕ) → o ≡ position (bytes_eq k) ks → IfSome o (λ i. slice_get ks i ≡ Some k)
wherever-found k ks None e = tt
wherever-found k ks (Some i) e = found-stands k ks i (sym e)

-- a key that stands at a place is listed
pub stands-among : (k : List ℕ) (ks : List (List ℕ)) (i : ℕ) → slice_get ks i ≡ Some k → is_key_among k ks ≡ true
stands-among k ks i e =
    list_any_at (bytes_eq k) ks i k (slice_get_within ks i k e) (subst (λ j. bytes_eq k j ≡ true) (sym (get_or_from_slice_get ks i k k e)) ((bytes_eq-Decides k k).1 refl))

-- the key of the entry at a place stands there
pub entry-stands : (es : List (List ℕ × Listed)) (i : ℕ) (e : List ℕ × Listed) → slice_get es i ≡ Some e → slice_get (listed_of es) i ≡ Some e.0
entry-stands es i e at = slice_get-map (λ l. l.0) es i ∙ ap (option_map (λ (l : List ℕ × Listed). l.0)) at

module _ {S : Type 0} (m : IndexMap (List ℕ) Listed S) (old : Lists) (i : ℕ) (k : List ℕ) (e : List ℕ × Listed) (seen : m.entries ≡ old.lists)
    (unique : IsUnique bytes_eq m) (at : slice_get m.entries i ≡ Some e) (stands : slice_get (keys_in old) i ≡ Some k) where
  own : e.0 ≡ k
  own = same_Some e.0 k (sym (entry-stands m.entries i e at) ∙ ap (λ es. slice_get (listed_of es) i) seen ∙ stands)

  at_key : slice_get m.entries i ≡ Some (k, e.1)
  at_key = at ∙ ap (λ j. Some (j, e.1)) own

  -- the entry at the key's place is the key's
  pub listed-at : listed_in old k ≡ Some e.1
  listed-at = ap (lookup (bytes_eq k)) (sym seen) ∙ hash_map_get_place nat_list_eq_equiv m i k e.1 unique at_key

  module _ (new : Lists) (w : Listed) (put : new.lists ≡ set_value_at m.entries i w) where
    pub put-keys : keys_in new ≡ keys_in old
    put-keys = ap listed_of put ∙ keys-with_value_at m i w ∙ ap listed_of seen

    pub put-here : listed_in new k ≡ Some w
    put-here = ap (lookup (bytes_eq k)) put ∙ (updates-with_value_at m i w nat_list_eq_equiv unique k e.1 at_key).1

    pub put-others : (j : List ℕ) → bytes_eq k j ≡ false → listed_in new j ≡ listed_in old j
    put-others j other =
        ap (lookup (bytes_eq j)) put
        ∙ (updates-with_value_at m i w nat_list_eq_equiv unique k e.1 at_key).2 j other
        ∙ ap (lookup (bytes_eq j)) seen

    -- a value put there that has the versions of the old one changes no key's
    pub put-same : w.versions ≡ e.1.versions → (j : List ℕ) → versions_in new j ≡ versions_in old j
    put-same same j = elim (cases_Bool (bytes_eq k j)) [
      | inl t ↦ subst (λ q. versions_in new q ≡ versions_in old q) ((bytes_eq-Decides k j).0 t)
          (ap (λ o. option_map_or (λ (l : Listed). l.versions) o []) put-here
          ∙ same
          ∙ ap (λ o. option_map_or (λ (l : Listed). l.versions) o []) (sym listed-at))
      | inr f ↦ ap (λ o. option_map_or (λ (l : Listed). l.versions) o []) (put-others j f)
    ]

    pub put-room : 0 < w.room → has_room_in new k ≡ true
    put-room more = ap (λ o. option_map_or (λ (l : Listed). nat_lt 0 l.room) o false) put-here ∙ lt-ltb 0 w.room more

    -- and one with as much room takes none
    pub put-kept : e.1.room ≤ w.room → (j : List ℕ) → has_room_in old j ≡ true → has_room_in new j ≡ true
    put-kept more j room = elim (cases_Bool (bytes_eq k j)) [
      | inl t ↦ subst (λ q. has_room_in old q ≡ true → has_room_in new q ≡ true) ((bytes_eq-Decides k j).0 t) here room
      | inr f ↦ ap (λ o. option_map_or (λ (l : Listed). nat_lt 0 l.room) o false) (put-others j f) ∙ room
    ]
      where
        here : has_room_in old k ≡ true → has_room_in new k ≡ true
        here room =
            let had : 0 < e.1.room = ltb-true 0 e.1.room (sym (ap (λ o. option_map_or (λ (l : Listed). nat_lt 0 l.room) o false) listed-at) ∙ room) in
            put-room (omega (arith, had, more))

  pub room-at : has_room_in old k ≡ true → 0 < e.1.room
  room-at room = ltb-true 0 e.1.room (sym (ap (λ o. option_map_or (λ (l : Listed). nat_lt 0 l.room) o false) listed-at) ∙ room)

-- one key more that wasn't listed, with no versions and some room
module _ (old new : Lists) (k : List ℕ) (l : Listed) (none : is_some (listed_in old k) ≡ false) (empty : l.versions ≡ []) (room : 0 < l.room)
    (put : (q : List ℕ) → listed_in new q ≡ cond (bytes_eq k q) (Some l) (listed_in old q)) where
  listed-here : (q : List ℕ) → bytes_eq k q ≡ true → (listed_in new q ≡ Some l) × (is_some (listed_in old q) ≡ false)
  listed-here q t = (put q ∙ cond-true (bytes_eq k q) (Some l) (listed_in old q) t, subst (λ j. is_some (listed_in old j) ≡ false) ((bytes_eq-Decides k q).0 t) none)

  listed-else : (q : List ℕ) → bytes_eq k q ≡ false → listed_in new q ≡ listed_in old q
  listed-else q f = put q ∙ cond-false (bytes_eq k q) (Some l) (listed_in old q) f

  pub begun-room : has_room_in new k ≡ true
  begun-room =
      ap (λ o. option_map_or (λ (l : Listed). nat_lt 0 l.room) o false) (listed-here k ((bytes_eq-Decides k k).1 refl)).0 ∙ lt-ltb 0 l.room room

  pub begun-same : (q : List ℕ) → versions_in new q ≡ versions_in old q
  begun-same q = elim (cases_Bool (bytes_eq k q)) [
    | inl t ↦
        ap (λ o. option_map_or (λ (l : Listed). l.versions) o []) (listed-here q t).0 ∙ (empty
        ∙ sym (nothing (listed_in old q) (listed-here q t).1))
    | inr f ↦ ap (λ o. option_map_or (λ (l : Listed). l.versions) o []) (listed-else q f)
  ]
    where
      nothing : (o : Option Listed) → is_some o ≡ false → option_map_or (λ (l : Listed). l.versions) o [] ≡ []
      nothing None e = refl
      nothing (Some m) e = absurd (both_ways false refl (sym e))

  pub begun-kept : (q : List ℕ) → has_room_in old q ≡ true → has_room_in new q ≡ true
  begun-kept q had = elim (cases_Bool (bytes_eq k q)) [
    | inl t ↦ ap (λ o. option_map_or (λ (l : Listed). nat_lt 0 l.room) o false) (listed-here q t).0 ∙ lt-ltb 0 l.room room
    | inr f ↦ ap (λ o. option_map_or (λ (l : Listed). nat_lt 0 l.room) o false) (listed-else q f) ∙ had
  ]
