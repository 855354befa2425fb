-- What a binary search finds among items with ascending keys.
use Rattle.std.proofs.Common.{◌≡◌, ℕ, ◌<◌, ◌≤◌, inl, inr, true, List, [], ◌∷◌, Some, None, Result, Ok, Err, length, get_or, set, map, refl, sym, subst}
use Rattle.std.proofs.Common.{add-one, arith}
use Rattle.std.specs.declared.cmp.Ordering.TheVariants.{Less, Greater}
use Rattle.std.specs.Ordering.{nat_cmp, is_lt}
use Rattle.std.specs.Cmp.Lexicographic.{slice_cmp}
use Rattle.std.specs.Str.{bytes_eq}
use Rattle.std.specs.Result.{is_ok}
use Rattle.std.specs.List.{insert, list_any}
use Rattle.std.specs.List.Sorted.{IsSortedBy, IsBinarySearchResult, IsSearchInRange, IsPartitionPoint}
use Rattle.std.proofs.lemmas.Bool.{cases_lt}
use Rattle.std.proofs.lemmas.Cmp.{nat_list_cmp_total}
use Rattle.std.proofs.lemmas.List.Sorted.{searchable_from_sorted}
use Rattle.std.proofs.lemmas.List.Recursion.{or_at, or_from_places}
use Rattle.std.proofs.lemmas.List.{map-id}
use Rattle.tardis_base.specs.declared.records.Write.{Write}
use Rattle.tardis_base.specs.declared.records.Write.TheVariants.{Delete}
use Rattle.tardis_base.specs.Keys.{KeyWrite, is_key_before, are_ascending_keys, is_key_among, with_key, keys_of, has_key, write_of, with_write}
use Rattle.tardis_base.proofs.KeyOrder.{ascending-parts, before-back, before-from_Less, before-from_Greater, bytes_eq-before, bytes_eq-after, bytes_eq-itself}
use Rattle.tardis_base.proofs.KeyOrder.{same-from_Equal}
use Rattle.tardis_base.proofs.KeySets.{with_key-found, with_key-insert}
use Rattle.tardis_base.proofs.WriteSets.{write_of-found, write_of-missing, with_write-set, with_write-insert}

neighbours : {X : Type 0} (key : X → List ℕ) (xs : List X) (i : ℕ) (d : X) → are_ascending_keys (map key xs) ≡ true → ℕ.suc i < length xs →
    is_key_before (key (get_or xs i d)) (key (get_or xs (ℕ.suc i) d)) ≡ true
neighbours key [] i d up lt = absurd (omega arith)
neighbours key (x ∷ []) i d up lt = absurd (omega arith)
neighbours key (x ∷ y ∷ ys) ℕ.zero d up lt = (ascending-parts (key x) (key y ∷ map key ys) up).0
neighbours key (x ∷ y ∷ ys) (ℕ.suc i) d up lt =
    neighbours key (y ∷ ys) i d (ascending-parts (key x) (key y ∷ map key ys) up).1 (omega arith)

-- items with ascending keys are sorted by their keys
pub sorted-from_ascending : {X : Type 0} (key : X → List ℕ) (xs : List X) → are_ascending_keys (map key xs) ≡ true →
    IsSortedBy (λ a b. is_lt (slice_cmp nat_cmp (key a) (key b))) xs
sorted-from_ascending key xs up = λ i d _ lt.
    let next : ℕ.suc i < length xs = omega arith in
    rw (add-one i) (before-back (key (get_or xs i d)) (key (get_or xs (ℕ.suc i) d)) (neighbours key xs i d up next))

-- a search that finds no key tells where it would be
pub place-at_err : {X : Type 0} (key : X → List ℕ) (xs : List X) (k : List ℕ) (i : ℕ) → are_ascending_keys (map key xs) ≡ true →
    IsBinarySearchResult (λ y. slice_cmp nat_cmp (key y) k) xs (Err i) →
    IsPartitionPoint (λ y. slice_cmp nat_cmp (key y) k ≡ Less) (λ y. slice_cmp nat_cmp (key y) k ≡ Greater) xs i
place-at_err key xs k i up found = found (searchable_from_sorted nat_list_cmp_total key xs k (sorted-from_ascending key xs up))

-- a search finds a key exactly where it is
pub found-is_among : {X : Type 0} (key : X → List ℕ) (xs : List X) (k : List ℕ) (d : X) (r : Result ℕ ℕ) → are_ascending_keys (map key xs) ≡ true →
    IsSearchInRange r (length xs) → IsBinarySearchResult (λ y. slice_cmp nat_cmp (key y) k) xs r → is_ok r ≡ list_any (λ y. bytes_eq k (key y)) xs
found-is_among key xs k d (Ok i) up bound found =
    let same : key (get_or xs i d) ≡ k = same-from_Equal (key (get_or xs i d)) k (found d) in
    sym (or_at (list_any (λ y. bytes_eq k (key y))) (λ y. bytes_eq k (key y)) refl (λ _ _. refl) xs i d bound
    (subst (λ z. bytes_eq k z ≡ true) (sym same) (bytes_eq-itself k)))
found-is_among key xs k d (Err i) up bound found =
    let place = place-at_err key xs k i up found in
    sym (or_from_places (list_any (λ y. bytes_eq k (key y))) (λ y. bytes_eq k (key y)) refl (λ _ _. refl) xs d (λ j lt. elim (cases_lt j i) [
      | inl below ↦ bytes_eq-after k (key (get_or xs j d)) (before-from_Less (key (get_or xs j d)) k (place.0 j d (omega arith) below))
      | inr above ↦ bytes_eq-before k (key (get_or xs j d)) (before-from_Greater (key (get_or xs j d)) k (place.1 j d above lt))
    ]))

-- where a search ends that found the key, it is
pub same-at_ok : {X : Type 0} (key : X → List ℕ) (xs : List X) (k : List ℕ) (i : ℕ) → IsBinarySearchResult (λ y. slice_cmp nat_cmp (key y) k) xs (Ok i) →
    (d : X) → key (get_or xs i d) ≡ k
same-at_ok key xs k i found d = same-from_Equal (key (get_or xs i d)) k (found d)

ascending-itself : (ks : List (List ℕ)) → are_ascending_keys ks ≡ true → are_ascending_keys (map (λ k. k) ks) ≡ true
ascending-itself ks up = subst (λ zs. are_ascending_keys zs ≡ true) (sym (map-id ks)) up

-- a search finds a key exactly where it is one of the keys
pub key-found : (k : List ℕ) (ks : List (List ℕ)) (r : Result ℕ ℕ) → are_ascending_keys ks ≡ true → IsSearchInRange r (length ks) →
    IsBinarySearchResult (λ y. slice_cmp nat_cmp y k) ks r → is_ok r ≡ is_key_among k ks
key-found k ks r up bound found = found-is_among (λ y. y) ks k k r (ascending-itself ks up) bound found

-- a key that a search found changes nothing
pub with_key-at_ok : (k : List ℕ) (ks : List (List ℕ)) (i : ℕ) → are_ascending_keys ks ≡ true → i < length ks →
    IsBinarySearchResult (λ y. slice_cmp nat_cmp y k) ks (Ok i) → with_key k ks ≡ ks
with_key-at_ok k ks i up bound found = with_key-found k ks i up bound (same-at_ok (λ y. y) ks k i found k)

-- a key that no search found goes to the place that it told
pub with_key-at_err : (k : List ℕ) (ks : List (List ℕ)) (i : ℕ) → are_ascending_keys ks ≡ true → i ≤ length ks →
    IsBinarySearchResult (λ y. slice_cmp nat_cmp y k) ks (Err i) → with_key k ks ≡ insert ks i k
with_key-at_err k ks i up bound found =
    let place = place-at_err (λ y. y) ks k i (ascending-itself ks up) found in
    with_key-insert k ks i bound place.0 place.1

-- a search finds a write exactly where the key is written
pub write-found : (k : List ℕ) (ws : List KeyWrite) (r : Result ℕ ℕ) → are_ascending_keys (keys_of ws) ≡ true → IsSearchInRange r (length ws) →
    IsBinarySearchResult (λ y. slice_cmp nat_cmp y.0 k) ws r → is_ok r ≡ has_key k ws
write-found k ws r up bound found = found-is_among (λ y. y.0) ws k (k, Delete) r up bound found

-- what a search found is what is written to the key
pub write_of-at_ok : (k : List ℕ) (ws : List KeyWrite) (i : ℕ) (d : KeyWrite) → are_ascending_keys (keys_of ws) ≡ true → i < length ws →
    IsBinarySearchResult (λ y. slice_cmp nat_cmp y.0 k) ws (Ok i) → write_of k ws ≡ Some (get_or ws i d).1
write_of-at_ok k ws i d up bound found = write_of-found k ws i d up bound (same-at_ok (λ (y : KeyWrite). y.0) ws k i found d)

-- where a search finds nothing, nothing is written to the key
pub write_of-at_err : (k : List ℕ) (ws : List KeyWrite) (i : ℕ) → are_ascending_keys (keys_of ws) ≡ true → i ≤ length ws →
    IsBinarySearchResult (λ y. slice_cmp nat_cmp y.0 k) ws (Err i) → write_of k ws ≡ None
write_of-at_err k ws i up bound found = write_of-missing k ws (sym (write-found k ws (Err i) up bound found))

-- a write to a key that a search found takes its place
pub with_write-at_ok : (k : List ℕ) (w : Write) (ws : List KeyWrite) (i : ℕ) → are_ascending_keys (keys_of ws) ≡ true → i < length ws →
    IsBinarySearchResult (λ y. slice_cmp nat_cmp y.0 k) ws (Ok i) → with_write k w ws ≡ set ws i (k, w)
with_write-at_ok k w ws i up bound found =
    with_write-set k w ws i (k, w) up bound (same-at_ok (λ (y : KeyWrite). y.0) ws k i found (k, w))

-- a write to a key that no search found goes to the place that it told
pub with_write-at_err : (k : List ℕ) (w : Write) (ws : List KeyWrite) (i : ℕ) → are_ascending_keys (keys_of ws) ≡ true → i ≤ length ws →
    IsBinarySearchResult (λ y. slice_cmp nat_cmp y.0 k) ws (Err i) → with_write k w ws ≡ insert ws i (k, w)
with_write-at_err k w ws i up bound found =
    let place = place-at_err (λ (y : KeyWrite). y.0) ws k i up found in
    with_write-insert k w ws i bound place.0 place.1
