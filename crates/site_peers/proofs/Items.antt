-- The items of a batch by their places.
use Rattle.std.proofs.Common.{◌≡◌, ℕ, ◌+◌, ◌-◌, ◌<◌, ◌≤◌, Bool, IsTrue, List, [], ◌∷◌, ◌++◌, length, map, take, slice_get, Option, Some, None, refl, ap, sym}
use Rattle.std.proofs.Common.{◌∙◌, subst, arith, length-append}
use Rattle.std.proofs.lemmas.Bool.{and_parts, ltb-true, leb-true}
use Rattle.std.proofs.lemmas.Option.{slice_get-map}
use Rattle.std.specs.Prelude.{option_map, nat_le, ◌&&◌}
use Rattle.std.specs.List.{list_all}
use Rattle.tardis_base.specs.declared.records.Record.{Record}
use Rattle.tardis_base.specs.declared.records.Consent.{Consent}
use Rattle.tardis_base.specs.declared.records.Item.TheVariants.{State, Promise}
use Rattle.tardis_base.specs.declared.records.Batch.{Batch}
use Rattle.tardis_base.specs.Sizes.{most_sites}
use Rattle.tardis_base.specs.Valid.{is_u16, is_record}
use Rattle.wire_item.specs.Valid.{is_batch, are_records, are_consents, is_consent, are_ascending_numbers}
use Rattle.site_peers.specs.Asking.{items_of}

pub length_map : {X Y : Type 0} (f : X → Y) (xs : List X) → length (map f xs) ≡ length xs
length_map f [] = refl
length_map f (x ∷ xs) = omega (arith, length_map f xs)

pub map_append : {X Y : Type 0} (f : X → Y) (xs ys : List X) → map f (xs ++ ys) ≡ map f xs ++ map f ys
map_append f [] ys = refl
map_append f (x ∷ xs) ys = ap (λ z. f x ∷ z) (map_append f xs ys)

pub length_items : (b : Batch) → length (items_of b) ≡ length b.records + length b.consents
length_items b = omega (arith, length-append (map State b.records) (map Promise b.consents), length_map State b.records, length_map Promise b.consents)

-- an item at its place, and the list around it
pub record Place {X : Type 0} (xs : List X) (i : ℕ) : Type 0 where
  pub item : X
  pub there : slice_get xs i ≡ Some item
  pub more : take (i + 1) xs ≡ take i xs ++ item ∷ []
  pub behind : List X
  pub around : xs ≡ take i xs ++ item ∷ behind

pub place_of : {X : Type 0} (xs : List X) (i : ℕ) → i < length xs → Place xs i
place_of [] i h = absurd (omega (arith, h))
place_of (x ∷ xs) ℕ.zero h = record { item = x; there = refl; more = refl; behind = xs; around = refl }
place_of (x ∷ xs) (ℕ.suc i) h =
    let p = place_of xs i (omega (arith, h)) in
    let next : ℕ.suc i + 1 ≡ ℕ.suc (i + 1) = omega arith in
    record {
      item = p.item;
      there = p.there;
      more = ap (λ k. take k (x ∷ xs)) next ∙ ap (λ z. x ∷ z) p.more;
      behind = p.behind;
      around =
          ap (λ z. x ∷ z) p.around;
    }

abbrev or_else : {X : Type 0} → X → Option X → X
or_else y None = y
or_else y (Some z) = z

pub same_some : {X : Type 0} (x y : X) (o : Option X) → o ≡ Some x → o ≡ Some y → x ≡ y
same_some x y o a b = ap (or_else x) (sym a ∙ b)

pub list_all_get : {X : Type 0} (p : X → Bool) (xs : List X) (i : ℕ) (x : X) → slice_get xs i ≡ Some x → IsTrue (list_all p xs) → IsTrue (p x)
list_all_get p [] i x e all = absurd (cc)
list_all_get p (y ∷ ys) ℕ.zero x e all = subst (λ z. IsTrue (p z)) (ap (or_else y) e) (and_parts (p y) (list_all p ys) all).0
list_all_get p (y ∷ ys) (ℕ.suc i) x e all = list_all_get p ys i x e (and_parts (p y) (list_all p ys) all).1

get_behind : {X : Type 0} (xs ys : List X) (i : ℕ) → length xs ≤ i → slice_get (xs ++ ys) i ≡ slice_get ys (i - length xs)
get_behind [] ys i h = let same : i ≡ i - 0 = omega arith in ap (slice_get ys) same
get_behind (x ∷ xs) ys ℕ.zero h = absurd (omega (arith, h))
get_behind (x ∷ xs) ys (ℕ.suc i) h =
    let same : ℕ.suc i - length (x ∷ xs) ≡ i - length xs = omega arith in
    get_behind xs ys i (omega (arith, h)) ∙ ap (slice_get ys) (sym same)

get_front : {X : Type 0} (xs ys : List X) (i : ℕ) (x : X) → slice_get xs i ≡ Some x → slice_get (xs ++ ys) i ≡ Some x
get_front [] ys i x e = absurd (cc)
get_front (z ∷ xs) ys ℕ.zero x e = e
get_front (z ∷ xs) ys (ℕ.suc i) x e = get_front xs ys i x e

-- first come the records
pub record_at : (rs : List Record) (cs : List Consent) (i : ℕ) (r : Record) → slice_get rs i ≡ Some r → slice_get (map State rs ++ map Promise cs) i
    ≡ Some (State r)
record_at rs cs i r e = get_front (map State rs) (map Promise cs) i (State r) (slice_get-map State rs i ∙ ap (option_map State) e)

-- behind the records come the consents
pub promise_at : (rs : List Record) (cs : List Consent) (i : ℕ) (c : Consent) → length rs ≤ i → slice_get cs (i - length rs) ≡ Some c →
    slice_get (map State rs ++ map Promise cs) i ≡ Some (Promise c)
promise_at rs cs i c h e =
    get_behind (map State rs) (map Promise cs) i (subst (λ n. n ≤ i) (sym (length_map State rs)) h)
    ∙ ap (λ n. slice_get (map Promise cs) (i - n)) (length_map State rs)
    ∙ slice_get-map Promise cs (i - length rs)
    ∙ ap (option_map Promise) e

abbrev parts_of : (b : Batch) → IsTrue (is_batch b) → IsTrue (are_records b.records) × IsTrue (are_consents b.consents)
parts_of b valid = and_parts (are_records b.records) (are_consents b.consents) valid

consents_parts : (cs : List Consent) → IsTrue (are_consents cs) → IsTrue (nat_le (length cs) most_sites) × IsTrue (list_all is_consent cs)
consents_parts cs valid =
    and_parts (nat_le (length cs) most_sites) (list_all is_consent cs)
    (and_parts (nat_le (length cs) most_sites && list_all is_consent cs) (are_ascending_numbers (map (λ c. c.site) cs)) valid).0

pub records_valid : (b : Batch) → IsTrue (is_batch b) → IsTrue (list_all is_record b.records)
records_valid b valid = (and_parts (is_u16 (length b.records)) (list_all is_record b.records) (parts_of b valid).0).1

pub consents_valid : (b : Batch) → IsTrue (is_batch b) → IsTrue (list_all is_consent b.consents)
consents_valid b valid = (consents_parts b.consents (parts_of b valid).1).1

pub items_few : (b : Batch) → IsTrue (is_batch b) → length (items_of b) < 65552
items_few b valid =
    let records : length b.records < 65536 = ltb-true (length b.records) 65536
    (and_parts (is_u16 (length b.records)) (list_all is_record b.records) (parts_of b valid).0).0 in
    let consents : length b.consents ≤ 16 = leb-true (length b.consents) 16 (consents_parts b.consents (parts_of b valid).1).0 in
    omega (arith, length_items b, records, consents)
