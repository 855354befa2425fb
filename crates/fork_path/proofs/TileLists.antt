-- Lists of tiles: what they hold, and the order of their keys.
use Rattle.std.proofs.Common.{◌≡◌, ℕ, ◌+◌, ◌-◌, ◌/◌, ◌<◌, ◌≤◌, Bool, true, false, not, ◌&&◌, ◌||◌, List, [], ◌∷◌, ◌++◌, length, get_or, take, drop, set, filter, eqb, ltb}
use Rattle.std.proofs.Common.{IsTrue, refl, sym, ◌∙◌, ap, ap₂, subst, inl, inr, arith}
use Rattle.std.specs.List.{All, AllWithin, insert, list_all}
use Rattle.std.specs.List.Sorted.{IsPartitionPoint, IsPartitionedBy}
use Rattle.std.proofs.lemmas.List.{get_or-map, get_or-set_same, get_or-set_other, length-map, take-map, drop-map, map-append, take-append-drop}
use Rattle.std.proofs.lemmas.List.Folds.{list_any-append}
use Rattle.std.proofs.lemmas.List.Elements.{All-cons, All-append, All-take, All-drop}
use Rattle.std.proofs.lemmas.Bool.{and_parts, and_from, or_cases, or_left, or_right, both_ways, cases_Bool, cases_lt, ltb-true}
use Rattle.fork_path.specs.declared.tiles.Tile.{Tile}
use Rattle.fork_path.specs.Pairs.{is_pair_before, are_ascending_pairs, is_same_pair, has_pair, with_pair}
use Rattle.fork_path.specs.Tiles.{key_of, keys_of, holds, some_holds, HoldsPair}
use Rattle.fork_path.proofs.PairOrder.{before-from, before-isnt_same, after-isnt_same, ascending-rest, before-rest, parted}
use Rattle.fork_path.proofs.PairSets.{ascending-with_pair, ascending-before, at-is_has, searched-with_pair}
use Rattle.fork_path.proofs.TileBits.{holds-beside, without-other}

-- ===== Tests

-- three tests in another order
pub or_turn : (a b c : Bool) → (a || (b || c)) ≡ (b || (a || c))
or_turn true true c = refl
or_turn true false c = refl
or_turn false true c = refl
or_turn false false c = refl

-- ===== Keys

pub key-at : (ts : List Tile) (i : ℕ) (d : Tile) (e : ℕ × ℕ) → i < length ts → get_or (keys_of ts) i e ≡ key_of (get_or ts i d)
key-at ts i d e lt = get_or-map key_of ts i d e lt

pub keys-length : (ts : List Tile) → length (keys_of ts) ≡ length ts
keys-length ts = length-map ts key_of

-- ===== A tile of a key

-- a pair of a tile whose key none of these has is a pair of none of them
pub holds-no_key : (t : Tile) (ts : List Tile) (p : ℕ × ℕ) → holds t p ≡ true → has_pair (key_of t) (keys_of ts) ≡ false → some_holds ts p ≡ false
holds-no_key t [] p h n = refl
holds-no_key t (u ∷ us) p h n = elim (cases_Bool (is_same_pair (key_of t) (key_of u))) [
  | inl same ↦ absurd (both_ways (has_pair (key_of t) (keys_of (u ∷ us))) n
      (or_left (is_same_pair (key_of t) (key_of u)) (has_pair (key_of t) (keys_of us)) same))
  | inr other ↦ rw (holds-beside t u p h other) (holds-no_key t us p h (rw other at n))
]

-- of ascending tiles only the one of the key has its pairs
pub holds-at : (t : Tile) (ts : List Tile) (i : ℕ) (p : ℕ × ℕ) → are_ascending_pairs (keys_of ts) ≡ true → i < length ts → key_of (get_or ts i t)
    ≡ key_of t → holds t p ≡ true → some_holds ts p ≡ holds (get_or ts i t) p
holds-at t [] i p up lt key h = absurd (omega arith)
holds-at t (u ∷ us) ℕ.zero p up lt key h =
    let none : has_pair (key_of u) (keys_of us) ≡ false = none_later in
    let rest : some_holds us p ≡ false = holds-no_key t us p h (subst (λ k. has_pair k (keys_of us) ≡ false) key none) in
    ap (λ b. holds u p || b) rest ∙ or_false (holds u p)
  where
    or_false : (b : Bool) → (b || false) ≡ b
    or_false true = refl
    or_false false = refl

    none_of : (k : ℕ × ℕ) (ks : List (ℕ × ℕ)) → list_all (is_pair_before k) ks ≡ true → has_pair k ks ≡ false
    none_of k [] a = refl
    none_of k (q ∷ qs) a =
        let w = and_parts (is_pair_before k q) (list_all (is_pair_before k) qs) a in
        rw (before-isnt_same k q w.0) (none_of k qs w.1)

    none_later : has_pair (key_of u) (keys_of us) ≡ false
    none_later = none_of (key_of u) (keys_of us) (before-rest (key_of u) (keys_of us) up)
holds-at t (u ∷ us) (ℕ.suc i) p up lt key h =
    let other : is_same_pair (key_of t) (key_of u) ≡ false = apart us i (before-rest (key_of u) (keys_of us) up) (omega arith) key in
    rw (holds-beside t u p h other) (holds-at t us i p (ascending-rest (key_of u) (keys_of us) up) (omega arith) key h)
  where
    apart : (vs : List Tile) (n : ℕ) → list_all (is_pair_before (key_of u)) (keys_of vs) ≡ true → n < length vs → key_of (get_or vs n t) ≡ key_of t →
        is_same_pair (key_of t) (key_of u) ≡ false
    apart [] n a l k = absurd (omega arith)
    apart (v ∷ vs) ℕ.zero a l k =
        after-isnt_same (key_of t) (key_of u) (subst (λ z. is_pair_before (key_of u) z ≡ true) k
        (and_parts (is_pair_before (key_of u) (key_of v)) (list_all (is_pair_before (key_of u)) (keys_of vs)) a).0)
    apart (v ∷ vs) (ℕ.suc n) a l k = apart vs n (and_parts (is_pair_before (key_of u) (key_of v)) (list_all (is_pair_before (key_of u)) (keys_of vs)) a).1
        (omega arith) k

-- what one of the tiles has, some of them have
pub some-at : (ts : List Tile) (i : ℕ) (d : Tile) (p : ℕ × ℕ) → i < length ts → holds (get_or ts i d) p ≡ true → some_holds ts p ≡ true
some-at [] i d p lt h = absurd (omega arith)
some-at (t ∷ ts) ℕ.zero d p lt h = or_left (holds t p) (some_holds ts p) h
some-at (t ∷ ts) (ℕ.suc i) d p lt h = or_right (holds t p) (some_holds ts p) (some-at ts i d p (omega arith) h)

-- ===== Changes to a list

pub some-append : (xs ys : List Tile) (p : ℕ × ℕ) → some_holds (xs ++ ys) p ≡ (some_holds xs p || some_holds ys p)
some-append xs ys p = list_any-append (λ t. holds t p) xs ys

pub some-split : (ts : List Tile) (n : ℕ) (p : ℕ × ℕ) → some_holds ts p ≡ (some_holds (take n ts) p || some_holds (drop n ts) p)
some-split ts n p = ap (λ xs. some_holds xs p) (sym (take-append-drop n ts)) ∙ some-append (take n ts) (drop n ts) p

pub some-insert : (t : Tile) (ts : List Tile) (i : ℕ) (p : ℕ × ℕ) → some_holds (insert ts i t) p ≡ (holds t p || some_holds ts p)
some-insert t ts i p =
    some-append (take i ts) (t ∷ drop i ts) p
    ∙ or_turn (some_holds (take i ts) p) (holds t p) (some_holds (drop i ts) p)
    ∙ ap (λ b. holds t p || b) (sym (some-split ts i p))

-- a tile that was joined with another
pub some-set : (t new : Tile) (ts : List Tile) (i : ℕ) (d : Tile) (p : ℕ × ℕ) → i < length ts → holds new p ≡ (holds (get_or ts i d) p || holds t p) →
    some_holds (set ts i new) p ≡ (holds t p || some_holds ts p)
some-set t new [] i d p lt e = absurd (omega arith)
some-set t new (u ∷ us) ℕ.zero d p lt e = ap (λ b. b || some_holds us p) e ∙ swap (holds u p) (holds t p) (some_holds us p)
  where
    swap : (a b c : Bool) → ((a || b) || c) ≡ (b || (a || c))
    swap true true c = refl
    swap true false c = refl
    swap false true c = refl
    swap false false c = refl
some-set t new (u ∷ us) (ℕ.suc i) d p lt e =
    ap (λ b. holds u p || b) (some-set t new us i d p (omega arith) e) ∙ or_turn (holds u p) (holds t p) (some_holds us p)

pub keys-insert : (t : Tile) (ts : List Tile) (i : ℕ) → keys_of (insert ts i t) ≡ insert (keys_of ts) i (key_of t)
keys-insert t ts i =
    map-append key_of (take i ts) (t ∷ drop i ts)
    ∙ ap₂ (λ xs ys. xs ++ key_of t ∷ ys) (sym (take-map key_of i ts)) (sym (drop-map key_of i ts))

-- the place of another tile of the same key
pub keys-set : (new : Tile) (ts : List Tile) (i : ℕ) (d : Tile) → i < length ts → key_of new ≡ key_of (get_or ts i d) → keys_of (set ts i new) ≡ keys_of ts
keys-set new [] i d lt e = absurd (omega arith)
keys-set new (t ∷ ts) ℕ.zero d lt e = ap (λ k. k ∷ keys_of ts) e
keys-set new (t ∷ ts) (ℕ.suc i) d lt e = ap (λ ks. key_of t ∷ ks) (keys-set new ts i d (omega arith) e)

-- ===== Tiles that each hold a pair

pub filled-joined : (t u new : Tile) → ((p : ℕ × ℕ) → holds new p ≡ (holds t p || holds u p)) → HoldsPair u → HoldsPair new
filled-joined t u new made some = (some.0, made some.0 ∙ or_right (holds t some.0) (holds u some.0) some.1)

pub filled-insert : (t : Tile) (ts : List Tile) (i : ℕ) → HoldsPair t → All HoldsPair ts → All HoldsPair (insert ts i t)
filled-insert t ts i some all =
    All-append HoldsPair (take i ts) (t ∷ drop i ts) (All-take HoldsPair i ts all) (All-cons HoldsPair t (drop i ts) some (All-drop HoldsPair i ts all))

-- what a place has in front of it and behind it
pub filled-around : (ts : List Tile) (i k : ℕ) → All HoldsPair ts → All HoldsPair (take i ts) × All HoldsPair (take (length ts - k) (drop k ts))
filled-around ts i k all = (All-take HoldsPair i ts all, All-take HoldsPair (length ts - k) (drop k ts) (All-drop HoldsPair k ts all))

-- ===== Where a tile is

-- what holds of the keys of tiles holds of the list of keys
pub within-keys : (P : ℕ × ℕ → Type 0) (d : Tile) (ts : List Tile) (low high : ℕ) → high ≤ length ts → AllWithin (λ t. P (key_of t)) ts low high →
    AllWithin P (keys_of ts) low high
within-keys P d ts low high le all k e from below = subst P (sym (key-at ts k d e (omega arith))) (all k d from below)

pub parted-tiles : (t : Tile) (ts : List Tile) → are_ascending_pairs (keys_of ts) ≡ true → IsPartitionedBy (λ u. is_pair_before (key_of u) (key_of t)) ts
parted-tiles t ts up i j d le lt h =
    let len : length (keys_of ts) ≡ length ts = keys-length ts in
    let there : is_pair_before (get_or (keys_of ts) j (key_of d)) (key_of t) ≡ true =
    subst (λ k. is_pair_before k (key_of t) ≡ true) (sym (key-at ts j d (key_of d) lt)) h in
    subst (λ k. is_pair_before k (key_of t) ≡ true) (key-at ts i d (key_of d) (omega arith))
    (parted (key_of t) (keys_of ts) up i j (key_of d) le (omega arith) there)

pub point-of_keys : (t : Tile) (ts : List Tile) (i : ℕ) → i ≤ length ts → IsPartitionPoint (λ u. is_pair_before (key_of u) (key_of t) ≡ true)
    (λ u. is_pair_before (key_of u) (key_of t) ≡ false) ts i →
    IsPartitionPoint (λ k. is_pair_before k (key_of t) ≡ true) (λ k. is_pair_before k (key_of t) ≡ false) (keys_of ts) i
point-of_keys t ts i le point =
    let len : length (keys_of ts) ≡ length ts = keys-length ts in (
      within-keys (λ k. is_pair_before k (key_of t) ≡ true) t ts 0 i le point.0,
      subst (λ n. AllWithin (λ k. is_pair_before k (key_of t) ≡ false) (keys_of ts) i n) (sym len)
          (within-keys (λ k. is_pair_before k (key_of t) ≡ false) t ts i (length ts) (omega arith) point.1),
    )

-- a search that finds another tile, or none, shows that there is no tile of the key
pub searched-none : (t : Tile) (ts : List Tile) (i : ℕ) → are_ascending_pairs (keys_of ts) ≡ true → i ≤ length ts →
    (IsTrue (are_ascending_pairs (keys_of ts)) → IsPartitionPoint (λ k. is_pair_before k (key_of t) ≡ true) (λ k. is_pair_before k (key_of t) ≡ false)
    (keys_of ts) i) →
    (i < length ts → is_same_pair (key_of t) (key_of (get_or ts i t)) ≡ false) → has_pair (key_of t) (keys_of ts) ≡ false
searched-none t ts i up le parts missing =
    let len : length (keys_of ts) ≡ length ts = keys-length ts in
    let point = parts up in
    sym (at-is_has (key_of t) (keys_of ts) i false up (omega arith) point.0 point.1 (λ e. absurd (both_ways false refl e))
    (λ _ lt. let lt₂ : i < length ts = omega arith in subst (λ k. is_same_pair (key_of t) k ≡ false) (sym (key-at ts i t (key_of t) lt₂)) (missing lt₂)))

-- a tile that a search didn't find goes to the place that it told
pub inserted-keys : (t : Tile) (ts : List Tile) (i : ℕ) → are_ascending_pairs (keys_of ts) ≡ true → i ≤ length ts →
    (IsTrue (are_ascending_pairs (keys_of ts)) → IsPartitionPoint (λ k. is_pair_before k (key_of t) ≡ true) (λ k. is_pair_before k (key_of t) ≡ false)
    (keys_of ts) i) →
    (i < length ts → is_same_pair (key_of t) (key_of (get_or ts i t)) ≡ false) → are_ascending_pairs (keys_of (insert ts i t)) ≡ true
inserted-keys t ts i up le parts missing =
    let len : length (keys_of ts) ≡ length ts = keys-length ts in
    let made : insert (keys_of ts) i (key_of t) ≡ with_pair (key_of t) (keys_of ts) =
    searched-with_pair (key_of t) (keys_of ts) (keys_of ts) i up refl (omega arith) parts
    (λ lt. let lt₂ : i < length ts = omega arith in subst (λ k. is_same_pair (key_of t) k ≡ false) (sym (key-at ts i t (key_of t) lt₂)) (missing lt₂)) in
    subst (λ ks. are_ascending_pairs ks ≡ true) (sym (keys-insert t ts i ∙ made)) (ascending-with_pair (key_of t) (keys_of ts) up)

-- ===== Without a fork

-- a tile of the same key without the pairs of the fork
pub record Cleared (fork : ℕ) (old new : Tile) : Type 0 where
  pub key : key_of new ≡ key_of old
  pub pairs : (p : ℕ × ℕ) → holds new p ≡ (not (eqb p.0 fork) && holds old p)

-- the tiles from the first place up to the other are cleared, and the others as they were; where none was left empty, each
-- of those has a pair
pub record ForkCleared (fork : ℕ) (old new : List Tile) (first n : ℕ) (is_one_empty : Bool) : Type 0 where
  pub before : (k : ℕ) (d : Tile) → k < first → get_or new k d ≡ get_or old k d
  pub cleared : (k : ℕ) (d : Tile) → first ≤ k → k < n → k < length old → Cleared fork (get_or old k d) (get_or new k d)
  pub rest : (k : ℕ) (d : Tile) → n ≤ k → get_or new k d ≡ get_or old k d
  pub filled : is_one_empty ≡ false → (k : ℕ) (d : Tile) → first ≤ k → k < n → k < length old → HoldsPair (get_or new k d)

same-keys : (old new : List Tile) → length new ≡ length old → ((k : ℕ) (d : Tile) → k < length old → key_of (get_or new k d) ≡ key_of (get_or old k d)) →
    keys_of new ≡ keys_of old
same-keys [] [] len all = refl
same-keys [] (u ∷ us) len all = absurd (omega arith)
same-keys (t ∷ ts) [] len all = absurd (omega arith)
same-keys (t ∷ ts) (u ∷ us) len all =
    ap₂ (λ k ks. k ∷ ks) (all 0 t (omega arith)) (same-keys ts us (omega arith) (λ k d lt. all (ℕ.suc k) d (omega arith)))

pub cleared-keys : (fork : ℕ) (old new : List Tile) (first n : ℕ) (e : Bool) → length new ≡ length old → ForkCleared fork old new first n e →
    keys_of new ≡ keys_of old
cleared-keys fork old new first n e len c = same-keys old new len (λ k d lt. elim (cases_lt k first) [
  | inl near ↦ ap key_of (c.before k d near)
  | inr from ↦ elim (cases_lt k n) [
    | inl below ↦ (c.cleared k d from below lt).key
    | inr behind ↦ ap key_of (c.rest k d behind)
  ]
])

pub cleared-filled : (fork : ℕ) (old new : List Tile) (first n : ℕ) (e : Bool) → length new ≡ length old → ForkCleared fork old new first n e → e ≡ false →
    All HoldsPair old → All HoldsPair new
cleared-filled fork old new first n e len c none all = λ k d lt. elim (cases_lt k first) [
  | inl near ↦ subst HoldsPair (sym (c.before k d near)) (all k d (omega arith))
  | inr from ↦ elim (cases_lt k n) [
    | inl below ↦ c.filled none k d from below (omega arith)
    | inr behind ↦ subst HoldsPair (sym (c.rest k d behind)) (all k d (omega arith))
  ]
]

pub cleared-pairs : (fork : ℕ) (old new : List Tile) → length new ≡ length old →
    ((k : ℕ) (d : Tile) → k < length old → Cleared fork (get_or old k d) (get_or new k d)) → (p : ℕ × ℕ) → some_holds new p
    ≡ (not (eqb p.0 fork) && some_holds old p)
cleared-pairs fork [] [] len all p = sym (and_false (not (eqb p.0 fork)))
  where
    and_false : (b : Bool) → (b && false) ≡ false
    and_false true = refl
    and_false false = refl
cleared-pairs fork [] (u ∷ us) len all p = absurd (omega arith)
cleared-pairs fork (t ∷ ts) [] len all p = absurd (omega arith)
cleared-pairs fork (t ∷ ts) (u ∷ us) len all p =
    ap₂ (λ a b. a || b) ((all 0 t (omega arith)).pairs p) (cleared-pairs fork ts us (omega arith) (λ k d lt. all (ℕ.suc k) d (omega arith)) p)
    ∙ spread (not (eqb p.0 fork)) (holds t p) (some_holds ts p)
  where
    spread : (a b c : Bool) → (a && b || a && c) ≡ (a && (b || c))
    spread true b c = refl
    spread false b c = refl

-- a tile that stands before that of the fork's first branches has bits for earlier forks
before-first : (t : Tile) (forks : ℕ) → is_pair_before (key_of t) (forks, 0) ≡ true → t.forks < forks
before-first t forks h = elim (or_cases (ltb t.forks forks) (eqb t.forks forks && ltb t.branches 0) h) [
  | inl lt ↦ ltb-true t.forks forks lt
  | inr m ↦ let none = ltb-true t.branches 0 (and_parts (eqb t.forks forks) (ltb t.branches 0) m).1 in absurd (omega arith)
]

-- and one that doesn't has bits for these or later ones
not_before-first : (t : Tile) (forks : ℕ) → is_pair_before (key_of t) (forks, 0) ≡ false → forks ≤ t.forks
not_before-first t forks h = elim (cases_lt t.forks forks) [
  | inl lt ↦ absurd (both_ways (is_pair_before (key_of t) (forks, 0)) h (before-from (key_of t) (forks, 0) (inl lt)))
  | inr le ↦ le
]

-- the fork's tiles stand in a row: from the first that isn't before it up to one of later forks
pub row_cleared-pairs : (fork : ℕ) (key : ℕ × ℕ) (old new : List Tile) (first n : ℕ) (e : Bool) → key ≡ (fork / 32, 0) → length new ≡ length old → first ≤ n →
    (IsTrue (are_ascending_pairs (keys_of old)) → IsPartitionPoint (λ p. is_pair_before p key ≡ true) (λ p. is_pair_before p key ≡ false) (keys_of old) first) →
    ForkCleared fork old new first n e → ((d : Tile) → n < length old → (get_or new n d).forks ≡ fork / 32 → ⊥) → are_ascending_pairs (keys_of old) ≡ true →
    (p : ℕ × ℕ) → some_holds new p ≡ (not (eqb p.0 fork) && some_holds old p)
row_cleared-pairs fork key old new first n e is_first len from_first parts c ends up = cleared-pairs fork old new len (λ k d lt. elim (cases_lt k first) [
  | inl near ↦ unmoved k d (c.before k d near) (front k d near lt)
  | inr from ↦ elim (cases_lt k n) [
    | inl below ↦ c.cleared k d from below lt
    | inr behind ↦ unmoved k d (c.rest k d behind) (back k d behind lt)
  ]
])
  where
    unmoved : (k : ℕ) (d : Tile) → get_or new k d ≡ get_or old k d → ((get_or old k d).forks ≡ fork / 32 → ⊥) → Cleared fork (get_or old k d) (get_or new k d)
    unmoved k d same other =
        subst (λ t. Cleared fork (get_or old k d) t) (sym same) (record { key = refl; pairs = without-other (get_or old k d) fork other })

    front : (k : ℕ) (d : Tile) → k < first → k < length old → (get_or old k d).forks ≡ fork / 32 → ⊥
    front k d near lt is =
        let before : is_pair_before (get_or (keys_of old) k (key_of d)) key ≡ true = (parts up).0 k (key_of d) (omega arith) near in
        let own : is_pair_before (key_of (get_or old k d)) key ≡ true =
        subst (λ q. is_pair_before q key ≡ true) (key-at old k d (key_of d) lt) before in
        let less = before-first (get_or old k d) (fork / 32) (subst (λ q. is_pair_before (key_of (get_or old k d)) q ≡ true) is_first own) in omega (arith, less, is)

    mark : Tile
    mark = record { forks = fork / 32 + 1; branches = 0; bits = 0 }

    back : (k : ℕ) (d : Tile) → n ≤ k → k < length old → (get_or old k d).forks ≡ fork / 32 → ⊥
    back k d le lt is =
        let there : n < length old = omega arith in
        let many : length (keys_of old) ≡ length old = keys-length old in
        let low : is_pair_before (key_of (get_or old k d)) (key_of mark) ≡ true =
        before-from (key_of (get_or old k d)) (key_of mark) (inl (omega (arith, is))) in
        let at : is_pair_before (key_of (get_or old n d)) (fork / 32 + 1, 0) ≡ true = parted-tiles mark old up n k d le lt low in
        let above = before-first (get_or old n d) (fork / 32 + 1) at in
        let none : is_pair_before (get_or (keys_of old) n (key_of d)) key ≡ false = (parts up).1 n (key_of d) from_first (omega arith) in
        let own : is_pair_before (key_of (get_or old n d)) key ≡ false =
        subst (λ q. is_pair_before q key ≡ false) (key-at old n d (key_of d) there) none in
        let below = not_before-first (get_or old n d) (fork / 32) (subst (λ q. is_pair_before (key_of (get_or old n d)) q ≡ false) is_first own) in
        let same : (get_or old n d).forks ≡ fork / 32 = omega (arith, above, below) in
        ends d there (ap (λ (t : Tile). t.forks) (c.rest n d (omega arith)) ∙ same)

-- one more of the row is cleared
pub clear-next : (fork : ℕ) (old new : List Tile) (first n : ℕ) (e f : Bool) (t left : Tile) → length new ≡ length old → first ≤ n → n < length new →
    ((d : Tile) → get_or new n d ≡ t) → Cleared fork t left → (f ≡ false → (e ≡ false) × HoldsPair left) → ForkCleared fork old new first n e →
    ForkCleared fork old (set new n left) first (n + 1) f
clear-next fork old new first n e f t left len from lt at done some c = record {
  before = λ k d near. get_or-set_other new n k left d (λ same. omega (arith, same)) ∙ c.before k d near;
  cleared = λ k d le below inside. elim (cases_lt k n) [
    | inl less ↦ subst (λ u. Cleared fork (get_or old k d) u) (sym (get_or-set_other new n k left d (λ same. omega (arith, same)))) (c.cleared k d le less inside)
    | inr more ↦
        let same : k ≡ n = omega arith in
        let was : get_or old k d ≡ t = ap (λ i. get_or old i d) same ∙ sym (c.rest n d (omega arith)) ∙ at d in
        let is : get_or (set new n left) k d ≡ left = ap (λ i. get_or (set new n left) i d) same ∙ get_or-set_same new n left d lt in
        subst (λ u. Cleared fork u (get_or (set new n left) k d)) (sym was) (subst (λ u. Cleared fork t u) (sym is) done)
  ];
  rest = λ k d le. get_or-set_other new n k left d (λ same. omega (arith, same)) ∙ c.rest k d (omega arith);
  filled = λ none k d le below inside. elim (cases_lt k n) [
    | inl less ↦ subst HoldsPair (sym (get_or-set_other new n k left d (λ same. omega (arith, same)))) (c.filled (some none).0 k d le less inside)
    | inr more ↦
        let same : k ≡ n = omega arith in
        let is : get_or (set new n left) k d ≡ left = ap (λ i. get_or (set new n left) i d) same ∙ get_or-set_same new n left d lt in
        subst HoldsPair (sym is) (some none).1
  ];
}

-- tiles that are left out with no pair
pub kept-pairs : (keep : Tile → Bool) (ts : List Tile) (p : ℕ × ℕ) → ((t : Tile) → keep t ≡ false → holds t p ≡ false) → some_holds (filter keep ts) p
    ≡ some_holds ts p
kept-pairs keep [] p none = refl
kept-pairs keep (t ∷ ts) p none = elim (cases_Bool (keep t)) [
  | inl k ↦ rw k (ap (λ b. holds t p || b) (kept-pairs keep ts p none))
  | inr n ↦ rw n (kept-pairs keep ts p none ∙ sym (ap (λ b. b || some_holds ts p) (none t n)))
]

pub kept-keys : (keep : Tile → Bool) (ts : List Tile) → are_ascending_pairs (keys_of ts) ≡ true → are_ascending_pairs (keys_of (filter keep ts)) ≡ true
kept-keys keep [] up = refl
kept-keys keep (t ∷ ts) up = elim (cases_Bool (keep t)) [
  | inl k ↦ rw k (ascending-before (key_of t) (keys_of (filter keep ts)) (later ts (before-rest (key_of t) (keys_of ts) up))
      (kept-keys keep ts (ascending-rest (key_of t) (keys_of ts) up)))
  | inr n ↦ rw n (kept-keys keep ts (ascending-rest (key_of t) (keys_of ts) up))
]
  where
    later : (us : List Tile) → list_all (is_pair_before (key_of t)) (keys_of us) ≡ true → list_all (is_pair_before (key_of t)) (keys_of (filter keep us)) ≡ true
    later [] a = refl
    later (u ∷ us) a =
        let h = and_parts (is_pair_before (key_of t) (key_of u)) (list_all (is_pair_before (key_of t)) (keys_of us)) a in
        elim (cases_Bool (keep u)) [
          | inl k ↦ rw k (and_from (is_pair_before (key_of t) (key_of u)) (list_all (is_pair_before (key_of t)) (keys_of (filter keep us))) h.0 (later us h.1))
          | inr n ↦ rw n (later us h.1)
        ]

-- a slice that was written whole
pub written : (new old : List Tile) (n : ℕ) → length new ≡ length old → length old ≡ n → take n (new ++ drop (length new) old) ≡ new
written [] [] ℕ.zero len is = refl
written [] [] (ℕ.suc n) len is = refl
written [] (u ∷ us) n len is = absurd (omega arith)
written (t ∷ ts) [] n len is = absurd (omega arith)
written (t ∷ ts) (u ∷ us) ℕ.zero len is = absurd (omega arith)
written (t ∷ ts) (u ∷ us) (ℕ.suc n) len is = ap (λ xs. t ∷ xs) (written ts us n (omega arith) (omega arith))
