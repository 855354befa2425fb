-- What calls on a path's tiles say of its pairs.
use Rattle.std.proofs.Common.{◌≡◌, ℕ, ◌+◌, ◌-◌, ◌^◌, ◌<◌, ◌≤◌, min, Bool, true, false, not, ◌&&◌, ◌||◌, List, [], ◌∷◌, ◌++◌, length, map, eqb, Vec, vec_len}
use Rattle.std.proofs.Common.{vec_capacity, refl, sym, ◌∙◌, ap, ap₂, subst, inl, inr, eqb-true, arith}
use Rattle.std.specs.List.{All}
use Rattle.std.proofs.lemmas.Bool.{or_cases, or_left, or_right, both_ways, false_from_ne_true}
use Rattle.std.proofs.lemmas.List.Elements.{All-same, All-head, All-tail}
use Rattle.fork_path.specs.declared.tiles.Tile.{Tile}
use Rattle.fork_path.specs.Pairs.{Pairs, are_ascending_pairs, is_same_pair, has_pair, has_pairs, with_pair, with_each, without_pairs_of, group_of, groups_of}
use Rattle.fork_path.specs.Tiles.{key_of, keys_of, holds, some_holds, pairs_of, HoldsPair}
use Rattle.fork_path.proofs.PairOrder.{same_pair-true, same_pair_self, same_pair_from}
use Rattle.fork_path.proofs.PairSets.{ascending-with_pair, ascending-filter, has-with_pair}
use Rattle.fork_path.proofs.Merges.{has-with_each, ascending-with_each}
use Rattle.fork_path.proofs.TileBits.{same_tests, holds-key}
use Rattle.fork_path.proofs.TileLists.{keys-length}
use Rattle.fork_path.proofs.TileViews.{has-pairs_of, ascending-pairs_of, no-pairs_of, same_members, has-filter, has_pairs-true, has_pairs-false}

-- the pairs of a path, seen from outside
pub seen-ascending : (ts : List Tile) (seen : List (ℕ × ℕ)) → pairs_of ts ≡ seen → are_ascending_pairs seen ≡ true
seen-ascending ts seen e = subst (λ ps. are_ascending_pairs ps ≡ true) e (ascending-pairs_of ts)

pub seen-has : (ts : List Tile) (seen : List (ℕ × ℕ)) (p : ℕ × ℕ) → pairs_of ts ≡ seen → has_pair p seen ≡ some_holds ts p
seen-has ts seen p e = ap (has_pair p) (sym e) ∙ has-pairs_of ts p

-- whether the tile of one pair is within the tile that a search found
pub contained : (ts : List Tile) (tile own : Tile) (q : ℕ × ℕ) (r : Bool) → ((p : ℕ × ℕ) → holds tile p ≡ is_same_pair p q) →
    ((p : ℕ × ℕ) → holds tile p ≡ true → some_holds ts p ≡ holds own p) →
    (r ≡ true → (p : ℕ × ℕ) → holds tile p ≡ true → holds own p ≡ true) → (r ≡ false → (p : ℕ × ℕ) × (holds tile p ≡ true) × (holds own p ≡ false)) →
    r ≡ some_holds ts q
contained ts tile own q true of near inside outside =
    let here : holds tile q ≡ true = of q ∙ same_pair_self q in
    sym (near q here ∙ inside refl q here)
contained ts tile own q false of near inside outside =
    let w = outside refl in
    let is : w.0 ≡ q = same_pair-true w.0 q (sym (of w.0) ∙ w.1) in
    sym (subst (λ z. some_holds ts z ≡ false) is (near w.0 w.1 ∙ w.2))

-- ===== The walk along the tiles of another path

pub included : (own others : List Tile) (r : Bool) → (r ≡ true → (p : ℕ × ℕ) → some_holds others p ≡ true → some_holds own p ≡ true) →
    (r ≡ false → (p : ℕ × ℕ) × (some_holds others p ≡ true) × (some_holds own p ≡ false)) → r ≡ has_pairs (pairs_of own) (pairs_of others)
included own others true inside outside =
    sym (has_pairs-true (pairs_of own) (pairs_of others) (λ p h. has-pairs_of own p ∙ inside refl p (sym (has-pairs_of others p) ∙ h)))
included own others false inside outside =
    let w = outside refl in
    sym (has_pairs-false (pairs_of own) (pairs_of others) w.0 (has-pairs_of others w.0 ∙ w.1) (has-pairs_of own w.0 ∙ w.2))

-- ===== No pairs

pub emptied : (ts : List Tile) → All HoldsPair ts → eqb (length ts) 0 ≡ eqb (length (pairs_of ts)) 0
emptied [] filled = sym (ap (λ ps. eqb (length ps) 0) (no-pairs_of [] refl))
emptied (t ∷ ts) filled =
    let some = All-head HoldsPair t ts filled in
    some-eqb (t ∷ ts) (omega arith)
    ∙ sym (longer (pairs_of (t ∷ ts)) some.0 (has-pairs_of (t ∷ ts) some.0 ∙ or_left (holds t some.0) (some_holds ts some.0) some.1))
  where
    some-eqb : {X : Type 0} (xs : List X) → 0 < length xs → eqb (length xs) 0 ≡ false
    some-eqb xs some = false_from_ne_true (eqb (length xs) 0) (λ e. let none = eqb-true (length xs) 0 e in omega (arith, none))

    longer : (ps : List (ℕ × ℕ)) (p : ℕ × ℕ) → has_pair p ps ≡ true → eqb (length ps) 0 ≡ false
    longer [] p h = absurd (both_ways false refl h)
    longer (q ∷ qs) p h = some-eqb (q ∷ qs) (omega arith)

-- ===== How many groups

-- a test that one of the pairs meets
some-group : (g : ℕ × ℕ) (ps : List (ℕ × ℕ)) → has_pair g (map group_of ps) ≡ true → (p : ℕ × ℕ) × (has_pair p ps ≡ true) × (group_of p ≡ g)
some-group g [] h = absurd (both_ways false refl h)
some-group g (p ∷ ps) h = elim (or_cases (is_same_pair g (group_of p)) (has_pair g (map group_of ps)) h) [
  | inl here ↦ (p, or_left (is_same_pair p p) (has_pair p ps) (same_pair_self p), sym (same_pair-true g (group_of p) here))
  | inr there ↦ let w = some-group g ps there in (w.0, or_right (is_same_pair w.0 p) (has_pair w.0 ps) w.1, w.2)
]

has-group : (p : ℕ × ℕ) (ps : List (ℕ × ℕ)) → has_pair p ps ≡ true → has_pair (group_of p) (map group_of ps) ≡ true
has-group p [] h = absurd (both_ways false refl h)
has-group p (q ∷ qs) h = elim (or_cases (is_same_pair p q) (has_pair p qs) h) [
  | inl here ↦ or_left (is_same_pair (group_of p) (group_of q)) (has_pair (group_of p) (map group_of qs))
      (same_pair_from (group_of p) (group_of q) (ap group_of (same_pair-true p q here)))
  | inr there ↦ or_right (is_same_pair (group_of p) (group_of q)) (has_pair (group_of p) (map group_of qs)) (has-group p qs there)
]

-- a pair's group is the key of the tile that holds it
held-key : (p : ℕ × ℕ) (ts : List Tile) → some_holds ts p ≡ true → has_pair (group_of p) (keys_of ts) ≡ true
held-key p [] h = absurd (both_ways false refl h)
held-key p (t ∷ ts) h = elim (or_cases (holds t p) (some_holds ts p) h) [
  | inl here ↦ or_left (is_same_pair (group_of p) (key_of t)) (has_pair (group_of p) (keys_of ts))
      (same_pair_from (group_of p) (key_of t) (sym (holds-key t p here)))
  | inr there ↦ or_right (is_same_pair (group_of p) (key_of t)) (has_pair (group_of p) (keys_of ts)) (held-key p ts there)
]

-- and each key is the group of a pair
key-held : (g : ℕ × ℕ) (ts : List Tile) → All HoldsPair ts → has_pair g (keys_of ts) ≡ true → (p : ℕ × ℕ) × (some_holds ts p ≡ true) × (group_of p ≡ g)
key-held g [] filled h = absurd (both_ways false refl h)
key-held g (t ∷ ts) filled h = elim (or_cases (is_same_pair g (key_of t)) (has_pair g (keys_of ts)) h) [
  | inl here ↦
      let some = All-head HoldsPair t ts filled in
      (some.0, or_left (holds t some.0) (some_holds ts some.0) some.1, sym (holds-key t some.0 some.1) ∙ sym (same_pair-true g (key_of t) here))
  | inr there ↦ let w = key-held g ts (All-tail HoldsPair t ts filled) there in (w.0, or_right (holds t w.0) (some_holds ts w.0) w.1, w.2)
]

groups-are_keys : (ts : List Tile) → are_ascending_pairs (keys_of ts) ≡ true → All HoldsPair ts → groups_of (pairs_of ts) ≡ keys_of ts
unfolding groups_of
groups-are_keys ts up filled = same_members (with_each groups []) (keys_of ts) (ascending-with_each groups [] refl) up
    (λ g. same_tests (has_pair g (with_each groups [])) (has_pair g (keys_of ts)) (there g) (back g))
  where
    groups : List (ℕ × ℕ)
    groups = map group_of (pairs_of ts)

    members : (g : ℕ × ℕ) → has_pair g (with_each groups []) ≡ has_pair g groups
    members g = has-with_each g groups [] ∙ or_false (has_pair g groups)
      where
        or_false : (b : Bool) → (b || false) ≡ b
        or_false true = refl
        or_false false = refl

    there : (g : ℕ × ℕ) → has_pair g (with_each groups []) ≡ true → has_pair g (keys_of ts) ≡ true
    there g h =
        let w = some-group g (pairs_of ts) (sym (members g) ∙ h) in
        subst (λ k. has_pair k (keys_of ts) ≡ true) w.2 (held-key w.0 ts (sym (has-pairs_of ts w.0) ∙ w.1))

    back : (g : ℕ × ℕ) → has_pair g (keys_of ts) ≡ true → has_pair g (with_each groups []) ≡ true
    back g h =
        let w = key-held g ts filled h in
        members g ∙ subst (λ k. has_pair k groups ≡ true) w.2 (has-group w.0 (pairs_of ts) (has-pairs_of ts w.0 ∙ w.1))

-- the pairs are of as many groups as there are tiles
groups-length : (ts : List Tile) → are_ascending_pairs (keys_of ts) ≡ true → All HoldsPair ts → length (groups_of (pairs_of ts)) ≡ length ts
groups-length ts up filled = ap length (groups-are_keys ts up filled) ∙ keys-length ts

-- the groups that are there and the room for more make what there is memory for
pub whole-room : {Z : Type 0} (tiles : Vec Tile Z) (seen : Pairs) → are_ascending_pairs (keys_of tiles.items) ≡ true → All HoldsPair tiles.items →
    vec_len tiles ≤ 2 ^ 57 →
    record { pairs = pairs_of tiles.items; room = min (vec_capacity tiles) (2 ^ 57) - vec_len tiles } ≡ seen → seen.room + length (groups_of seen.pairs)
    ≡ min (vec_capacity tiles) (2 ^ 57)
whole-room tiles seen up filled bound is =
    let groups : length (groups_of seen.pairs) ≡ length tiles.items = ap (λ v. length (groups_of v.pairs)) (sym is) ∙ groups-length tiles.items up filled in
    let room : min (vec_capacity tiles) (2 ^ 57) - vec_len tiles ≡ seen.room = ap (λ v. v.room) is in
    omega (arith, groups, room, bound, tiles.ok.0, tiles.ok.1)

-- ===== Changes

pub put-pairs : (old new : List Tile) (tile : Tile) (q : ℕ × ℕ) (seen : List (ℕ × ℕ)) → pairs_of old ≡ seen →
    ((p : ℕ × ℕ) → holds tile p ≡ is_same_pair p q) → ((p : ℕ × ℕ) → some_holds new p ≡ (holds tile p || some_holds old p)) → pairs_of new ≡ with_pair q seen
put-pairs old new tile q seen e of made =
    same_members (pairs_of new) (with_pair q seen) (ascending-pairs_of new) (ascending-with_pair q seen (seen-ascending old seen e))
    (λ p. has-pairs_of new p ∙ made p ∙ ap₂ (λ a b. a || b) (of p) (sym (seen-has old seen p e)) ∙ sym (has-with_pair p q seen))

pub dropped-pairs : (old new : List Tile) (fork : ℕ) (seen : List (ℕ × ℕ)) → pairs_of old ≡ seen →
    ((p : ℕ × ℕ) → some_holds new p ≡ (not (eqb p.0 fork) && some_holds old p)) → pairs_of new ≡ without_pairs_of fork seen
dropped-pairs old new fork seen e made =
    let keep : ℕ × ℕ → Bool = λ p. not (eqb p.0 fork) in
    same_members (pairs_of new) (without_pairs_of fork seen) (ascending-pairs_of new) (ascending-filter keep seen (seen-ascending old seen e))
    (λ p. has-pairs_of new p ∙ made p ∙ ap (λ b. not (eqb p.0 fork) && b) (sym (seen-has old seen p e)) ∙ sym (has-filter keep seen p))

pub united-pairs : (own others new : List Tile) (seen seen₂ : List (ℕ × ℕ)) → pairs_of own ≡ seen → pairs_of others ≡ seen₂ →
    ((p : ℕ × ℕ) → some_holds new p ≡ (some_holds others p || some_holds own p)) → (p : ℕ × ℕ) →
    has_pair p (pairs_of new) ≡ (has_pair p seen₂ || has_pair p seen)
united-pairs own others new seen seen₂ e e₂ made p = has-pairs_of new p ∙ made p
    ∙ ap₂ (λ a b. a || b) (sym (seen-has others seen₂ p e₂)) (sym (seen-has own seen p e))

-- where there were no tiles, those of the other are copied
pub copied-first : (own others room slice new : List Tile) → length own ≡ 0 → room ≡ own → slice ≡ others → new ≡ room ++ slice → new ≡ others
copied-first [] others room slice new none e₀ e₁ made = made ∙ ap₂ (λ xs ys. xs ++ ys) e₀ e₁
copied-first (t ∷ ts) others room slice new none e₀ e₁ made = absurd (omega arith)

pub united-first : (own others new : List Tile) → length own ≡ 0 → new ≡ others → (p : ℕ × ℕ) → some_holds new p ≡ (some_holds others p || some_holds own p)
united-first [] others new none is p = ap (λ xs. some_holds xs p) is ∙ sym (or_false (some_holds others p))
  where
    or_false : (b : Bool) → (b || false) ≡ b
    or_false true = refl
    or_false false = refl
united-first (t ∷ ts) others new none is p = absurd (omega arith)

-- what holds of the tiles of a path
pub filled-same : (new old : List Tile) → new ≡ old → (are_ascending_pairs (keys_of old) ≡ true) × All HoldsPair old →
    (are_ascending_pairs (keys_of new) ≡ true) × All HoldsPair new
filled-same new old e whole = (subst (λ ts. are_ascending_pairs (keys_of ts) ≡ true) (sym e) whole.0, All-same HoldsPair new old e whole.1)
