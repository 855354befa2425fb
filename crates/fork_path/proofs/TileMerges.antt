-- The tiles of two ascending lists as one.
use Rattle.std.proofs.Common.{◌≡◌, ℕ, ◌+◌, ◌-◌, ◌<◌, ◌≤◌, Bool, true, false, ◌||◌, List, [], ◌∷◌, ◌++◌, length, get_or, take, drop, IsTrue, refl, sym, ◌∙◌}
use Rattle.std.proofs.Common.{ap, ap₂, subst, arith}
use Rattle.std.specs.List.{All, AllWithin}
use Rattle.std.proofs.lemmas.List.{take-map, drop-map, map-append, take_rest}
use Rattle.std.proofs.lemmas.List.Elements.{All-same, All-append, All-push, All-take}
use Rattle.std.proofs.Math.Seq.{drop-cons}
use Rattle.fork_path.specs.declared.tiles.Tile.{Tile}
use Rattle.fork_path.specs.Pairs.{is_pair_before, are_ascending_pairs, is_same_pair, with_pair, with_each}
use Rattle.fork_path.specs.Tiles.{key_of, keys_of, holds, some_holds, HoldsPair}
use Rattle.fork_path.proofs.Merges.{Merging, merging-more, around-found, around-new, ascending-with_each, merged-whole}
use Rattle.fork_path.proofs.TileLists.{key-at, keys-length, some-append, some-split}

-- ===== Slices

pub keys-take : (n : ℕ) (ts : List Tile) → keys_of (take n ts) ≡ take n (keys_of ts)
keys-take n ts = sym (take-map key_of n ts)

-- the keys of what is behind a place
pub keys-rest : (n : ℕ) (ts : List Tile) → keys_of (take (length ts - n) (drop n ts)) ≡ take (length (keys_of ts) - n) (drop n (keys_of ts))
keys-rest n ts = ap keys_of (take_rest ts n) ∙ sym (drop-map key_of n ts) ∙ sym (take_rest (keys_of ts) n)

some-rest : (n : ℕ) (ts : List Tile) (p : ℕ × ℕ) → some_holds (take (length ts - n) (drop n ts)) p ≡ some_holds (drop n ts) p
some-rest n ts p = ap (λ xs. some_holds xs p) (take_rest ts n)

-- ===== Around a tile

pub around-keys-found : (t : Tile) (ts : List Tile) (i : ℕ) → are_ascending_pairs (keys_of ts) ≡ true → i < length ts → key_of (get_or ts i t) ≡ key_of t →
    with_pair (key_of t) (keys_of ts) ≡ keys_of (take i ts) ++ key_of t ∷ keys_of (take (length ts - (i + 1)) (drop (i + 1) ts))
around-keys-found t ts i up lt here =
    let len : length (keys_of ts) ≡ length ts = keys-length ts in
    around-found (key_of t) (keys_of ts) i up (omega arith) (key-at ts i t (key_of t) lt ∙ here)
    ∙ ap₂ (λ xs ys. xs ++ key_of t ∷ ys) (sym (keys-take i ts)) (sym (keys-rest (i + 1) ts))

pub around-keys-new : (t : Tile) (ts : List Tile) (i : ℕ) → are_ascending_pairs (keys_of ts) ≡ true → i ≤ length ts →
    AllWithin (λ k. is_pair_before k (key_of t) ≡ true) (keys_of ts) 0 i →
    (i < length ts → is_pair_before (key_of (get_or ts i t)) (key_of t) ≡ false) → (i < length ts → is_same_pair (key_of t) (key_of (get_or ts i t)) ≡ false) →
    with_pair (key_of t) (keys_of ts) ≡ keys_of (take i ts) ++ key_of t ∷ keys_of (take (length ts - i) (drop i ts))
around-keys-new t ts i up le below above other =
    let len : length (keys_of ts) ≡ length ts = keys-length ts in
    around-new (key_of t) (keys_of ts) i up (omega arith) below
    (λ lt. let lt₂ : i < length ts = omega arith in subst (λ k. is_pair_before k (key_of t) ≡ false) (sym (key-at ts i t (key_of t) lt₂)) (above lt₂))
    (λ lt. let lt₂ : i < length ts = omega arith in subst (λ k. is_same_pair (key_of t) k ≡ false) (sym (key-at ts i t (key_of t) lt₂)) (other lt₂))
    ∙ ap₂ (λ xs ys. xs ++ key_of t ∷ ys) (sym (keys-take i ts)) (sym (keys-rest i ts))

pub around-pairs-found : (t new d : Tile) (ts : List Tile) (i : ℕ) (p : ℕ × ℕ) → i < length ts → holds new p ≡ (holds (get_or ts i d) p || holds t p) →
    (holds t p || some_holds ts p) ≡ (some_holds (take i ts) p || (holds new p || some_holds (take (length ts - (i + 1)) (drop (i + 1) ts)) p))
around-pairs-found t new d ts i p lt made =
    let next : ℕ.suc i ≡ i + 1 = omega arith in
    let behind : drop i ts ≡ get_or ts i d ∷ drop (i + 1) ts = subst (λ n. drop i ts ≡ get_or ts i d ∷ drop n ts) next (drop-cons ts i d lt) in
    ap (λ b. holds t p || b) (some-split ts i p ∙ ap (λ xs. some_holds (take i ts) p || some_holds xs p) behind)
    ∙ mixed (holds t p) (some_holds (take i ts) p) (holds (get_or ts i d) p) (some_holds (drop (i + 1) ts) p)
    ∙ ap₂ (λ a b. some_holds (take i ts) p || (a || b)) (sym made) (sym (some-rest (i + 1) ts p))
  where
    mixed : (a x g y : Bool) → (a || (x || (g || y))) ≡ (x || ((g || a) || y))
    mixed true true g y = refl
    mixed true false true y = refl
    mixed true false false y = refl
    mixed false true g y = refl
    mixed false false true y = refl
    mixed false false false y = refl

pub around-pairs-new : (t : Tile) (ts : List Tile) (i : ℕ) (p : ℕ × ℕ) →
    (holds t p || some_holds ts p) ≡ (some_holds (take i ts) p || (holds t p || some_holds (take (length ts - i) (drop i ts)) p))
around-pairs-new t ts i p =
    ap (λ b. holds t p || b) (some-split ts i p)
    ∙ turned (holds t p) (some_holds (take i ts) p) (some_holds (drop i ts) p)
    ∙ ap (λ b. some_holds (take i ts) p || (holds t p || b)) (sym (some-rest i ts p))
  where
    turned : (a b c : Bool) → (a || (b || c)) ≡ (b || (a || c))
    turned true true c = refl
    turned true false c = refl
    turned false true c = refl
    turned false false c = refl

-- ===== The walk along the second list

-- where the walk is: the keys so far and those that are left, and what they hold
pub record TileMerging (base own others out rest : List Tile) (index : ℕ) : Type 0 where
  pub keys : are_ascending_pairs (keys_of own) ≡ true → are_ascending_pairs (keys_of others) ≡ true →
      Merging (keys_of base) (keys_of own) (keys_of others) (keys_of out) (keys_of rest) index
  pub pairs : (p : ℕ × ℕ) → (some_holds base p || (some_holds others p || some_holds own p))
      ≡ (some_holds out p || (some_holds (drop index others) p || some_holds rest p))
  pub filled : All HoldsPair base → All HoldsPair own → All HoldsPair others → All HoldsPair out × All HoldsPair rest

pub tile_merging-more : (base own others out rest front behind mid new : List Tile) (d joined : Tile) (index : ℕ) → index < length others →
    TileMerging base own others out rest index →
    key_of joined ≡ key_of (get_or others index d) →
    (IsTrue (are_ascending_pairs (keys_of rest)) → with_pair (key_of (get_or others index d)) (keys_of rest) ≡ keys_of front
    ++ key_of (get_or others index d) ∷ keys_of behind) →
    ((p : ℕ × ℕ) → (holds (get_or others index d) p || some_holds rest p) ≡ (some_holds front p || (holds joined p || some_holds behind p))) →
    (HoldsPair (get_or others index d) → All HoldsPair rest → All HoldsPair front × HoldsPair joined × All HoldsPair behind) →
    mid ≡ out ++ front → new ≡ mid ++ joined ∷ [] → TileMerging base own others new behind (index + 1)
tile_merging-more base own others out rest front behind mid new d joined index lt m key put pairs filled e₁ e₂ = record {
  keys = λ up up₂.
      let len : length (keys_of others) ≡ length others = keys-length others in
      let at : get_or (keys_of others) index (0, 0) ≡ key_of (get_or others index d) = key-at others index d (0, 0) lt in
      let put₂ : IsTrue (are_ascending_pairs (keys_of rest)) → with_pair (get_or (keys_of others) index (0, 0)) (keys_of rest) ≡ keys_of front
      ++ get_or (keys_of others) index (0, 0) ∷ keys_of behind =
      subst (λ k. IsTrue (are_ascending_pairs (keys_of rest)) → with_pair k (keys_of rest) ≡ keys_of front ++ k ∷ keys_of behind) (sym at) put in
      let k₁ : keys_of mid ≡ keys_of out ++ keys_of front = ap keys_of e₁ ∙ map-append key_of out front in
      let k₂ : keys_of new ≡ keys_of mid ++ get_or (keys_of others) index (0, 0) ∷ [] = ap keys_of e₂ ∙ map-append key_of mid (joined ∷ [])
      ∙ ap (λ k. keys_of mid ++ k ∷ []) (key ∙ sym at) in
      merging-more (keys_of base) (keys_of own) (keys_of others) (keys_of out) (keys_of rest) (keys_of front) (keys_of behind) (keys_of mid) (keys_of new) index
      up₂ (omega arith) (m.keys up up₂) put₂ k₁ k₂;
  pairs = λ p.
      let next : ℕ.suc index ≡ index + 1 = omega arith in
      let q = get_or others index d in
      let left : drop index others ≡ q ∷ drop (index + 1) others = subst (λ n. drop index others ≡ q ∷ drop n others) next (drop-cons others index d lt) in
      m.pairs p
      ∙ ap (λ xs. some_holds out p || (some_holds xs p || some_holds rest p)) left
      ∙ regrouped (some_holds out p) (holds q p) (some_holds (drop (index + 1) others) p) (some_holds rest p)
      ∙ ap (λ b. some_holds out p || (some_holds (drop (index + 1) others) p || b)) (pairs p)
      ∙ moved (some_holds out p) (some_holds (drop (index + 1) others) p) (some_holds front p) (holds joined p) (some_holds behind p)
      ∙ ap (λ b. b || (some_holds (drop (index + 1) others) p || some_holds behind p)) (sym (made p));
  filled = λ base_filled own_filled others_filled.
      let so_far = m.filled base_filled own_filled others_filled in
      let parts = filled (others_filled index d lt) so_far.1 in
      let mid_filled = All-same HoldsPair mid (out ++ front) e₁ (All-append HoldsPair out front so_far.0 parts.0) in
      (All-same HoldsPair new (mid ++ joined ∷ []) e₂ (All-push HoldsPair mid joined mid_filled parts.1), parts.2);
}
  where
    regrouped : (o q ds r : Bool) → (o || ((q || ds) || r)) ≡ (o || (ds || (q || r)))
    regrouped true q ds r = refl
    regrouped false true true r = refl
    regrouped false true false r = refl
    regrouped false false true r = refl
    regrouped false false false r = refl

    moved : (o ds f j b : Bool) → (o || (ds || (f || (j || b)))) ≡ (((o || f) || j) || (ds || b))
    moved true ds f j b = refl
    moved false true true j b = refl
    moved false true false true b = refl
    moved false true false false b = refl
    moved false false true j b = refl
    moved false false false true b = refl
    moved false false false false b = refl

    or_false : (b : Bool) → (b || false) ≡ b
    or_false true = refl
    or_false false = refl

    made : (p : ℕ × ℕ) → some_holds new p ≡ ((some_holds out p || some_holds front p) || holds joined p)
    made p =
        ap (λ xs. some_holds xs p) e₂ ∙ some-append mid (joined ∷ []) p
        ∙ ap₂ (λ a b. a || b) (ap (λ xs. some_holds xs p) e₁ ∙ some-append out front p) (or_false (holds joined p))

-- ===== What both lists begin with

pub merged-keys : (own others start out new : List Tile) (n : ℕ) → are_ascending_pairs (keys_of own) ≡ true → are_ascending_pairs (keys_of others) ≡ true →
    take n own ≡ take n others → start ≡ [] → out ≡ start ++ take n own →
    (IsTrue (are_ascending_pairs (keys_of (take (length own - n) (drop n own)))) →
    IsTrue (are_ascending_pairs (keys_of (take (length others - n) (drop n others)))) →
    keys_of new ≡ keys_of out ++ with_each (keys_of (take (length others - n) (drop n others))) (keys_of (take (length own - n) (drop n own)))) →
    are_ascending_pairs (keys_of new) ≡ true
merged-keys own others start out new n up up₂ same e₀ e₁ made =
    let a = keys-rest n own in
    let b = keys-rest n others in
    let whole = merged-whole (keys_of own) (keys_of others) (keys_of start) (keys_of out) (keys_of new) n up up₂
    (sym (keys-take n own) ∙ ap keys_of same ∙ keys-take n others) (ap keys_of e₀)
    (ap keys_of e₁ ∙ map-append key_of start (take n own) ∙ ap (λ ks. keys_of start ++ ks) (keys-take n own))
    (λ u v. made (subst (λ ks. are_ascending_pairs ks ≡ true) (sym a) u) (subst (λ ks. are_ascending_pairs ks ≡ true) (sym b) v)
    ∙ ap₂ (λ xs ys. keys_of out ++ with_each xs ys) b a) in
    subst (λ ks. are_ascending_pairs ks ≡ true) (sym whole) (ascending-with_each (keys_of others) (keys_of own) up)

pub merged-pairs : (own others start out new : List Tile) (n : ℕ) → take n own ≡ take n others → start ≡ [] → out ≡ start ++ take n own → (p : ℕ × ℕ) →
    some_holds new p ≡ (some_holds out p || (some_holds (take (length others - n) (drop n others)) p || some_holds (take (length own - n) (drop n own)) p))
    → some_holds new p ≡ (some_holds others p || some_holds own p)
merged-pairs own others start out new n same e₀ e₁ p made =
    made
    ∙ ap₂ (λ a b. a || b) (ap (λ xs. some_holds xs p) (e₁ ∙ ap (λ xs. xs ++ take n own) e₀)) (ap₂ (λ a b. a || b) (some-rest n others p) (some-rest n own p))
    ∙ shared (some_holds (take n own) p) (some_holds (drop n others) p) (some_holds (drop n own) p)
    ∙ ap₂ (λ a b. a || b) (ap (λ xs. some_holds xs p || some_holds (drop n others) p) same ∙ sym (some-split others n p)) (sym (some-split own n p))
  where
    shared : (f o w : Bool) → (f || (o || w)) ≡ ((f || o) || (f || w))
    shared true o w = refl
    shared false o w = refl

pub merged-filled : (own start out : List Tile) (n : ℕ) → start ≡ [] → out ≡ start ++ take n own → All HoldsPair own → All HoldsPair out
merged-filled own start out n e₀ e₁ filled = All-same HoldsPair out (take n own) (e₁ ∙ ap (λ xs. xs ++ take n own) e₀) (All-take HoldsPair n own filled)
