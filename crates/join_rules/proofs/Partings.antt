-- Text is parted at its commas.
use Rattle.std.proofs.Common.{Bor, Option, Some, None, is_some, not, ◌≡◌, ℕ, suc, ◌+◌, ◌-◌, ◌<◌, ◌≤◌, Bool, true, false, ◌==◌, List, [], ◌∷◌, length, take}
use Rattle.std.proofs.Common.{drop, slice_index, ap, sym, ◌∙◌, refl, arith, if◌then◌else◌}
use Rattle.std.proofs.lemmas.Bool.{ne_eqb}
use Rattle.std.proofs.lemmas.List.{take_rest}
use Rattle.std.proofs.lemmas.List.Sums.{position_or_len_is}
use Rattle.std.specs.List.{position_or_len, before_first, after_first}
use Rattle.std.specs.Option.{option_copied}
use Rattle.join_rules.specs.Parts.{parts, parts_left, with_byte}

differs : (t : Bool) → (t ≡ true → ⊥) → t ≡ false
differs true h = absurd (h refl)
differs false h = refl

parts-other : (x : ℕ) (xs : List ℕ) → (x == 44) ≡ false → parts (x ∷ xs) ≡ with_byte x (parts xs)
parts-other x xs other = ap (λ t. if t then [] ∷ parts xs else with_byte x (parts xs)) other

-- where the first comma is at this place
parted : (k : ℕ) (xs : List ℕ) → k < length xs → ((j : ℕ) → 0 ≤ j → j < k → (slice_index xs j == 44) ≡ true → ⊥) → (slice_index xs k == 44) ≡ true →
    parts xs ≡ take k xs ∷ parts (drop (suc k) xs)
parted k [] inside none hit = absurd (omega arith)
parted ℕ.zero (x ∷ xs) inside none hit = ap (λ t. if t then [] ∷ parts xs else with_byte x (parts xs)) hit
parted (suc k) (x ∷ xs) inside none hit =
    parts-other x xs (differs (x == 44) (none 0 (omega arith) (omega arith)))
    ∙ ap (with_byte x) (parted k xs (omega (arith, inside)) (λ j low high. none (suc j) (omega arith) (omega (arith, high))) hit)

pub parts-at : (k : ℕ) (xs : List ℕ) → k < length xs → ((j : ℕ) → 0 ≤ j → j < k → (slice_index xs j == 44) ≡ true → ⊥) → (slice_index xs k == 44) ≡ true →
    parts xs ≡ take k xs ∷ parts (take (length xs - (k + 1)) (drop (k + 1) xs))
parts-at k xs inside none hit =
    let next : k + 1 ≡ suc k = omega arith in
    let rest : take (length xs - (k + 1)) (drop (k + 1) xs) ≡ drop (suc k) xs = take_rest xs (k + 1) ∙ ap (λ n. drop n xs) next in
    parted k xs inside none hit ∙ ap (λ ys. take k xs ∷ parts ys) (sym rest)

pub parts-none : (xs : List ℕ) → ((j : ℕ) → 0 ≤ j → j < length xs → (slice_index xs j == 44) ≡ true → ⊥) → parts xs ≡ xs ∷ []
parts-none [] none = refl
parts-none (x ∷ xs) none =
    parts-other x xs (differs (x == 44) (none 0 (omega arith) (omega arith)))
    ∙ ap (with_byte x) (parts-none xs (λ j low high. none (suc j) (omega arith) (omega (arith, high))))

-- the place of the first `=`
pub equals-at : (k : ℕ) (xs : List ℕ) → k < length xs → ((j : ℕ) → 0 ≤ j → j < k → (slice_index xs j == 61) ≡ true → ⊥) → (slice_index xs k == 61) ≡ true →
    position_or_len (λ c. c == 61) xs ≡ k
equals-at k xs inside none hit =
    position_or_len_is (λ c. c == 61) xs k 0 (omega (arith, inside)) (λ j below. differs (slice_index xs j == 61) (none j (omega arith) below)) (λ below. hit)

no-equals : (xs : List ℕ) → ((j : ℕ) → 0 ≤ j → j < length xs → (slice_index xs j == 61) ≡ true → ⊥) → position_or_len (λ c. c == 61) xs ≡ length xs
no-equals xs none =
    position_or_len_is (λ c. c == 61) xs (length xs) 0 (omega arith) (λ j below. differs (slice_index xs j == 61) (none j (omega arith) below))
    (λ below. absurd (omega (arith, below)))

pub behind-equals : (k : ℕ) (xs : List ℕ) → k < length xs → ((j : ℕ) → 0 ≤ j → j < k → (slice_index xs j == 61) ≡ true → ⊥) → (slice_index xs k == 61) ≡ true →
    take (length xs - (k + 1)) (drop (k + 1) xs) ≡ after_first (λ c. c == 61) xs
behind-equals k xs inside none hit = take_rest xs (k + 1) ∙ ap (λ n. drop (n + 1) xs) (sym (equals-at k xs inside none hit))

take-all : (xs : List ℕ) → take (length xs) xs ≡ xs
take-all [] = refl
take-all (x ∷ xs) = ap (λ ys. x ∷ ys) (take-all xs)

drop-all : (xs : List ℕ) → drop (suc (length xs)) xs ≡ []
drop-all [] = refl
drop-all (x ∷ xs) = drop-all xs

pub equals-none : (xs : List ℕ) → ((j : ℕ) → 0 ≤ j → j < length xs → (slice_index xs j == 61) ≡ true → ⊥) → xs ≡ before_first (λ c. c == 61) xs
equals-none xs none = sym (take-all xs) ∙ ap (λ n. take n xs) (sym (no-equals xs none))

pub nothing-behind : (xs : List ℕ) → ((j : ℕ) → 0 ≤ j → j < length xs → (slice_index xs j == 61) ≡ true → ⊥) → [] ≡ after_first (λ c. c == 61) xs
nothing-behind xs none =
    let next : length xs + 1 ≡ suc (length xs) = omega arith in
    sym (drop-all xs) ∙ ap (λ n. drop n xs) (sym next) ∙ ap (λ n. drop (n + 1) xs) (sym (no-equals xs none))

-- a text has some part
some-part : (xs : List ℕ) → (length (parts xs) == 0) ≡ false
some-part [] = refl
some-part (x ∷ xs) = go (x == 44) (parts xs)
  where
    go : (t : Bool) (ps : List (List ℕ)) → (length (if t then [] ∷ ps else with_byte x ps) == 0) ≡ false
    go true ps = ne_eqb (suc (length ps)) 0 (λ z. omega arith)
    go false [] = refl
    go false (p ∷ ps) = ne_eqb (suc (length ps)) 0 (λ z. omega arith)

pub over : (left : Option (Bor (List ℕ))) (b : Bool) → is_some left ≡ not b → b ≡ (length (parts_left (option_copied left)) == 0)
over None true e = refl
over None false e = absurd (cc)
over (Some text) true e = absurd (cc)
over (Some text) false e = sym (some-part text.now)
