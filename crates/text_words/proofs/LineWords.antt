-- What is read from the text that is left of a line.
use Rattle.std.proofs.Common.{◌≡◌, ℕ, zero, suc, ◌+◌, ◌-◌, ◌*◌, ◌^◌, ◌<◌, ◌≤◌, Bool, true, false, not, ◌==◌, ◌&&◌, IsTrue, List, [], ◌∷◌, ◌++◌, length, take}
use Rattle.std.proofs.Common.{drop, get_or, slice_index, nat_le, nat_lt, Option, Some, None, ap, ap₂, sym, ◌∙◌, subst, refl, arith, if◌then◌else◌, unwrap_or}
use Rattle.std.proofs.Common.{eqb-true, ltb-true, lt-ltb, take-append-drop}
use Rattle.std.proofs.Math.Seq.{take-suc}
use Rattle.std.proofs.lemmas.Bool.{and_parts}
use Rattle.std.proofs.lemmas.Bool.Decides.{nat_tests}
use Rattle.std.proofs.lemmas.Int.Digits.{digits_value_more}
use Rattle.std.proofs.lemmas.Fmt.{decimal_is_IsNumeral}
use Rattle.std.proofs.lemmas.List.{take_rest}
use Rattle.std.specs.Char.{is_ascii_digit, digit_value}
use Rattle.std.specs.List.{list_all}
use Rattle.std.specs.Prelude.{option_map}
use Rattle.std.specs.Str.Parse.{digits_value, digits_value_after}
use Rattle.tardis_base.specs.Valid.{is_within}
use Rattle.text_words.specs.Texts.{until, behind, number_of, spaces}
use Rattle.text_words.proofs.WordsRead.{number-only, number-within}
use Rattle.text_words.proofs.TextReads.{spaces-append}

-- ---- words

differs : (t : Bool) → (t ≡ true → ⊥) → t ≡ false
differs true h = absurd (h refl)
differs false h = refl

read-at : (c k : ℕ) (xs ys : List ℕ) → k < length xs → ((j : ℕ) → 0 ≤ j → j < k → (slice_index xs j == c) ≡ true → ⊥) → (slice_index xs k == c) ≡ true
    → until c (xs ++ ys) ≡ Some (take k xs, drop (suc k) xs ++ ys)
read-at c k [] ys inside none hit = absurd (omega (arith, inside))
read-at c zero (x ∷ xs) ys inside none hit = ap (λ t. if t then Some ([], xs ++ ys) else option_map (λ read. (x ∷ read.0, read.1)) (until c (xs ++ ys))) hit
read-at c (suc k) (x ∷ xs) ys inside none hit =
    let other : (x == c) ≡ false = differs (x == c) (none 0 (omega arith) (omega arith)) in
    ap (λ t. if t then Some ([], xs ++ ys) else option_map (λ read. (x ∷ read.0, read.1)) (until c (xs ++ ys))) other
    ∙ ap (option_map (λ read. (x ∷ read.0, read.1))) (read-at c k xs ys (omega (arith, inside))
    (λ j low high. none (suc j) (omega arith) (omega (arith, high))) hit)

pub until-at : (c k : ℕ) (xs : List ℕ) → k < length xs → ((j : ℕ) → 0 ≤ j → j < k → (slice_index xs j == c) ≡ true → ⊥) → (slice_index xs k == c) ≡ true
    → Some (take k xs, take (length xs - (k + 1)) (drop (k + 1) xs) ++ 32 ∷ []) ≡ until c (xs ++ 32 ∷ [])
until-at c k xs inside none hit =
    let next : k + 1 ≡ suc k = omega arith in
    let rest : take (length xs - (k + 1)) (drop (k + 1) xs) ≡ drop (suc k) xs = take_rest xs (k + 1) ∙ ap (λ n. drop n xs) next in
    ap (λ z. found (take k xs) (z ++ 32 ∷ [])) rest ∙ sym (read-at c k xs (32 ∷ []) inside none hit)
  where
    found : List ℕ → List ℕ → Option (List ℕ × List ℕ)
    found x y = Some (x, y)

pub until-none : (c : ℕ) (xs : List ℕ) → ((j : ℕ) → 0 ≤ j → j < length xs → (slice_index xs j == c) ≡ true → ⊥)
    → until c (xs ++ 32 ∷ []) ≡ (if 32 == c then Some (xs, []) else None)
until-none c [] none = refl
until-none c (x ∷ xs) none =
    let other : (x == c) ≡ false = differs (x == c) (none 0 (omega arith) (omega arith)) in
    ap (λ t. if t then Some ([], xs ++ 32 ∷ []) else option_map (λ read. (x ∷ read.0, read.1)) (until c (xs ++ 32 ∷ []))) other
    ∙ ap (option_map (λ read. (x ∷ read.0, read.1))) (until-none c xs (λ j low high. none (suc j) (omega arith) (omega (arith, high))))
    ∙ longer (32 == c)
  where
    longer : (t : Bool) → option_map {T = List ℕ × List ℕ} {U = List ℕ × List ℕ} (λ read. (x ∷ read.0, read.1)) (if t then Some (xs, []) else None)
        ≡ (if t then Some (x ∷ xs, []) else None)
    longer true = refl
    longer false = refl

-- ---- prefixes

pub behind-more : (xs ys text rest : List ℕ) → behind xs text ≡ Some rest → behind (xs ++ ys) text ≡ behind ys rest
behind-more [] ys text rest e = ap (λ o. behind ys (unwrap_or o text)) e
behind-more (x ∷ xs) ys [] rest e = absurd (cc)
behind-more (x ∷ xs) ys (c ∷ text) rest e = go (x == c) refl (λ h. behind-more xs ys text rest h) e
  where
    go : (t : Bool) → (x == c) ≡ t → (behind xs text ≡ Some rest → behind (xs ++ ys) text ≡ behind ys rest)
        → (if t then behind xs text else None) ≡ Some rest → behind (x ∷ (xs ++ ys)) (c ∷ text) ≡ behind ys rest
    go true is again e = ap (λ t. if t then behind (xs ++ ys) text else None) is ∙ again e
    go false is again e = absurd (cc)

behind-less : (xs ys text : List ℕ) → behind xs text ≡ None → behind (xs ++ ys) text ≡ None
behind-less [] ys text e = absurd (cc)
behind-less (x ∷ xs) ys [] e = refl
behind-less (x ∷ xs) ys (c ∷ text) e = go (x == c) refl (λ h. behind-less xs ys text h) e
  where
    go : (t : Bool) → (x == c) ≡ t → (behind xs text ≡ None → behind (xs ++ ys) text ≡ None) → (if t then behind xs text else None) ≡ None →
        behind (x ∷ (xs ++ ys)) (c ∷ text) ≡ None
    go true is again e = ap (λ t. if t then behind (xs ++ ys) text else None) is ∙ again e
    go false is again e = ap (λ t. if t then behind (xs ++ ys) text else None) is

one-more : (prefix : List ℕ) (i : ℕ) → i < length prefix → take (i + 1) prefix ≡ take i prefix ++ get_or prefix i 0 ∷ []
one-more prefix i h =
    let next : i + 1 ≡ suc i = omega arith in
    ap (λ n. take n prefix) next ∙ take-suc prefix i 0 h

pub behind-next : (prefix text now : List ℕ) (o : Option (List ℕ)) (i : ℕ) → i < length prefix → behind (take i prefix) text ≡ Some now
    → o ≡ behind (get_or prefix i 0 ∷ []) now → behind (take (i + 1) prefix) text ≡ o
behind-next prefix text now o i h e next =
    ap (λ z. behind z text) (one-more prefix i h) ∙ behind-more (take i prefix) (get_or prefix i 0 ∷ []) text now e ∙ sym next

pub behind-ends : (prefix text now : List ℕ) (o : Option (List ℕ)) (i : ℕ) → i < length prefix → behind (take i prefix) text ≡ Some now
    → o ≡ behind (get_or prefix i 0 ∷ []) now → o ≡ None → behind prefix text ≡ None
behind-ends prefix text now o i h e next none =
    ap (λ z. behind z text) (sym (take-append-drop (i + 1) prefix))
    ∙ behind-less (take (i + 1) prefix) (drop (i + 1) prefix) text (behind-next prefix text now o i h e next ∙ none)

-- ---- spaces

pub spaces-more : (xs : List ℕ) (i : ℕ) → i < length xs → spaces (take (i + 1) xs)
    ≡ (if get_or xs i 0 == 32 then suc (spaces (take i xs)) else spaces (take i xs))
spaces-more xs i h =
    ap (λ z. spaces z) (one-more xs i h) ∙ spaces-append (take i xs) (get_or xs i 0 ∷ []) ∙ go (get_or xs i 0 == 32)
  where
    go : (t : Bool) → spaces (take i xs) + (if t then 1 else 0) ≡ (if t then suc (spaces (take i xs)) else spaces (take i xs))
    go true = omega arith
    go false = omega arith

pub spaces-ended : (xs : List ℕ) → spaces (xs ++ 32 ∷ []) ≡ spaces xs + 1
spaces-ended xs = spaces-append xs (32 ∷ [])

-- ---- numbers

value-grows : (n : ℕ) (ds : List ℕ) → n ≤ digits_value_after 10 n ds
value-grows n [] = omega arith
value-grows n (d ∷ ds) = let h = value-grows (n * 10 + digit_value d) ds in omega (arith, h)

value-append : (n : ℕ) (xs ys : List ℕ) → digits_value_after 10 n (xs ++ ys) ≡ digits_value_after 10 (digits_value_after 10 n xs) ys
value-append n [] ys = refl
value-append n (x ∷ xs) ys = value-append (n * 10 + digit_value x) xs ys

value-take : (ds : List ℕ) (i : ℕ) → digits_value 10 (take i ds) ≤ digits_value 10 ds
value-take ds i =
    let whole = ap (digits_value 10) (sym (take-append-drop i ds)) ∙ value-append 0 (take i ds) (drop i ds) in
    let grows = value-grows (digits_value 10 (take i ds)) (drop i ds) in
    omega (arith, whole, grows)

all-at : (p : ℕ → Bool) (xs : List ℕ) (i : ℕ) → i < length xs → IsTrue (list_all p xs) → IsTrue (p (get_or xs i 0))
all-at p [] i h each = absurd (omega (arith, h))
all-at p (x ∷ xs) zero h each = (and_parts (p x) (list_all p xs) each).0
all-at p (x ∷ xs) (suc i) h each = all-at p xs i (omega (arith, h)) (and_parts (p x) (list_all p xs) each).1

pub no-number : (limit i : ℕ) (word : List ℕ) → limit ≤ 2 ^ 64 → i < length word
    → ((is_ascii_digit (get_or word i 0) ≡ true) → digits_value 10 (take i word) < limit → ⊥) → number_of limit word ≡ None
no-number limit i word few inside other = go (number_of limit word) refl
  where
    go : (o : Option ℕ) → number_of limit word ≡ o → number_of limit word ≡ None
    go None is = is
    go (Some n) is =
        let x = number-only limit word n is in
        let below = ltb-true n limit x.0 in
        let small : n < 2 ^ 64 = omega (arith, below, few) in
        let value = ap (digits_value 10) x.1 ∙ (decimal_is_IsNumeral n small).1 in
        let each : IsTrue (list_all (λ x. is_within 48 57 x) word) = subst (λ z. IsTrue (list_all (λ x. is_within 48 57 x) z)) (sym x.1)
        (number-within n small) in
        let front = value-take word i in
        absurd (other (all-at (λ x. is_within 48 57 x) word i inside each) (omega (arith, value, below, front)))

pub next-value : (ds : List ℕ) (i n d : ℕ) → i < length ds → is_ascii_digit (get_or ds i 0) ≡ true → n ≡ digits_value 10 (take i ds) → d ≡ get_or ds i 0 - 48
    → n * 10 + d ≡ digits_value 10 (take (i + 1) ds)
next-value ds i n d inside digit value is =
    let worth : digit_value (get_or ds i 0) ≡ get_or ds i 0 - 48 = grind (arith, nat_tests) in
    let more = digits_value_more 10 ds i inside in
    omega (arith, worth, more, value, is)

pub small-digit : (c : ℕ) → is_ascii_digit c ≡ true → c - 48 ≤ 9
small-digit c digit =
    let parts = and_parts (nat_le 48 c) (nat_le c 57) digit in
    let most = Rattle.std.proofs.Common.leb-true c 57 parts.1 in
    omega (arith, most)
