-- What a taking gives, when things are taken one after another.
use Rattle.std.proofs.Common.{ap₂, ◌≡◌, ℕ, Bool, true, false, ◌&&◌, IsTrue, List, length, take, drop, nat_le, nat_lt, ◌<◌, ◌≤◌, Option, Some, None, ap, sym}
use Rattle.std.proofs.Common.{◌∙◌, subst, refl, le-leb, take-append-drop}
use Rattle.std.proofs.lemmas.Bool.{and_left, and_right, and_from, and_parts, lt-leb}
use Rattle.std.proofs.lemmas.List.Folds.{list_all-append}
use Rattle.std.specs.Prelude.{option_map, option_and_then, Result, IfOk}
use Rattle.std.specs.Bool.{then_some}
use Rattle.tardis_base.specs.declared.faults.NoMemory.{NoMemory}
use Rattle.tardis_base.specs.Valid.{are_bytes}
use Rattle.tardis_base.proofs.TestParts.{and-true}
use Rattle.wire_item.specs.Fronts.{Front, bytes_front, made, only_if, after, times, counted}
use Rattle.wire_item.specs.Takings.{Takes, Makes}
use Rattle.wire_item.proofs.Fronts.{made-read, only_if-read, only_if-source, after-read}

-- a taking, as an equation, and back
pub taken : {A : Type 0} (front : Front A) (old new : List ℕ) (a : A) → Takes front old (Some a) new → front old ≡ Some (a, new)
unfolding Takes
taken front old new a h = h

pub untaken : {A : Type 0} (front : Front A) (old new : List ℕ) → Takes front old None new → front old ≡ None
unfolding Takes
untaken front old new h = h

pub takes : {A : Type 0} (front : Front A) (old new : List ℕ) (a : A) → front old ≡ Some (a, new) → Takes front old (Some a) new
unfolding Takes
takes front old new a h = h

-- an answer that is None
pub takes-none : {A : Type 0} (front : Front A) (old new : List ℕ) (result : Option A) → result ≡ None → front old ≡ None → Takes front old result new
unfolding Takes
takes-none front old new result e h = subst (λ r. Takes front old r new) (sym e) h

-- where nothing is read, nothing is made
pub made-none : {A B : Type 0} (f : A → B) (front : Front A) (bytes : List ℕ) → front bytes ≡ None → made f front bytes ≡ None
made-none f front bytes e = ap (option_map (λ read. (f read.0, read.1))) e

pub only_if-none : {A : Type 0} (test : A → Bool) (front : Front A) (bytes : List ℕ) → front bytes ≡ None → only_if test front bytes ≡ None
only_if-none test front bytes e = ap (option_and_then (λ read. then_some (test read.0) read)) e

pub only_if-fails : {A : Type 0} (test : A → Bool) (front : Front A) (bytes : List ℕ) (a : A) (rest : List ℕ) → front bytes ≡ Some (a, rest) →
    test a ≡ false → only_if test front bytes ≡ None
only_if-fails test front bytes a rest e fails =
    ap (option_and_then (λ read. then_some (test read.0) read)) e ∙ ap (λ t. then_some t (a, rest)) fails

pub after-none : {A B : Type 0} (first : Front A) (second : A → Front B) (bytes : List ℕ) → first bytes ≡ None → after first second bytes ≡ None
after-none first second bytes e = ap (option_and_then (λ read. made (λ b. (read.0, b)) (second read.0) read.1)) e

pub after-then_none : {A B : Type 0} (first : Front A) (second : A → Front B) (bytes : List ℕ) (a : A) (rest : List ℕ) → first bytes ≡ Some (a, rest) →
    second a rest ≡ None → after first second bytes ≡ None
after-then_none first second bytes a rest e n =
    ap (option_and_then (λ read. made (λ b. (read.0, b)) (second read.0) read.1)) e ∙ made-none (λ b. (a, b)) (second a) rest n

pub after-then : {A B : Type 0} (first : Front A) (second : A → Front B) (bytes : List ℕ) (a : A) (between : List ℕ) (b : B) (rest : List ℕ)
    → first bytes ≡ Some (a, between) → second a between ≡ Some (b, rest) → after first second bytes ≡ Some ((a, b), rest)
after-then first second bytes a between b rest e f = after-read first second bytes (a, b) rest (record { between = between; before = e; then = f })

pub bytes-short : (n : ℕ) (bytes : List ℕ) → length bytes < n → bytes_front n bytes ≡ None
bytes-short n bytes h =
    let short : (nat_le n (length bytes) && are_bytes (take n bytes)) ≡ false =
    and_left (nat_le n (length bytes)) (are_bytes (take n bytes)) (lt-leb n (length bytes) h) in
    ap (λ t. then_some {T = List ℕ × List ℕ} t (take n bytes, drop n bytes)) short

bytes_take : (n : ℕ) (bytes : List ℕ) → IsTrue (are_bytes bytes) → IsTrue (are_bytes (take n bytes))
bytes_take n bytes h =
    (and_parts (are_bytes (take n bytes)) (are_bytes (drop n bytes))
    (sym (list_all-append (λ b. nat_lt b 256) (take n bytes) (drop n bytes)) ∙ ap are_bytes (take-append-drop n bytes) ∙ h)).0

pub bytes-taken : (n : ℕ) (bytes : List ℕ) → n ≤ length bytes → IsTrue (are_bytes bytes) → bytes_front n bytes ≡ Some (take n bytes, drop n bytes)
bytes-taken n bytes h each =
    ap (λ t. then_some {T = List ℕ × List ℕ} t (take n bytes, drop n bytes))
    (and_from (nat_le n (length bytes)) (are_bytes (take n bytes)) (le-leb n (length bytes) h) (bytes_take n bytes each))

-- bytes that were split
pub bytes-split : (n : ℕ) (old bytes front back : List ℕ) → bytes ≡ old → n ≤ length bytes → IsTrue (are_bytes bytes) → front ≡ take n bytes →
    back ≡ drop n bytes → bytes_front n old ≡ Some (front, back)
bytes-split n old bytes front back same enough each f b =
    ap (bytes_front n) (sym same) ∙ bytes-taken n bytes enough each ∙ ap₂ (λ x y. found x y) (sym f) (sym b)
  where
    found : List ℕ → List ℕ → Option (List ℕ × List ℕ)
    found x y = Some (x, y)

-- the same where memory may be wanting
pub unmade : {A : Type 0} (front : Front A) (old new : List ℕ) → Makes front old None new → front old ≡ None
unfolding Makes
unmade front old new h = h

pub making : {A : Type 0} (front : Front A) (old new : List ℕ) (result : Result A NoMemory) → Makes front old (Some result) new → (a : A)
    × (front old ≡ Some (a, new)) × IfOk result (λ b. b ≡ a)
unfolding Makes
making front old new result h = h

pub makes : {A : Type 0} (front : Front A) (old new : List ℕ) (result : Result A NoMemory) (a : A) → front old ≡ Some (a, new) → IfOk result (λ b. b ≡ a) →
    Makes front old (Some result) new
unfolding Makes
makes front old new result a e ok = (a, e, ok)

pub makes-none : {A : Type 0} (front : Front A) (old new : List ℕ) (result : Option (Result A NoMemory)) → result ≡ None → front old ≡ None →
    Makes front old result new
unfolding Makes
makes-none front old new result e h = subst (λ r. Makes front old r new) (sym e) h

nothing_is : {A : Type 0} (xs : List A) (rest : List ℕ) → ◌≡◌ {A = Option (List A × List ℕ)} None (Some (xs, rest)) → ⊥
nothing_is xs rest e = absurd (cc)

-- a list with its number in front, where the number and the order are tested apart
pub counted-unordered : {A : Type 0} (number : Front ℕ) (front : Front A) (test ascends : List A → Bool) (fits : ℕ → Bool)
    → ((n : ℕ) (mid : List ℕ) (xs : List A) (rest : List ℕ) → times front n mid ≡ Some (xs, rest) → test xs ≡ (fits n && ascends xs))
    → (old : List ℕ) (n : ℕ) (mid : List ℕ) → number old ≡ Some (n, mid) → only_if ascends (times front n) mid ≡ None
    → only_if test (counted number (times front)) old ≡ None
counted-unordered {A} number front test ascends fits tested old n mid e f = go (times front n mid) refl
  where
    disordered : (xs : List A) (rest : List ℕ) (t : Bool) → ascends xs ≡ t → times front n mid ≡ Some (xs, rest) → ascends xs ≡ false
    disordered xs rest true h is = absurd (nothing_is xs rest (sym f ∙ only_if-read ascends (times front n) mid xs rest is h))
    disordered xs rest false h is = h

    whole : (xs : List A) (rest : List ℕ) → times front n mid ≡ Some (xs, rest) → counted number (times front) old ≡ Some (xs, rest)
    whole xs rest is = made-read (λ read. read.1) (after number (times front)) old (n, xs) rest (after-then number (times front) old n mid xs rest e is)

    go : (o : Option (List A × List ℕ)) → times front n mid ≡ o → only_if test (counted number (times front)) old ≡ None
    go None is =
        only_if-none test (counted number (times front)) old
        (made-none (λ read. read.1) (after number (times front)) old (after-then_none number (times front) old n mid e is))
    go (Some read) is =
        only_if-fails test (counted number (times front)) old read.0 read.1 (whole read.0 read.1 is)
        (tested n mid read.0 read.1 is ∙ and_right (fits n) (ascends read.0) (disordered read.0 read.1 (ascends read.0) refl is))

pub counted-ordered : {A : Type 0} (number : Front ℕ) (front : Front A) (test ascends : List A → Bool) (fits : ℕ → Bool)
    → ((n : ℕ) (mid : List ℕ) (xs : List A) (rest : List ℕ) → times front n mid ≡ Some (xs, rest) → test xs ≡ (fits n && ascends xs))
    → (old : List ℕ) (n : ℕ) (mid : List ℕ) (xs : List A) (rest : List ℕ) → number old ≡ Some (n, mid) → only_if ascends (times front n) mid ≡ Some (xs, rest)
    → (counted number (times front) old ≡ Some (xs, rest)) × (test xs ≡ fits n)
counted-ordered {A} number front test ascends fits tested old n mid xs rest e f =
    let source = only_if-source ascends (times front n) mid xs rest f in (
      made-read (λ read. read.1) (after number (times front)) old (n, xs) rest (after-then number (times front) old n mid xs rest e source.0),
      tested n mid xs rest source.0 ∙ and-true (fits n) (ascends xs) source.1,
    )

pub if_ok-same : {A : Type 0} (result : Result A NoMemory) (a b : A) → IfOk result (λ x. x ≡ a) → a ≡ b → IfOk result (λ x. x ≡ b)
if_ok-same result a b h e = subst (λ z. IfOk result (λ x. x ≡ z)) e h

-- a list with its number in front, whatever is in it
pub makes-after : {A : Type 0} (number : Front ℕ) (front : Front A) (old : List ℕ) (n : ℕ) (mid : List ℕ) (result : Option (Result (List A) NoMemory))
    (new : List ℕ)
    → number old ≡ Some (n, mid) → Makes (times front n) mid result new → Makes (counted number (times front)) old result new
unfolding Makes
makes-after number front old n mid None new e m =
    made-none (λ read. read.1) (after number (times front)) old (after-then_none number (times front) old n mid e m)
makes-after number front old n mid (Some result) new e m =
    (m.0, made-read (λ read. read.1) (after number (times front)) old (n, m.0) new (after-then number (times front) old n mid m.0 new e m.1), m.2)

-- a list with its number in front, where the number is tested before the list is read, and doesn't pass
pub counted-unfit : {A : Type 0} (number : Front ℕ) (front : Front A) (test ascends : List A → Bool) (fits : ℕ → Bool)
    → ((n : ℕ) (mid : List ℕ) (xs : List A) (rest : List ℕ) → times front n mid ≡ Some (xs, rest) → test xs ≡ (fits n && ascends xs))
    → (old : List ℕ) (n : ℕ) (mid : List ℕ) → number old ≡ Some (n, mid) → fits n ≡ false → only_if test (counted number (times front)) old ≡ None
counted-unfit {A} number front test ascends fits tested old n mid e unfit = go (times front n mid) refl
  where
    go : (o : Option (List A × List ℕ)) → times front n mid ≡ o → only_if test (counted number (times front)) old ≡ None
    go None is =
        only_if-none test (counted number (times front)) old
        (made-none (λ read. read.1) (after number (times front)) old (after-then_none number (times front) old n mid e is))
    go (Some read) is =
        only_if-fails test (counted number (times front)) old read.0 read.1
        (made-read (λ read. read.1) (after number (times front)) old (n, read.0) read.1 (after-then number (times front) old n mid read.0 read.1 e is))
        (tested n mid read.0 read.1 is ∙ and_left (fits n) (ascends read.0) unfit)

-- the same, where it passes
pub counted-fit : {A : Type 0} (number : Front ℕ) (front : Front A) (test ascends : List A → Bool) (fits : ℕ → Bool)
    → ((n : ℕ) (mid : List ℕ) (xs : List A) (rest : List ℕ) → times front n mid ≡ Some (xs, rest) → test xs ≡ (fits n && ascends xs))
    → (old : List ℕ) (n : ℕ) (mid : List ℕ) (result : Option (Result (List A) NoMemory)) (new : List ℕ)
    → number old ≡ Some (n, mid) → fits n ≡ true → Makes (only_if ascends (times front n)) mid result new →
    Makes (only_if test (counted number (times front))) old result new
unfolding Makes
counted-fit number front test ascends fits tested old n mid None new e fit m = counted-unordered number front test ascends fits tested old n mid e m
counted-fit number front test ascends fits tested old n mid (Some result) new e fit m =
    let whole = counted-ordered number front test ascends fits tested old n mid m.0 new e m.1 in
    (m.0, only_if-read test (counted number (times front)) old m.0 new whole.0 (whole.1 ∙ fit), m.2)

-- bytes with their number in front, where the number doesn't pass
pub bytes-unfit : (number : Front ℕ) (test : List ℕ → Bool) (fits : ℕ → Bool)
    → ((n : ℕ) (mid bytes rest : List ℕ) → bytes_front n mid ≡ Some (bytes, rest) → test bytes ≡ fits n)
    → (old : List ℕ) (n : ℕ) (mid : List ℕ) → number old ≡ Some (n, mid) → fits n ≡ false → only_if test (counted number bytes_front) old ≡ None
bytes-unfit number test fits tested old n mid e unfit = go (bytes_front n mid) refl
  where
    go : (o : Option (List ℕ × List ℕ)) → bytes_front n mid ≡ o → only_if test (counted number bytes_front) old ≡ None
    go None is =
        only_if-none test (counted number bytes_front) old
        (made-none (λ read. read.1) (after number bytes_front) old (after-then_none number bytes_front old n mid e is))
    go (Some read) is =
        only_if-fails test (counted number bytes_front) old read.0 read.1
        (made-read (λ read. read.1) (after number bytes_front) old (n, read.0) read.1 (after-then number bytes_front old n mid read.0 read.1 e is))
        (tested n mid read.0 read.1 is ∙ unfit)

-- the same, where it passes
pub bytes-fit : (number : Front ℕ) (test : List ℕ → Bool) (fits : ℕ → Bool)
    → ((n : ℕ) (mid bytes rest : List ℕ) → bytes_front n mid ≡ Some (bytes, rest) → test bytes ≡ fits n)
    → (old : List ℕ) (n count : ℕ) (mid : List ℕ) (result : Option (List ℕ)) (new : List ℕ)
    → number old ≡ Some (n, mid) → fits n ≡ true → count ≡ n → Takes (bytes_front count) mid result new → Takes (only_if test (counted number bytes_front)) old result new
unfolding Takes
bytes-fit number test fits tested old n count mid None new e fit same t =
    only_if-none test (counted number bytes_front) old
    (made-none (λ read. read.1) (after number bytes_front) old
    (after-then_none number bytes_front old n mid e (ap (λ k. bytes_front k mid) (sym same) ∙ t)))
bytes-fit number test fits tested old n count mid (Some bytes) new e fit same t =
    let read = ap (λ k. bytes_front k mid) (sym same) ∙ t in
    only_if-read test (counted number bytes_front) old bytes new
    (made-read (λ read. read.1) (after number bytes_front) old (n, bytes) new (after-then number bytes_front old n mid bytes new e read))
    (tested n mid bytes new read ∙ fit)
