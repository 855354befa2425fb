-- What is put for one code, and what is put behind a thing that was taken first.
use Rattle.std.proofs.Common.{◌≡◌, ℕ, ◌≤◌, ap₂, ne_eqb, ◌||◌, Bool, true, false, List, Option, Some, None, ap, sym, ◌∙◌, refl}
use Rattle.std.specs.Prelude.{option_and_then}
use Rattle.wire_item.specs.Fronts.{Front, nothing_but, made, only_if, both, after, bytes_front, counted, front_of_code, by_code}
use Rattle.wire_item.specs.Readings.{u8_front}
use Rattle.wire_item.proofs.Codes.{are_codes, code-none, code-read}
use Rattle.wire_item.proofs.Fronts.{made-read, only_if-read}
use Rattle.wire_item.proofs.Takings.{after-then, after-then_none, made-none, after-none, only_if-none, only_if-fails}
use Rattle.wire_talk.specs.Valid.{is_constraint}
use Rattle.text_words.specs.Puts.{Putting, putting, with_text, says, puts, TakesNext}
use Rattle.text_words.proofs.Putting.{puts-made, puts-same}
use Rattle.text_words.proofs.Sequences.{says-nothing, next-some, next-none}

-- the arm of a code with fields
pub arm : {A B : Type 0} (rows : List (ℕ × Front B)) (text : B → List ℕ) (k code : ℕ) (f : A → B) (front : Front A) (t : A → List ℕ)
    → code ≡ k → front_of_code k rows ≡ made f front → ((a : A) → t a ≡ text (f a)) → (s : Putting) → puts front t s ≡ puts (front_of_code code rows) text s
arm rows text k code f front t e row same s =
    puts-same front t (λ a. text (f a)) same s ∙ puts-made f front text s
    ∙ ap (λ g. puts g text s) (sym (ap (λ j. front_of_code j rows) e ∙ row))

-- the arm of a code without fields
pub arm-plain : {B : Type 0} (rows : List (ℕ × Front B)) (text : B → List ℕ) (k code : ℕ) (b : B) (name : List ℕ)
    → code ≡ k → front_of_code k rows ≡ nothing_but b → name ≡ text b → (s : Putting) → says name s ≡ puts (front_of_code code rows) text s
arm-plain rows text k code b name e row same s =
    ap (λ z. says z s) same ∙ says-nothing b text s
    ∙ ap (λ g. puts g text s) (sym (ap (λ j. front_of_code j rows) e ∙ row))

-- a code of no row
pub arm-lost : {B : Type 0} (front : Front B) (text : B → List ℕ) → ((left : List ℕ) → front left ≡ None) → (s : Putting) → None ≡ puts front text s
arm-lost front text none None = refl
arm-lost front text none (Some s) = sym (ap (option_and_then (λ read. with_text (text read.0) read.1 s.1)) (none s.0))

pub other-constraint : (n : ℕ) → (n ≡ 4 → ⊥) → (n ≡ 8 → ⊥) → is_constraint n ≡ false
other-constraint n p q = ap₂ (λ s t. s || t) (ne_eqb n 4 p) (ne_eqb n 8 q)

pub next-gone : {A : Type 0} (front : Front A) (old new : Option (List ℕ)) → TakesNext front old None new → new ≡ None
unfolding TakesNext
next-gone front old new h = h.1

some-same : (x y : List ℕ) → ◌≡◌ {A = Option (List ℕ)} (Some x) (Some y) → x ≡ y
some-same x y e = ap (λ o. Rattle.std.proofs.Common.unwrap_or o x) e

none-at : {A : Type 0} (front : Front A) (mid new : Option (List ℕ)) (left : List ℕ) → mid ≡ Some left → TakesNext front mid None new → front left ≡ None
unfolding TakesNext
none-at front mid new left e h = ap (option_and_then front) (sym e) ∙ h.0

-- ---- behind a thing that was taken first

after-put : {A B : Type 0} (first : Front A) (second : A → Front B) (text : A × B → List ℕ) (left line : List ℕ) (a : A) (rest : List ℕ) →
    first left ≡ Some (a, rest)
    → puts (second a) (λ b. text (a, b)) (Some (rest, line)) ≡ puts (after first second) text (Some (left, line))
after-put {A} {B} first second text left line a rest e =
    puts-made (λ b. (a, b)) (second a) text (Some (rest, line))
    ∙ sym (ap (λ o. option_and_then (λ read. with_text (text read.0) read.1 line)
    (option_and_then {U = (A × B) × List ℕ} (λ read. made (λ b. (read.0, b)) (second read.0) read.1) o)) e)

-- the second thing is put
pub next-then : {A B : Type 0} (first : Front A) (second : A → Front B) (text : A × B → List ℕ) (old : Option (List ℕ)) (a : A) (new : Option (List ℕ))
    (line : List ℕ)
    → TakesNext first old (Some a) new → puts (second a) (λ b. text (a, b)) (putting new line) ≡ puts (after first second) text (putting old line)
next-then first second text old a new line h =
    let n = next-some first old a new h in
    ap (λ o. puts (second a) (λ b. text (a, b)) (putting o line)) n.to
    ∙ after-put first second text n.left line a n.rest n.reads
    ∙ ap (λ o. puts (after first second) text (putting o line)) (sym n.from)

pub next-then-lost : {A B : Type 0} (first : Front A) (second : A → Front B) (text : A × B → List ℕ) (old new : Option (List ℕ)) (line : List ℕ)
    → TakesNext first old None new → putting new line ≡ puts (after first second) text (putting old line)
next-then-lost first second text old new line h = next-none first (after first second) text (λ left e. after-none first second left e) old new line h

-- the second thing is put, where the first passes the test
pub tested-then : {A B : Type 0} (first : Front A) (test : A → Bool) (second : Front B) (text : A × B → List ℕ) (old : Option (List ℕ)) (a : A)
    (new : Option (List ℕ)) (line : List ℕ)
    → TakesNext first old (Some a) new → test a ≡ true → puts second (λ b. text (a, b)) (putting new line)
    ≡ puts (both (only_if test first) second) text (putting old line)
tested-then first test second text old a new line h passes =
    let n = next-some first old a new h in
    ap (λ o. puts second (λ b. text (a, b)) (putting o line)) n.to
    ∙ after-put (only_if test first) (λ _. second) text n.left line a n.rest (only_if-read test first n.left a n.rest n.reads passes)
    ∙ ap (λ o. puts (both (only_if test first) second) text (putting o line)) (sym n.from)

-- behind a code whose row has nothing but a thing, the second thing is put
pub coded-then : {A B : Type 0} (rows : List (ℕ × Front A)) (second : Front B) (text : A × B → List ℕ) (old : Option (List ℕ)) (code : ℕ) (a : A)
    (new : Option (List ℕ)) (line : List ℕ)
    → TakesNext u8_front old (Some code) new → front_of_code code rows ≡ nothing_but a → puts second (λ b. text (a, b)) (putting new line)
    ≡ puts (both (by_code rows) second) text (putting old line)
coded-then rows second text old code a new line h row =
    let n = next-some u8_front old code new h in
    ap (λ o. puts second (λ b. text (a, b)) (putting o line)) n.to
    ∙ after-put (by_code rows) (λ _. second) text n.left line a n.rest (code-read rows n.left code n.rest n.reads ∙ ap (λ front. front n.rest) row)
    ∙ ap (λ o. puts (both (by_code rows) second) text (putting o line)) (sym n.from)

pub coded-then-lost : {A B : Type 0} (rows : List (ℕ × Front A)) (second : Front B) (text : A × B → List ℕ) → are_codes rows ≡ true →
    (old new : Option (List ℕ)) (line : List ℕ)
    → TakesNext u8_front old None new → putting new line ≡ puts (both (by_code rows) second) text (putting old line)
coded-then-lost rows second text fit old new line h =
    next-none u8_front (both (by_code rows) second) text (λ left e. after-none (by_code rows) (λ _. second) left (code-none rows left fit e)) old new line h

-- no row has the code
pub coded-then-refused : {A B : Type 0} (rows : List (ℕ × Front A)) (second : Front B) (text : A × B → List ℕ) (old : Option (List ℕ)) (code : ℕ)
    (new : Option (List ℕ)) (line : List ℕ)
    → TakesNext u8_front old (Some code) new → ((left : List ℕ) → front_of_code code rows left ≡ None)
    → None ≡ puts (both (by_code rows) second) text (putting old line)
coded-then-refused rows second text old code new line h none =
    let n = next-some u8_front old code new h in
    sym (ap (λ o. puts (both (by_code rows) second) text (putting o line)) n.from
    ∙ ap (option_and_then (λ read. with_text (text read.0) read.1 line))
    (after-none (by_code rows) (λ _. second) n.left (code-read rows n.left code n.rest n.reads ∙ none n.rest)))

pub tested-then-lost : {A B : Type 0} (first : Front A) (test : A → Bool) (second : Front B) (text : A × B → List ℕ) (old new : Option (List ℕ)) (line : List ℕ)
    → TakesNext first old None new → putting new line ≡ puts (both (only_if test first) second) text (putting old line)
tested-then-lost first test second text old new line h =
    next-none first (both (only_if test first) second) text
    (λ left e. after-none (only_if test first) (λ _. second) left (only_if-none test first left e)) old new line h

pub tested-then-refused : {A B : Type 0} (first : Front A) (test : A → Bool) (second : Front B) (text : A × B → List ℕ) (old : Option (List ℕ)) (a : A)
    (new : Option (List ℕ)) (line : List ℕ)
    → TakesNext first old (Some a) new → test a ≡ false → None ≡ puts (both (only_if test first) second) text (putting old line)
tested-then-refused first test second text old a new line h fails =
    let n = next-some first old a new h in
    sym (ap (λ o. puts (both (only_if test first) second) text (putting o line)) n.from
    ∙ ap (option_and_then (λ read. with_text (text read.0) read.1 line))
    (after-none (only_if test first) (λ _. second) n.left (only_if-fails test first n.left a n.rest n.reads fails)))

-- ---- two things that were taken, and are written together

pub two-said : {A B : Type 0} (fa : Front A) (fb : Front B) (test : A × B → Bool) (text : A × B → List ℕ) (old : Option (List ℕ)) (a : A)
    (mid : Option (List ℕ)) (b : B) (new : Option (List ℕ)) (line : List ℕ)
    → TakesNext fa old (Some a) mid → TakesNext fb mid (Some b) new → test (a, b) ≡ true → says (text (a, b)) (putting new line)
    ≡ puts (only_if test (both fa fb)) text (putting old line)
two-said fa fb test text old a mid b new line h k passes =
    let x = next-some fa old a mid h in
    let y = next-some fb mid b new k in
    let same : x.rest ≡ y.left = some-same x.rest y.left (sym x.to ∙ y.from) in
    let then = after-then fa (λ _. fb) x.left a x.rest b y.rest x.reads (ap fb same ∙ y.reads) in
    ap (λ o. says (text (a, b)) (putting o line)) y.to
    ∙ sym (ap (option_and_then (λ read. with_text (text read.0) read.1 line)) (only_if-read test (both fa fb) x.left (a, b) y.rest then passes))
    ∙ ap (λ o. puts (only_if test (both fa fb)) text (putting o line)) (sym x.from)

pub two-refused : {A B : Type 0} (fa : Front A) (fb : Front B) (test : A × B → Bool) (text : A × B → List ℕ) (old : Option (List ℕ)) (a : A)
    (mid : Option (List ℕ)) (b : B) (new : Option (List ℕ)) (line : List ℕ)
    → TakesNext fa old (Some a) mid → TakesNext fb mid (Some b) new → test (a, b) ≡ false → None ≡ puts (only_if test (both fa fb)) text (putting old line)
two-refused fa fb test text old a mid b new line h k fails =
    let x = next-some fa old a mid h in
    let y = next-some fb mid b new k in
    let same : x.rest ≡ y.left = some-same x.rest y.left (sym x.to ∙ y.from) in
    let then = after-then fa (λ _. fb) x.left a x.rest b y.rest x.reads (ap fb same ∙ y.reads) in
    sym (ap (λ o. puts (only_if test (both fa fb)) text (putting o line)) x.from
    ∙ ap (option_and_then (λ read. with_text (text read.0) read.1 line)) (only_if-fails test (both fa fb) x.left (a, b) y.rest then fails))

pub two-lost : {A B : Type 0} (fa : Front A) (fb : Front B) (test : A × B → Bool) (text : A × B → List ℕ) (old : Option (List ℕ)) (a : A)
    (mid new : Option (List ℕ)) (line : List ℕ)
    → TakesNext fa old (Some a) mid → TakesNext fb mid None new → putting new line ≡ puts (only_if test (both fa fb)) text (putting old line)
two-lost fa fb test text old a mid new line h k =
    let x = next-some fa old a mid h in
    let none = none-at fb mid new x.rest x.to k in
    ap (λ o. putting o line) (next-gone fb mid new k)
    ∙ sym (ap (λ o. puts (only_if test (both fa fb)) text (putting o line)) x.from
    ∙ ap (option_and_then (λ read. with_text (text read.0) read.1 line))
    (only_if-none test (both fa fb) x.left (after-then_none fa (λ _. fb) x.left a x.rest x.reads none)))

pub one-lost : {A B : Type 0} (fa : Front A) (fb : Front B) (test : A × B → Bool) (text : A × B → List ℕ) (old new : Option (List ℕ)) (line : List ℕ)
    → TakesNext fa old None new → putting new line ≡ puts (only_if test (both fa fb)) text (putting old line)
one-lost fa fb test text old new line h =
    next-none fa (only_if test (both fa fb)) text (λ left e. only_if-none test (both fa fb) left (after-none fa (λ _. fb) left e)) old new line h

-- ---- bytes with their number in front

pub bytes-said : (test : List ℕ → Bool) (text : List ℕ → List ℕ) (old : Option (List ℕ)) (n : ℕ) (mid : Option (List ℕ)) (bytes : List ℕ)
    (new : Option (List ℕ)) (line : List ℕ)
    → TakesNext u8_front old (Some n) mid → TakesNext (bytes_front n) mid (Some bytes) new →
    ((left rest : List ℕ) → bytes_front n left ≡ Some (bytes, rest) → test bytes ≡ true)
    → says (text bytes) (putting new line) ≡ puts (only_if test (counted u8_front bytes_front)) text (putting old line)
bytes-said test text old n mid bytes new line h k passes =
    let x = next-some u8_front old n mid h in
    let y = next-some (bytes_front n) mid bytes new k in
    let same : x.rest ≡ y.left = some-same x.rest y.left (sym x.to ∙ y.from) in
    let then = made-read (λ read. read.1) (after u8_front bytes_front) x.left (n, bytes) y.rest
    (after-then u8_front bytes_front x.left n x.rest bytes y.rest x.reads (ap (bytes_front n) same ∙ y.reads)) in
    ap (λ o. says (text bytes) (putting o line)) y.to
    ∙ sym (ap (option_and_then (λ read. with_text (text read.0) read.1 line))
    (only_if-read test (counted u8_front bytes_front) x.left bytes y.rest then (passes y.left y.rest y.reads)))
    ∙ ap (λ o. puts (only_if test (counted u8_front bytes_front)) text (putting o line)) (sym x.from)

pub bytes-refused : (test : List ℕ → Bool) (text : List ℕ → List ℕ) (old : Option (List ℕ)) (n : ℕ) (mid : Option (List ℕ)) (bytes : List ℕ)
    (new : Option (List ℕ)) (line : List ℕ)
    → TakesNext u8_front old (Some n) mid → TakesNext (bytes_front n) mid (Some bytes) new →
    ((left rest : List ℕ) → bytes_front n left ≡ Some (bytes, rest) → test bytes ≡ false)
    → None ≡ puts (only_if test (counted u8_front bytes_front)) text (putting old line)
bytes-refused test text old n mid bytes new line h k fails =
    let x = next-some u8_front old n mid h in
    let y = next-some (bytes_front n) mid bytes new k in
    let same : x.rest ≡ y.left = some-same x.rest y.left (sym x.to ∙ y.from) in
    let then = made-read (λ read. read.1) (after u8_front bytes_front) x.left (n, bytes) y.rest
    (after-then u8_front bytes_front x.left n x.rest bytes y.rest x.reads (ap (bytes_front n) same ∙ y.reads)) in
    sym (ap (λ o. puts (only_if test (counted u8_front bytes_front)) text (putting o line)) x.from
    ∙ ap (option_and_then (λ read. with_text (text read.0) read.1 line))
    (only_if-fails test (counted u8_front bytes_front) x.left bytes y.rest then (fails y.left y.rest y.reads)))

pub bytes-lost : (test : List ℕ → Bool) (text : List ℕ → List ℕ) (old : Option (List ℕ)) (n : ℕ) (mid new : Option (List ℕ)) (line : List ℕ)
    → TakesNext u8_front old (Some n) mid → TakesNext (bytes_front n) mid None new → putting new line
    ≡ puts (only_if test (counted u8_front bytes_front)) text (putting old line)
bytes-lost test text old n mid new line h k =
    let x = next-some u8_front old n mid h in
    let none = none-at (bytes_front n) mid new x.rest x.to k in
    ap (λ o. putting o line) (next-gone (bytes_front n) mid new k)
    ∙ sym (ap (λ o. puts (only_if test (counted u8_front bytes_front)) text (putting o line)) x.from
    ∙ ap (option_and_then (λ read. with_text (text read.0) read.1 line))
    (only_if-none test (counted u8_front bytes_front) x.left
    (made-none (λ read. read.1) (after u8_front bytes_front) x.left (after-then_none u8_front bytes_front x.left n x.rest x.reads none))))

pub count-lost : (test : List ℕ → Bool) (text : List ℕ → List ℕ) (old new : Option (List ℕ)) (line : List ℕ)
    → TakesNext u8_front old None new → putting new line ≡ puts (only_if test (counted u8_front bytes_front)) text (putting old line)
count-lost test text old new line h =
    next-none u8_front (only_if test (counted u8_front bytes_front)) text
    (λ left e. only_if-none test (counted u8_front bytes_front) left
    (made-none (λ read. read.1) (after u8_front bytes_front) left (after-none u8_front bytes_front left e))) old new line h
