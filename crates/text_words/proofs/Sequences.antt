-- What is put one after another: what was taken first, lists, and lists of a number that was taken.
use Rattle.std.proofs.Common.{◌≡◌, ℕ, suc, ◌+◌, ◌-◌, ◌≤◌, Bool, true, false, List, [], ◌∷◌, ◌++◌, Option, Some, None, ap, sym, ◌∙◌, refl, arith, append_assoc}
use Rattle.std.proofs.Common.{append-nil}
use Rattle.std.specs.Prelude.{option_and_then, flat_map, is_none}
use Rattle.std.specs.Bool.{then_some}
use Rattle.wire_item.specs.Fronts.{Front, nothing_but, only_if, both, after, times, counted, by_code, front_of_code}
use Rattle.wire_item.specs.Readings.{u8_front}
use Rattle.wire_item.proofs.Fronts.{made-read}
use Rattle.wire_item.proofs.Takings.{made-none, only_if-none, only_if-fails, after-none, after-then_none, after-then}
use Rattle.wire_item.proofs.Fronts.{only_if-read}
use Rattle.wire_item.proofs.Codes.{are_codes, code-read, code-none}
use Rattle.wire_item.proofs.Lists.{more, more-none, more-some, times-first, times-more, times-none}
use Rattle.text_words.specs.Puts.{Putting, putting, with_text, says, puts, texts, TakesNext}
use Rattle.text_words.proofs.Putting.{says-puts}

pub says-nothing : {B : Type 0} (b : B) (text : B → List ℕ) (s : Putting) → says (text b) s ≡ puts (nothing_but b) text s
says-nothing b text None = refl
says-nothing b text (Some s) = refl

-- ---- what was taken first

-- where it was taken, and what is left
pub record Next {A : Type 0} (front : Front A) (old : Option (List ℕ)) (a : A) (new : Option (List ℕ)) : Type 0 where
  pub left : List ℕ
  pub rest : List ℕ
  pub from : old ≡ Some left
  pub reads : front left ≡ Some (a, rest)
  pub to : new ≡ Some rest

pub next-some : {A : Type 0} (front : Front A) (old : Option (List ℕ)) (a : A) (new : Option (List ℕ)) → TakesNext front old (Some a) new → Next front old a new
unfolding TakesNext
next-some front None a new h = absurd (none a h.0 h.1)
  where
    none : {A : Type 0} (a : A) (rest : List ℕ) → ◌≡◌ {A = Option (A × List ℕ)} None (Some (a, rest)) → ⊥
    none a rest e = absurd (cc)
next-some front (Some left) a new h = record { left = left; rest = h.0; from = refl; reads = h.1; to = h.2 }

-- where nothing was taken, nothing that begins with it is put
pub next-none : {A B : Type 0} (front : Front A) (whole : Front B) (text : B → List ℕ) → ((left : List ℕ) → front left ≡ None → whole left ≡ None)
    → (old new : Option (List ℕ)) (line : List ℕ) → TakesNext front old None new → putting new line ≡ puts whole text (putting old line)
unfolding TakesNext
next-none front whole text begins None new line h = ap (λ o. putting o line) h.1
next-none front whole text begins (Some left) new line h =
    ap (λ o. putting o line) h.1 ∙ sym (ap (option_and_then (λ read. with_text (text read.0) read.1 line)) (begins left h.0))

pub code-put : {A : Type 0} (rows : List (ℕ × Front A)) (text : A → List ℕ) (old : Option (List ℕ)) (code : ℕ) (new : Option (List ℕ)) (line : List ℕ)
    → TakesNext u8_front old (Some code) new → puts (front_of_code code rows) text (putting new line) ≡ puts (by_code rows) text (putting old line)
code-put rows text old code new line h =
    let n = next-some u8_front old code new h in
    ap (λ o. puts (front_of_code code rows) text (putting o line)) n.to
    ∙ sym (ap (option_and_then (λ read. with_text (text read.0) read.1 line)) (code-read rows n.left code n.rest n.reads))
    ∙ ap (λ o. puts (by_code rows) text (putting o line)) (sym n.from)

pub code-lost : {A : Type 0} (rows : List (ℕ × Front A)) (text : A → List ℕ) → are_codes rows ≡ true → (old new : Option (List ℕ)) (line : List ℕ)
    → TakesNext u8_front old None new → putting new line ≡ puts (by_code rows) text (putting old line)
code-lost rows text fit old new line h = next-none u8_front (by_code rows) text (λ left e. code-none rows left fit e) old new line h

-- ---- lists

some-other : {A : Type 0} (o : Option A) (a : A) → o ≡ Some a → o ≡ None → ⊥
some-other o a p q = absurd (cc)

none-less : {A : Type 0} (x : A) (o : Option (List A × List ℕ)) → more (x ∷ []) o ≡ None → o ≡ None
none-less x None e = refl
none-less x (Some read) e = absurd (some-other (more (x ∷ []) (Some read)) (x ∷ read.0, read.1) (more-some (x ∷ []) read.0 read.1) e)

none-longer : {A : Type 0} (front : Front A) (n : ℕ) (start : List ℕ) → times front n start ≡ None → times front (suc n) start ≡ None
none-longer {A} front ℕ.zero start e = absurd (some-other (times front 0 start) ([], start) refl e)
none-longer {A} front (ℕ.suc n) start e = go (λ start e. none-longer front n start e) (front start) refl
  where
    go : ((start : List ℕ) → times front n start ≡ None → times front (suc n) start ≡ None) → (o : Option (A × List ℕ)) → front start ≡ o →
        times front (suc (suc n)) start ≡ None
    go again None is = made-none (λ read. read.0 ∷ read.1) (both front (times front (suc n))) start (after-none front (λ _. times front (suc n)) start is)
    go again (Some read) is =
        times-first front (suc n) start read.0 read.1 is
        ∙ ap (more (read.0 ∷ [])) (again read.1 (none-less read.0 (times front n read.1) (sym (times-first front n start read.0 read.1 is) ∙ e)))
        ∙ more-none (read.0 ∷ [])

pub texts-none : {A : Type 0} (lead : List ℕ) (text : A → List ℕ) → texts lead text [] ≡ lead
texts-none lead text = append-nil lead

flat-push : {A : Type 0} (text : A → List ℕ) (xs : List A) (x : A) → flat_map text (xs ++ x ∷ []) ≡ flat_map text xs ++ text x
flat-push text [] x = append-nil (text x)
flat-push text (y ∷ xs) x = ap (λ z. text y ++ z) (flat-push text xs x) ∙ sym (append_assoc (text y) (flat_map text xs) (text x))

pub texts-push : {A : Type 0} (lead : List ℕ) (text : A → List ℕ) (xs : List A) (x : A) → texts lead text xs ++ text x ≡ texts lead text (xs ++ x ∷ [])
texts-push lead text xs x = append_assoc lead (flat_map text xs) (text x) ∙ ap (λ z. lead ++ z) (sym (flat-push text xs x))

pub times-start : {A : Type 0} (front : Front A) (lead : List ℕ) (text : A → List ℕ) (s : Putting) → says lead s ≡ puts (times front 0) (texts lead text) s
times-start front lead text None = refl
times-start front lead text (Some s) = ap (λ z. with_text z s.0 s.1) (sym (texts-none lead text))

-- one more of a list
pub times-put : {A : Type 0} (front : Front A) (lead : List ℕ) (text : A → List ℕ) (n : ℕ) (s : Putting)
    → puts front text (puts (times front n) (texts lead text) s) ≡ puts (times front (suc n)) (texts lead text) s
times-put front lead text n None = refl
times-put {A} front lead text n (Some s) = go (times front n s.0) refl
  where
    end : (xs : List A) (now : List ℕ) (o : Option (A × List ℕ)) → times front n s.0 ≡ Some (xs, now) → front now ≡ o
        → option_and_then {U = List ℕ × List ℕ} (λ read. with_text (texts lead text xs ++ text read.0) read.1 s.1) (front now)
        ≡ option_and_then {U = List ℕ × List ℕ} (λ read. with_text (texts lead text read.0) read.1 s.1) (times front (suc n) s.0)
    end xs now None is e =
        ap (option_and_then (λ read. with_text (texts lead text xs ++ text read.0) read.1 s.1)) e
        ∙ sym (ap (λ o. option_and_then {U = List ℕ × List ℕ} (λ read. with_text (texts lead text read.0) read.1 s.1) o)
        (times-none front n (suc n) s.0 xs now is e (omega arith)))
    end xs now (Some read) is e =
        let one : n + 1 ≡ suc n = omega arith in
        ap (option_and_then (λ read. with_text (texts lead text xs ++ text read.0) read.1 s.1)) e
        ∙ ap (λ z. with_text z read.1 s.1) (texts-push lead text xs read.0)
        ∙ sym (ap (λ o. option_and_then {U = List ℕ × List ℕ} (λ read. with_text (texts lead text read.0) read.1 s.1) o)
        (ap (λ k. times front k s.0) (sym one) ∙ times-more front n s.0 xs now read.0 read.1 is e))

    go : (o : Option (List A × List ℕ)) → times front n s.0 ≡ o →
        puts front text (option_and_then {U = List ℕ × List ℕ} (λ read. with_text (texts lead text read.0) read.1 s.1) (times front n s.0))
        ≡ option_and_then {U = List ℕ × List ℕ} (λ read. with_text (texts lead text read.0) read.1 s.1) (times front (suc n) s.0)
    go None is =
        ap (λ o. puts front text (option_and_then (λ read. with_text (texts lead text read.0) read.1 s.1) o)) is
        ∙ sym (ap (option_and_then (λ read. with_text (texts lead text read.0) read.1 s.1)) (none-longer front n s.0 is))
    go (Some read) is =
        ap (λ o. puts front text (option_and_then (λ read. with_text (texts lead text read.0) read.1 s.1) o)) is
        ∙ says-puts front text (texts lead text read.0) (Some (read.1, s.1))
        ∙ end read.0 read.1 (front read.1) is refl

-- where a shorter list was lost, a longer one is
pub times-lost : {A : Type 0} (front : Front A) (lead : List ℕ) (text : A → List ℕ) (k n : ℕ) (s : Putting) → k ≤ n
    → puts (times front k) (texts lead text) s ≡ None → None ≡ puts (times front n) (texts lead text) s
times-lost {A} front lead text k n s h e =
    let same : k + (n - k) ≡ n = omega arith in
    sym (ap (λ j. puts (times front j) (texts lead text) s) (sym same) ∙ go (n - k))
  where
    go : (m : ℕ) → puts (times front (k + m)) (texts lead text) s ≡ None
    go ℕ.zero =
        let same : k + 0 ≡ k = omega arith in
        ap (λ j. puts (times front j) (texts lead text) s) same ∙ e
    go (ℕ.suc m) =
        let same : k + suc m ≡ suc (k + m) = omega arith in
        ap (λ j. puts (times front j) (texts lead text) s) same ∙ sym (times-put front lead text (k + m) s) ∙ ap (puts front text) (go m)

-- ---- lists with their number in front

counted-read : {A : Type 0} (number : Front ℕ) (front : Front A) (left : List ℕ) (n : ℕ) (mid : List ℕ) → number left ≡ Some (n, mid)
    → counted number (times front) left ≡ times front n mid
counted-read {A} number front left n mid e = go (times front n mid) refl
  where
    go : (o : Option (List A × List ℕ)) → times front n mid ≡ o → counted number (times front) left ≡ times front n mid
    go None is = made-none (λ read. read.1) (after number (times front)) left (after-then_none number (times front) left n mid e is) ∙ sym is
    go (Some read) is =
        made-read (λ read. read.1) (after number (times front)) left (n, read.0) read.1 (after-then number (times front) left n mid read.0 read.1 e is) ∙ sym is

pub counted-put : {A : Type 0} (number : Front ℕ) (front : Front A) (text : List A → List ℕ) (old : Option (List ℕ)) (n : ℕ) (new : Option (List ℕ))
    (line : List ℕ)
    → TakesNext number old (Some n) new → puts (times front n) text (putting new line) ≡ puts (counted number (times front)) text (putting old line)
counted-put number front text old n new line h =
    let x = next-some number old n new h in
    ap (λ o. puts (times front n) text (putting o line)) x.to
    ∙ sym (ap (option_and_then (λ read. with_text (text read.0) read.1 line)) (counted-read number front x.left n x.rest x.reads))
    ∙ ap (λ o. puts (counted number (times front)) text (putting o line)) (sym x.from)

pub counted-lost : {A : Type 0} (number : Front ℕ) (front : Front A) (test : List A → Bool) (text : List A → List ℕ) (old new : Option (List ℕ)) (line : List ℕ)
    → TakesNext number old None new → putting new line ≡ puts (only_if test (counted number (times front))) text (putting old line)
counted-lost number front test text old new line h =
    next-none number (only_if test (counted number (times front))) text
    (λ left e. only_if-none test (counted number (times front)) left
    (made-none (λ read. read.1) (after number (times front)) left (after-none number (times front) left e)))
    old new line h

-- the same where the things are tested, which their number decides
pub counted-tested : {A : Type 0} (number : Front ℕ) (front : Front A) (test : List A → Bool) (text : List A → List ℕ) (old : Option (List ℕ)) (n : ℕ)
    (new : Option (List ℕ)) (line : List ℕ)
    → TakesNext number old (Some n) new → ((mid : List ℕ) (xs : List A) (rest : List ℕ) → times front n mid ≡ Some (xs, rest) → test xs ≡ true)
    → puts (times front n) text (putting new line) ≡ puts (only_if test (counted number (times front))) text (putting old line)
counted-tested {A} number front test text old n new line h passes =
    let x = next-some number old n new h in
    ap (λ o. puts (times front n) text (putting o line)) x.to
    ∙ sym (ap (option_and_then (λ read. with_text (text read.0) read.1 line)) (go x.left x.rest x.reads (times front n x.rest) refl))
    ∙ ap (λ o. puts (only_if test (counted number (times front))) text (putting o line)) (sym x.from)
  where
    go : (left rest : List ℕ) → number left ≡ Some (n, rest) → (o : Option (List A × List ℕ)) → times front n rest ≡ o →
        only_if test (counted number (times front)) left ≡ times front n rest
    go left rest e None is = only_if-none test (counted number (times front)) left (counted-read number front left n rest e ∙ is) ∙ sym is
    go left rest e (Some read) is =
        only_if-read test (counted number (times front)) left read.0 read.1 (counted-read number front left n rest e ∙ is) (passes rest read.0 read.1 is)
        ∙ sym is

pub counted-refused : {A : Type 0} (number : Front ℕ) (front : Front A) (test : List A → Bool) (text : List A → List ℕ) (old : Option (List ℕ)) (n : ℕ)
    (new : Option (List ℕ)) (line : List ℕ)
    → TakesNext number old (Some n) new → ((mid : List ℕ) (xs : List A) (rest : List ℕ) → times front n mid ≡ Some (xs, rest) → test xs ≡ false)
    → None ≡ puts (only_if test (counted number (times front))) text (putting old line)
counted-refused {A} number front test text old n new line h fails =
    let x = next-some number old n new h in
    sym (ap (λ o. puts (only_if test (counted number (times front))) text (putting o line)) x.from
    ∙ ap (option_and_then (λ read. with_text (text read.0) read.1 line)) (go x.left x.rest x.reads (times front n x.rest) refl))
  where
    go : (left rest : List ℕ) → number left ≡ Some (n, rest) → (o : Option (List A × List ℕ)) → times front n rest ≡ o →
        only_if test (counted number (times front)) left ≡ None
    go left rest e None is = only_if-none test (counted number (times front)) left (counted-read number front left n rest e ∙ is)
    go left rest e (Some read) is =
        only_if-fails test (counted number (times front)) left read.0 read.1 (counted-read number front left n rest e ∙ is) (fails rest read.0 read.1 is)

-- where the number passes, the things are tested by their order alone
pub counted-ordered : {A : Type 0} (number : Front ℕ) (front : Front A) (test ascends : List A → Bool) (text : List A → List ℕ) (old : Option (List ℕ))
    (n : ℕ) (new : Option (List ℕ)) (line : List ℕ)
    → TakesNext number old (Some n) new → ((mid : List ℕ) (xs : List A) (rest : List ℕ) → times front n mid ≡ Some (xs, rest) → test xs ≡ ascends xs)
    → puts (only_if ascends (times front n)) text (putting new line) ≡ puts (only_if test (counted number (times front))) text (putting old line)
counted-ordered {A} number front test ascends text old n new line h same =
    let x = next-some number old n new h in
    ap (λ o. puts (only_if ascends (times front n)) text (putting o line)) x.to
    ∙ sym (ap (option_and_then (λ read. with_text (text read.0) read.1 line)) (go x.left x.rest x.reads (times front n x.rest) refl))
    ∙ ap (λ o. puts (only_if test (counted number (times front))) text (putting o line)) (sym x.from)
  where
    go : (left rest : List ℕ) → number left ≡ Some (n, rest) → (o : Option (List A × List ℕ)) → times front n rest ≡ o
        → only_if test (counted number (times front)) left ≡ only_if ascends (times front n) rest
    go left rest e None is =
        only_if-none test (counted number (times front)) left (counted-read number front left n rest e ∙ is)
        ∙ sym (only_if-none ascends (times front n) rest is)
    go left rest e (Some read) is =
        ap (option_and_then (λ r. then_some (test r.0) r)) (counted-read number front left n rest e ∙ is)
        ∙ ap (λ t. then_some t read) (same rest read.0 read.1 is)
        ∙ sym (ap (option_and_then (λ r. then_some (ascends r.0) r)) is)

-- texts that are equal for what is read
pub puts-read-same : {A : Type 0} (front : Front A) (t u : A → List ℕ) → ((left : List ℕ) (a : A) (rest : List ℕ) → front left ≡ Some (a, rest) → t a ≡ u a)
    → (s : Putting) → puts front t s ≡ puts front u s
puts-read-same front t u same None = refl
puts-read-same {A} front t u same (Some s) = go (front s.0) refl
  where
    go : (o : Option (A × List ℕ)) → front s.0 ≡ o
        → option_and_then {U = List ℕ × List ℕ} (λ read. with_text (t read.0) read.1 s.1) (front s.0)
        ≡ option_and_then (λ read. with_text (u read.0) read.1 s.1) (front s.0)
    go None e =
        ap (option_and_then (λ read. with_text (t read.0) read.1 s.1)) e ∙ sym (ap (option_and_then (λ read. with_text (u read.0) read.1 s.1)) e)
    go (Some read) e =
        ap (option_and_then (λ read. with_text (t read.0) read.1 s.1)) e ∙ ap (λ z. with_text z read.1 s.1) (same s.0 read.0 read.1 e)
        ∙ sym (ap (option_and_then (λ read. with_text (u read.0) read.1 s.1)) e)

-- fronts that read the same
pub puts-front-same : {A : Type 0} (f g : Front A) (text : A → List ℕ) → ((left : List ℕ) → f left ≡ g left) → (s : Putting) → puts f text s ≡ puts g text s
puts-front-same f g text same None = refl
puts-front-same f g text same (Some s) = ap (option_and_then (λ read. with_text (text read.0) read.1 s.1)) (same s.0)

pub none-lost : (o : Option (List ℕ)) → is_none o ≡ true → o ≡ None
none-lost None e = refl
none-lost (Some left) e = absurd (cc)

pub some-left : (o : Option (List ℕ)) → is_none o ≡ false → (left : List ℕ) × (o ≡ Some left)
some-left None e = absurd (cc)
some-left (Some left) e = (left, refl)
