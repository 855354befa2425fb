-- What each way of reading from the front gives, forwards and backwards.
use Rattle.std.proofs.Common.{◌≡◌, ℕ, Bool, true, false, ◌&&◌, IsTrue, List, [], ◌∷◌, ◌++◌, length, take, drop, Option, Some, None, ap, sym, ◌∙◌, subst, refl}
use Rattle.std.proofs.Common.{unwrap_or, nat_le, take-append-drop, length-take, leb-true, le-leb, arith}
use Rattle.std.proofs.lemmas.Bool.{and_parts}
use Rattle.std.proofs.Math.Seq.{take-append_seam, drop-append_seam}
use Rattle.std.specs.Prelude.{option_map, option_and_then}
use Rattle.std.specs.Bool.{then_some}
use Rattle.tardis_base.specs.Valid.{are_bytes}
use Rattle.wire_item.specs.Fronts.{Front, bytes_front, made, only_if, after}

pub some-parts : {A B : Type 0} (a b : A) (x y : B) → ◌≡◌ {A = Option (A × B)} (Some (a, x)) (Some (b, y)) → (a ≡ b) × (x ≡ y)
some-parts {A} {B} a b x y e =
    let same = ap (λ o. unwrap_or o (a, x)) e in
    (ap (λ p. p.0) same, ap (λ p. p.1) same)

-- the thing from which another was made
pub record Made {A B : Type 0} (f : A → B) (front : Front A) (bytes : List ℕ) (b : B) (rest : List ℕ) : Type 0 where
  pub source : A
  pub reads : front bytes ≡ Some (source, rest)
  pub is : f source ≡ b

pub made-read : {A B : Type 0} (f : A → B) (front : Front A) (bytes : List ℕ) (a : A) (rest : List ℕ) → front bytes ≡ Some (a, rest) → made f front bytes
    ≡ Some (f a, rest)
made-read f front bytes a rest e = ap (option_map (λ read. (f read.0, read.1))) e

pub made-source : {A B : Type 0} (f : A → B) (front : Front A) (bytes : List ℕ) (b : B) (rest : List ℕ) → made f front bytes ≡ Some (b, rest) →
    Made f front bytes b rest
made-source {A} {B} f front bytes b rest e = go (front bytes) refl e
  where
    go : (o : Option (A × List ℕ)) → front bytes ≡ o → option_map {U = B × List ℕ} (λ read. (f read.0, read.1)) o ≡ Some (b, rest) → Made f front bytes b rest
    go None is e = absurd (cc)
    go (Some read) is e =
        let parts = some-parts (f read.0) b read.1 rest e in
        record { source = read.0; reads = is ∙ ap (λ r. Some (read.0, r)) parts.1; is = parts.0 }

pub only_if-read : {A : Type 0} (test : A → Bool) (front : Front A) (bytes : List ℕ) (a : A) (rest : List ℕ) → front bytes ≡ Some (a, rest) →
    IsTrue (test a) → only_if test front bytes ≡ Some (a, rest)
only_if-read test front bytes a rest e passes =
    ap (option_and_then (λ read. then_some (test read.0) read)) e ∙ ap (λ t. then_some t (a, rest)) passes

pub only_if-source : {A : Type 0} (test : A → Bool) (front : Front A) (bytes : List ℕ) (a : A) (rest : List ℕ) → only_if test front bytes ≡ Some (a, rest)
    → (front bytes ≡ Some (a, rest)) × IsTrue (test a)
only_if-source {A} test front bytes a rest e = go (front bytes) refl e
  where
    chosen : (read : A × List ℕ) (t : Bool) → test read.0 ≡ t → front bytes ≡ Some read → then_some t read ≡ Some (a, rest) →
        (front bytes ≡ Some (a, rest)) × IsTrue (test a)
    chosen read true passes is e =
        let parts = some-parts read.0 a read.1 rest e in
        (is ∙ e, ap test (sym parts.0) ∙ passes)
    chosen read false passes is e = absurd (cc)

    go : (o : Option (A × List ℕ)) → front bytes ≡ o → option_and_then (λ read. then_some (test read.0) read) o ≡ Some (a, rest) →
        (front bytes ≡ Some (a, rest)) × IsTrue (test a)
    go None is e = absurd (cc)
    go (Some read) is e = chosen read (test read.0) refl is e

-- the two things that were read after each other
pub record After {A B : Type 0} (first : Front A) (second : A → Front B) (bytes : List ℕ) (p : A × B) (rest : List ℕ) : Type 0 where
  pub between : List ℕ
  pub before : first bytes ≡ Some (p.0, between)
  pub then : second p.0 between ≡ Some (p.1, rest)

pub after-read : {A B : Type 0} (first : Front A) (second : A → Front B) (bytes : List ℕ) (p : A × B) (rest : List ℕ) → After first second bytes p rest →
    after first second bytes ≡ Some (p, rest)
after-read first second bytes p rest h =
    ap (option_and_then (λ read. made (λ b. (read.0, b)) (second read.0) read.1)) h.before
    ∙ made-read (λ b. (p.0, b)) (second p.0) h.between p.1 rest h.then

pub after-source : {A B : Type 0} (first : Front A) (second : A → Front B) (bytes : List ℕ) (p : A × B) (rest : List ℕ) → after first second bytes
    ≡ Some (p, rest) → After first second bytes p rest
after-source {A} {B} first second bytes p rest e = go (first bytes) refl e
  where
    go : (o : Option (A × List ℕ)) → first bytes ≡ o → option_and_then (λ read. made (λ b. (read.0, b)) (second read.0) read.1) o ≡ Some (p, rest) →
        After first second bytes p rest
    go None is e = absurd (cc)
    go (Some read) is e =
        let m = made-source (λ b. (read.0, b)) (second read.0) read.1 p rest e in
        let a : read.0 ≡ p.0 = ap (λ q. q.0) m.is in
        let b : m.source ≡ p.1 = ap (λ q. q.1) m.is in
        record {
          between = read.1;
          before = is ∙ ap (λ x. Some (x, read.1)) a;
          then = subst (λ x. second x read.1 ≡ Some (p.1, rest)) a (m.reads ∙ ap (λ y. Some (y, rest)) b);
        }

-- so many bytes were taken
pub record Taken (n : ℕ) (bytes taken rest : List ℕ) : Type 0 where
  pub number : length taken ≡ n
  pub each : IsTrue (are_bytes taken)
  pub is : bytes ≡ taken ++ rest

pub bytes_front-read : (taken rest : List ℕ) → IsTrue (are_bytes taken) → bytes_front (length taken) (taken ++ rest) ≡ Some (taken, rest)
bytes_front-read taken rest each =
    let few : IsTrue (nat_le (length taken) (length (taken ++ rest))) =
    le-leb (length taken) (length (taken ++ rest)) (omega (arith, Rattle.std.proofs.Common.length-append taken rest)) in
    let front = take-append_seam taken rest in
    let back = drop-append_seam taken rest in
    rw (few, front, back, each) refl

pub bytes_front-source : (n : ℕ) (bytes taken rest : List ℕ) → bytes_front n bytes ≡ Some (taken, rest) → Taken n bytes taken rest
bytes_front-source n bytes taken rest e = go (nat_le n (length bytes) && are_bytes (take n bytes)) refl e
  where
    go : (t : Bool) → (nat_le n (length bytes) && are_bytes (take n bytes)) ≡ t → then_some {T = List ℕ × List ℕ} t (take n bytes, drop n bytes)
        ≡ Some (taken, rest) → Taken n bytes taken rest
    go true passes e =
        let both = and_parts (nat_le n (length bytes)) (are_bytes (take n bytes)) passes in
        let parts = some-parts (take n bytes) taken (drop n bytes) rest e in
        let enough = leb-true n (length bytes) both.0 in
        record {
          number = sym (ap length parts.0) ∙ omega (arith, length-take n bytes);
          each = subst (λ xs. IsTrue (are_bytes xs)) parts.0 both.1;
          is = sym (take-append-drop n bytes) ∙ Rattle.std.proofs.Common.ap₂ (λ xs ys. xs ++ ys) parts.0 parts.1;
        }
    go false passes e = absurd (cc)
