-- Lists that are read one thing after another, and tests of what was read.
use Rattle.std.proofs.Common.{◌≡◌, ℕ, suc, ◌+◌, ◌-◌, ◌<◌, ◌≤◌, List, [], ◌∷◌, ◌++◌, length, nat_le, Option, Some, None, ap, sym, ◌∙◌, refl, arith}
use Rattle.std.specs.Prelude.{option_map}
use Rattle.tardis_base.specs.Valid.{are_bytes, is_within, is_key, is_value}
use Rattle.tardis_base.proofs.TestParts.{and-true}
use Rattle.wire_item.specs.Fronts.{Front, bytes_front, both, times}
use Rattle.wire_item.proofs.Fronts.{bytes_front-source, made-read, made-source, some-parts, after-source}
use Rattle.wire_item.proofs.Takings.{made-none, after-none, after-then_none, after-then}

pub key-tested : (n : ℕ) (old key new : List ℕ) → bytes_front n old ≡ Some (key, new) → is_key key ≡ is_within 1 128 n
key-tested n old key new e =
    let t = bytes_front-source n old key new e in
    and-true (is_within 1 128 (length key)) (are_bytes key) t.each ∙ ap (is_within 1 128) t.number

pub value-tested : (n : ℕ) (old value new : List ℕ) → bytes_front n old ≡ Some (value, new) → is_value value ≡ nat_le n 4096
value-tested n old value new e =
    let t = bytes_front-source n old value new e in
    and-true (nat_le (length value) 4096) (are_bytes value) t.each ∙ ap (λ k. nat_le k 4096) t.number

-- a list and then more of its kind
pub more : {A : Type 0} → List A → Option (List A × List ℕ) → Option (List A × List ℕ)
more xs o = option_map (λ read. (xs ++ read.0, read.1)) o

pub more-none : {A : Type 0} (xs : List A) → more xs None ≡ None
unfolding more
more-none xs = refl

pub more-some : {A : Type 0} (xs ys : List A) (rest : List ℕ) → more xs (Some (ys, rest)) ≡ Some (xs ++ ys, rest)
unfolding more
more-some xs ys rest = refl

nothing_more : {A : Type 0} (o : Option (List A × List ℕ)) → o ≡ more [] o
unfolding more
nothing_more None = refl
nothing_more (Some read) = refl

more_more : {A : Type 0} (x : A) (ys : List A) (o : Option (List A × List ℕ)) → more (x ∷ []) (more ys o) ≡ more (x ∷ ys) o
unfolding more
more_more x ys None = refl
more_more x ys (Some read) = refl

-- one thing, and then so many more
pub times-first : {A : Type 0} (front : Front A) (n : ℕ) (start : List ℕ) (x : A) (between : List ℕ)
    → front start ≡ Some (x, between) → times front (suc n) start ≡ more (x ∷ []) (times front n between)
times-first {A} front n start x between e = go (times front n between) refl
  where
    go : (o : Option (List A × List ℕ)) → times front n between ≡ o → times front (suc n) start ≡ more (x ∷ []) (times front n between)
    go None is =
        made-none (λ read. read.0 ∷ read.1) (both front (times front n)) start (after-then_none front (λ _. times front n) start x between e is)
        ∙ sym (more-none (x ∷ [])) ∙ ap (more (x ∷ [])) (sym is)
    go (Some read) is =
        made-read (λ read. read.0 ∷ read.1) (both front (times front n)) start (x, read.0) read.1
        (after-then front (λ _. times front n) start x between read.0 read.1 e is)
        ∙ sym (more-some (x ∷ []) read.0 read.1) ∙ ap (more (x ∷ [])) (sym is)

-- after k of k + m things, m are left to read
pub times-split : {A : Type 0} (front : Front A) (k m : ℕ) (start : List ℕ) (xs : List A) (now : List ℕ)
    → times front k start ≡ Some (xs, now) → times front (k + m) start ≡ more xs (times front m now)
times-split {A} front ℕ.zero m start xs now e =
    let parts = some-parts [] xs start now e in
    let same : 0 + m ≡ m = omega arith in
    ap (λ k. times front k start) same ∙ ap (times front m) parts.1 ∙ nothing_more (times front m now) ∙ ap (λ z. more z (times front m now)) parts.0
times-split {A} front (ℕ.suc k) m start xs now e =
    let source = made-source (λ read. read.0 ∷ read.1) (both front (times front k)) start xs now e in
    let pair = after-source front (λ _. times front k) start source.source now source.reads in
    let again = times-split front k m pair.between source.source.1 now pair.then in
    let same : suc k + m ≡ suc (k + m) = omega arith in
    ap (λ j. times front j start) same
    ∙ times-first front (k + m) start source.source.0 pair.between pair.before
    ∙ ap (more (source.source.0 ∷ [])) again
    ∙ more_more source.source.0 source.source.1 (times front m now)
    ∙ ap (λ z. more z (times front m now)) source.is

-- one more was read
pub times-more : {A : Type 0} (front : Front A) (k : ℕ) (start : List ℕ) (xs : List A) (now : List ℕ) (x : A) (next : List ℕ)
    → times front k start ≡ Some (xs, now) → front now ≡ Some (x, next) → times front (k + 1) start ≡ Some (xs ++ x ∷ [], next)
times-more front k start xs now x next e f =
    times-split front k 1 start xs now e
    ∙ ap (more xs) (times-first front 0 now x next f ∙ more-some (x ∷ []) [] next)
    ∙ more-some xs (x ∷ []) next

-- where the next isn't read, more than those aren't
pub times-none : {A : Type 0} (front : Front A) (k n : ℕ) (start : List ℕ) (xs : List A) (now : List ℕ)
    → times front k start ≡ Some (xs, now) → front now ≡ None → k < n → times front n start ≡ None
times-none front k n start xs now e f h =
    let same : n ≡ k + suc (n - suc k) = omega arith in
    let rest : times front (suc (n - suc k)) now ≡ None =
    made-none (λ read. read.0 ∷ read.1) (both front (times front (n - suc k))) now (after-none front (λ _. times front (n - suc k)) now f) in
    ap (λ j. times front j start) same ∙ times-split front k (suc (n - suc k)) start xs now e ∙ ap (more xs) rest ∙ more-none xs

-- a longer list begins with those that were read
pub times-begins : {A : Type 0} (front : Front A) (k n : ℕ) (start : List ℕ) (xs : List A) (now : List ℕ) (ys : List A) (rest : List ℕ)
    → times front k start ≡ Some (xs, now) → k ≤ n → times front n start ≡ Some (ys, rest) → (zs : List A) × (xs ++ zs ≡ ys)
unfolding more
times-begins {A} front k n start xs now ys rest e h f =
    let same : n ≡ k + (n - k) = omega arith in
    go (times front (n - k) now) (sym (times-split front k (n - k) start xs now e) ∙ ap (λ j. times front j start) (sym same) ∙ f)
  where
    go : (o : Option (List A × List ℕ)) → more xs o ≡ Some (ys, rest) → (zs : List A) × (xs ++ zs ≡ ys)
    go None e = absurd (cc)
    go (Some read) e = (read.0, (some-parts (xs ++ read.0) ys read.1 rest e).0)
