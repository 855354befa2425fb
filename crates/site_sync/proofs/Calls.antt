-- A link that is had and put back, and counts that rise.
use Rattle.std.proofs.Common.{◌≡◌, ℕ, ◌+◌, ◌≤◌, ◌<◌, List, [], ◌∷◌, ◌++◌, length, take, map, get_or, Option, Some, None, Ok, inl, inr, ap, sym, ◌∙◌, arith}
use Rattle.std.proofs.Math.Seq.{take-suc}
use Rattle.std.proofs.lemmas.List.{length-map, take_all, get_or-map}
use Rattle.std.proofs.Math.Nat.{eq-or-lt_of_le}
use Rattle.tardis_io.specs.Faults.{Rose}
use Rattle.tardis_io.specs.Links.{ToldDial, HandsCalled, IsCalled, with_hung}
use Rattle.site_sync.specs.Exchanges.{CallsBack}

-- a count that rose has risen later too
pub rose_on : (a b c : ℕ) → Rose a b → a ≤ b → b ≤ c → Rose a c
rose_on a b c (inl low) le more = inl (omega (arith, low, more))
rose_on a b c (inr top) le more =
    elim (eq-or-lt_of_le more) as (λ _. Rose a c) [
      | inl same ↦ inr (sym same ∙ top)
      | inr low ↦ inl (omega (arith, le, low))
    ]

module _ {L : Type 0} where
  pub is_called : (address : List ℕ) (link : L) (o n : Option (ToldDial L)) → HandsCalled o n address (Ok link) → IsCalled n
  is_called address link None None h = tt
  is_called address link (Some o) (Some n) h = omega (arith, h.2)
  is_called address link None (Some n) h = absurd h
  is_called address link (Some o) None h = absurd h

  pub calls_back : (address : List ℕ) (link back : L) (o n : Option (ToldDial L)) → HandsCalled o n address (Ok link) →
      CallsBack address link back o (with_hung n back)
  calls_back address link back None None h = tt
  calls_back address link back (Some o) (Some n) h = (h.0, ap (λ l. l ++ back ∷ []) h.1, omega (arith, h.2), h.3)
  calls_back address link back None (Some n) h = absurd h
  calls_back address link back (Some o) None h = absurd h

-- the peers up to this place and the next, and all of them
pub next_taken : {A B : Type 0} (f : A → B) (xs : List A) (place : ℕ) (other : A) → place < length xs → take (place + 1) (map f xs)
    ≡ take place (map f xs) ++ f (get_or xs place other) ∷ []
next_taken f xs place other within =
    let next : place + 1 ≡ ℕ.suc place = omega arith in
    let many : length (map f xs) ≡ length xs = length-map xs f in
    ap (λ n. take n (map f xs)) next
    ∙ (take-suc (map f xs) place (f other) (omega (arith, within, many))
    ∙ ap (λ b. take place (map f xs) ++ b ∷ []) (get_or-map f xs place other (f other) within))

pub all_taken : {A B : Type 0} (f : A → B) (xs : List A) (place : ℕ) → length xs ≤ place → take place (map f xs) ≡ map f xs
all_taken f xs place past =
    let many : length (map f xs) ≡ length xs = length-map xs f in
    take_all place (map f xs) (omega (arith, past, many))
