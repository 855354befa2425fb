-- Tests of two parts, and of bounds.
use Rattle.std.proofs.Common.{◌≡◌, ℕ, ◌≤◌, Bool, true, false, ◌&&◌, IsTrue, refl}
use Rattle.std.specs.Prelude.{nat_le}
use Rattle.std.proofs.lemmas.Bool.{and_parts, and_from, le-leb}
use Rattle.tardis_base.specs.Bytes.{is_within}

-- the test has a first part
pub first : (a b : Bool) → IsTrue (a && b) → IsTrue a
first a b h = (and_parts a b h).0

pub second : (a b : Bool) → IsTrue (a && b) → IsTrue b
second a b h = (and_parts a b h).1

-- a second part that holds says nothing
pub and-true : (b t : Bool) → IsTrue t → (b && t) ≡ b
and-true true t h = h
and-true false t h = refl

-- a number between two is within them
pub within : (least most n : ℕ) → least ≤ n → n ≤ most → IsTrue (is_within least most n)
within least most n from to = and_from (nat_le least n) (nat_le n most) (le-leb least n from) (le-leb n most to)
