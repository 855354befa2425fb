-- Counts of faults.
use Rattle.std.specs.Prelude.{◌≡◌, ℕ, ◌+◌, ◌<◌, ◌≤◌, min, ◌⊎◌, Result, OnErr}

-- one more, or the count's end
abbrev pub raised : ℕ → ℕ
raised count = min (count + 1) 18446744073709551615

-- a count rose: it went up, or it stands at its end, where it can't go up
abbrev pub Rose : ℕ → ℕ → Type 0
Rose before now = (before < now) ⊎ (now ≡ 18446744073709551615)

-- a count stayed as it was, or it rose
abbrev pub MayRise : ℕ → ℕ → Type 0
MayRise before now = before ≤ now

-- the count never falls, and an error comes only where it rose
pub record HasCause {T E : Type 0} (before now : ℕ) (result : Result T E) : Type 0 where
  pub later : before ≤ now
  pub failed : OnErr result (Rose before now)
