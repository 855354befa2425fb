-- The status of a command tells of no fault that it can't have.
use Rattle.std.proofs.Common.{ℕ, subst, arith}
use Rattle.tardis_io.specs.declared.statuses.Status.{Status}
use Rattle.tardis_io.specs.declared.statuses.Status.TheVariants.{Usage, NoMemory}
use Rattle.site_commands.specs.Ends.{CausedBy}

-- a status of these ends doesn't tell of this fault, so its count may be as it was
pub no_fault : (Ends : Status → Type 0) (fault : Status) (n : ℕ) (status : Status) → Ends status → (Ends fault → ⊥) → CausedBy fault n n status
no_fault Ends fault n status end never = record { later = omega arith; cause = λ is. absurd (never (subst Ends is end)) }

-- the end of words without a form
abbrev pub OnlyUsage : Status → Type 0
OnlyUsage Usage = Unit {0}
OnlyUsage _ = ⊥

-- the end of words for which there was no memory
abbrev pub OnlyMemory : Status → Type 0
OnlyMemory NoMemory = Unit {0}
OnlyMemory _ = ⊥
