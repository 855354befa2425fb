-- Links, gates and dials in memory: what contracts see of them, and which of their calls fail.
use Rattle.std.specs.Prelude.{◌≡◌, ℕ, List, [], Option, Some, None, Result, Ok, Err, ◌⊎◌, Bool, true, false}
use Rattle.tardis_io.specs.declared.faults.Failed.{Failed}
use Rattle.tardis_io.specs.Links.{ToldGate, ToldDial}
use Rattle.tardis_io.specs.Moments.{Moment}
use Rattle.memory_io.specs.declared.links.MemoryLink.{MemoryLink}
use Rattle.memory_io.specs.Memory.{Plan, Input, MemoryTakes, MemoryGives, fails_next, after_call, after_fault}

-- what no give to a link in memory changes
abbrev pub kept_of : MemoryLink → Input × Bool
kept_of l = (l.source, l.finished)

-- a link in memory tells no takes
abbrev pub no_takes : Option (List Moment)
no_takes = None

abbrev pub no_parts : Unit {0}
no_parts = tt

-- a take from a link in memory is one from its source alone
abbrev pub LinkTakes : MemoryLink → MemoryLink → List ℕ → List ℕ → Result ℕ Failed → Type 0
LinkTakes old new before after result = MemoryTakes old.source new.source before after result × (new.sink ≡ old.sink) × (new.finished ≡ old.finished)

-- a give to a link in memory is one to its sink alone
abbrev pub LinkGives : MemoryLink → MemoryLink → List ℕ → Result ℕ Failed → Type 0
LinkGives old new bytes result = MemoryGives old.sink new.sink bytes result × (new.source ≡ old.source) × (new.finished ≡ old.finished)

-- what contracts see of a gate in memory: what it tells, its plan, and whether it listens
pub record KeptGate (L : Type 0) : Type 0 where
  pub links : ToldGate L
  pub plan : Plan
  pub bound : Bool

-- the addresses that a dial in memory was asked for, unless memory for one was wanting
abbrev pub told_addresses : Bool → List (List ℕ) → Option (List (List ℕ))
told_addresses true addresses = None
told_addresses false addresses = Some addresses

-- what contracts see of a dial in memory
pub record KeptDial (L : Type 0) : Type 0 where
  pub links : ToldDial L
  pub plan : Plan

-- a call of a gate in memory fails exactly where it is listed
abbrev pub MemoryAnswers : {A : Type 0} → Plan → Plan → Result A Failed → Type 0
MemoryAnswers old new (Ok answer) = (fails_next old ≡ false) × (new ≡ after_call old)
MemoryAnswers old new (Err e) = (fails_next old ≡ true) × (new ≡ after_fault old)

-- a call of a dial in memory fails exactly where it is listed or no link is left
abbrev pub MemoryCalls : {L : Type 0} → KeptDial L → KeptDial L → Result L Failed → Type 0
MemoryCalls old new (Ok link) = (fails_next old.plan ≡ false) × (new.plan ≡ after_call old.plan)
MemoryCalls old new (Err e) = ((fails_next old.plan ≡ true) ⊎ (old.links.left ≡ [])) × (new.plan ≡ after_fault old.plan)
