-- Sources and sinks in memory: which of their calls fail, and what the others move.
use Rattle.std.specs.Prelude.{◌≡◌, ℕ, ◌<◌, ◌-◌, ◌==◌, min, Bool, true, false, List, ◌++◌, length, take, drop, ◌⊎◌, Result, Ok, Err}
use Rattle.std.specs.List.{list_any}
use Rattle.tardis_io.specs.declared.faults.Failed.{Failed}
use Rattle.tardis_io.specs.Faults.{raised}

-- the calls that are to fail, and how many calls and faults there were
pub record Plan : Type 0 where
  pub failing : List ℕ
  pub calls : ℕ
  pub faults : ℕ

-- what is left, how much one take moves at most, and the plan
pub record Input : Type 0 where
  pub left : List ℕ
  pub piece : ℕ
  pub plan : Plan

-- what was given, how much room is left, how much one give moves at most, and the plan
pub record Output : Type 0 where
  pub given : List ℕ
  pub room : ℕ
  pub piece : ℕ
  pub plan : Plan

-- the plan before its first call
abbrev pub fresh_plan : List ℕ → Plan
fresh_plan failing = record { failing = failing; calls = 0; faults = 0 }

-- the next call, counted from 1, is to fail
abbrev pub fails_next : Plan → Bool
fails_next p = list_any (λ call. call == raised p.calls) p.failing

-- the plan after a call that was well
abbrev pub after_call : Plan → Plan
after_call p = record { failing = p.failing; calls = raised p.calls; faults = p.faults }

-- the plan after a call that failed
abbrev pub after_fault : Plan → Plan
after_fault p = record { failing = p.failing; calls = raised p.calls; faults = raised p.faults }

-- A take fails exactly where its call is listed. Else it moves the least of the piece, the buffer's length and what is left.
abbrev pub MemoryTakes : Input → Input → List ℕ → List ℕ → Result ℕ Failed → Type 0
MemoryTakes old new before after (Ok n) =
    (fails_next old.plan ≡ false) × (n ≡ min old.piece (min (length before) (length old.left)))
    × (after ≡ take n old.left ++ drop n before)
    × (new ≡ record { left = drop n old.left; piece = old.piece; plan = after_call old.plan })
MemoryTakes old new before after (Err e) =
    (fails_next old.plan ≡ true) × (after ≡ before)
    × (new ≡ record { left = old.left; piece = old.piece; plan = after_fault old.plan })

-- A give fails exactly where its call is listed or no room is left. Else it moves the least of the piece, the length and the room.
abbrev pub MemoryGives : Output → Output → List ℕ → Result ℕ Failed → Type 0
MemoryGives old new bytes (Ok n) =
    (fails_next old.plan ≡ false) × (0 < old.room) × (n ≡ min old.piece (min (length bytes) old.room))
    × (new ≡ record { given = old.given ++ take n bytes; room = old.room - n; piece = old.piece; plan = after_call old.plan })
MemoryGives old new bytes (Err e) =
    ((fails_next old.plan ≡ true) ⊎ (old.room ≡ 0))
    × (new ≡ record { given = old.given; room = old.room; piece = old.piece; plan = after_fault old.plan })
