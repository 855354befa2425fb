-- Machines for a hub: one that owes something once it was asked, doors before it, and one whose upkeep goes in slices.
use Rattle.std.specs.Prelude.{ℕ, ◌==◌, ◌-◌, Bool, true, List, [], ◌∷◌, if◌then◌else◌}
use Rattle.tardis_base.specs.Plain.{PlainMachine}
use Rattle.hub.specs.Doors.{DoorRules}

-- whether something is owed
abbrev pub owing : PlainMachine Bool
owing = record { step = λ s e. true; reply = λ s e. 7 ∷ []; is_sure = λ e. true }

-- what comes through door 0 is let in
abbrev pub first_door : DoorRules Bool
first_door = record { lets_in = λ door s e. door == 0; answer = λ door s e. 9 ∷ []; is_sure = λ door e. true }

abbrev pub first_byte : List ℕ → ℕ
first_byte [] = 0
first_byte (byte ∷ rest) = byte

-- So many slices are left. Actor 0 takes one, and is told whether there was one; all others are told the first byte of what
-- they asked.
abbrev pub slicing : PlainMachine ℕ
slicing = record {
  step = λ s e. if e.0 == 0 then s - 1 else s;
  reply = λ s e. (if e.0 == 0 then if s == 0 then 0 else 1 else first_byte e.1) ∷ [];
  is_sure = λ e. true;
}
