-- What settles in a machine, beside its steps and its replies, and how it is seen through doors.
use Rattle.std.specs.Prelude.{ℕ}
use Rattle.tardis_base.specs.Plain.{PlainMachine}

-- the machine as it is seen through each door; in which states nothing is owed, and the state once all is settled
pub record PlainSettling (S : Type 0) : Type 1 where
  pub machine : PlainMachine S
  pub through : ℕ → PlainMachine S
  pub is_settled : S → Type 0
  pub settled : S → S

abbrev pub behind_doors : {S : Type 0} → PlainMachine S → (ℕ → PlainMachine S) → (S → Type 0) → (S → S) → PlainSettling S
behind_doors machine through is_settled settled = record { machine = machine; through = through; is_settled = is_settled; settled = settled }

-- each door lets all in
abbrev pub settling : {S : Type 0} → PlainMachine S → (S → Type 0) → (S → S) → PlainSettling S
settling machine is_settled settled = behind_doors machine (λ door. machine) is_settled settled

-- a machine in memory owes nothing, and settling leaves it as it is
abbrev pub in_memory : {S : Type 0} → PlainMachine S → PlainSettling S
in_memory machine = settling machine (λ s. Unit {0}) (λ s. s)
