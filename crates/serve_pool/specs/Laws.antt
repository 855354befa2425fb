-- Laws of serving.
use Rattle.std.specs.Prelude.{ℕ, List, Option}
use Rattle.tardis_base.specs.Plain.{Event, PlainMachine}
use Rattle.dag_lock.specs.Known.{Begins}
use Rattle.serve_pool.specs.Rows.{Taken}
use Rattle.serve_pool.specs.Pools.{AreServed}

-- what was done with links stays so in every longer trail
abbrev pub LongerKeepsServed : {P L : Type 0} (left given : L → Option (List ℕ)) (take_faults faults : L → ℕ) → PlainMachine P → Type 0
LongerKeepsServed {P} {L} left given take_faults faults m =
    (start : P) (most low : ℕ) (seen longer : List Event) (first : ℕ) (taken : List (Taken L)) → Begins seen longer
    → AreServed left given take_faults faults m start most low seen first taken → AreServed left given take_faults faults m start most low longer first taken
