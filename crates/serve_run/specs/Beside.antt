-- What each of the two sides of a server comes to.
use Rattle.std.specs.Prelude.{◌≡◌, ℕ, ◌<◌, ◌≤◌, ◌⊎◌, Bool, List, Option, Result, IfOk, OnErr}
use Rattle.tardis_base.specs.Plain.{PlainMachine}
use Rattle.tardis_base.specs.declared.faults.NoMemory.{NoMemory}
use Rattle.tardis_io.specs.Faults.{Rose}
use Rattle.tardis_io.specs.Links.{ToldGate, ToldDial}
use Rattle.trail_log.specs.Trail.{Kept}
use Rattle.dag_lock.specs.Known.{Known}
use Rattle.site_sync.specs.declared.ends.Rounds.{Rounds}
use Rattle.site_sync.specs.Steps.{GoesOn}
use Rattle.site_sync.specs.Rounds.{AreRounds}
use Rattle.serve_pool.specs.Rows.{HasNone}
use Rattle.serve_pool.specs.Pools.{Serves}
use Rattle.serve_pool.specs.declared.ends.Served.{Served}
use Rattle.serve_pool.specs.declared.ends.PoolEnd.TheVariants.{Done, GateFault}

-- the rounds
pub record Synced {M P X D : Type 0} (opening : M → P) (m : PlainMachine P) (left given : X → Option (List ℕ)) (take_faults faults : X → ℕ)
    (told : D → Option (ToldDial X)) (dial_faults : D → ℕ)
    (machine : Kept M) (rounds : ℕ) (peers : List (List ℕ)) (tidy : Bool) (p q : Known) (d e : D) (made : Result Rounds NoMemory) : Type 0 where
  pub goes_on : GoesOn p q
  pub rounds_made : IfOk made (λ n. AreRounds opening m machine left given take_faults faults told dial_faults rounds peers tidy p d n q e)
  pub nothing : OnErr made ((q ≡ p) × (e ≡ d))
  pub later : dial_faults d ≤ dial_faults e
  pub cause : IfOk made (λ n. 0 < n.dial → Rose (dial_faults d) (dial_faults e))

-- the links
pub record Pooled {P L G : Type 0} (m : PlainMachine P) (left given : L → Option (List ℕ)) (take_faults faults : L → ℕ) (told : G → Option (ToldGate L))
    (gate_faults : G → ℕ)
    (start : P) (most links : ℕ) (p q : Known) (old new : G) (s : Served) : Type 0 where
  pub serves : Serves left given take_faults faults m start most 1 p q (told old) (told new) s.taken s.unserved
  pub within : s.taken ≤ links
  pub done : s.end ≡ Done → (s.taken ≡ links) ⊎ HasNone (told new)
  pub fault : s.end ≡ GateFault → (s.taken < links) × Rose (gate_faults old) (gate_faults new)
  pub later : gate_faults old ≤ gate_faults new
