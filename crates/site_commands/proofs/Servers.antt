-- What the end of a server says of its status.
use Rattle.std.proofs.Common.{◌≡◌, ℕ, ◌<◌, ◌⊎◌, Bool, true, false, ◌||◌, cond, List, Option, Result, Ok, Err, OnErr, IfOk, nat_lt, refl, ap, inl}
use Rattle.std.proofs.Common.{inr, arith}
use Rattle.tardis_base.specs.Plain.{PlainMachine}
use Rattle.tardis_io.specs.declared.faults.WriteFault.{WriteFault as NotWritten}
use Rattle.tardis_io.specs.declared.statuses.Status.TheVariants.{Ok as Well, WriteFault, NoMemory, GateFault, DialFault}
use Rattle.tardis_io.specs.Statuses.{status_number}
use Rattle.tardis_io.specs.Faults.{Rose}
use Rattle.tardis_io.specs.Links.{ToldGate, ToldDial}
use Rattle.tardis_base.specs.declared.faults.NoMemory.{NoMemory as OutOfMemory}
use Rattle.site_sync.specs.declared.ends.Rounds.{Rounds}
use Rattle.serve_pool.specs.declared.ends.PoolEnd.{PoolEnd}
use Rattle.serve_pool.specs.declared.ends.PoolEnd.TheVariants.{Done as AllServed, GateFault as NextFailed}
use Rattle.serve_run.specs.declared.endings.Serving.{Serving}
use Rattle.serve_run.specs.declared.endings.ServeEnd.{ServeEnd}
use Rattle.serve_run.specs.declared.endings.ServeEnd.TheVariants.{NotBound, NotMade, Served}
use Rattle.serve_run.specs.Serving.{Workload, ServeOutcome}
use Rattle.site_commands.specs.Ends.{rounds_lack_memory, has_dial_fault, status_served, status_after}

-- what failed at each end: R where the gate did, S where the output did, T where the dial did
pub record Fails (R S T : Type 0) (end : ServeEnd) : Type 0 where
  pub bound : end ≡ NotBound → R
  pub next : (s : Serving) → end ≡ Served s → s.gate ≡ NextFailed → R
  pub write : (s : Serving) → end ≡ Served s → OnErr s.written S
  pub call : (s : Serving) → end ≡ Served s → has_dial_fault s.rounds ≡ true → T

next_failed : (wanting : Bool) (g : PoolEnd) (w : Result (Unit {0}) NotWritten) (d : Bool) → cond wanting NoMemory (status_served g w d) ≡ GateFault →
    g ≡ NextFailed
next_failed true g w d e = absurd (omega (arith, ap status_number e))
next_failed false NextFailed w d e = refl
next_failed false AllServed (Err x) d e = absurd (omega (arith, ap status_number e))
next_failed false AllServed (Ok u) true e = absurd (omega (arith, ap status_number e))
next_failed false AllServed (Ok u) false e = absurd (omega (arith, ap status_number e))

write_failed : (S : Type 0) (wanting : Bool) (g : PoolEnd) (w : Result (Unit {0}) NotWritten) (d : Bool) → OnErr w S →
    cond wanting NoMemory (status_served g w d) ≡ WriteFault → S
write_failed S true g w d o e = absurd (omega (arith, ap status_number e))
write_failed S false NextFailed w d o e = absurd (omega (arith, ap status_number e))
write_failed S false AllServed (Err x) d o e = o
write_failed S false AllServed (Ok u) true o e = absurd (omega (arith, ap status_number e))
write_failed S false AllServed (Ok u) false o e = absurd (omega (arith, ap status_number e))

call_failed : (T : Type 0) (wanting : Bool) (g : PoolEnd) (w : Result (Unit {0}) NotWritten) (d : Bool) → (d ≡ true → T) →
    cond wanting NoMemory (status_served g w d) ≡ DialFault → T
call_failed T true g w d f e = absurd (omega (arith, ap status_number e))
call_failed T false NextFailed w d f e = absurd (omega (arith, ap status_number e))
call_failed T false AllServed (Err x) d f e = absurd (omega (arith, ap status_number e))
call_failed T false AllServed (Ok u) true f e = f refl
call_failed T false AllServed (Ok u) false f e = absurd (omega (arith, ap status_number e))

well_or_none : (R S T : Type 0) (wanting : Bool) (g : PoolEnd) (w : Result (Unit {0}) NotWritten) (d : Bool) → (g ≡ NextFailed → R) → OnErr w S →
    (d ≡ true → T) → (R → ⊥) → (T → ⊥) → (S → ⊥)
    → (cond wanting NoMemory (status_served g w d) ≡ Well) ⊎ (cond wanting NoMemory (status_served g w d) ≡ NoMemory)
well_or_none R S T true g w d f o h r t s = inr refl
well_or_none R S T false NextFailed w d f o h r t s = absurd (r (f refl))
well_or_none R S T false AllServed (Err x) d f o h r t s = absurd (s o)
well_or_none R S T false AllServed (Ok u) true f o h r t s = absurd (t (h refl))
well_or_none R S T false AllServed (Ok u) false f o h r t s = inl refl

abbrev lacks_memory : Serving → Bool
lacks_memory s = nat_lt 0 s.unserved || rounds_lack_memory s.rounds

pub gate_failed : (R S T : Type 0) (end : ServeEnd) → Fails R S T end → status_after end ≡ GateFault → R
gate_failed R S T NotBound f e = f.bound refl
gate_failed R S T NotMade f e = absurd (omega (arith, ap status_number e))
gate_failed R S T (Served s) f e = f.next s refl (next_failed (lacks_memory s) s.gate s.written (has_dial_fault s.rounds) e)

pub output_failed : (R S T : Type 0) (end : ServeEnd) → Fails R S T end → status_after end ≡ WriteFault → S
output_failed R S T NotBound f e = absurd (omega (arith, ap status_number e))
output_failed R S T NotMade f e = absurd (omega (arith, ap status_number e))
output_failed R S T (Served s) f e = write_failed S (lacks_memory s) s.gate s.written (has_dial_fault s.rounds) (f.write s refl) e

pub dial_failed : (R S T : Type 0) (end : ServeEnd) → Fails R S T end → status_after end ≡ DialFault → T
dial_failed R S T NotBound f e = absurd (omega (arith, ap status_number e))
dial_failed R S T NotMade f e = absurd (omega (arith, ap status_number e))
dial_failed R S T (Served s) f e = call_failed T (lacks_memory s) s.gate s.written (has_dial_fault s.rounds) (f.call s refl) e

pub well_without_faults : (R S T : Type 0) (end : ServeEnd) → Fails R S T end → (R → ⊥) → (T → ⊥) → (S → ⊥) → (status_after end ≡ Well)
    ⊎ (status_after end ≡ NoMemory)
well_without_faults R S T NotBound f r t s = absurd (r (f.bound refl))
well_without_faults R S T NotMade f r t s = inr refl
well_without_faults R S T (Served z) f r t s = well_or_none R S T (lacks_memory z) z.gate z.written (has_dial_fault z.rounds) (f.next z refl)
    (f.write z refl) (f.call z refl) r t s

some_of : (n : ℕ) → nat_lt 0 n ≡ true → 0 < n
some_of ℕ.zero e = absurd (cc)
some_of (ℕ.suc n) e = omega arith

called_in_vain : (T : Type 0) (made : Result Rounds OutOfMemory) → IfOk made (λ n. 0 < n.dial → T) → has_dial_fault made ≡ true → T
called_in_vain T (Ok n) f e = f (some_of n.dial e)
called_in_vain T (Err fault) f e = absurd (cc)

module _ {M P L X G D O : Type 0} (opening : M → P) (link_left link_given : L → Option (List ℕ)) (link_takes link_gives : L → ℕ)
    (peer_left peer_given : X → Option (List ℕ)) (peer_takes peer_gives : X → ℕ)
    (dial_told : D → Option (ToldDial X)) (dials : D → ℕ) (m : PlainMachine P) (start : P) (most : ℕ)
    (told : G → Option (ToldGate L)) (gates : G → ℕ) (given : O → Option (List ℕ)) (writes : O → ℕ) where
  -- what failed, by a server's outcome
  pub fails_of : (work : Workload) (old new : G) (d e : D) (before after : O) (end : ServeEnd)
      → ServeOutcome opening m link_left link_given link_takes link_gives peer_left peer_given peer_takes peer_gives dial_told dials start most told gates
      given writes work old new d e before after end
      → Fails (Rose (gates old) (gates new)) (Rose (writes before) (writes after)) (Rose (dials d) (dials e)) end
  fails_of work old new d e before after end o = record {
    bound = λ is. (o.not_bound is).0;
    next = λ s is. (o.served s is).fault;
    write = λ s is. (o.served s is).cause.failed;
    call = λ s is. called_in_vain (Rose (dials d) (dials e)) s.rounds (o.served s is).rounds.cause;
  }
