-- How a server ends that had no memory: it listened to nothing, called nobody, and wrote nothing.
use Rattle.std.proofs.Common.{◌≡◌, ℕ, Bool, true, false, ◌||◌, cond, nat_lt, Result, Ok, Err, refl, ap, inr, arith}
use Rattle.tardis_io.specs.declared.streams.Sink.{Ghosts as ASink}
use Rattle.tardis_io.specs.declared.duplexes.Duplex.{Ghosts as ADuplex}
use Rattle.tardis_io.specs.declared.gates.Gate.{Ghosts as AGate}
use Rattle.tardis_io.specs.declared.gates.Dial.{Ghosts as ADial}
use Rattle.tardis_io.specs.declared.faults.WriteFault.{WriteFault as NotWritten}
use Rattle.tardis_io.specs.declared.statuses.Status.{Status}
use Rattle.tardis_io.specs.declared.statuses.Status.TheVariants.{Ok as Well, Usage, NoMemory, WriteFault, GateFault, DialFault}
use Rattle.tardis_io.specs.Statuses.{status_number}
use Rattle.serve_pool.specs.declared.ends.PoolEnd.{PoolEnd}
use Rattle.serve_pool.specs.declared.ends.PoolEnd.TheVariants.{Done as AllServed, GateFault as NextFailed}
use Rattle.serve_run.specs.Serving.{Workload}
use Rattle.serve_run.specs.declared.endings.ServeEnd.{ServeEnd}
use Rattle.serve_run.specs.declared.endings.ServeEnd.TheVariants.{NotBound, NotMade, Served}
use Rattle.plain_site.specs.Site.{Site}
use Rattle.site_commands.specs.Ends.{ServerEnds, rounds_lack_memory, has_dial_fault, status_served, status_after}

abbrev number_of : ServeEnd → ℕ
number_of NotBound = 0
number_of NotMade = 1
number_of (Served s) = 2

served_never : (lacks : Bool) (g : PoolEnd) (w : Result (Unit {0}) NotWritten) (d : Bool) → cond lacks NoMemory (status_served g w d) ≡ Usage → ⊥
served_never true g w d e = absurd (omega (arith, ap status_number e))
served_never false NextFailed w d e = absurd (omega (arith, ap status_number e))
served_never false AllServed (Err x) d e = absurd (omega (arith, ap status_number e))
served_never false AllServed (Ok u) true e = absurd (omega (arith, ap status_number e))
served_never false AllServed (Ok u) false e = absurd (omega (arith, ap status_number e))

-- no end of a server is told as words without a form
pub never_usage : (end : ServeEnd) → status_after end ≡ Usage → ⊥
never_usage NotBound e = absurd (omega (arith, ap status_number e))
never_usage NotMade e = absurd (omega (arith, ap status_number e))
never_usage (Served s) e = served_never (nat_lt 0 s.unserved || rounds_lack_memory s.rounds) s.gate s.written (has_dial_fault s.rounds) e

-- a server's ends tell of no fault of reading or of the disk
abbrev pub IsServerEnd : Status → Type 0
IsServerEnd Well = Unit {0}
IsServerEnd NoMemory = Unit {0}
IsServerEnd WriteFault = Unit {0}
IsServerEnd GateFault = Unit {0}
IsServerEnd DialFault = Unit {0}
IsServerEnd _ = ⊥

served_so : (lacks : Bool) (g : PoolEnd) (w : Result (Unit {0}) NotWritten) (d : Bool) → IsServerEnd (cond lacks NoMemory (status_served g w d))
served_so true g w d = tt
served_so false NextFailed w d = tt
served_so false AllServed (Err x) d = tt
served_so false AllServed (Ok u) true = tt
served_so false AllServed (Ok u) false = tt

pub ends_so : (end : ServeEnd) → IsServerEnd (status_after end)
ends_so NotBound = tt
ends_so NotMade = tt
ends_so (Served s) = served_so (nat_lt 0 s.unserved || rounds_lack_memory s.rounds) s.gate s.written (has_dial_fault s.rounds)

module _ {M L G X D O : Type 0} (opened : M → Site) (g : AGate G L) (l : ADuplex L) (gives : ASink L) (d : ADial D X) (x : ADuplex X) (dialled : ASink X) (o : ASink O)
    (gate : G) (dial : D) (output : O) where
  pub no_server : (site : Site) (max_trail : ℕ) (work : Workload)
      → ServerEnds opened g l gives d x dialled o gate gate dial dial output output site max_trail work NoMemory
  no_server site max_trail work = record {
    end = NotMade;
    outcome = record {
      served = λ s e. let n : 1 ≡ 2 = ap number_of e in absurd (omega (arith, n));
      not_bound = λ e. let n : 1 ≡ 0 = ap number_of e in absurd (omega (arith, n));
      not_made = λ e. (refl, refl, refl);
      gate_later = omega arith;
      dial_later = omega arith;
      write_later = omega arith;
    };
    judged = refl;
    complete = λ r t s. inr refl;
  }
