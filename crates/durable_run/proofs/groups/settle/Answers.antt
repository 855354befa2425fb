use Rattle.std.proofs.Common.{subst, sym, arith}
use Rattle.durable_run.specs.Turns.{Went}
use Rattle.durable_run.proofs.Grouped.{settled, unwritten, broken}
use Rattle.durable_run.proofs.groups.settle.Goals as goal

pub returns-in-Ok-write_to-clause-grouped : goal.returns-in-Ok-write_to-clause-grouped
returns-in-Ok-write_to-clause-grouped g c = λ at bodies group.
    let M = g.M.Machine in
    let K = g.K.Disk in
    settled M K at c.args.journal c.in-Ok.journal
    (g.O.Sink.given c.args.output.now) (g.O.Sink.given c.write_to.new.output) c.args.gathered.now.bytes c.write_to.new.self.bytes bodies
    c.in-Ok.ensures.committed c.in-Ok.ensures.any_moment c.in-Ok.ensures.honest c.in-Ok.ensures.opening c.in-Ok.ensures.most c.in-Ok-write_to.ensures.bytes
    c.write_to.ensures.none group

pub returns-in-Err-write_to-clause-stopped : goal.returns-in-Err-write_to-clause-stopped
returns-in-Err-write_to-clause-stopped g c = λ at bodies group.
    let M = g.M.Machine in
    let K = g.K.Disk in
    unwritten M K at c.args.journal c.in-Ok.journal c.close.result.1
    (g.O.Sink.given c.args.output.now) (g.O.Sink.given c.write_to.new.output) c.args.gathered.now.bytes bodies
    c.in-Ok.ensures.committed c.in-Ok.ensures.any_moment c.in-Ok.ensures.honest c.close.ensures.disk c.in-Err-write_to.ensures.bytes
    (omega (arith, c.in-Err-write_to.ensures.within, c.requires.room)) group

pub returns-in-Err-clause-stopped : goal.returns-in-Err-clause-stopped
returns-in-Err-clause-stopped g c = λ at bodies group.
    let M = g.M.Machine in
    let K = g.K.Disk in
    broken M K at c.args.journal c.in-Err.disk (g.O.Sink.given c.args.output.now)
    c.args.gathered.now.bytes bodies
    (g.met.K.Disk.counts_now c.in-Err.disk) c.in-Err.ensures.any_moment group

pub returns-in-Ok-write_to-clause-went : goal.returns-in-Ok-write_to-clause-went
returns-in-Ok-write_to-clause-went g c = record { later = c.in-Ok.ensures.later; as_honest = c.in-Ok.ensures.honest }

pub returns-in-Err-write_to-clause-fault : goal.returns-in-Err-write_to-clause-fault
returns-in-Err-write_to-clause-fault g c =
    let K = g.K.Disk in
    record {
      went = subst (λ k. Went K c.args.journal.disk k) (sym c.close.ensures.disk)
          (record { later = c.in-Ok.ensures.later; as_honest = c.in-Ok.ensures.honest });
      rose = c.in-Err-write_to.ensures.cause.failed;
    }

pub returns-in-Err-clause-fault : goal.returns-in-Err-clause-fault
returns-in-Err-clause-fault g c = record {
  went = record { later = c.in-Err.ensures.later; as_honest = c.in-Err.ensures.honest };
  rose = c.in-Err.ensures.failed;
}
