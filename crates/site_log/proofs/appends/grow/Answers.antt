use Rattle.std.proofs.Common.{◌+◌, length, sym, ap, arith}
use Rattle.site_log.proofs.Growing.{grow_step, grow_sync, zeros_leave, size_at_end}
use Rattle.site_log.proofs.appends.grow.Goals as goal

pub loop-at-preserved : goal.loop-at-preserved
loop-at-preserved g c =
    let K = g.K.Disk in
    let inv = c.loop-at.invariant in
    record {
      growing = λ h front bodies place r.
          let h1 = inv.honest.0 h in
          let w = c.in_ok-write_zeros.ensures.written h1 in
          grow_step K c.group_laws.ensures.written c.args.disk.now front bodies place c.args.room r c.loop-at.disk c.loop-at.at
          (inv.growing h front bodies place r) w.0 w.1.0 c.write_zeros.new.disk (c.loop-at.at + 4096) (ap (λ n. c.loop-at.at + n) (sym w.1.1)) w.1.2 w.1.3
          (c.write_zeros.ensures.time h1);
      size = λ now.
          let h1 = c.write_zeros.ensures.honest.1 now in
          let w = c.in_ok-write_zeros.ensures.written h1 in
          omega (arith, w.1.1, ap length w.1.2, size_at_end (K.reads c.loop-at.disk) w.0 c.loop-at.at (inv.size h1));
      honest = (λ h. c.write_zeros.ensures.honest.0 (inv.honest.0 h), λ h. inv.honest.1 (c.write_zeros.ensures.honest.1 h));
      later = omega (arith, inv.later, c.write_zeros.ensures.cause.later);
    }

pub returns-in_err-write_zeros-clause-any_moment : goal.returns-in_err-write_zeros-clause-any_moment
returns-in_err-write_zeros-clause-any_moment g c = λ h front bodies place r.
    let inv = c.loop-at.invariant in
    let h1 = inv.honest.0 h in
    let w = c.write_zeros.ensures.written h1 in
    zeros_leave g.K.Disk c.group_laws.ensures.written c.args.disk.now front bodies place c.args.room r c.loop-at.disk c.loop-at.at
    (inv.growing h front bodies place r) w.0 w.1.0 c.write_zeros.new.disk w.1.3 (c.write_zeros.ensures.time h1)

pub returns-in_err-sync-clause-any_moment : goal.returns-in_err-sync-clause-any_moment
returns-in_err-sync-clause-any_moment g c = λ h front bodies place r.
    let inv = c.loop-at.invariant in
    let h1 = inv.honest.0 h in
    grow_sync g.K.Disk c.group_laws.ensures.written c.args.disk.now front bodies place c.args.room r c.loop-at.disk c.loop-at.at
    (inv.growing h front bodies place r) c.sync.new.self (c.sync.ensures.crash h1) (c.sync.ensures.time h1)

pub returns-clause-any_moment : goal.returns-clause-any_moment
returns-clause-any_moment g c = λ h front bodies place r.
    let inv = c.loop-at.invariant in
    let h1 = inv.honest.0 h in
    grow_sync g.K.Disk c.group_laws.ensures.written c.args.disk.now front bodies place c.args.room r c.loop-at.disk c.loop-at.at
    (inv.growing h front bodies place r) c.sync.new.self (c.sync.ensures.crash h1) (c.sync.ensures.time h1)
