use Rattle.std.proofs.Common.{◌+◌, ◌<◌, arith}
use Rattle.std.specs.Prelude.{min}
use Rattle.disk_store.specs.Disks.{Only}
use Rattle.site_journal.specs.Moments.{IsTorn}
use Rattle.site_journal.proofs.Mending.{on_ok, cut_step, cut_synced, cut_torn}
use Rattle.site_journal.proofs.mends.cut_rest.Goals as goal

pub returns-clause-torn : goal.returns-clause-torn
returns-clause-torn g c = λ h entries t.
    let K = g.K.Disk in
    let far : c.args.place + 1 < c.args.size = omega arith in
    let h1 = c.cut.ensures.honest.0 h in
    on_ok c.sync.result (Only (K.reads c.cut.new.self) (K.may_leave c.sync.new.self))
    (IsTorn K c.sync.new.self entries c.args.place (min c.args.size (c.args.place + 1))) (c.sync.ensures.durable h1)
    (λ only. cut_torn K entries c.args.place c.args.size c.args.disk.now t far c.cut.new.self c.sync.new.self
    (c.in_ok-cut.ensures.shorter h) (c.sync.ensures.reads h1) only)

pub returns-clause-any_moment : goal.returns-clause-any_moment
returns-clause-any_moment g c = λ h entries t.
    let K = g.K.Disk in
    let far : c.args.place + 1 < c.args.size = omega arith in
    let h1 = c.cut.ensures.honest.0 h in
    cut_synced K entries c.args.place c.args.size c.args.disk.now t far c.cut.new.self c.sync.new.self
    (g.met.K.Disk.only_now c.args.disk.now)
    (c.cut.ensures.crash h) (c.cut.ensures.time h) (c.sync.ensures.crash h1) (c.sync.ensures.time h1)

pub returns-in_err-cut-clause-any_moment : goal.returns-in_err-cut-clause-any_moment
returns-in_err-cut-clause-any_moment g c = λ h entries t.
    let K = g.K.Disk in
    let far : c.args.place + 1 < c.args.size = omega arith in
    cut_step K entries c.args.place c.args.size c.args.disk.now t far c.cut.new.self
    (g.met.K.Disk.only_now c.args.disk.now) (c.cut.ensures.crash h) (c.cut.ensures.time h)
