use Rattle.disk_store.specs.Disks.{Only}
use Rattle.site_journal.specs.Texts.{HasEntries}
use Rattle.site_journal.specs.Moments.{IsAtRest}
use Rattle.site_journal.proofs.Mending.{on_ok, read_torn, read_on, last_step, last_synced, last_rest, leaves_then}
use Rattle.site_journal.proofs.mends.end_rest.Goals as goal

pub returns-clause-at_rest : goal.returns-clause-at_rest
returns-clause-at_rest g c = λ h entries t.
    let K = g.K.Disk in
    let h0 = c.has_end.ensures.honest.0 h in
    let h1 = c.write_at.ensures.honest.0 h0 in
    let now = read_torn K entries c.args.place c.args.size c.args.disk.now t c.has_end.new.disk
    (c.has_end.ensures.read h) in
    on_ok c.sync.result (Only (K.reads c.write_at.new.self) (K.may_leave c.sync.new.self)) (IsAtRest K c.sync.new.self entries)
    (c.sync.ensures.durable h1)
    (λ only. last_rest K entries c.args.place c.args.size c.has_end.new.disk now c.requires.few c.write_at.new.self
    c.sync.new.self (c.in_ok-write_at.ensures.written h0) (c.sync.ensures.reads h1) only)

pub returns-clause-any_moment : goal.returns-clause-any_moment
returns-clause-any_moment g c = λ h entries t.
    let K = g.K.Disk in
    let h0 = c.has_end.ensures.honest.0 h in
    let h1 = c.write_at.ensures.honest.0 h0 in
    let now = read_torn K entries c.args.place c.args.size c.args.disk.now t c.has_end.new.disk
    (c.has_end.ensures.read h) in
    let first = read_on K entries c.args.place c.args.size c.args.disk.now t c.has_end.new.disk
    (g.met.K.Disk.only_now c.args.disk.now) (c.has_end.ensures.read h) in
    leaves_then K c.args.disk.now c.has_end.new.disk c.sync.new.self (HasEntries entries) first
    (last_synced K entries c.args.place c.args.size c.has_end.new.disk now c.requires.few c.write_at.new.self
    c.sync.new.self (g.met.K.Disk.only_now c.has_end.new.disk)
    (c.write_at.ensures.crash h0) (c.write_at.ensures.time h0) (c.sync.ensures.crash h1) (c.sync.ensures.time h1))

pub returns-in_err-write_at-clause-any_moment : goal.returns-in_err-write_at-clause-any_moment
returns-in_err-write_at-clause-any_moment g c = λ h entries t.
    let K = g.K.Disk in
    let h0 = c.has_end.ensures.honest.0 h in
    let now = read_torn K entries c.args.place c.args.size c.args.disk.now t c.has_end.new.disk
    (c.has_end.ensures.read h) in
    let first = read_on K entries c.args.place c.args.size c.args.disk.now t c.has_end.new.disk
    (g.met.K.Disk.only_now c.args.disk.now) (c.has_end.ensures.read h) in
    leaves_then K c.args.disk.now c.has_end.new.disk c.write_at.new.self (HasEntries entries) first
    (last_step K entries c.args.place c.args.size c.has_end.new.disk now c.requires.few c.write_at.new.self
    (g.met.K.Disk.only_now c.has_end.new.disk) (c.write_at.ensures.crash h0) (c.write_at.ensures.time h0))
