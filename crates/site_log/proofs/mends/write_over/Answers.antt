use Rattle.disk_store.specs.Disks.{Only}
use Rattle.site_log.specs.Images.{HoldsBodies}
use Rattle.site_log.specs.Files.{IsAtRest}
use Rattle.site_log.proofs.Appending.{on_ok}
use Rattle.site_log.proofs.Leaving.{write_leaves, sync_leaves}
use Rattle.site_log.proofs.Mending.{log_held, mend_torn, is_mended}
use Rattle.std.proofs.Common.{true}
use Rattle.site_log.proofs.mends.write_over.Goals as goal

pub returns-in_err-write_bytewise-clause-any_moment : goal.returns-in_err-write_bytewise-clause-any_moment
returns-in_err-write_bytewise-clause-any_moment g c = λ h front bodies size l.
    let K = g.K.Disk in
    let old = c.args.disk.now in
    let zeros = c.args.zeros.now in
    write_leaves K old (HoldsBodies front bodies) c.args.place zeros (g.met.K.Disk.only_now old) l.durable
    (log_held K old front bodies c.args.place size true l)
    (mend_torn K c.group_laws.ensures.mend old front bodies c.args.place size l zeros c.requires.zeros (c.requires.begin h) (c.requires.enough h))
    c.write_bytewise.new.self (c.write_bytewise.ensures.crash h) (c.write_bytewise.ensures.time h)

pub returns-clause-mended : goal.returns-clause-mended
returns-clause-mended g c = λ h front bodies size l.
    let K = g.K.Disk in
    let old = c.args.disk.now in
    let zeros = c.args.zeros.now in
    let h1 = c.write_bytewise.ensures.honest.0 h in
    on_ok c.sync.result (Only (K.reads c.write_bytewise.new.self) (K.may_leave c.sync.new.self))
    (IsAtRest K c.sync.new.self front bodies c.args.place size) (c.sync.ensures.durable h1)
    (λ only. is_mended K c.group_laws.ensures.mend old front bodies c.args.place size l zeros c.requires.zeros (c.requires.begin h)
    (c.requires.enough h) c.write_bytewise.new.self c.sync.new.self (c.in_ok-write_bytewise.ensures.written h) (c.sync.ensures.reads h1) only)

pub returns-clause-any_moment : goal.returns-clause-any_moment
returns-clause-any_moment g c = λ h front bodies size l.
    let K = g.K.Disk in
    let old = c.args.disk.now in
    let zeros = c.args.zeros.now in
    let h1 = c.write_bytewise.ensures.honest.0 h in
    sync_leaves K old (HoldsBodies front bodies) c.args.place zeros (g.met.K.Disk.only_now old) l.durable
    (log_held K old front bodies c.args.place size true l)
    (mend_torn K c.group_laws.ensures.mend old front bodies c.args.place size l zeros c.requires.zeros (c.requires.begin h) (c.requires.enough h))
    c.write_bytewise.new.self c.sync.new.self (c.write_bytewise.ensures.crash h) (c.write_bytewise.ensures.time h)
    (c.sync.ensures.crash h1) (c.sync.ensures.time h1)
