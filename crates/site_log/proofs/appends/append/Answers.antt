use Rattle.std.proofs.Common.{◌+◌, ◌++◌, [], ◌∷◌, length}
use Rattle.disk_store.specs.Disks.{Only}
use Rattle.site_log.specs.Files.{IsAtRest}
use Rattle.site_log.proofs.Appending.{on_ok, write_leaves, sync_leaves, is_appended}
use Rattle.site_log.proofs.appends.append.Goals as goal

pub returns-in_err-write_bytewise-clause-any_moment : goal.returns-in_err-write_bytewise-clause-any_moment
returns-in_err-write_bytewise-clause-any_moment g c = λ h front bodies body r fits is.
    let K = g.K.Disk in
    let laws = c.group_laws.ensures in
    write_leaves K laws.written laws.grows laws.crash c.args.disk.now front bodies body c.args.place c.args.room r fits c.args.text.now is c.requires.fits
    c.write_bytewise.new.self (g.met.K.Disk.only_now c.args.disk.now) (c.write_bytewise.ensures.crash h) (c.write_bytewise.ensures.time h)

pub returns-clause-appended : goal.returns-clause-appended
returns-clause-appended g c = λ h front bodies body r fits is.
    let K = g.K.Disk in
    let laws = c.group_laws.ensures in
    let h1 = c.write_bytewise.ensures.honest.0 h in
    on_ok c.sync.result (Only (K.reads c.write_bytewise.new.self) (K.may_leave c.sync.new.self))
    (IsAtRest K c.sync.new.self front (bodies ++ body ∷ []) (c.args.place + length c.args.text.now) c.args.room) (c.sync.ensures.durable h1)
    (λ only. is_appended K laws.written laws.grows laws.crash c.args.disk.now front bodies body c.args.place c.args.room r fits c.args.text.now is
    c.requires.fits c.write_bytewise.new.self c.sync.new.self (c.in_ok-write_bytewise.ensures.written h) (c.sync.ensures.reads h1) only)

pub returns-clause-any_moment : goal.returns-clause-any_moment
returns-clause-any_moment g c = λ h front bodies body r fits is.
    let K = g.K.Disk in
    let laws = c.group_laws.ensures in
    let h1 = c.write_bytewise.ensures.honest.0 h in
    sync_leaves K laws.written laws.grows laws.crash c.args.disk.now front bodies body c.args.place c.args.room r fits c.args.text.now is c.requires.fits
    c.write_bytewise.new.self c.sync.new.self (g.met.K.Disk.only_now c.args.disk.now) (c.write_bytewise.ensures.crash h)
    (c.write_bytewise.ensures.time h) (c.sync.ensures.crash h1) (c.sync.ensures.time h1)
