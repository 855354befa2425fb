use Rattle.std.proofs.Common.{◌⊎◌, inl, [], length}
use Rattle.disk_store.specs.Disks.{Only}
use Rattle.site_log.specs.Images.{HoldsBodies}
use Rattle.site_log.specs.Files.{IsAtRest}
use Rattle.site_log.specs.News.{IsNew}
use Rattle.site_log.proofs.Appending.{on_ok}
use Rattle.site_log.proofs.Leaving.{write_leaves, sync_leaves}
use Rattle.site_log.proofs.Making.{begun, front_rests}
use Rattle.site_log.proofs.makes.write_front.Goals as goal

pub returns-in_err-write_bytewise-clause-any_moment : goal.returns-in_err-write_bytewise-clause-any_moment
returns-in_err-write_bytewise-clause-any_moment g c = λ h front is_front is clean room durable.
    let K = g.K.Disk in
    let old = c.args.disk.now in
    let text = c.args.text.now in
    let laws = c.log_laws.ensures in
    write_leaves K old (λ image. IsNew image ⊎ HoldsBodies front [] image) 0 text (g.met.K.Disk.only_now old) durable (inl (inl clean))
    (λ image b. begun laws.some laws.group c.group_laws.ensures.written front is_front (K.reads old) text image clean room is b)
    c.write_bytewise.new.self (c.write_bytewise.ensures.crash h) (c.write_bytewise.ensures.time h)

pub returns-clause-made : goal.returns-clause-made
returns-clause-made g c = λ h front is_front is clean room.
    let K = g.K.Disk in
    let old = c.args.disk.now in
    let text = c.args.text.now in
    let mid = c.write_bytewise.new.self in
    let now = c.sync.new.self in
    let h1 = c.write_bytewise.ensures.honest.0 h in
    on_ok c.sync.result (Only (K.reads mid) (K.may_leave now)) (IsAtRest K now front [] (length text) (length (K.reads old))) (c.sync.ensures.durable h1)
    (λ only. front_rests K old mid now front is_front text is clean room (c.in_ok-write_bytewise.ensures.written h) (c.sync.ensures.reads h1) only)

pub returns-clause-any_moment : goal.returns-clause-any_moment
returns-clause-any_moment g c = λ h front is_front is clean room durable.
    let K = g.K.Disk in
    let old = c.args.disk.now in
    let text = c.args.text.now in
    let laws = c.log_laws.ensures in
    let h1 = c.write_bytewise.ensures.honest.0 h in
    sync_leaves K old (λ image. IsNew image ⊎ HoldsBodies front [] image) 0 text (g.met.K.Disk.only_now old) durable (inl (inl clean))
    (λ image b. begun laws.some laws.group c.group_laws.ensures.written front is_front (K.reads old) text image clean room is b)
    c.write_bytewise.new.self c.sync.new.self (c.write_bytewise.ensures.crash h) (c.write_bytewise.ensures.time h)
    (c.sync.ensures.crash h1) (c.sync.ensures.time h1)
