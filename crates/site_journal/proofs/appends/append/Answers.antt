use Rattle.std.proofs.Common.{◌-◌, sym, subst, ◌++◌, length, take, drop, List, ℕ, Result, Ok, Err, OnOk}
use Rattle.disk_store.specs.Disks.{Only}
use Rattle.site_journal.specs.Moments.{IsAtRest}
use Rattle.site_journal.proofs.Appending.{text_tail, first_images, first_write, then_sync, is_staged, room_behind, gate_now, gate_write, is_appended}
use Rattle.site_journal.proofs.appends.append.Goals as goal

pub returns-in_err-write_at-clause-any_moment : goal.returns-in_err-write_at-clause-any_moment
returns-in_err-write_at-clause-any_moment g c = λ h entries more b text fits some.
    let K = g.K.Disk in
    let tail : List ℕ = take (length c.args.text.now - 1) (drop 1 c.args.text.now) in
    first_write K entries more c.args.place tail b.each fits b.at (text_tail c.args.text.now more text some)
    c.args.disk.now c.write_at.new.self (g.met.K.Disk.only_now c.args.disk.now) b.rest (c.write_at.ensures.crash h) (c.write_at.ensures.time h)

pub returns-in_err-sync-clause-any_moment : goal.returns-in_err-sync-clause-any_moment
returns-in_err-sync-clause-any_moment g c = λ h entries more b text fits some.
    let K = g.K.Disk in
    let tail : List ℕ = take (length c.args.text.now - 1) (drop 1 c.args.text.now) in
    let whole = text_tail c.args.text.now more text some in
    let h1 = c.write_at.ensures.honest.0 h in
    let first = first_write K entries more c.args.place tail b.each fits b.at whole
    c.args.disk.now c.write_at.new.self (g.met.K.Disk.only_now c.args.disk.now) b.rest (c.write_at.ensures.crash h) (c.write_at.ensures.time h) in
    then_sync K entries more c.args.place tail b.each fits b.at whole
    c.args.disk.now c.write_at.new.self c.sync.new.self first
    (first_images K entries more c.args.place tail b.each fits b.at whole c.args.disk.now c.write_at.new.self
    b.rest (c.write_at.ensures.crash h))
    (c.sync.ensures.crash h1) (c.sync.ensures.time h1)

pub write_at-requires-2-clause-begin : goal.write_at-requires-2-clause-begin
write_at-requires-2-clause-begin g c = λ h2.
    let K = g.K.Disk in
    let h1 = c.sync.ensures.honest.1 h2 in
    let h = c.write_at.ensures.honest.1 h1 in
    let torn = c.requires.rest h in
    let b = torn.1 in
    let tail : List ℕ = take (length c.args.text.now - 1) (drop 1 c.args.text.now) in
    room_behind K torn.0 c.args.place tail b.each b.at c.args.disk.now c.write_at.new.self c.sync.new.self b.rest
    (c.in_ok-write_at.ensures.written h) (c.sync.ensures.reads h1)

pub returns-in_err-write_at-2-clause-any_moment : goal.returns-in_err-write_at-2-clause-any_moment
returns-in_err-write_at-2-clause-any_moment g c = λ h entries more b text fits some.
    let K = g.K.Disk in
    let tail : List ℕ = take (length c.args.text.now - 1) (drop 1 c.args.text.now) in
    let whole = text_tail c.args.text.now more text some in
    let h1 = c.write_at.ensures.honest.0 h in
    let h2 = c.sync.ensures.honest.0 h1 in
    let first = first_write K entries more c.args.place tail b.each fits b.at whole
    c.args.disk.now c.write_at.new.self (g.met.K.Disk.only_now c.args.disk.now) b.rest (c.write_at.ensures.crash h) (c.write_at.ensures.time h) in
    let synced = then_sync K entries more c.args.place tail b.each fits b.at whole
    c.args.disk.now c.write_at.new.self c.sync.new.self first
    (first_images K entries more c.args.place tail b.each fits b.at whole c.args.disk.now c.write_at.new.self
    b.rest (c.write_at.ensures.crash h))
    (c.sync.ensures.crash h1) (c.sync.ensures.time h1) in
    let stands = is_staged K entries c.args.place tail b.each b.at c.args.disk.now c.write_at.new.self c.sync.new.self b.rest
    (c.in_ok-write_at.ensures.written h) (c.sync.ensures.reads h1) in
    let only = subst (λ z. Only z (K.may_leave c.sync.new.self)) (sym (c.sync.ensures.reads h1)) (c.in_ok-sync.ensures.durable h1) in
    gate_write K entries more c.args.place tail b.each fits b.at whole
    c.args.disk.now c.sync.new.self c.write_at-2.new.self synced stands only (c.write_at-2.ensures.crash h2) (c.write_at-2.ensures.time h2)

-- a fact of a good answer by another
on_ok : {T E : Type 0} (r : Result T E) (P Q : Type 0) → OnOk r P → (P → Q) → OnOk r Q
on_ok (Ok x) P Q p f = f p
on_ok (Err e) P Q p f = p

pub returns-clause-appended : goal.returns-clause-appended
returns-clause-appended g c = λ h entries more b text fits some.
    let K = g.K.Disk in
    let tail : List ℕ = take (length c.args.text.now - 1) (drop 1 c.args.text.now) in
    let whole = text_tail c.args.text.now more text some in
    let h1 = c.write_at.ensures.honest.0 h in
    let h2 = c.sync.ensures.honest.0 h1 in
    let h3 = c.write_at-2.ensures.honest.0 h2 in
    let stands = is_staged K entries c.args.place tail b.each b.at c.args.disk.now c.write_at.new.self c.sync.new.self b.rest
    (c.in_ok-write_at.ensures.written h) (c.sync.ensures.reads h1) in
    let same = c.sync-2.ensures.reads h3 in
    let is = is_appended K entries more c.args.place tail b.each fits b.at whole c.sync.new.self
    c.write_at-2.new.self c.sync-2.new.self stands (c.in_ok-write_at-2.ensures.written h2) same in
    on_ok c.sync-2.result (Only (K.reads c.write_at-2.new.self) (K.may_leave c.sync-2.new.self))
    (IsAtRest K c.sync-2.new.self (entries ++ more)) (c.sync-2.ensures.durable h3)
    (λ only. record { text = is; durable = subst (λ z. Only z (K.may_leave c.sync-2.new.self)) (sym same) only })

pub returns-clause-any_moment : goal.returns-clause-any_moment
returns-clause-any_moment g c = λ h entries more b text fits some.
    let K = g.K.Disk in
    let tail : List ℕ = take (length c.args.text.now - 1) (drop 1 c.args.text.now) in
    let whole = text_tail c.args.text.now more text some in
    let h1 = c.write_at.ensures.honest.0 h in
    let h2 = c.sync.ensures.honest.0 h1 in
    let h3 = c.write_at-2.ensures.honest.0 h2 in
    let first = first_write K entries more c.args.place tail b.each fits b.at whole
    c.args.disk.now c.write_at.new.self (g.met.K.Disk.only_now c.args.disk.now) b.rest (c.write_at.ensures.crash h) (c.write_at.ensures.time h) in
    let synced = then_sync K entries more c.args.place tail b.each fits b.at whole
    c.args.disk.now c.write_at.new.self c.sync.new.self first
    (first_images K entries more c.args.place tail b.each fits b.at whole c.args.disk.now c.write_at.new.self
    b.rest (c.write_at.ensures.crash h))
    (c.sync.ensures.crash h1) (c.sync.ensures.time h1) in
    let stands = is_staged K entries c.args.place tail b.each b.at c.args.disk.now c.write_at.new.self c.sync.new.self b.rest
    (c.in_ok-write_at.ensures.written h) (c.sync.ensures.reads h1) in
    let only = subst (λ z. Only z (K.may_leave c.sync.new.self)) (sym (c.sync.ensures.reads h1)) (c.in_ok-sync.ensures.durable h1) in
    let opened = gate_write K entries more c.args.place tail b.each fits b.at whole
    c.args.disk.now c.sync.new.self c.write_at-2.new.self synced stands only (c.write_at-2.ensures.crash h2) (c.write_at-2.ensures.time h2) in
    then_sync K entries more c.args.place tail b.each fits b.at whole
    c.args.disk.now c.write_at-2.new.self c.sync-2.new.self opened
    (gate_now K entries more c.args.place tail b.each fits b.at whole c.sync.new.self c.write_at-2.new.self stands
    only (c.write_at-2.ensures.crash h2))
    (c.sync-2.ensures.crash h3) (c.sync-2.ensures.time h3)
