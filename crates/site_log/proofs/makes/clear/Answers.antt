use Rattle.std.proofs.Common.{◌≡◌, length, max, sym, ap, ◌∙◌, subst}
use Rattle.disk_store.specs.Disks.{Only}
use Rattle.log_text.specs.Texts.{IsZeros}
use Rattle.site_log.specs.News.{first_room, IsNew}
use Rattle.site_log.proofs.Appending.{on_ok}
use Rattle.site_log.proofs.Leaving.{write_leaves, sync_leaves}
use Rattle.site_log.proofs.Making.{still_new, cleared, cleared_size}
use Rattle.site_log.proofs.makes.clear.Goals as goal

pub returns-in_err-write_zeros-clause-any_moment : goal.returns-in_err-write_zeros-clause-any_moment
returns-in_err-write_zeros-clause-any_moment g c = λ h new durable.
    let K = g.K.Disk in
    let old = c.args.disk.now in
    let w = c.write_zeros.ensures.written h in
    write_leaves K old IsNew 0 w.0 (g.met.K.Disk.only_now old) durable new
    (λ image b. still_new (K.reads old) w.0 image b w.1.0 w.1.1 c.log_laws.ensures.mend new) c.write_zeros.new.disk w.1.3 (c.write_zeros.ensures.time h)

pub returns-clause-cleared : goal.returns-clause-cleared
returns-clause-cleared g c = λ h new.
    let K = g.K.Disk in
    let old = c.args.disk.now in
    let mid = c.write_zeros.new.disk in
    let now = c.sync.new.self in
    let w = c.in_ok-write_zeros.ensures.written h in
    let h1 = c.write_zeros.ensures.honest.0 h in
    let same = c.sync.ensures.reads h1 in
    on_ok c.sync.result (Only (K.reads mid) (K.may_leave now)) (IsZeros (K.reads now) × Only (K.reads now) (K.may_leave now)) (c.sync.ensures.durable h1)
    (λ only. (
      subst IsZeros (sym (same ∙ w.1.2)) (cleared (K.reads old) w.0 w.1.0 w.1.1 new),
      subst (λ z. Only z (K.may_leave now)) (sym same) only,
    ))

pub returns-clause-room : goal.returns-clause-room
returns-clause-room g c = λ h.
    let K = g.K.Disk in
    let old = c.args.disk.now in
    let mid = c.write_zeros.new.disk in
    let now = c.sync.new.self in
    let w = c.in_ok-write_zeros.ensures.written h in
    let h1 = c.write_zeros.ensures.honest.0 h in
    on_ok c.sync.result (Only (K.reads mid) (K.may_leave now)) (length (K.reads now) ≡ max (length (K.reads old)) first_room) (c.sync.ensures.durable h1)
    (λ only. ap length (c.sync.ensures.reads h1 ∙ w.1.2) ∙ cleared_size (K.reads old) w.0 w.1.1)

pub returns-clause-any_moment : goal.returns-clause-any_moment
returns-clause-any_moment g c = λ h new durable.
    let K = g.K.Disk in
    let old = c.args.disk.now in
    let w = c.write_zeros.ensures.written h in
    let h1 = c.write_zeros.ensures.honest.0 h in
    sync_leaves K old IsNew 0 w.0 (g.met.K.Disk.only_now old) durable new
    (λ image b. still_new (K.reads old) w.0 image b w.1.0 w.1.1 c.log_laws.ensures.mend new) c.write_zeros.new.disk c.sync.new.self w.1.3
    (c.write_zeros.ensures.time h) (c.sync.ensures.crash h1) (c.sync.ensures.time h1)
