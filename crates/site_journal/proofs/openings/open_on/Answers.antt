use Rattle.std.proofs.Common.{inl, sym, subst}
use Rattle.site_journal.specs.Texts.{HasEntries}
use Rattle.site_journal.proofs.Times.{read_call}
use Rattle.site_journal.proofs.openings.open_on.Goals as goal

pub returns-in-Ok-recover-clause-images : goal.returns-in-Ok-recover-clause-images
returns-in-Ok-recover-clause-images g c = λ h entries has.
    let K = g.K.Disk in
    let read = read_call K c.args.disk c.sync.new.self (g.met.K.Disk.counts_now c.args.disk)
    (c.sync.ensures.reads h) (c.sync.ensures.crash h) (c.sync.ensures.time h) in
    (c.sync.new.self, (read, c.recover.ensures.any_moment (c.sync.ensures.honest.0 h) entries (subst (HasEntries entries) (sym (c.sync.ensures.reads h)) has)))

pub returns-in-Err-DiskFailed-clause-images : goal.returns-in-Err-DiskFailed-clause-images
returns-in-Err-DiskFailed-clause-images g c = λ h entries has.
    let K = g.K.Disk in
    let read = read_call K c.args.disk c.sync.new.self (g.met.K.Disk.counts_now c.args.disk)
    (c.sync.ensures.reads h) (c.sync.ensures.crash h) (c.sync.ensures.time h) in
    inl (
      c.sync.new.self,
      (
        read,
        c.recover.ensures.any_moment (c.sync.ensures.honest.0 h) entries
            (subst (HasEntries entries) (sym (c.sync.ensures.reads h)) has),
      ),
    )

pub returns-clause-images : goal.returns-clause-images
returns-clause-images g c = λ h entries has.
    let K = g.K.Disk in
    let read = read_call K c.args.disk c.sync.new.self (g.met.K.Disk.counts_now c.args.disk)
    (c.sync.ensures.reads h) (c.sync.ensures.crash h) (c.sync.ensures.time h) in
    inl (
      c.sync.new.self,
      (
        read,
        c.recover.ensures.any_moment (c.sync.ensures.honest.0 h) entries
            (subst (HasEntries entries) (sym (c.sync.ensures.reads h)) has),
      ),
    )
