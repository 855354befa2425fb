use Rattle.std.proofs.Common.{length, sym, ap, subst}
use Rattle.site_log.specs.Opens.{NotTaken}
use Rattle.site_log.specs.Readies.{IsReady}
use Rattle.site_log.proofs.Leaving.{read_none}
use Rattle.site_log.proofs.Readying.{place_within, has_log, log_ready, log_leaves, not_taken, failed_refused}
use Rattle.site_log.proofs.opens.recover.Goals as goal

pub mend-requires : goal.mend-requires
mend-requires g c =
    let p = c.in-Ok.ensures.taken in
    record {
      within = place_within g.M.Resting g.K.Disk c.args.machine.now c.read_log.new.machine c.args.disk.now c.args.disk.now c.args.wanted.now c.args.bytes.now
          c.in-Ok.found p.0 p.1 c.in-Ok.ensures.wanted;
      few = c.requires.few;
      size = λ h. ap length (c.requires.loaded h).same;
    }

pub returns-in-Ok-mend-clause-ready : goal.returns-in-Ok-mend-clause-ready
returns-in-Ok-mend-clause-ready g c =
    let M = g.M.Resting in
    let K = g.K.Disk in
    let before = c.args.machine.now in
    let after = c.read_log.new.machine in
    let old = c.args.disk.now in
    let now = c.mend.new.disk in
    let wanted = c.args.wanted.now in
    let bytes = c.args.bytes.now in
    let found = c.in-Ok.found in
    let p = c.in-Ok.ensures.taken in
    let is = c.in-Ok.ensures.wanted in (
      p.0,
      subst (λ r. IsReady M K before after old now wanted r p.0) (sym c.ready_of.ensures)
          (log_ready M K before after old now wanted bytes found p.0 p.1 is c.requires.loaded
          (λ h. c.in-Ok-mend.ensures.mended h found.front p.0 (has_log M K before after old now wanted bytes found p.0 p.1 is (c.requires.loaded h)))),
    )

pub returns-in-Ok-mend-clause-any_moment : goal.returns-in-Ok-mend-clause-any_moment
returns-in-Ok-mend-clause-any_moment g c = λ h.
    let M = g.M.Resting in
    let K = g.K.Disk in
    let before = c.args.machine.now in
    let after = c.read_log.new.machine in
    let old = c.args.disk.now in
    let now = c.mend.new.disk in
    let wanted = c.args.wanted.now in
    let bytes = c.args.bytes.now in
    let found = c.in-Ok.found in
    let p = c.in-Ok.ensures.taken in
    let is = c.in-Ok.ensures.wanted in
    let l = c.requires.loaded h in
    log_leaves M K before after old now wanted bytes found p.0 p.1 is l
    (c.mend.ensures.any_moment h found.front p.0 (has_log M K before after old now wanted bytes found p.0 p.1 is l))

pub returns-in-Err-mend-clause-any_moment : goal.returns-in-Err-mend-clause-any_moment
returns-in-Err-mend-clause-any_moment g c = λ h.
    let M = g.M.Resting in
    let K = g.K.Disk in
    let before = c.args.machine.now in
    let after = c.read_log.new.machine in
    let old = c.args.disk.now in
    let now = c.mend.new.disk in
    let wanted = c.args.wanted.now in
    let bytes = c.args.bytes.now in
    let found = c.in-Ok.found in
    let p = c.in-Ok.ensures.taken in
    let is = c.in-Ok.ensures.wanted in
    let l = c.requires.loaded h in
    log_leaves M K before after old now wanted bytes found p.0 p.1 is l
    (c.mend.ensures.any_moment h found.front p.0 (has_log M K before after old now wanted bytes found p.0 p.1 is l))

pub returns-in-Err-mend-clause-refused : goal.returns-in-Err-mend-clause-refused
returns-in-Err-mend-clause-refused g c =
    let K = g.K.Disk in
    let old = c.args.disk.now in
    let now = c.mend.new.disk in
    failed_refused g.M.Resting K c.args.machine.now old now c.args.wanted.now (K.faults old) (K.faults now) c.in-Err-mend.end c.in-Err-mend.ensures.end
    c.in-Err-mend.ensures.still

pub returns-in-Err-clause-refused : goal.returns-in-Err-clause-refused
returns-in-Err-clause-refused g c = λ h other.
    let M = g.M.Resting in
    let before = c.args.machine.now in
    let wanted = c.args.wanted.now in (
      read_none g.K.Disk c.args.disk.now,
      subst (λ z. NotTaken M before z wanted c.in-Err.end) (c.requires.loaded h).same
          (not_taken M before c.args.bytes.now wanted c.requires.other c.in-Err.end c.in-Err.ensures.refused),
    )
