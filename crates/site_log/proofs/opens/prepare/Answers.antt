use Rattle.std.proofs.Common.{List, ℕ}
use Rattle.site_log.specs.Opens.{MayBecome, IsRefused}
use Rattle.site_log.specs.Readies.{IsReady}
use Rattle.site_log.proofs.Leaving.{read_leaves, if_ok, if_err}
use Rattle.site_log.proofs.Readying.{ready_later, leaves_later, refused_later, memory_refused, memory_end, disk_cause}
use Rattle.site_log.proofs.opens.prepare.Goals as goal

pub returns-in-Ok-clause-ready : goal.returns-in-Ok-clause-ready
returns-in-Ok-clause-ready g c =
    let M = g.M.Resting in
    let K = g.K.Disk in
    let old = c.args.disk.now in
    let mid = c.load.new.disk in
    let now = c.prepare_loaded.new.disk in
    let wanted = c.args.wanted.now in
    let before = c.args.machine.now in
    let after = c.prepare_loaded.new.machine in
    if_ok c.prepare_loaded.result (λ r. (bodies : List (List ℕ)) × IsReady M K before after mid now wanted r bodies)
    (λ r. (bodies : List (List ℕ)) × IsReady M K before after old now wanted r bodies) c.prepare_loaded.ensures.ready
    (λ r x. (x.0, ready_later M K before after old mid now wanted r x.0 c.load.ensures.honest.0 c.load.ensures.read x.1))

pub returns-in-Ok-clause-any_moment : goal.returns-in-Ok-clause-any_moment
returns-in-Ok-clause-any_moment g c = λ h.
    let K = g.K.Disk in
    let old = c.args.disk.now in
    leaves_later g.M.Resting K old c.load.new.disk c.prepare_loaded.new.disk c.args.wanted.now (g.met.K.Disk.only_now old) (c.load.ensures.read h)
    (c.prepare_loaded.ensures.any_moment (c.load.ensures.honest.0 h))

pub returns-in-Ok-clause-refused : goal.returns-in-Ok-clause-refused
returns-in-Ok-clause-refused g c =
    let M = g.M.Resting in
    let K = g.K.Disk in
    let old = c.args.disk.now in
    let mid = c.load.new.disk in
    let now = c.prepare_loaded.new.disk in
    let wanted = c.args.wanted.now in
    let before = c.args.machine.now in
    if_err c.prepare_loaded.result (λ end. IsRefused M K before mid wanted end now) (λ end. IsRefused M K before old wanted end now)
    c.prepare_loaded.ensures.refused
    (λ end r. refused_later M K before old mid now wanted end c.load.ensures.honest.0 c.load.ensures.read r)

pub returns-in-Err-clause-any_moment : goal.returns-in-Err-clause-any_moment
returns-in-Err-clause-any_moment g c = λ h.
    let K = g.K.Disk in
    let old = c.args.disk.now in
    read_leaves K old c.load.new.disk (MayBecome (K.reads old) c.args.wanted.now) (g.met.K.Disk.only_now old) (c.load.ensures.read h)

pub returns-in-Err-clause-refused : goal.returns-in-Err-clause-refused
returns-in-Err-clause-refused g c = λ h other.
    let K = g.K.Disk in
    let old = c.args.disk.now in
    let now = c.load.new.disk in
    memory_refused g.M.Resting K c.args.machine.now old now c.args.wanted.now c.in-Err.end
    (memory_end (K.faults old) (K.faults now) c.in-Err.end c.in-Err.ensures.end other) c.load.ensures.read h other

pub returns-in-Err-clause-cause : goal.returns-in-Err-clause-cause
returns-in-Err-clause-cause g c =
    let K = g.K.Disk in
    disk_cause (K.faults c.args.disk.now) (K.faults c.load.new.disk) c.in-Err.end c.in-Err.ensures.end
