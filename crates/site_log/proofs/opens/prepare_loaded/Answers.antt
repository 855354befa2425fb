use Rattle.std.proofs.Common.{◌≡◌, [], List, ℕ, true, length, refl, sym, ap, ◌∙◌, subst, true≢false}
use Rattle.tardis_io.specs.Faults.{Rose}
use Rattle.site_log.specs.declared.ends.OpenEnd.TheVariants.{NoMemory, Disk}
use Rattle.site_log.specs.News.{IsNew}
use Rattle.site_log.specs.Reads.{IsWanted}
use Rattle.site_log.specs.Opens.{MayBecome, IsRefused}
use Rattle.site_log.specs.Readies.{DiskEnd, IsBegun, IsReady}
use Rattle.site_log.proofs.Leaving.{read_leaves, read_none, if_ok, if_err, if_err_both}
use Rattle.site_log.proofs.Readying.{begun_ready, begun_wanted, begun_leaves, failed_refused, memory_refused, disk_cause}
use Rattle.site_log.proofs.opens.prepare_loaded.Goals as goal

pub begin-requires : goal.begin-requires
begin-requires g c = record {
  front = c.requires.front;
  size = λ h. ap length (c.requires.loaded h).same;
  new = λ h. subst IsNew (c.requires.loaded h).same (c.in-Ok-true.ensures.0 c.in-Ok-true.field-0-test);
  durable = λ h. (c.requires.loaded h).durable;
}

pub recover-requires : goal.recover-requires
recover-requires g c = record {
  loaded = c.requires.loaded;
  few = c.requires.few;
  other = λ new. true≢false (sym (c.in-Ok-false.ensures.1 new) ∙ c.in-Ok-false.field-0-test);
}

pub returns-in-Ok-true-clause-ready : goal.returns-in-Ok-true-clause-ready
returns-in-Ok-true-clause-ready g c =
    let M = g.M.Resting in
    let K = g.K.Disk in
    let old = c.args.disk.now in
    let now = c.begin.new.disk in
    let wanted = c.args.wanted.now in
    let before = c.args.machine.now in
    if_ok c.begin.result (λ r. IsBegun K old now wanted r) (λ r. (bodies : List (List ℕ)) × IsReady M K before before old now wanted r bodies)
    c.begin.ensures.begun
    (λ r b. (
      [],
      begun_ready M K before old now wanted r
          (λ h. subst IsNew (c.requires.loaded h).same (c.in-Ok-true.ensures.0 c.in-Ok-true.field-0-test)) b,
    ))

pub returns-in-Ok-true-clause-wanted : goal.returns-in-Ok-true-clause-wanted
returns-in-Ok-true-clause-wanted g c =
    let K = g.K.Disk in
    let old = c.args.disk.now in
    let now = c.begin.new.disk in
    let wanted = c.args.wanted.now in
    if_ok c.begin.result (λ r. IsBegun K old now wanted r)
    (λ r. IsWanted r.found.front wanted × (r.found.is_new ≡ true → r.found.front ≡ wanted)) c.begin.ensures.begun
    (λ r b. begun_wanted K old now wanted r b)

pub returns-in-Ok-true-clause-any_moment : goal.returns-in-Ok-true-clause-any_moment
returns-in-Ok-true-clause-any_moment g c = λ h.
    begun_leaves g.M.Resting g.K.Disk c.args.disk.now c.begin.new.disk c.args.wanted.now
    (subst IsNew (c.requires.loaded h).same (c.in-Ok-true.ensures.0 c.in-Ok-true.field-0-test)) (c.begin.ensures.any_moment h)

pub returns-in-Ok-true-clause-refused : goal.returns-in-Ok-true-clause-refused
returns-in-Ok-true-clause-refused g c =
    let M = g.M.Resting in
    let K = g.K.Disk in
    let old = c.args.disk.now in
    let now = c.begin.new.disk in
    let wanted = c.args.wanted.now in
    let before = c.args.machine.now in
    if_err_both c.begin.result (λ end. DiskEnd (K.faults old) (K.faults now) end) (λ end. end ≡ NoMemory → now ≡ old)
    (λ end. IsRefused M K before old wanted end now) c.begin.ensures.end c.begin.ensures.still
    (λ end e still. failed_refused M K before old now wanted (K.faults old) (K.faults now) end e still)

pub returns-in-Ok-true-clause-cause : goal.returns-in-Ok-true-clause-cause
returns-in-Ok-true-clause-cause g c =
    let K = g.K.Disk in
    let old = c.args.disk.now in
    let now = c.begin.new.disk in
    if_err c.begin.result (λ end. DiskEnd (K.faults old) (K.faults now) end) (λ end. end ≡ Disk → Rose (K.faults old) (K.faults now))
    c.begin.ensures.end (λ end e. disk_cause (K.faults old) (K.faults now) end e)

pub returns-in-Err-clause-any_moment : goal.returns-in-Err-clause-any_moment
returns-in-Err-clause-any_moment g c = λ h.
    let K = g.K.Disk in
    let old = c.args.disk.now in
    read_leaves K old old (MayBecome (K.reads old) c.args.wanted.now) (g.met.K.Disk.only_now old) (read_none K old)

pub returns-in-Err-clause-refused : goal.returns-in-Err-clause-refused
returns-in-Err-clause-refused g c =
    let K = g.K.Disk in
    let old = c.args.disk.now in
    memory_refused g.M.Resting K c.args.machine.now old old c.args.wanted.now NoMemory refl (λ h. read_none K old)
