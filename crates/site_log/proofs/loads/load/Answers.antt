use Rattle.std.proofs.Common.{◌≡◌, sym, ◌∙◌}
use Rattle.site_log.specs.Readies.{IsLoaded}
use Rattle.site_log.proofs.Leaving.{read_then, read_call, if_ok}
use Rattle.site_log.proofs.loads.load.Goals as goal

pub returns-in-Ok-clause-loaded : goal.returns-in-Ok-clause-loaded
returns-in-Ok-clause-loaded g c = λ h.
    let K = g.K.Disk in
    let old = c.args.disk.now in
    let mid = c.sync.new.self in
    let now = c.read_all.new.disk in
    let h1 = c.sync.ensures.honest.0 h in
    let read = c.read_all.ensures.read h1 in
    if_ok c.read_all.result (λ bytes. bytes.items ≡ K.reads mid) (λ bytes. IsLoaded K now bytes.items) (c.read_all.ensures.bytes h1)
    (λ bytes is. record {
      same = is ∙ sym read.same;
      durable = λ image left. c.in-Ok.ensures.durable h image (read.crash image left) ∙ sym (read.same ∙ c.sync.ensures.reads h);
    })

pub returns-in-Ok-clause-read : goal.returns-in-Ok-clause-read
returns-in-Ok-clause-read g c = λ h.
    let K = g.K.Disk in
    let old = c.args.disk.now in
    let mid = c.sync.new.self in
    read_then K old mid c.read_all.new.disk
    (read_call K old mid (g.met.K.Disk.counts_now old) (c.sync.ensures.reads h) (c.sync.ensures.crash h) (c.sync.ensures.time h))
    (c.read_all.ensures.read (c.sync.ensures.honest.0 h))

pub returns-in-Err-clause-read : goal.returns-in-Err-clause-read
returns-in-Err-clause-read g c = λ h.
    read_call g.K.Disk c.args.disk.now c.sync.new.self (g.met.K.Disk.counts_now c.args.disk.now) (c.sync.ensures.reads h) (c.sync.ensures.crash h)
    (c.sync.ensures.time h)
