use Rattle.std.proofs.Common.{◌≡◌, ◌∙◌}
use Rattle.site_log.proofs.Leaving.{read_then, read_call, if_ok}
use Rattle.site_log.proofs.loads.read_all.Goals as goal

pub returns-in-Ok-clause-bytes : goal.returns-in-Ok-clause-bytes
returns-in-Ok-clause-bytes g c = λ h.
    let K = g.K.Disk in
    if_ok c.read_bytes.result (λ bytes. bytes.items ≡ K.reads c.len.new.self) (λ bytes. bytes.items ≡ K.reads c.args.disk.now)
    (c.read_bytes.ensures.bytes (c.len.ensures.honest.0 h)) (λ bytes is. is ∙ c.len.ensures.reads h)

pub returns-in-Ok-clause-read : goal.returns-in-Ok-clause-read
returns-in-Ok-clause-read g c = λ h.
    let K = g.K.Disk in
    let old = c.args.disk.now in
    let mid = c.len.new.self in
    read_then K old mid c.read_bytes.new.disk
    (read_call K old mid (g.met.K.Disk.counts_now old) (c.len.ensures.reads h) (c.len.ensures.crash h) (c.len.ensures.time h))
    (c.read_bytes.ensures.read (c.len.ensures.honest.0 h))

pub returns-in-Err-clause-read : goal.returns-in-Err-clause-read
returns-in-Err-clause-read g c = λ h.
    read_call g.K.Disk c.args.disk.now c.len.new.self (g.met.K.Disk.counts_now c.args.disk.now) (c.len.ensures.reads h) (c.len.ensures.crash h)
    (c.len.ensures.time h)
