use Rattle.site_journal.specs.Texts.{HasEntries}
use Rattle.site_journal.proofs.Mending.{torn_of, read_torn, read_on, leaves_then}
use Rattle.site_journal.proofs.openings.recover.Goals as goal

pub returns-in-Ok-clause-at_rest : goal.returns-in-Ok-clause-at_rest
returns-in-Ok-clause-at_rest g c = λ h entries has.
    let K = g.K.Disk in
    let r = c.in_ok-found.ensures.replayed in
    let found = r.ends h in
    let torn = torn_of K c.args.disk.now entries r.entries has.0 found.0 c.in_ok-found.found.place c.in_ok-found.found.size
    (c.requires.durable h) found.1 has.1 r.place (r.size h) in
    let now = read_torn K entries c.in_ok-found.found.place c.in_ok-found.found.size c.args.disk.now torn c.replay.new.disk
    (c.replay.ensures.read h) in
    c.in-Ok.ensures.at_rest (c.replay.ensures.honest.0 h) entries now

pub returns-in-Ok-clause-any_moment : goal.returns-in-Ok-clause-any_moment
returns-in-Ok-clause-any_moment g c = λ h entries has.
    let K = g.K.Disk in
    let r = c.in_ok-found.ensures.replayed in
    let found = r.ends h in
    let torn = torn_of K c.args.disk.now entries r.entries has.0 found.0 c.in_ok-found.found.place c.in_ok-found.found.size
    (c.requires.durable h) found.1 has.1 r.place (r.size h) in
    let now = read_torn K entries c.in_ok-found.found.place c.in_ok-found.found.size c.args.disk.now torn c.replay.new.disk
    (c.replay.ensures.read h) in
    leaves_then K c.args.disk.now c.replay.new.disk c.mend.new.disk (HasEntries entries)
    (read_on K entries c.in_ok-found.found.place c.in_ok-found.found.size c.args.disk.now torn c.replay.new.disk
    (g.met.K.Disk.only_now c.args.disk.now) (c.replay.ensures.read h))
    (c.mend.ensures.any_moment (c.replay.ensures.honest.0 h) entries now)

pub returns-in-Err-clause-any_moment : goal.returns-in-Err-clause-any_moment
returns-in-Err-clause-any_moment g c = λ h entries has.
    let K = g.K.Disk in
    let r = c.in_ok-found.ensures.replayed in
    let found = r.ends h in
    let torn = torn_of K c.args.disk.now entries r.entries has.0 found.0 c.in_ok-found.found.place c.in_ok-found.found.size
    (c.requires.durable h) found.1 has.1 r.place (r.size h) in
    let now = read_torn K entries c.in_ok-found.found.place c.in_ok-found.found.size c.args.disk.now torn c.replay.new.disk
    (c.replay.ensures.read h) in
    leaves_then K c.args.disk.now c.replay.new.disk c.mend.new.disk (HasEntries entries)
    (read_on K entries c.in_ok-found.found.place c.in_ok-found.found.size c.args.disk.now torn c.replay.new.disk
    (g.met.K.Disk.only_now c.args.disk.now) (c.replay.ensures.read h))
    (c.mend.ensures.any_moment (c.replay.ensures.honest.0 h) entries now)
