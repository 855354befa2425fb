use Rattle.daemon_words.specs.Daemons.{daemon_of}
use Rattle.tardisd_main.proofs.Stores.{no_file, with_file}
use Rattle.tardisd_main.proofs.files.serve_stored.Goals as goal

pub returns-in-Ok : goal.returns-in-Ok
returns-in-Ok g c =
    with_file g.D.Doors.opens g.D.Ports.Ports.seen g.S.Store g.K.Disk c.args.life (daemon_of c.args.plan.now) c.args.path.now c.args.doors.now c.serve_from-end.new.doors
    c.args.store.now c.open_file.new.self c.put_back.new.self c.in-Ok.disk c.serve_from-end.result.1 c.serve_from-end.result.0 c.in-Ok.ensures.told c.put_back.ensures.told
    (λ h. c.in-Ok.ensures.honest h) (λ h. c.put_back.ensures.still (c.open_file.ensures.still h)) c.in-Ok.ensures.cause.later c.put_back.ensures.faults
    c.serve_from-end.ensures

pub returns-in-Err : goal.returns-in-Err
returns-in-Err g c =
    no_file g.D.Doors.opens g.D.Ports.Ports.seen g.S.Store g.K.Disk c.args.life (daemon_of c.args.plan.now) c.args.path.now c.args.doors.now
    c.args.store.now c.open_file.new.self c.unopened.result _ c.unopened.ensures c.in-Err.ensures.cause.failed c.in-Err.ensures.told c.in-Err.ensures.locked
    c.open_file.ensures.still
