use Rattle.tardisd_main.proofs.Checking.{not_found, was_checked}
use Rattle.tardisd_main.proofs.checks.check_file.Goals as goal

pub returns-in-Ok : goal.returns-in-Ok
returns-in-Ok g c =
    was_checked g.S.Store g.K.Disk c.args.path.now c.args.store.now c.find_file.new.self c.put_back.new.self c.in-Ok.disk c.check_disk-end.result.1
    c.check_disk-end.result.0 c.in-Ok.ensures.told c.put_back.ensures.told (λ h. c.in-Ok.ensures.honest h)
    (λ h. c.put_back.ensures.still (c.find_file.ensures.still h)) c.in-Ok.ensures.cause.later c.put_back.ensures.faults c.check_disk-end.ensures

pub returns-in-Err : goal.returns-in-Err
returns-in-Err g c =
    not_found g.S.Store g.K.Disk c.args.path.now c.args.store.now c.find_file.new.self c.unopened.result _ c.unopened.ensures c.in-Err.ensures.cause.failed
    c.in-Err.ensures.told c.in-Err.ensures.locked c.find_file.ensures.still
