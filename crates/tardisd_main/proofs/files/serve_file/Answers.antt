use Rattle.daemon_words.specs.Daemons.{daemon_of}
use Rattle.tardisd_main.proofs.Stores.{no_memory}
use Rattle.tardisd_main.proofs.files.serve_file.Goals as goal

pub returns-in-Err : goal.returns-in-Err
returns-in-Err g c =
    no_memory g.D.Doors.opens g.D.Ports.Ports.seen g.S.Store g.K.Disk c.args.life (daemon_of c.args.plan.now) c.args.path.now c.args.doors.now c.args.store.now
