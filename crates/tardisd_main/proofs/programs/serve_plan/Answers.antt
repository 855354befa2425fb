use Rattle.daemon_words.specs.Daemons.{daemon_of}
use Rattle.tardisd_main.proofs.Words.{neither, serves_as, keeps_as}
use Rattle.tardisd_main.proofs.programs.serve_plan.Goals as goal

pub returns-in-None-clause-neither : goal.returns-in-None-clause-neither
returns-in-None-clause-neither g c =
    neither c.open_and_serve.result (serves_as g.D.Doors.opens g.D.Ports.Ports.seen c.args.life c.args.doors.now c.open_and_serve.new.doors (daemon_of c.args.plan.now)
    c.open_and_serve.result c.open_and_serve.ensures)

pub returns-in-Some-clause-neither : goal.returns-in-Some-clause-neither
returns-in-Some-clause-neither g c =
    neither c.serve_file.result (keeps_as g.D.Doors.opens g.D.Ports.Ports.seen g.S.Store g.K.Disk c.args.life (daemon_of c.args.plan.now) c.in-Some.path.now
    c.args.doors.now c.serve_file.new.doors c.args.store.now c.serve_file.new.store c.serve_file.result c.serve_file.ensures)
