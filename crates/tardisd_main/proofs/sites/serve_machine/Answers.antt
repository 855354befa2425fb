use Rattle.tardisd_main.proofs.Runs.{always_settled}
use Rattle.tardisd_main.proofs.sites.serve_machine.Goals as goal

pub returns-clause-settled : goal.returns-clause-settled
returns-clause-settled g c =
    always_settled c.serve_alive.result (g.M.Settling.faults c.serve_alive.new.machine) (c.requires.faultless c.serve_alive.new.machine) c.serve_alive.ensures.unsettled
