use Rattle.session_serve.proofs.askers.step_once.Goals as goal

pub returns-clause-ended : goal.returns-clause-ended
returns-clause-ended g c = c.step.ensures.ended
