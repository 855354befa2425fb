use Rattle.begin_rule.proofs.admitted.Goals as goal

pub returns-in-None-clause-named : goal.returns-in-None-clause-named
returns-in-None-clause-named c = tt
