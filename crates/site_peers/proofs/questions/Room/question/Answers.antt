use Rattle.site_peers.proofs.questions.Room.question.Goals as goal

pub returns-else-put_pull-clause-none : goal.returns-else-put_pull-clause-none
returns-else-put_pull-clause-none c = λ lines are. c.put_pull.ensures.none c.if-put_pull.false lines are
