use Rattle.site_log.proofs.logged.LoggedSettling.owes.Goals as goal

pub returns : goal.returns
returns g c = λ is kept s. c.may_owe.ensures is kept s.0 s.1
