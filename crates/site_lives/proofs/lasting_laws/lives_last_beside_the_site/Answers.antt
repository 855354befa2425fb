use Rattle.site_lives.proofs.Lasting.{all-is-replayed, fronts-are-of-fronts}
use Rattle.site_lives.proofs.Spelled.{one-way-back}
use Rattle.site_lives.proofs.Fitting.{all-fits}
use Rattle.site_lives.proofs.lasting_laws.lives_last_beside_the_site.Goals as goal

pub returns-clause-replayed : goal.returns-clause-replayed
returns-clause-replayed c = all-is-replayed

pub returns-clause-fronts : goal.returns-clause-fronts
returns-clause-fronts c = fronts-are-of-fronts

pub returns-clause-fits : goal.returns-clause-fits
returns-clause-fits c = all-fits c.talk_has_one_spelling.ensures.request c.introductions_have_one_spelling.ensures.one

pub returns-clause-one : goal.returns-clause-one
returns-clause-one c = one-way-back
