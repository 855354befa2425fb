use Rattle.site_lives.proofs.Lasting.{nothing-shorter-lasts, site-is-replayed, site-fits, site-has-its-things}
use Rattle.site_lives.proofs.lasting_laws.what_lasts_of_the_site_is_its_own.Goals as goal

pub returns-clause-nothing_shorter : goal.returns-clause-nothing_shorter
returns-clause-nothing_shorter c = nothing-shorter-lasts

pub returns-clause-replayed : goal.returns-clause-replayed
returns-clause-replayed c = site-is-replayed

pub returns-clause-fits : goal.returns-clause-fits
returns-clause-fits c = site-fits

pub returns-clause-things : goal.returns-clause-things
returns-clause-things c = site-has-its-things
