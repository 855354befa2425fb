use Rattle.site_lives.proofs.Trails.{each-has-its-own, site-has-its-trail}
use Rattle.site_lives.proofs.laws.meetings_leave_the_site.Goals as goal

pub returns-clause-own : goal.returns-clause-own
returns-clause-own c = each-has-its-own

pub returns-clause-trail : goal.returns-clause-trail
returns-clause-trail c = site-has-its-trail
