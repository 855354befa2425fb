use Rattle.plain_site.specs.Site.{opening}
use Rattle.session_core.proofs.Opening.{opens-sound}
use Rattle.session_core.proofs.SiteCore.new.Goals as goal

pub invariant_of-result : goal.invariant_of-result
invariant_of-result c =
    record {
      site = opening c.args.limits c.args.own;
      stands = c.in_ok-parts.ensures.stands;
      sound = opens-sound c.args.limits c.args.own c.requires.limits c.requires.first c.requires.last;
    }

pub returns-clause-sound : goal.returns-clause-sound
returns-clause-sound c = opens-sound c.args.limits c.args.own c.requires.limits c.requires.first c.requires.last
