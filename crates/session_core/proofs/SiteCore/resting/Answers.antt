use Rattle.session_core.proofs.SiteCore.resting.Goals as goal

pub invariant_of-result : goal.invariant_of-result
invariant_of-result c =
    record {
      site = c.requires.0;
      stands = c.in_ok-parts.ensures.stands c.requires.0 c.requires.1;
      sound = c.requires.1.sound;
    }

pub returns-clause-stands : goal.returns-clause-stands
returns-clause-stands c = λ site t. (c.in_ok-parts.ensures.stands site t, t.sound)
