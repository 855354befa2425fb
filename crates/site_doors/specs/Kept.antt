-- The same doors before a site that keeps what lasts of its requests.
use Rattle.rest_machine.specs.declared.resting.Resting.{Ghosts as AResting}
use Rattle.rest_machine.specs.declared.settling.Settling.{Ghosts as ASettling}
use Rattle.hub.specs.Settlings.{PlainSettling, behind_doors}
use Rattle.hub.specs.Doors.{DoorRules}
use Rattle.site_lives.specs.Acquainted.{Acquainted}
use Rattle.rest_site.specs.Ruled.{ruled_machine, ruled_bytes}
use Rattle.rest_site.specs.Stands.{HeldSite, AcquaintedStands, opened_alone}
use Rattle.site_lives.specs.Things.{all_at_rest}
use Rattle.site_lives.specs.Bytes.{TakesBack}
use Rattle.site_log.specs.Kept.{Kept}
use Rattle.site_doors.specs.Rules.{site_doors}

-- the site as a machine that starts again from what lasted
abbrev pub resting : AResting HeldSite
resting = record {
  Plain = Acquainted;
  plain = ruled_machine;
  stands = AcquaintedStands;
  opening = opened_alone;
  lasting = ruled_bytes;
  takes_back = TakesBack;
  at_rest = all_at_rest;
}

-- the same doors, before the site that is kept
abbrev pub kept_doors : DoorRules (Kept Acquainted)
kept_doors = record {
  lets_in = λ door kept event. site_doors.lets_in door kept.state event;
  answer = λ door kept event. site_doors.answer door kept.state event;
  is_sure = site_doors.is_sure;
}

-- a machine as a hub serves it
abbrev pub served : {M : Type 0} (m : ASettling M) → PlainSettling m.Plain
served m = behind_doors m.plain m.through m.is_settled m.settled
