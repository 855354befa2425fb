use Rattle.std.proofs.Common.{◌∙◌, ◌++◌, Option, sym, ap}
use Rattle.std.specs.Prelude.{option_to_list, ◌^◌}
use Rattle.std.proofs.lemmas.Bool.{lt-ltb}
use Rattle.tardis_base.specs.Plain.{Event}
use Rattle.plain_site.specs.Step.{site_machine}
use Rattle.plain_site.specs.Rest.{Lasting}
use Rattle.plain_site.specs.RestSpellings.{all_spelling}
use Rattle.session_core.specs.Machine.{SiteStands}
use Rattle.rest_site.proofs.Seen.{event-follows, stands-behind}
use Rattle.rest_site.proofs.serving.serve.Goals as goal

pub put_lasting-requires-clause-acted : goal.put_lasting-requires-clause-acted
put_lasting-requires-clause-acted c =
    let event : Event = (c.args.actor, c.args.request.now) in
    let before = c.requires.stands in
    let both : SiteStands c.args.core.now before.site = (before.stands, before.sound) in
    let small = lt-ltb c.args.actor (2 ^ 16) c.ranges.actor.fits in
    record {
      before = before.site;
      behind = site_machine.step before.site event;
      is_noted = c.note-before.ensures before.site both;
      stands = c.in-Ok.ensures.step before.site both;
      follows = (event-follows c.talk_has_one_spelling.ensures.request before.site event small before.sound).follows;
    }

pub returns-clause-lasts : goal.returns-clause-lasts
returns-clause-lasts c = λ s both.
    let event : Event = (c.args.actor, c.args.request.now) in
    let small = lt-ltb c.args.actor (2 ^ 16) c.ranges.actor.fits in
    let by = event-follows c.talk_has_one_spelling.ensures.request s event small both.1 in
    c.put_lasting.ensures.items s (site_machine.step s event) (c.note-before.ensures s both) (c.in-Ok.ensures.step s both) by.follows
    ∙ ap (λ (o : Option Lasting). c.args.log.now.items ++ all_spelling (option_to_list o)) (sym by.seen)

pub returns-clause-stands : goal.returns-clause-stands
returns-clause-stands c =
    let event : Event = (c.args.actor, c.args.request.now) in
    stands-behind c.args.core.now c.act.new.self event c.act.result c.requires.stands c.act.ensures.step c.act.ensures.same
