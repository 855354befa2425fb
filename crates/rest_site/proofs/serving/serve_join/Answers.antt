use Rattle.std.proofs.Common.{◌∙◌, ◌++◌, Option, sym, ap}
use Rattle.std.specs.Prelude.{option_to_list}
use Rattle.plain_site.specs.Rest.{Lasting}
use Rattle.plain_site.specs.RestSpellings.{all_spelling}
use Rattle.session_core.specs.Machine.{SiteStands}
use Rattle.join_rules.specs.Laws.{behind_join}
use Rattle.rest_site.proofs.Seen.{join-follows, stands-after}
use Rattle.rest_site.proofs.serving.serve_join.Goals as goal

pub put_lasting-requires-clause-acted : goal.put_lasting-requires-clause-acted
put_lasting-requires-clause-acted c =
    let before = c.requires.stands in
    let both : SiteStands c.args.core.now before.site = (before.stands, before.sound) in
    let laws = c.joins_are_records.ensures in
    record {
      before = before.site;
      behind = behind_join before.site c.args.request.now;
      is_noted = c.note-noted.ensures before.site both;
      stands = c.in-Ok.ensures.step before.site both;
      follows = (join-follows laws.seen laws.adds laws.fits before.site c.args.request.now before.sound).follows;
    }

pub returns-clause-lasts : goal.returns-clause-lasts
returns-clause-lasts c = λ s both.
    let laws = c.joins_are_records.ensures in
    let by = join-follows laws.seen laws.adds laws.fits s c.args.request.now both.1 in
    c.put_lasting.ensures.items s (behind_join s c.args.request.now) (c.note-noted.ensures s both) (c.in-Ok.ensures.step s both) by.follows
    ∙ ap (λ (o : Option Lasting). c.args.log.now.items ++ all_spelling (option_to_list o)) (sym by.seen)

pub returns-clause-stands : goal.returns-clause-stands
returns-clause-stands c =
    stands-after c.args.core.now c.join.new.core (λ s. behind_join s c.args.request.now) c.join.result c.requires.stands c.join.ensures.step c.join.ensures.same
