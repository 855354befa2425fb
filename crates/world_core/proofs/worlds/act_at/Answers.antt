use Rattle.std.proofs.Common.{get_or, refl}
use Rattle.std.proofs.lemmas.Option.{slice_get-get_or}
use Rattle.world_core.proofs.Standing.{stands_at}
use Rattle.world_core.proofs.Replying.{acted, surely_gathered, unchanged}
use Rattle.world_core.proofs.worlds.act_at.Goals as goal

pub returns-in-Ok-clause-answer : goal.returns-in-Ok-clause-answer
returns-in-Ok-clause-answer g c = λ world stands.
    let cores = c.args.sites.now in
    let s = stands_at g.A.AnySite.stands cores world.sites c.args.place (get_or cores c.args.place c.index-sites-place.result) stands.sites
    (slice_get-get_or cores c.args.place c.index-sites-place.result c.requires) in
    acted g.A.AnySite.stands cores c.args.bag.now c.gather.new.bag world c.args.place c.args.actor c.args.request.now c.act.new.self s.site c.gather.result c.act.new.out
    c.gather.new.out stands s.there (g.met.A.AnySite.sound (get_or cores c.args.place c.index-sites-place.result) s.site s.here)
    c.replies_fit_a_frame.ensures.bytes (c.in-Ok.ensures.step s.site s.here) (c.in-Ok.ensures.reply s.site s.here)
    (record { other = c.gather.ensures.other; batch = c.gather.ensures.batch })

pub returns-in-Ok-clause-sure : goal.returns-in-Ok-clause-sure
returns-in-Ok-clause-sure g c = λ world stands sure.
    let cores = c.args.sites.now in
    let s = stands_at g.A.AnySite.stands cores world.sites c.args.place (get_or cores c.args.place c.index-sites-place.result) stands.sites
    (slice_get-get_or cores c.args.place c.index-sites-place.result c.requires) in
    surely_gathered c.args.bag.now c.gather.new.bag c.args.actor c.args.request.now s.site c.gather.result c.act.new.out c.gather.new.out
    (c.in-Ok.ensures.reply s.site s.here)
    (record { other = c.gather.ensures.other; batch = c.gather.ensures.batch }) sure

pub returns-in-Err-clause-answer : goal.returns-in-Err-clause-answer
returns-in-Err-clause-answer g c = λ world stands.
    let cores = c.args.sites.now in
    let s = stands_at g.A.AnySite.stands cores world.sites c.args.place (get_or cores c.args.place c.index-sites-place.result) stands.sites
    (slice_get-get_or cores c.args.place c.index-sites-place.result c.requires) in (
      unchanged g.A.AnySite.stands cores c.args.bag.now world c.args.place c.act.new.self s.site stands s.there (c.in-Err.ensures.same s.site s.here) c.args.bag.now refl,
      c.in-Err.ensures.empty,
    )
