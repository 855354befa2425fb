use Rattle.std.proofs.Common.{◌≡◌, ◌+◌, ap, ◌∙◌, sym, subst, length}
use Rattle.tardis_base.specs.declared.requests.Request.TheVariants.{Deliver}
use Rattle.tardis_base.specs.declared.replies.Refusal.TheVariants.{NoSuchItem}
use Rattle.tardis_base.specs.declared.replies.Reply.TheVariants.{Refused}
use Rattle.wire_talk.specs.RequestReadings.{request_of}
use Rattle.wire_talk.specs.Spellings.{reply_spelling}
use Rattle.plain_world.specs.Worlds.{item_at}
use Rattle.world_core.specs.Kept.{item_of}
use Rattle.world_core.specs.Held.{WorldStands}
use Rattle.world_core.specs.Gives.{WorldGives}
use Rattle.world_core.proofs.Standing.{is_there}
use Rattle.world_core.proofs.Replying.{carry_is, carry_missing}
use Rattle.world_core.proofs.worlds.carry_at.Goals as goal

pub returns-in-None-clause-answer : goal.returns-in-None-clause-answer
returns-in-None-clause-answer g c = λ world stands.
    let s = is_there g.A.AnySite.stands c.args.sites.now world.sites c.args.place stands.sites c.requires.place in
    let none = ap (λ b. item_at b c.args.batch c.args.item) (sym stands.bag) ∙ sym c.in-None.ensures.item in
    subst (λ a. WorldStands g.A.AnySite.stands (record { sites = c.args.sites.now; bag = c.args.bag.now }) a.0 × (c.refuse.new.out ≡ reply_spelling a.1))
    (sym (carry_missing world c.args.place c.args.batch c.args.item s.site s.there none))
    (stands, c.refuse.ensures ∙ ap (λ n. reply_spelling (Refused (NoSuchItem n))) (c.len-batches.ensures ∙ ap length stands.bag))

pub returns-clause-answer : goal.returns-clause-answer
returns-clause-answer g c = λ world stands.
    let x = item_of c.in-Some.kept in
    let asked = ap request_of (c.bytes.ensures.same ∙ c.write_deliver.ensures)
    ∙ c.talk_has_one_spelling.ensures.request.read_back (Deliver x) c.in-Some.ensures.valid in
    let there = ap (λ b. item_at b c.args.batch c.args.item) (sym stands.bag) ∙ sym {b = item_at c.args.bag.now c.args.batch c.args.item} c.in-Some.ensures.item in
    subst (λ a. WorldGives (WorldStands g.A.AnySite.stands (record { sites = c.act_at.new.sites; bag = c.act_at.new.bag })) a world c.act_at.result c.act_at.new.out)
    (carry_is world (c.args.place + 1) c.args.batch c.args.item c.bytes.result.now x asked there) (c.act_at.ensures.answer world stands)
