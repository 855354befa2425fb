use Rattle.std.proofs.Common.{◌≡◌, ap, sym, subst, ◌∙◌, false}
use Rattle.std.specs.Option.{option_map_or}
use Rattle.wire_talk.specs.Spellings.{reply_spelling}
use Rattle.plain_world.specs.Bodies.{is_sure_body}
use Rattle.world_core.specs.Asked.{body_asked}
use Rattle.world_core.specs.Held.{WorldStands}
use Rattle.world_core.specs.Gives.{WorldGives}
use Rattle.world_core.proofs.Lists.{false_is_not_true}
use Rattle.world_core.proofs.Replying.{body_step, body_carry, body_none, body_sure}
use Rattle.world_core.proofs.worlds.World.answer.Goals as goal

pub returns-in-Some-Step-clause-answer : goal.returns-in-Some-Step-clause-answer
returns-in-Some-Step-clause-answer g c = λ world stands.
    subst (λ a. WorldGives (WorldStands g.A.AnySite.stands c.step.new.self) a world c.step.result c.step.new.out)
    (sym (body_step world c.args.body.now c.in-Some-Step.request.now c.in-Some-Step.site c.in-Some-Step.actor
    (c.in-Some-Step.ensures ∙ ap body_asked c.in-Some-Step.field-0-is))) (c.step.ensures.answer world stands)

pub returns-in-Some-Step-clause-sure : goal.returns-in-Some-Step-clause-sure
returns-in-Some-Step-clause-sure g c = λ world stands sure.
    c.step.ensures.sure world stands (sym (body_sure c.args.body.now c.in-Some-Step.request.now c.in-Some-Step.site c.in-Some-Step.actor
    (c.in-Some-Step.ensures ∙ ap body_asked c.in-Some-Step.field-0-is)) ∙ sure)

pub returns-in-Some-Carry-clause-answer : goal.returns-in-Some-Carry-clause-answer
returns-in-Some-Carry-clause-answer g c = λ world stands.
    subst (λ a. WorldGives (WorldStands g.A.AnySite.stands c.carry.new.self) a world c.carry.result c.carry.new.out)
    (sym (body_carry world c.args.body.now c.in-Some-Carry.to c.in-Some-Carry.batch c.in-Some-Carry.item
    (c.in-Some-Carry.ensures ∙ ap body_asked c.in-Some-Carry.field-0-is))) (c.carry.ensures world stands)

pub returns-in-Some-Carry-clause-sure : goal.returns-in-Some-Carry-clause-sure
returns-in-Some-Carry-clause-sure g c = λ world stands sure.
    absurd (false_is_not_true (sym (ap (λ o. option_map_or is_sure_body o false) (c.in-Some-Carry.ensures ∙ ap body_asked c.in-Some-Carry.field-0-is)) ∙ sure))

pub returns-in-None-clause-answer : goal.returns-in-None-clause-answer
returns-in-None-clause-answer g c = λ world stands.
    subst (λ a. WorldStands g.A.AnySite.stands c.args.self.now a.0 × (c.refuse.new.out ≡ reply_spelling a.1)) (sym (body_none world c.args.body.now c.in-None.ensures))
    (stands, c.refuse.ensures)
