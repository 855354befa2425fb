use Rattle.std.proofs.Common.{◌∙◌, refl, inl, inr, false}
use Rattle.std.proofs.lemmas.Bool.{false_from_ne_true}
use Rattle.std.specs.Option.{option_map_or}
use Rattle.tardis_base.specs.Plain.{no_memory}
use Rattle.plain_world.specs.Bodies.{body_of, is_sure_body}
use Rattle.plain_world.specs.Steps.{step_over_body}
use Rattle.world_core.specs.Held.{WorldStands}
use Rattle.world_core.proofs.Running.{responded}
use Rattle.world_core.proofs.Lists.{false_is_not_true}
use Rattle.world_core.proofs.replies.WorldRepliesResponderWorld.respond.Goals as goal

pub returns-in-Ok-clause-answer : goal.returns-in-Ok-clause-answer
returns-in-Ok-clause-answer g c = λ s f.
    let given = c.in-Ok.ensures.answer s f in
    responded (WorldStands g.A.AnySite.stands c.answer.new.self) s (step_over_body s c.args.body.now).0 c.args.body.now c.args.out.now.bytes c.put_reply.new.out.bytes
    c.bytes.result.now
    (inl (c.bytes.ensures.same ∙ given.1, refl)) given.0 c.put_reply.ensures.bytes

pub returns-in-Err-clause-answer : goal.returns-in-Err-clause-answer
returns-in-Err-clause-answer g c = λ s f.
    let given = c.in-Err.ensures.answer s f in
    responded (WorldStands g.A.AnySite.stands c.answer.new.self) s s c.args.body.now c.args.out.now.bytes c.put_reply-in-Err.new.out.bytes no_memory
    (inr (
      refl,
      false_from_ne_true (option_map_or is_sure_body (body_of c.args.body.now) false)
          (λ sure. false_is_not_true (c.in-Err.ensures.sure s f sure)),
      refl,
    )) given.0 c.put_reply-in-Err.ensures.bytes
