use Rattle.std.proofs.Common.{ap, ◌∙◌, sym}
use Rattle.std.specs.Prelude.{option_map}
use Rattle.wire_item.specs.Readings.{u16_front}
use Rattle.wire_item.proofs.Takings.{taken, untaken}
use Rattle.wire_talk.specs.RequestReadings.{request_of}
use Rattle.plain_world.specs.Bodies.{StepAt}
use Rattle.world_core.proofs.BodyReadings.{no_site, no_actor, step_read, behind_four}
use Rattle.world_core.proofs.bodies.step_asked.Goals as goal

pub returns-in_default : goal.returns-in_default
returns-in_default c =
    no_site c.args.fields.now (ap u16_front (sym c.new-reader.ensures) ∙ untaken u16_front c.new-reader.result c.u16.new.self c.in_default.ensures)

pub returns-in_default-u16 : goal.returns-in_default-u16
returns-in_default-u16 c =
    no_actor c.args.fields.now c.u16.new.self c.in-Some.site
    (ap u16_front (sym c.new-reader.ensures) ∙ taken u16_front c.new-reader.result c.u16.new.self c.in-Some.site c.in-Some.ensures)
    (untaken u16_front c.u16.new.self c.u16-2.new.self c.in_default-u16.ensures)

pub behind_header-request-requires : goal.behind_header-request-requires
behind_header-request-requires c =
    (behind_four c.args.fields.now c.u16.new.self c.u16-2.new.self c.in-Some.site c.in-Some-u16.actor
    (ap u16_front (sym c.new-reader.ensures) ∙ taken u16_front c.new-reader.result c.u16.new.self c.in-Some.site c.in-Some.ensures)
    (taken u16_front c.u16.new.self c.u16-2.new.self c.in-Some-u16.actor c.in-Some-u16.ensures)).enough

pub returns : goal.returns
returns c =
    let e = ap u16_front (sym c.new-reader.ensures) ∙ taken u16_front c.new-reader.result c.u16.new.self c.in-Some.site c.in-Some.ensures in
    let d = taken u16_front c.u16.new.self c.u16-2.new.self c.in-Some-u16.actor c.in-Some-u16.ensures in
    step_read c.args.fields.now c.u16.new.self c.u16-2.new.self c.in-Some.site c.in-Some-u16.actor e d
    ∙ ap (λ r. option_map (StepAt c.in-Some.site c.in-Some-u16.actor) (request_of r))
    ((behind_four c.args.fields.now c.u16.new.self c.u16-2.new.self c.in-Some.site c.in-Some-u16.actor e d).is ∙ sym c.behind_header-request.ensures)
