use Rattle.std.proofs.Common.{ap, ◌∙◌, sym}
use Rattle.wire_item.specs.Readings.{u16_front, u32_front}
use Rattle.wire_item.proofs.Takings.{taken, untaken}
use Rattle.plain_world.specs.Bodies.{CarryTo}
use Rattle.world_core.proofs.BodyReadings.{no_target, no_batch, no_item, carry_read, alone_done, alone_more}
use Rattle.world_core.proofs.bodies.carry_asked.Goals as goal

pub returns-in_default : goal.returns-in_default
returns-in_default c =
    no_target c.args.fields.now (ap u16_front (sym c.new-reader.ensures) ∙ untaken u16_front c.new-reader.result c.u16.new.self c.in_default.ensures)

pub returns-in_default-u32 : goal.returns-in_default-u32
returns-in_default-u32 c =
    no_batch c.args.fields.now c.u16.new.self c.in-Some.to (ap u16_front (sym c.new-reader.ensures)
    ∙ taken u16_front c.new-reader.result c.u16.new.self c.in-Some.to c.in-Some.ensures)
    (untaken u32_front c.u16.new.self c.u32.new.self c.in_default-u32.ensures)

pub returns-in_default-u32-2 : goal.returns-in_default-u32-2
returns-in_default-u32-2 c =
    no_item c.args.fields.now c.u16.new.self c.u32.new.self c.in-Some.to c.in-Some-u32.batch
    (ap u16_front (sym c.new-reader.ensures) ∙ taken u16_front c.new-reader.result c.u16.new.self c.in-Some.to c.in-Some.ensures)
    (taken u32_front c.u16.new.self c.u32.new.self c.in-Some-u32.batch c.in-Some-u32.ensures)
    (untaken u32_front c.u32.new.self c.u32-2.new.self c.in_default-u32-2.ensures)

pub returns-then-is_done : goal.returns-then-is_done
returns-then-is_done c =
    carry_read c.args.fields.now c.u16.new.self c.u32.new.self c.u32-2.new.self c.in-Some.to c.in-Some-u32.batch c.in-Some-u32-2.item
    (ap u16_front (sym c.new-reader.ensures) ∙ taken u16_front c.new-reader.result c.u16.new.self c.in-Some.to c.in-Some.ensures)
    (taken u32_front c.u16.new.self c.u32.new.self c.in-Some-u32.batch c.in-Some-u32.ensures)
    (taken u32_front c.u32.new.self c.u32-2.new.self c.in-Some-u32-2.item c.in-Some-u32-2.ensures)
    ∙ alone_done (CarryTo c.in-Some.to c.in-Some-u32.batch c.in-Some-u32-2.item) c.u32-2.new.self (sym c.is_done.ensures ∙ c.if-is_done.true)

pub returns-else-is_done : goal.returns-else-is_done
returns-else-is_done c =
    carry_read c.args.fields.now c.u16.new.self c.u32.new.self c.u32-2.new.self c.in-Some.to c.in-Some-u32.batch c.in-Some-u32-2.item
    (ap u16_front (sym c.new-reader.ensures) ∙ taken u16_front c.new-reader.result c.u16.new.self c.in-Some.to c.in-Some.ensures)
    (taken u32_front c.u16.new.self c.u32.new.self c.in-Some-u32.batch c.in-Some-u32.ensures)
    (taken u32_front c.u32.new.self c.u32-2.new.self c.in-Some-u32-2.item c.in-Some-u32-2.ensures)
    ∙ alone_more (CarryTo c.in-Some.to c.in-Some-u32.batch c.in-Some-u32-2.item) c.u32-2.new.self (sym c.is_done.ensures ∙ c.if-is_done.false)
