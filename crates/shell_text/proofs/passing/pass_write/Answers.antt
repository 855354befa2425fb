use Rattle.std.proofs.Common.{None, ap, ◌∙◌, refl, arith}
use Rattle.tardis_base.specs.declared.records.Write.TheVariants.{Put, Delete}
use Rattle.wire_item.specs.Fronts.{nothing_but, made, front_of_code}
use Rattle.wire_item.specs.Readings.{u8_front, value_front, write_rows, write_front}
use Rattle.wire_item.proofs.Fronts.{made-read}
use Rattle.wire_item.proofs.Takings.{taken, untaken, makes, makes-none, made-none}
use Rattle.wire_item.proofs.Codes.{code-none, code-read, code-other}
use Rattle.shell_text.proofs.Passings.{lacking}
use Rattle.shell_text.proofs.passing.pass_write.Goals as goal

pub returns-in-None : goal.returns-in-None
returns-in-None c =
    makes-none write_front c.args.reader.now c.u8.new.self None refl
    (code-none write_rows c.args.reader.now refl (untaken u8_front c.args.reader.now c.u8.new.self c.in-None.ensures))

pub returns-in-0 : goal.returns-in-0
returns-in-0 c =
    let kind = taken u8_front c.args.reader.now c.u8.new.self c.in-Some.kind c.in-Some.ensures in
    makes write_front c.args.reader.now c.u8.new.self lacking Delete
    (code-read write_rows c.args.reader.now c.in-Some.kind c.u8.new.self kind ∙ ap (λ k. front_of_code k write_rows c.u8.new.self) c.in-0.is) tt

pub returns-in-Some-value : goal.returns-in-Some-value
returns-in-Some-value c =
    let kind = taken u8_front c.args.reader.now c.u8.new.self c.in-Some.kind c.in-Some.ensures in
    let value = taken value_front c.u8.new.self c.value.new.self c.in-Some-value.field-0.now c.in-Some-value.ensures in
    makes write_front c.args.reader.now c.value.new.self lacking (Put c.in-Some-value.field-0.now)
    (code-read write_rows c.args.reader.now c.in-Some.kind c.u8.new.self kind ∙ ap (λ k. front_of_code k write_rows c.u8.new.self) c.in-1.is
    ∙ made-read Put value_front c.u8.new.self c.in-Some-value.field-0.now c.value.new.self value) tt

pub returns-in-None-value : goal.returns-in-None-value
returns-in-None-value c =
    let kind = taken u8_front c.args.reader.now c.u8.new.self c.in-Some.kind c.in-Some.ensures in
    let none = untaken value_front c.u8.new.self c.value.new.self c.in-None-value.ensures in
    makes-none write_front c.args.reader.now c.value.new.self None refl
    (code-read write_rows c.args.reader.now c.in-Some.kind c.u8.new.self kind ∙ ap (λ k. front_of_code k write_rows c.u8.new.self) c.in-1.is
    ∙ made-none Put value_front c.u8.new.self none)

pub returns-in_default : goal.returns-in_default
returns-in_default c =
    let kind = taken u8_front c.args.reader.now c.u8.new.self c.in-Some.kind c.in-Some.ensures in
    makes-none write_front c.args.reader.now c.u8.new.self None refl
    (code-read write_rows c.args.reader.now c.in-Some.kind c.u8.new.self kind
    ∙ code-other (nothing_but Delete) (made Put value_front) 0 1 c.in-Some.kind c.u8.new.self (λ e. omega (arith, e)) (λ e. omega (arith, e)))
