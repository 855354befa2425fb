use Rattle.std.proofs.Common.{None, ap, ◌∙◌, refl, arith}
use Rattle.tardis_base.specs.declared.records.Item.TheVariants.{State, Promise}
use Rattle.wire_item.specs.Fronts.{made, front_of_code}
use Rattle.wire_item.specs.Readings.{u8_front, record_front, consent_front, item_rows, item_front}
use Rattle.wire_item.proofs.Fronts.{made-read}
use Rattle.wire_item.proofs.Takings.{taken, untaken, makes, makes-none, made-none}
use Rattle.wire_item.proofs.Codes.{code-none, code-read, code-other}
use Rattle.shell_text.proofs.Passings.{lacking, passed-at}
use Rattle.shell_text.proofs.passing.pass_item.Goals as goal

pub returns-in-None : goal.returns-in-None
returns-in-None c =
    makes-none item_front c.args.reader.now c.u8.new.self None refl
    (code-none item_rows c.args.reader.now refl (untaken u8_front c.args.reader.now c.u8.new.self c.in-None.ensures))

pub returns-in-1 : goal.returns-in-1
returns-in-1 c =
    let kind = taken u8_front c.args.reader.now c.u8.new.self c.in-Some.kind c.in-Some.ensures in
    passed-at item_front record_front State c.args.reader.now c.u8.new.self c.pass_record.new.reader c.pass_record.result
    (code-read item_rows c.args.reader.now c.in-Some.kind c.u8.new.self kind ∙ ap (λ k. front_of_code k item_rows c.u8.new.self) c.in-1.is)
    c.pass_record.ensures

pub returns-in-Some-consent : goal.returns-in-Some-consent
returns-in-Some-consent c =
    let kind = taken u8_front c.args.reader.now c.u8.new.self c.in-Some.kind c.in-Some.ensures in
    let read = taken consent_front c.u8.new.self c.consent.new.self c.in-Some-consent.field-0 c.in-Some-consent.ensures in
    makes item_front c.args.reader.now c.consent.new.self lacking (Promise c.in-Some-consent.field-0)
    (code-read item_rows c.args.reader.now c.in-Some.kind c.u8.new.self kind ∙ ap (λ k. front_of_code k item_rows c.u8.new.self) c.in-2.is
    ∙ made-read Promise consent_front c.u8.new.self c.in-Some-consent.field-0 c.consent.new.self read) tt

pub returns-in-None-consent : goal.returns-in-None-consent
returns-in-None-consent c =
    let kind = taken u8_front c.args.reader.now c.u8.new.self c.in-Some.kind c.in-Some.ensures in
    let none = untaken consent_front c.u8.new.self c.consent.new.self c.in-None-consent.ensures in
    makes-none item_front c.args.reader.now c.consent.new.self None refl
    (code-read item_rows c.args.reader.now c.in-Some.kind c.u8.new.self kind ∙ ap (λ k. front_of_code k item_rows c.u8.new.self) c.in-2.is
    ∙ made-none Promise consent_front c.u8.new.self none)

pub returns-in_default : goal.returns-in_default
returns-in_default c =
    let kind = taken u8_front c.args.reader.now c.u8.new.self c.in-Some.kind c.in-Some.ensures in
    makes-none item_front c.args.reader.now c.u8.new.self None refl
    (code-read item_rows c.args.reader.now c.in-Some.kind c.u8.new.self kind
    ∙ code-other (made State record_front) (made Promise consent_front) 1 2 c.in-Some.kind c.u8.new.self (λ e. omega (arith, e)) (λ e. omega (arith, e)))
