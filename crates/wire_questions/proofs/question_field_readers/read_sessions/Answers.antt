use Rattle.std.proofs.Common.{refl, None, Some, ◌∙◌, ap}
use Rattle.plain_questions.specs.declared.questions.Question.TheVariants.{Sessions}
use Rattle.plain_questions.specs.Readings.{behind_rows, behind_front}
use Rattle.wire_item.specs.Fronts.{nothing_but, made, front_of_code}
use Rattle.wire_item.specs.Readings.{u8_front, u16_front}
use Rattle.wire_item.proofs.Fronts.{made-read}
use Rattle.wire_item.proofs.Takings.{taken, untaken, takes, takes-none, made-none}
use Rattle.wire_item.proofs.Codes.{code-none, code-read, code-other}
use Rattle.wire_questions.proofs.question_field_readers.read_sessions.Goals as goal

pub returns-in_err-flag : goal.returns-in_err-flag
returns-in_err-flag c =
    let none = untaken u8_front c.args.reader.now c.u8.new.self c.in_err-flag.ensures in
    takes-none (made Sessions behind_front) c.args.reader.now c.u8.new.self c.from_residual.result c.from_residual.ensures
    (made-none Sessions behind_front c.args.reader.now (code-none behind_rows c.args.reader.now refl none))

pub returns-then-flag-eq0 : goal.returns-then-flag-eq0
returns-then-flag-eq0 c =
    let flag = taken u8_front c.args.reader.now c.u8.new.self c.in_ok-flag.flag c.in_ok-flag.ensures in
    takes (made Sessions behind_front) c.args.reader.now c.u8.new.self (Sessions None)
    (made-read Sessions behind_front c.args.reader.now None c.u8.new.self
    (code-read behind_rows c.args.reader.now c.in_ok-flag.flag c.u8.new.self flag ∙ ap (λ k. front_of_code k behind_rows c.u8.new.self) c.if-flag-eq0.true))

pub returns-then-flag-ne1 : goal.returns-then-flag-ne1
returns-then-flag-ne1 c =
    let flag = taken u8_front c.args.reader.now c.u8.new.self c.in_ok-flag.flag c.in_ok-flag.ensures in
    takes-none (made Sessions behind_front) c.args.reader.now c.u8.new.self None refl
    (made-none Sessions behind_front c.args.reader.now
    (code-read behind_rows c.args.reader.now c.in_ok-flag.flag c.u8.new.self flag
    ∙ code-other (nothing_but None) (made Some u16_front) 0 1 c.in_ok-flag.flag c.u8.new.self c.if-flag-eq0.false c.if-flag-ne1.true))

pub returns-in_err-number : goal.returns-in_err-number
returns-in_err-number c =
    let flag = taken u8_front c.args.reader.now c.u8.new.self c.in_ok-flag.flag c.in_ok-flag.ensures in
    let none = untaken u16_front c.u8.new.self c.u16.new.self c.in_err-number.ensures in
    takes-none (made Sessions behind_front) c.args.reader.now c.u16.new.self c.from_residual-in_err-number.result c.from_residual-in_err-number.ensures
    (made-none Sessions behind_front c.args.reader.now
    (code-read behind_rows c.args.reader.now c.in_ok-flag.flag c.u8.new.self flag ∙ ap (λ k. front_of_code k behind_rows c.u8.new.self) c.if-flag-ne1.false
    ∙ made-none Some u16_front c.u8.new.self none))

pub returns : goal.returns
returns c =
    let flag = taken u8_front c.args.reader.now c.u8.new.self c.in_ok-flag.flag c.in_ok-flag.ensures in
    let number = taken u16_front c.u8.new.self c.u16.new.self c.in_ok-number.number c.in_ok-number.ensures in
    takes (made Sessions behind_front) c.args.reader.now c.u16.new.self (Sessions (Some c.in_ok-number.number))
    (made-read Sessions behind_front c.args.reader.now (Some c.in_ok-number.number) c.u16.new.self
    (code-read behind_rows c.args.reader.now c.in_ok-flag.flag c.u8.new.self flag ∙ ap (λ k. front_of_code k behind_rows c.u8.new.self) c.if-flag-ne1.false
    ∙ made-read Some u16_front c.u8.new.self c.in_ok-number.number c.u16.new.self number))
