use Rattle.std.proofs.Common.{refl, true, false, None, ◌∙◌, ap}
use Rattle.tardis_base.specs.declared.requests.Request.TheVariants.{Open}
use Rattle.wire_item.specs.Fronts.{nothing_but, made, front_of_code}
use Rattle.wire_item.specs.Readings.{u8_front}
use Rattle.wire_item.proofs.Fronts.{made-read}
use Rattle.wire_item.proofs.Takings.{taken, untaken, takes, takes-none, made-none}
use Rattle.wire_item.proofs.Codes.{code-none, code-read, code-other}
use Rattle.wire_talk.specs.RequestReadings.{flag_rows, flag_front}
use Rattle.talk_bytes.proofs.request_field_readers.read_open.Goals as goal

pub returns-in_err-flag : goal.returns-in_err-flag
returns-in_err-flag c =
    let none = untaken u8_front c.args.reader.now c.u8.new.self c.in_err-flag.ensures in
    takes-none (made Open flag_front) c.args.reader.now c.u8.new.self c.from_residual.result c.from_residual.ensures
    (made-none Open flag_front c.args.reader.now (code-none flag_rows c.args.reader.now refl none))

pub returns-then-flag-eq0 : goal.returns-then-flag-eq0
returns-then-flag-eq0 c =
    let flag = taken u8_front c.args.reader.now c.u8.new.self c.in_ok-flag.flag c.in_ok-flag.ensures in
    takes (made Open flag_front) c.args.reader.now c.u8.new.self (Open false)
    (made-read Open flag_front c.args.reader.now false c.u8.new.self
    (code-read flag_rows c.args.reader.now c.in_ok-flag.flag c.u8.new.self flag ∙ ap (λ k. front_of_code k flag_rows c.u8.new.self) c.if-flag-eq0.true))

pub returns-then-flag-eq1 : goal.returns-then-flag-eq1
returns-then-flag-eq1 c =
    let flag = taken u8_front c.args.reader.now c.u8.new.self c.in_ok-flag.flag c.in_ok-flag.ensures in
    takes (made Open flag_front) c.args.reader.now c.u8.new.self (Open true)
    (made-read Open flag_front c.args.reader.now true c.u8.new.self
    (code-read flag_rows c.args.reader.now c.in_ok-flag.flag c.u8.new.self flag ∙ ap (λ k. front_of_code k flag_rows c.u8.new.self) c.if-flag-eq1.true))

pub returns : goal.returns
returns c =
    let flag = taken u8_front c.args.reader.now c.u8.new.self c.in_ok-flag.flag c.in_ok-flag.ensures in
    takes-none (made Open flag_front) c.args.reader.now c.u8.new.self None refl
    (made-none Open flag_front c.args.reader.now
    (code-read flag_rows c.args.reader.now c.in_ok-flag.flag c.u8.new.self flag
    ∙ code-other (nothing_but false) (nothing_but true) 0 1 c.in_ok-flag.flag c.u8.new.self c.if-flag-eq0.false c.if-flag-eq1.false))
