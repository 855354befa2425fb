use Rattle.std.proofs.Common.{refl, None, ◌∙◌, ap, arith}
use Rattle.tardis_base.specs.declared.replies.Excess.TheVariants.{WrittenKeys, ReadKeys, MergedStates}
use Rattle.wire_item.specs.Fronts.{front_of_code}
use Rattle.wire_item.specs.Readings.{u8_front}
use Rattle.wire_item.proofs.Takings.{taken, untaken, takes, takes-none}
use Rattle.wire_item.proofs.Codes.{code-none, code-read}
use Rattle.wire_talk.specs.ReplyReadings.{excess_rows, excess_front}
use Rattle.wire_talk.proofs.RequestFields.{rows-other}
use Rattle.talk_bytes.proofs.refusal_readers.excess.Goals as goal

pub returns-in_err-code : goal.returns-in_err-code
returns-in_err-code c =
    let none = untaken u8_front c.args.reader.now c.u8.new.self c.in_err-code.ensures in
    takes-none excess_front c.args.reader.now c.u8.new.self c.from_residual.result c.from_residual.ensures (code-none excess_rows c.args.reader.now refl none)

pub returns-in-1 : goal.returns-in-1
returns-in-1 c =
    let code = taken u8_front c.args.reader.now c.u8.new.self c.in_ok-code.code c.in_ok-code.ensures in
    takes excess_front c.args.reader.now c.u8.new.self WrittenKeys
    (code-read excess_rows c.args.reader.now c.in_ok-code.code c.u8.new.self code ∙ ap (λ k. front_of_code k excess_rows c.u8.new.self) c.in-1.is)

pub returns-in-2 : goal.returns-in-2
returns-in-2 c =
    let code = taken u8_front c.args.reader.now c.u8.new.self c.in_ok-code.code c.in_ok-code.ensures in
    takes excess_front c.args.reader.now c.u8.new.self ReadKeys
    (code-read excess_rows c.args.reader.now c.in_ok-code.code c.u8.new.self code ∙ ap (λ k. front_of_code k excess_rows c.u8.new.self) c.in-2.is)

pub returns-in-3 : goal.returns-in-3
returns-in-3 c =
    let code = taken u8_front c.args.reader.now c.u8.new.self c.in_ok-code.code c.in_ok-code.ensures in
    takes excess_front c.args.reader.now c.u8.new.self MergedStates
    (code-read excess_rows c.args.reader.now c.in_ok-code.code c.u8.new.self code ∙ ap (λ k. front_of_code k excess_rows c.u8.new.self) c.in-3.is)

pub returns-in_default : goal.returns-in_default
returns-in_default c =
    let code = taken u8_front c.args.reader.now c.u8.new.self c.in_ok-code.code c.in_ok-code.ensures in
    takes-none excess_front c.args.reader.now c.u8.new.self None refl
    (code-read excess_rows c.args.reader.now c.in_ok-code.code c.u8.new.self code
    ∙ rows-other excess_rows 1 3 c.in_ok-code.code c.u8.new.self refl (λ m low high e. omega (arith, low, high, e)))
