use Rattle.std.proofs.Common.{refl, sym, ◌∙◌, []}
use Rattle.wire_item.specs.Readings.{u8_front}
use Rattle.wire_item.proofs.Codes.{code-none, code-read}
use Rattle.wire_item.proofs.Laws.{whole-source}
use Rattle.wire_item.proofs.Takings.{taken, untaken, makes-none}
use Rattle.wire_talk.specs.ReplyReadings.{reply_front, reply_rows}
use Rattle.wire_talk.proofs.Arms.{makes-coded}
use Rattle.talk_bytes.proofs.reply_readers.reply.Goals as goal

pub returns-in_err-code-clause-read : goal.returns-in_err-code-clause-read
returns-in_err-code-clause-read c =
    makes-none reply_front c.args.reader.now c.u8.new.self c.from_residual.result c.from_residual.ensures
    (code-none reply_rows c.args.reader.now refl (untaken u8_front c.args.reader.now c.u8.new.self c.in_err-code.ensures))

pub returns-then-code-lt-RAISED-clause-read : goal.returns-then-code-lt-RAISED-clause-read
returns-then-code-lt-RAISED-clause-read c =
    makes-coded reply_rows c.args.reader.now c.in_ok-code.code c.u8.new.self c.low_reply.result c.low_reply.new.reader
    (taken u8_front c.args.reader.now c.u8.new.self c.in_ok-code.code c.in_ok-code.ensures) c.low_reply.ensures.read

pub returns-then-code-lt-RAISED-clause-sure : goal.returns-then-code-lt-RAISED-clause-sure
returns-then-code-lt-RAISED-clause-sure c = λ r e read sure is.
    let code = taken u8_front c.args.reader.now c.u8.new.self c.in_ok-code.code c.in_ok-code.ensures in
    let fields = sym (code-read reply_rows c.args.reader.now c.in_ok-code.code c.u8.new.self code) ∙ whole-source reply_front c.args.reader.now r read in
    c.low_reply.ensures.sure r [] e fields sure is

pub returns-else-code-lt-RAISED-clause-read : goal.returns-else-code-lt-RAISED-clause-read
returns-else-code-lt-RAISED-clause-read c =
    makes-coded reply_rows c.args.reader.now c.in_ok-code.code c.u8.new.self c.high_reply.result c.high_reply.new.reader
    (taken u8_front c.args.reader.now c.u8.new.self c.in_ok-code.code c.in_ok-code.ensures) c.high_reply.ensures.read

pub returns-else-code-lt-RAISED-clause-sure : goal.returns-else-code-lt-RAISED-clause-sure
returns-else-code-lt-RAISED-clause-sure c = λ r e read sure is.
    let code = taken u8_front c.args.reader.now c.u8.new.self c.in_ok-code.code c.in_ok-code.ensures in
    let fields = sym (code-read reply_rows c.args.reader.now c.in_ok-code.code c.u8.new.self code) ∙ whole-source reply_front c.args.reader.now r read in
    c.high_reply.ensures.sure r [] e fields sure is
