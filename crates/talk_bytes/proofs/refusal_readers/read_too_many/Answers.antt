use Rattle.std.proofs.Common.{refl}
use Rattle.tardis_base.specs.declared.replies.Refusal.TheVariants.{TooMany}
use Rattle.wire_item.specs.Fronts.{both}
use Rattle.wire_item.specs.Readings.{u32_front}
use Rattle.wire_talk.specs.ReplyReadings.{excess_front, refusal_rows}
use Rattle.wire_talk.proofs.Arms.{arm-read, arm-lost, both-lost, both-lost-later, both-read}
use Rattle.talk_bytes.proofs.refusal_readers.read_too_many.Goals as goal

pub returns-in_err-what : goal.returns-in_err-what
returns-in_err-what c =
    arm-lost refusal_rows 8 8 (λ p. TooMany p.0 p.1) (both excess_front u32_front) c.args.reader.now c.excess.new.reader c.from_residual.result refl refl c.from_residual.ensures
    (both-lost excess_front u32_front c.args.reader.now c.excess.new.reader c.in_err-what.ensures)

pub returns-in_err-n : goal.returns-in_err-n
returns-in_err-n c =
    arm-lost refusal_rows 8 8 (λ p. TooMany p.0 p.1) (both excess_front u32_front) c.args.reader.now c.u32.new.self c.from_residual-in_err-n.result refl refl
    c.from_residual-in_err-n.ensures
    (both-lost-later excess_front u32_front c.args.reader.now c.in_ok-what.what c.excess.new.reader c.u32.new.self c.in_ok-what.ensures c.in_err-n.ensures)

pub returns : goal.returns
returns c =
    arm-read refusal_rows 8 8 (λ p. TooMany p.0 p.1) (both excess_front u32_front) c.args.reader.now (c.in_ok-what.what, c.in_ok-n.n) c.u32.new.self refl refl
    (both-read excess_front u32_front c.args.reader.now c.in_ok-what.what c.excess.new.reader c.in_ok-n.n c.u32.new.self c.in_ok-what.ensures c.in_ok-n.ensures)
