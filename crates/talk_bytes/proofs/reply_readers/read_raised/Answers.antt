use Rattle.std.proofs.Common.{refl}
use Rattle.tardis_base.specs.declared.replies.Reply.TheVariants.{Raised}
use Rattle.wire_item.specs.Fronts.{both}
use Rattle.wire_item.specs.Readings.{id_front, u32_front}
use Rattle.wire_talk.specs.ReplyReadings.{reply_rows}
use Rattle.wire_talk.proofs.Arms.{arm-read, arm-lost}
use Rattle.talk_bytes.proofs.reply_readers.read_raised.Goals as goal

pub returns-in_err-pair : goal.returns-in_err-pair
returns-in_err-pair c =
    arm-lost reply_rows 12 12 (λ p. Raised p.0 p.1) (both id_front u32_front) c.args.reader.now c.id_and_u32.new.reader c.from_residual.result refl refl
    c.from_residual.ensures c.in_err-pair.ensures

pub returns : goal.returns
returns c =
    arm-read reply_rows 12 12 (λ p. Raised p.0 p.1) (both id_front u32_front) c.args.reader.now c.in_ok-pair.pair c.id_and_u32.new.reader refl refl
    c.in_ok-pair.ensures
