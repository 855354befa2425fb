use Rattle.std.proofs.Common.{refl}
use Rattle.tardis_base.specs.declared.replies.Refusal.TheVariants.{Unsupported}
use Rattle.wire_item.specs.Readings.{u8_front}
use Rattle.wire_talk.specs.ReplyReadings.{refusal_rows}
use Rattle.wire_talk.proofs.Arms.{arm-read, arm-lost}
use Rattle.talk_bytes.proofs.refusal_readers.read_unsupported.Goals as goal

pub returns-in_err-op : goal.returns-in_err-op
returns-in_err-op c =
    arm-lost refusal_rows 27 27 Unsupported u8_front c.args.reader.now c.u8.new.self c.from_residual.result refl refl c.from_residual.ensures c.in_err-op.ensures

pub returns : goal.returns
returns c = arm-read refusal_rows 27 27 Unsupported u8_front c.args.reader.now c.in_ok-op.op c.u8.new.self refl refl c.in_ok-op.ensures
