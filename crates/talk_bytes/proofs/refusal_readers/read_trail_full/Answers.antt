use Rattle.std.proofs.Common.{refl}
use Rattle.tardis_base.specs.declared.replies.Refusal.TheVariants.{TrailFull}
use Rattle.wire_item.specs.Readings.{u64_front}
use Rattle.wire_talk.specs.ReplyReadings.{refusal_rows}
use Rattle.wire_talk.proofs.Arms.{arm-read, arm-lost}
use Rattle.talk_bytes.proofs.refusal_readers.read_trail_full.Goals as goal

pub returns-in_err-bytes : goal.returns-in_err-bytes
returns-in_err-bytes c =
    arm-lost refusal_rows 26 26 TrailFull u64_front c.args.reader.now c.u64.new.self c.from_residual.result refl refl c.from_residual.ensures c.in_err-bytes.ensures

pub returns : goal.returns
returns c = arm-read refusal_rows 26 26 TrailFull u64_front c.args.reader.now c.in_ok-bytes.bytes c.u64.new.self refl refl c.in_ok-bytes.ensures
