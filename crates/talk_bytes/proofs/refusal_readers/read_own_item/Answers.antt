use Rattle.std.proofs.Common.{refl}
use Rattle.tardis_base.specs.declared.replies.Refusal.TheVariants.{OwnItem}
use Rattle.wire_item.specs.Fronts.{both}
use Rattle.wire_item.specs.Readings.{u16_front, u32_front}
use Rattle.wire_talk.specs.ReplyReadings.{refusal_rows}
use Rattle.wire_talk.proofs.Arms.{arm-read, arm-lost, both-lost, both-lost-later, both-read}
use Rattle.talk_bytes.proofs.refusal_readers.read_own_item.Goals as goal

pub returns-in_err-site : goal.returns-in_err-site
returns-in_err-site c =
    arm-lost refusal_rows 25 25 (λ p. OwnItem p.0 p.1) (both u16_front u32_front) c.args.reader.now c.u16.new.self c.from_residual.result refl refl c.from_residual.ensures
    (both-lost u16_front u32_front c.args.reader.now c.u16.new.self c.in_err-site.ensures)

pub returns-in_err-number : goal.returns-in_err-number
returns-in_err-number c =
    arm-lost refusal_rows 25 25 (λ p. OwnItem p.0 p.1) (both u16_front u32_front) c.args.reader.now c.u32.new.self c.from_residual-in_err-number.result refl refl
    c.from_residual-in_err-number.ensures
    (both-lost-later u16_front u32_front c.args.reader.now c.in_ok-site.site c.u16.new.self c.u32.new.self c.in_ok-site.ensures c.in_err-number.ensures)

pub returns : goal.returns
returns c =
    arm-read refusal_rows 25 25 (λ p. OwnItem p.0 p.1) (both u16_front u32_front) c.args.reader.now (c.in_ok-site.site, c.in_ok-number.number) c.u32.new.self refl refl
    (both-read u16_front u32_front c.args.reader.now c.in_ok-site.site c.u16.new.self c.in_ok-number.number c.u32.new.self c.in_ok-site.ensures c.in_ok-number.ensures)
