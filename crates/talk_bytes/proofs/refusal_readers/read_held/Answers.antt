use Rattle.std.proofs.Common.{refl}
use Rattle.tardis_base.specs.declared.replies.Refusal.TheVariants.{Held}
use Rattle.wire_item.specs.Fronts.{both}
use Rattle.wire_item.specs.Readings.{u16_front, id_front}
use Rattle.wire_talk.specs.ReplyReadings.{refusal_rows}
use Rattle.wire_talk.proofs.Arms.{arm-read, arm-lost, both-lost, both-lost-later, both-read}
use Rattle.talk_bytes.proofs.refusal_readers.read_held.Goals as goal

pub returns-in_err-session : goal.returns-in_err-session
returns-in_err-session c =
    arm-lost refusal_rows 18 18 (λ p. Held p.0 p.1) (both u16_front id_front) c.args.reader.now c.u16.new.self c.from_residual.result refl refl c.from_residual.ensures
    (both-lost u16_front id_front c.args.reader.now c.u16.new.self c.in_err-session.ensures)

pub returns-in_err-ceiling : goal.returns-in_err-ceiling
returns-in_err-ceiling c =
    arm-lost refusal_rows 18 18 (λ p. Held p.0 p.1) (both u16_front id_front) c.args.reader.now c.id.new.self c.from_residual-in_err-ceiling.result refl refl
    c.from_residual-in_err-ceiling.ensures
    (both-lost-later u16_front id_front c.args.reader.now c.in_ok-session.session c.u16.new.self c.id.new.self c.in_ok-session.ensures c.in_err-ceiling.ensures)

pub returns : goal.returns
returns c =
    arm-read refusal_rows 18 18 (λ p. Held p.0 p.1) (both u16_front id_front) c.args.reader.now (c.in_ok-session.session, c.in_ok-ceiling.ceiling) c.id.new.self refl refl
    (both-read u16_front id_front c.args.reader.now c.in_ok-session.session c.u16.new.self c.in_ok-ceiling.ceiling c.id.new.self c.in_ok-session.ensures c.in_ok-ceiling.ensures)
