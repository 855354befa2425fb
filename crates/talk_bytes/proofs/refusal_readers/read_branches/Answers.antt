use Rattle.std.proofs.Common.{refl}
use Rattle.tardis_base.specs.declared.replies.Refusal.TheVariants.{Branches}
use Rattle.wire_item.specs.Fronts.{both, only_if}
use Rattle.wire_item.specs.Readings.{id_front, u32_front, u8_front}
use Rattle.wire_talk.specs.ReplyReadings.{refusal_rows}
use Rattle.wire_talk.specs.Valid.{is_constraint}
use Rattle.wire_talk.proofs.Arms.{arm-read, arm-lost, both-lost, both-lost-later, both-read}
use Rattle.talk_bytes.proofs.refusal_readers.read_branches.Goals as goal

pub returns-in_err-constraint : goal.returns-in_err-constraint
returns-in_err-constraint c =
    arm-lost refusal_rows 15 15 (λ p. Branches p.0.0 p.0.1 p.1) (both (both (only_if is_constraint u8_front) id_front) u32_front) c.args.reader.now c.constraint.new.reader
    c.from_residual.result refl refl c.from_residual.ensures
    (both-lost (both (only_if is_constraint u8_front) id_front) u32_front c.args.reader.now c.constraint.new.reader
    (both-lost (only_if is_constraint u8_front) id_front c.args.reader.now c.constraint.new.reader c.in_err-constraint.ensures))

pub returns-in_err-state : goal.returns-in_err-state
returns-in_err-state c =
    arm-lost refusal_rows 15 15 (λ p. Branches p.0.0 p.0.1 p.1) (both (both (only_if is_constraint u8_front) id_front) u32_front) c.args.reader.now c.id.new.self
    c.from_residual-in_err-state.result refl refl c.from_residual-in_err-state.ensures
    (both-lost (both (only_if is_constraint u8_front) id_front) u32_front c.args.reader.now c.id.new.self
    (both-lost-later (only_if is_constraint u8_front) id_front c.args.reader.now c.in_ok-constraint.constraint c.constraint.new.reader c.id.new.self
    c.in_ok-constraint.ensures c.in_err-state.ensures))

pub returns-in_err-children : goal.returns-in_err-children
returns-in_err-children c =
    let pair = both-read (only_if is_constraint u8_front) id_front c.args.reader.now c.in_ok-constraint.constraint c.constraint.new.reader c.in_ok-state.state c.id.new.self
    c.in_ok-constraint.ensures c.in_ok-state.ensures in
    arm-lost refusal_rows 15 15 (λ p. Branches p.0.0 p.0.1 p.1) (both (both (only_if is_constraint u8_front) id_front) u32_front) c.args.reader.now c.u32.new.self
    c.from_residual-in_err-children.result refl refl c.from_residual-in_err-children.ensures
    (both-lost-later (both (only_if is_constraint u8_front) id_front) u32_front c.args.reader.now (c.in_ok-constraint.constraint, c.in_ok-state.state) c.id.new.self c.u32.new.self pair
    c.in_err-children.ensures)

pub returns : goal.returns
returns c =
    let pair = both-read (only_if is_constraint u8_front) id_front c.args.reader.now c.in_ok-constraint.constraint c.constraint.new.reader c.in_ok-state.state c.id.new.self
    c.in_ok-constraint.ensures c.in_ok-state.ensures in
    arm-read refusal_rows 15 15 (λ p. Branches p.0.0 p.0.1 p.1) (both (both (only_if is_constraint u8_front) id_front) u32_front) c.args.reader.now
    ((c.in_ok-constraint.constraint, c.in_ok-state.state), c.in_ok-children.children) c.u32.new.self refl refl
    (both-read (both (only_if is_constraint u8_front) id_front) u32_front c.args.reader.now (c.in_ok-constraint.constraint, c.in_ok-state.state) c.id.new.self c.in_ok-children.children c.u32.new.self
    pair c.in_ok-children.ensures)
