use Rattle.std.proofs.Common.{refl}
use Rattle.tardis_base.specs.declared.replies.Reply.TheVariants.{Shown}
use Rattle.wire_item.specs.Fronts.{made, both}
use Rattle.wire_item.specs.Readings.{u64_front}
use Rattle.wire_item.proofs.Takings.{taken, untaken, making, unmade, makes, makes-none}
use Rattle.wire_talk.specs.ReplyReadings.{children_front, path_front}
use Rattle.talk_bytes.proofs.reply_field_readers.read_shown.Goals as goal

pub returns-in_err-arrival : goal.returns-in_err-arrival
returns-in_err-arrival c =
    let none = untaken u64_front c.args.reader.now c.u64.new.self c.in_err-arrival.ensures in
    makes-none (made (λ p. Shown p.0.0 p.0.1 p.1) (both (both u64_front children_front) path_front)) c.args.reader.now c.u64.new.self
    c.from_residual.result c.from_residual.ensures (rw (none) refl)

pub returns-in_err-children : goal.returns-in_err-children
returns-in_err-children c =
    let arrival = taken u64_front c.args.reader.now c.u64.new.self c.in_ok-arrival.arrival c.in_ok-arrival.ensures in
    let none = unmade children_front c.u64.new.self c.children.new.reader c.in_err-children.ensures in
    makes-none (made (λ p. Shown p.0.0 p.0.1 p.1) (both (both u64_front children_front) path_front)) c.args.reader.now c.children.new.reader
    c.from_residual-in_err-children.result c.from_residual-in_err-children.ensures (rw (arrival, none) refl)

pub returns-in_err-path : goal.returns-in_err-path
returns-in_err-path c =
    let arrival = taken u64_front c.args.reader.now c.u64.new.self c.in_ok-arrival.arrival c.in_ok-arrival.ensures in
    let children = making children_front c.u64.new.self c.children.new.reader c.in_ok-children.children c.in_ok-children.ensures in
    let none = unmade path_front c.children.new.reader c.path.new.reader c.in_err-path.ensures in
    makes-none (made (λ p. Shown p.0.0 p.0.1 p.1) (both (both u64_front children_front) path_front)) c.args.reader.now c.path.new.reader
    c.from_residual-in_err-path.result c.from_residual-in_err-path.ensures (rw (arrival, children.1, none) refl)

pub returns : goal.returns
returns c =
    let arrival = taken u64_front c.args.reader.now c.u64.new.self c.in_ok-arrival.arrival c.in_ok-arrival.ensures in
    let children = making children_front c.u64.new.self c.children.new.reader c.in_ok-children.children c.in_ok-children.ensures in
    let path = making path_front c.children.new.reader c.path.new.reader c.in_ok-path.path c.in_ok-path.ensures in
    makes (made (λ p. Shown p.0.0 p.0.1 p.1) (both (both u64_front children_front) path_front)) c.args.reader.now c.path.new.reader c.shown.result
    (Shown c.in_ok-arrival.arrival children.0 path.0) (rw (arrival, children.1, path.1) refl)
    (c.shown.ensures children.0 path.0 children.2 path.2)
