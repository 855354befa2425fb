use Rattle.tardis_base.specs.declared.replies.Reply.TheVariants.{Committed}
use Rattle.wire_item.specs.Fronts.{made, both}
use Rattle.wire_item.specs.Readings.{id_front, parents_front}
use Rattle.wire_item.proofs.Fronts.{made-read}
use Rattle.wire_item.proofs.Takings.{taken, untaken, making, unmade, makes, makes-none, made-none, after-none, after-then_none, after-then}
use Rattle.talk_bytes.proofs.reply_field_readers.read_committed.Goals as goal

pub returns-in_err-id : goal.returns-in_err-id
returns-in_err-id c =
    let none = untaken id_front c.args.reader.now c.id.new.self c.in_err-id.ensures in
    makes-none (made (λ p. Committed p.0 p.1) (both id_front parents_front)) c.args.reader.now c.id.new.self c.from_residual.result c.from_residual.ensures
    (made-none (λ p. Committed p.0 p.1) (both id_front parents_front) c.args.reader.now (after-none id_front (λ _. parents_front) c.args.reader.now none))

pub returns-in_err-parents : goal.returns-in_err-parents
returns-in_err-parents c =
    let id = taken id_front c.args.reader.now c.id.new.self c.in_ok-id.id c.in_ok-id.ensures in
    let none = unmade parents_front c.id.new.self c.parents.new.self c.in_err-parents.ensures in
    makes-none (made (λ p. Committed p.0 p.1) (both id_front parents_front)) c.args.reader.now c.parents.new.self c.from_residual-in_err-parents.result
    c.from_residual-in_err-parents.ensures
    (made-none (λ p. Committed p.0 p.1) (both id_front parents_front) c.args.reader.now
    (after-then_none id_front (λ _. parents_front) c.args.reader.now c.in_ok-id.id c.id.new.self id none))

pub returns : goal.returns
returns c =
    let id = taken id_front c.args.reader.now c.id.new.self c.in_ok-id.id c.in_ok-id.ensures in
    let parents = making parents_front c.id.new.self c.parents.new.self c.in_ok-parents.parents c.in_ok-parents.ensures in
    makes (made (λ p. Committed p.0 p.1) (both id_front parents_front)) c.args.reader.now c.parents.new.self c.committed.result
    (Committed c.in_ok-id.id parents.0)
    (made-read (λ p. Committed p.0 p.1) (both id_front parents_front) c.args.reader.now (c.in_ok-id.id, parents.0) c.parents.new.self
    (after-then id_front (λ _. parents_front) c.args.reader.now c.in_ok-id.id c.id.new.self parents.0 c.parents.new.self id parents.1))
    (c.committed.ensures parents.0 parents.2)
