use Rattle.tardis_base.specs.declared.replies.Reply.TheVariants.{Merging}
use Rattle.wire_item.specs.Fronts.{made}
use Rattle.wire_item.specs.Readings.{parents_front}
use Rattle.wire_item.proofs.Fronts.{made-read}
use Rattle.wire_item.proofs.Takings.{making, unmade, makes, makes-none, made-none}
use Rattle.talk_bytes.proofs.reply_field_readers.read_merging.Goals as goal

pub returns-in_err-states : goal.returns-in_err-states
returns-in_err-states c =
    let none = unmade parents_front c.args.reader.now c.parents.new.self c.in_err-states.ensures in
    makes-none (made Merging parents_front) c.args.reader.now c.parents.new.self c.from_residual.result c.from_residual.ensures
    (made-none Merging parents_front c.args.reader.now none)

pub returns : goal.returns
returns c =
    let read = making parents_front c.args.reader.now c.parents.new.self c.in_ok-states.states c.in_ok-states.ensures in
    makes (made Merging parents_front) c.args.reader.now c.parents.new.self c.merging.result (Merging read.0)
    (made-read Merging parents_front c.args.reader.now read.0 c.parents.new.self read.1) (c.merging.ensures read.0 read.2)
