use Rattle.tardis_base.specs.declared.requests.Request.TheVariants.{Deliver}
use Rattle.wire_item.specs.Fronts.{made}
use Rattle.wire_item.specs.Readings.{item_front}
use Rattle.wire_item.proofs.Fronts.{made-read}
use Rattle.wire_item.proofs.Takings.{making, unmade, makes, makes-none, made-none}
use Rattle.talk_bytes.proofs.request_field_readers.read_deliver.Goals as goal

pub returns-in_err-item : goal.returns-in_err-item
returns-in_err-item c =
    let none = unmade item_front c.args.reader.now c.item.new.self c.in_err-item.ensures in
    makes-none (made Deliver item_front) c.args.reader.now c.item.new.self c.from_residual.result c.from_residual.ensures
    (made-none Deliver item_front c.args.reader.now none)

pub returns : goal.returns
returns c =
    let read = making item_front c.args.reader.now c.item.new.self c.in_ok-item.item c.in_ok-item.ensures in
    makes (made Deliver item_front) c.args.reader.now c.item.new.self c.deliver.result (Deliver read.0)
    (made-read Deliver item_front c.args.reader.now read.0 c.item.new.self read.1) (c.deliver.ensures read.0 read.2)
