use Rattle.std.proofs.Common.{refl}
use Rattle.wire_item.specs.Readings.{records_front, consents_front, batch_front}
use Rattle.wire_item.proofs.Takings.{making, unmade, makes, makes-none}
use Rattle.item_bytes.proofs.readers.Reader.batch.Goals as goal

pub returns-in_err-records : goal.returns-in_err-records
returns-in_err-records c =
    let none = unmade records_front c.args.self.now c.records.new.self c.in_err-records.ensures in
    makes-none batch_front c.args.self.now c.records.new.self c.from_residual.result c.from_residual.ensures (rw none refl)

pub returns-in_err-consents : goal.returns-in_err-consents
returns-in_err-consents c =
    let records = making records_front c.args.self.now c.records.new.self c.in_ok-records.records c.in_ok-records.ensures in
    let read = records.1 in
    let none = unmade consents_front c.records.new.self c.consents.new.self c.in_err-consents.ensures in
    makes-none batch_front c.args.self.now c.consents.new.self c.from_residual-in_err-consents.result c.from_residual-in_err-consents.ensures
    (rw (read, none) refl)

pub returns : goal.returns
returns c =
    let records = making records_front c.args.self.now c.records.new.self c.in_ok-records.records c.in_ok-records.ensures in
    let consents = making consents_front c.records.new.self c.consents.new.self c.in_ok-consents.consents c.in_ok-consents.ensures in
    let rs = records.1 in
    let cs = consents.1 in
    makes batch_front c.args.self.now c.consents.new.self c.batch_of_parts.result (record { records = records.0; consents = consents.0 })
    (rw (rs, cs) refl) (c.batch_of_parts.ensures records.0 consents.0 records.2 consents.2)
