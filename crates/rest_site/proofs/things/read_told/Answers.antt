use Rattle.wire_item.specs.Readings.{record_front}
use Rattle.wire_item.proofs.Fronts.{made-read}
use Rattle.wire_item.proofs.Takings.{making, unmade, made-none}
use Rattle.plain_checkpoint.specs.Checkpoints.{ToldState}
use Rattle.site_lives.specs.Things.{OfCheckpoint}
use Rattle.rest_site.specs.Takings.{told_front}
use Rattle.rest_site.proofs.Taken.{read-none}
use Rattle.rest_site.proofs.things.read_told.Goals as goal

pub returns-in_err-record : goal.returns-in_err-record
returns-in_err-record c =
    read-none (told_front c.args.reader.now) c.from_residual.result c.record.new.self c.from_residual.ensures
    (made-none (λ r. OfCheckpoint (ToldState r)) record_front c.args.reader.now (unmade record_front c.args.reader.now c.record.new.self c.in_err-record.ensures))

pub returns : goal.returns
returns c =
    let read = making record_front c.args.reader.now c.record.new.self c.in_ok-record.record c.in_ok-record.ensures in (
      OfCheckpoint (ToldState read.0),
      made-read (λ r. OfCheckpoint (ToldState r)) record_front c.args.reader.now read.0 c.record.new.self read.1,
      c.told_of.ensures read.0 read.2,
    )
