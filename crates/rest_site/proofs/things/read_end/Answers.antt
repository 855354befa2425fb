use Rattle.wire_item.proofs.Fronts.{made-read}
use Rattle.wire_item.proofs.Takings.{made-none}
use Rattle.site_lives.specs.Things.{OfEnd, floors_front}
use Rattle.rest_site.specs.Takings.{end_front}
use Rattle.rest_site.proofs.Taken.{read-none}
use Rattle.rest_site.proofs.things.read_end.Goals as goal

pub returns-in_err-floors : goal.returns-in_err-floors
returns-in_err-floors c =
    read-none (end_front c.args.reader.now) c.from_residual.result c.read_floors.new.reader c.from_residual.ensures
    (made-none OfEnd floors_front c.args.reader.now c.in_err-floors.ensures)

pub returns : goal.returns
returns c =
    let read = c.in_ok-floors.ensures in (
      OfEnd read.0,
      made-read OfEnd floors_front c.args.reader.now read.0 c.read_floors.new.reader read.1,
      c.end_of.ensures read.0 read.2,
    )
