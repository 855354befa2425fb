use Rattle.std.proofs.Common.{refl}
use Rattle.wire_item.specs.Readings.{id_front}
use Rattle.wire_item.proofs.Fronts.{made-read}
use Rattle.wire_item.proofs.Takings.{taken, untaken, made-none}
use Rattle.plain_checkpoint.specs.Checkpoints.{ToldGone}
use Rattle.site_lives.specs.Things.{OfCheckpoint}
use Rattle.rest_site.specs.Takings.{gone_front}
use Rattle.rest_site.proofs.Taken.{read-none}
use Rattle.rest_site.proofs.things.read_gone.Goals as goal

pub returns-in_err-id : goal.returns-in_err-id
returns-in_err-id c =
    read-none (gone_front c.args.reader.now) c.from_residual.result c.id.new.self c.from_residual.ensures
    (made-none (λ p. OfCheckpoint (ToldGone p)) id_front c.args.reader.now (untaken id_front c.args.reader.now c.id.new.self c.in_err-id.ensures))

pub returns : goal.returns
returns c =
    let read = taken id_front c.args.reader.now c.id.new.self c.in_ok-id.id c.in_ok-id.ensures in (
      OfCheckpoint (ToldGone c.in_ok-id.id),
      made-read (λ p. OfCheckpoint (ToldGone p)) id_front c.args.reader.now c.in_ok-id.id c.id.new.self read,
      refl,
    )
