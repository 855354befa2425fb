use Rattle.std.proofs.Common.{refl}
use Rattle.wire_item.proofs.Fronts.{made-read}
use Rattle.wire_item.proofs.Takings.{taken, untaken, made-none}
use Rattle.site_lives.specs.Things.{OfLives, life_front}
use Rattle.rest_site.specs.Takings.{new_life_front}
use Rattle.rest_site.proofs.Taken.{read-none}
use Rattle.rest_site.proofs.things.read_life.Goals as goal

pub returns-in_err-new : goal.returns-in_err-new
returns-in_err-new c =
    read-none (new_life_front c.args.reader.now) c.from_residual.result c.new_life.new.reader c.from_residual.ensures
    (made-none OfLives life_front c.args.reader.now (untaken life_front c.args.reader.now c.new_life.new.reader c.in_err-new.ensures))

pub returns : goal.returns
returns c =
    let read = taken life_front c.args.reader.now c.new_life.new.reader c.in_ok-new.new c.in_ok-new.ensures in (
      OfLives c.in_ok-new.new,
      made-read OfLives life_front c.args.reader.now c.in_ok-new.new c.new_life.new.reader read,
      refl,
    )
