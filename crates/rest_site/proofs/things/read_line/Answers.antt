use Rattle.std.proofs.Common.{ℕ, refl}
use Rattle.wire_item.specs.Readings.{u16_front, u32_front}
use Rattle.wire_item.proofs.Fronts.{made-read}
use Rattle.wire_item.proofs.Takings.{taken, untaken, made-none, after-none, after-then_none, after-then}
use Rattle.plain_checkpoint.specs.Checkpoints.{ToldLine}
use Rattle.site_lives.specs.Things.{LastingThing, OfCheckpoint, row_front}
use Rattle.rest_site.specs.Takings.{line_front}
use Rattle.rest_site.proofs.Taken.{read-none}
use Rattle.rest_site.proofs.things.read_line.Goals as goal

abbrev of-parts : ℕ × ℕ → LastingThing
of-parts row = OfCheckpoint (ToldLine row.0 row.1)

pub returns-in_err-site : goal.returns-in_err-site
returns-in_err-site c =
    let old = c.args.reader.now in
    read-none (line_front old) c.from_residual.result c.u16.new.self c.from_residual.ensures
    (made-none of-parts row_front old
    (after-none u16_front (λ _. u32_front) old (untaken u16_front old c.u16.new.self c.in_err-site.ensures)))

pub returns-in_err-count : goal.returns-in_err-count
returns-in_err-count c =
    let old = c.args.reader.now in
    let first = c.u16.new.self in
    let number = taken u16_front old first c.in_ok-site.site c.in_ok-site.ensures in
    read-none (line_front old) c.from_residual-in_err-count.result c.u32.new.self c.from_residual-in_err-count.ensures
    (made-none of-parts row_front old
    (after-then_none u16_front (λ _. u32_front) old c.in_ok-site.site first number
    (untaken u32_front first c.u32.new.self c.in_err-count.ensures)))

pub returns : goal.returns
returns c =
    let old = c.args.reader.now in
    let first = c.u16.new.self in
    let second = c.u32.new.self in
    let n = c.in_ok-site.site in
    let count = c.in_ok-count.count in
    let number = taken u16_front old first n c.in_ok-site.ensures in
    let read = taken u32_front first second count c.in_ok-count.ensures in (
      OfCheckpoint (ToldLine n count),
      made-read of-parts row_front old (n, count) second (after-then u16_front (λ _. u32_front) old n first count second number read),
      refl,
    )
