use Rattle.std.proofs.Common.{sym, ◌∙◌, ap, arith, ◌≡◌, Some}
use Rattle.wire_item.specs.Fronts.{times}
use Rattle.wire_item.proofs.Lists.{times-more, times-none}
use Rattle.wire_item.proofs.Takings.{taken, untaken, takes, takes-none}
use Rattle.wire_talk.specs.ReplyReadings.{site_line_front}
use Rattle.wire_talk.proofs.ReplyFields.{site_lines-number}
use Rattle.talk_bytes.proofs.list_readers.site_lines.Goals as goal

pub returns-in_err-line : goal.returns-in_err-line
returns-in_err-line c =
    let none = untaken site_line_front c.loop-place.reader c.site_line.new.reader c.in_err-line.ensures in
    takes-none (times site_line_front c.args.count) c.args.reader.now c.site_line.new.reader c.from_residual.result c.from_residual.ensures
    (times-none site_line_front c.loop-place._place c.args.count c.args.reader.now c.loop-place.lines c.loop-place.reader c.loop-place.invariant none
    (omega arith))

pub push-requires : goal.push-requires
push-requires c =
    let number = site_lines-number c.loop-place._place c.args.reader.now c.loop-place.lines c.loop-place.reader c.loop-place.invariant in
    omega (arith, number, c.requires)

pub loop-place-preserved : goal.loop-place-preserved
loop-place-preserved c =
    let read = taken site_line_front c.loop-place.reader c.site_line.new.reader c.in_ok-line.line c.in_ok-line.ensures in
    times-more site_line_front c.loop-place._place c.args.reader.now c.loop-place.lines c.loop-place.reader c.in_ok-line.line c.site_line.new.reader
    c.loop-place.invariant read
    ∙ ap (λ lines. Some (lines, c.site_line.new.reader)) (sym c.push.ensures)

pub returns : goal.returns
returns c =
    let same : c.loop-place._place ≡ c.args.count = omega arith in
    takes (times site_line_front c.args.count) c.args.reader.now c.loop-place.reader c.loop-place.lines
    (ap (λ k. times site_line_front k c.args.reader.now) (sym same) ∙ c.loop-place.invariant)
