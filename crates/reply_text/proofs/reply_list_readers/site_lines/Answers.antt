use Rattle.std.proofs.Common.{sym, ◌∙◌, ap, arith, ◌≡◌, Some}
use Rattle.wire_item.specs.Fronts.{times}
use Rattle.wire_item.proofs.Lists.{times-more, times-none}
use Rattle.shell_text.specs.ReplyTexts.{site_line_text}
use Rattle.reply_text.proofs.ReplyReads.{site-lines-number}
use Rattle.reply_text.proofs.reply_list_readers.site_lines.Goals as goal

pub loop-place-init : goal.loop-place-init
loop-place-init c = ap (λ z. Some (z, c.args.words.now)) (sym c.new-lines.ensures) ∙ ap (λ z. Some (c.new-lines.result, z)) (sym c.again-left.ensures)

pub returns-in-None : goal.returns-in-None
returns-in-None c =
    sym (times-none site_line_text c.loop-place._place c.args.count c.args.words.now c.loop-place.lines c.loop-place.left c.loop-place.invariant
    (sym c.in-None.ensures) (omega arith))

pub push-requires : goal.push-requires
push-requires c =
    let number = site-lines-number c.loop-place._place c.args.words.now c.loop-place.lines c.loop-place.left c.loop-place.invariant in
    omega (arith, number, c.requires)

pub loop-place-preserved : goal.loop-place-preserved
loop-place-preserved c =
    times-more site_line_text c.loop-place._place c.args.words.now c.loop-place.lines c.loop-place.left c.in-Some.line c.in-Some.next
    c.loop-place.invariant (sym c.in-Some.ensures)
    ∙ ap (λ lines. Some (lines, c.in-Some.next)) (sym c.push.ensures)

pub returns : goal.returns
returns c =
    let same : c.loop-place._place ≡ c.args.count = omega arith in
    sym (ap (λ k. times site_line_text k c.args.words.now) (sym same) ∙ c.loop-place.invariant)
