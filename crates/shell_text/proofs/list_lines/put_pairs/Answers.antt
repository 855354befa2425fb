use Rattle.std.proofs.Common.{◌≡◌, suc, ◌+◌, ◌∙◌, ap, sym, arith}
use Rattle.wire_item.specs.Fronts.{both, times}
use Rattle.wire_item.specs.Readings.{id_front, u32_front}
use Rattle.text_words.specs.Puts.{putting, puts, spaced, texts}
use Rattle.shell_text.specs.ReplyLines.{pair_word}
use Rattle.text_words.proofs.Sequences.{times-start, times-put, times-lost, none-lost}
use Rattle.shell_text.proofs.list_lines.put_pairs.Goals as goal

pub loop-place-init : goal.loop-place-init
loop-place-init c = c.say.ensures ∙ times-start (both id_front u32_front) c.args.lead.now (λ p. spaced (pair_word p)) (putting c.args.unread.now c.args.out.now)

pub returns-then-is_lost : goal.returns-then-is_lost
returns-then-is_lost c =
    let none = ap (λ o. putting o c.loop-place.out) (none-lost c.loop-place.unread (sym c.is_lost.ensures ∙ c.if-is_lost.true)) in
    none
    ∙ times-lost (both id_front u32_front) c.args.lead.now (λ p. spaced (pair_word p)) c.loop-place._place c.args.count
    (putting c.args.unread.now c.args.out.now) (omega arith) (sym c.loop-place.invariant ∙ none)

pub loop-place-preserved : goal.loop-place-preserved
loop-place-preserved c =
    let next : suc c.loop-place._place ≡ c.loop-place._place + 1 = omega arith in
    let s = putting c.args.unread.now c.args.out.now in
    c.put_pair.ensures ∙ ap (puts (both id_front u32_front) (λ p. spaced (pair_word p))) c.loop-place.invariant
    ∙ times-put (both id_front u32_front) c.args.lead.now (λ p. spaced (pair_word p)) c.loop-place._place s
    ∙ ap (λ k. puts (times (both id_front u32_front) k) (texts c.args.lead.now (λ p. spaced (pair_word p))) s) next

pub returns : goal.returns
returns c =
    let all : c.loop-place._place ≡ c.args.count = omega arith in
    c.loop-place.invariant ∙ ap (λ k. puts (times (both id_front u32_front) k) (texts c.args.lead.now (λ p. spaced (pair_word p)))
    (putting c.args.unread.now c.args.out.now)) all
