use Rattle.std.proofs.Common.{List, ℕ, ◌∙◌, ap, sym, arith}
use Rattle.std.specs.Option.{option_copied}
use Rattle.tardis_base.specs.Keys.{is_key_before, are_ascending_keys}
use Rattle.wire_item.specs.Readings.{key_front}
use Rattle.text_words.specs.Words.{byte_word}
use Rattle.text_words.specs.Puts.{putting, spaced}
use Rattle.wire_talk.proofs.ReplyFields.{keys-order}
use Rattle.text_words.proofs.Sequences.{none-lost}
use Rattle.text_words.proofs.Ordered.{ordered-start, ordered-lost, ordered-none, ordered-breaks, ordered-more, ordered-whole}
use Rattle.shell_text.proofs.list_lines.put_ascending_keys.Goals as goal

pub returns-then-is_lost : goal.returns-then-is_lost
returns-then-is_lost c =
    ordered-lost are_ascending_keys key_front c.args.count c.args.lead.now (λ k. spaced (byte_word k)) (putting c.args.unread.now c.args.out.now)
    c.say.new.self c.say.new.out c.say.ensures
    (none-lost c.say.new.self (sym c.is_lost.ensures ∙ c.if-is_lost.true))

pub loop-place-init : goal.loop-place-init
loop-place-init c =
    ordered-start (λ (k : List ℕ). k) is_key_before are_ascending_keys keys-order key_front c.args.lead.now (λ k. spaced (byte_word k))
    (putting c.args.unread.now c.args.out.now) c.say.new.self c.say.new.out c.say.ensures
    (sym c.is_lost.ensures ∙ c.if-is_lost.false)

pub returns-in-None : goal.returns-in-None
returns-in-None c =
    ordered-none (λ (k : List ℕ). k) are_ascending_keys key_front c.args.lead.now (λ k. spaced (byte_word k)) (putting c.args.unread.now c.args.out.now)
    c.loop-place._place c.args.count (option_copied c.loop-place.last)
    c.loop-place.unread c.key.new.self c.loop-place.out c.loop-place.invariant c.in-None.ensures (omega arith)

pub returns-then-not-key_follows : goal.returns-then-not-key_follows
returns-then-not-key_follows c =
    ap (λ o. putting o c.loop-place.out) c.lose.ensures
    ∙ ordered-breaks (λ (k : List ℕ). k) is_key_before are_ascending_keys keys-order key_front c.args.lead.now (λ k. spaced (byte_word k))
    (putting c.args.unread.now c.args.out.now) c.loop-place._place c.args.count (option_copied c.loop-place.last)
    c.loop-place.unread c.in-Some.key.now c.key.new.self c.loop-place.out c.loop-place.invariant c.in-Some.ensures (sym c.if-not-key_follows.ensures)
    (omega arith)

pub loop-place-preserved : goal.loop-place-preserved
loop-place-preserved c =
    ordered-more (λ (k : List ℕ). k) is_key_before are_ascending_keys keys-order key_front c.args.lead.now (λ k. spaced (byte_word k))
    (putting c.args.unread.now c.args.out.now) c.loop-place._place (option_copied c.loop-place.last)
    c.loop-place.unread c.in-Some.key.now c.key.new.self c.loop-place.out (putting c.say_bytes.new.self c.say_bytes.new.out) c.loop-place.invariant
    c.in-Some.ensures (sym c.if-not-key_follows.ensures) c.say_bytes.ensures

pub returns : goal.returns
returns c =
    ordered-whole (λ (k : List ℕ). k) are_ascending_keys key_front c.args.lead.now (λ k. spaced (byte_word k)) (putting c.args.unread.now c.args.out.now)
    c.loop-place._place c.args.count (option_copied c.loop-place.last)
    (putting c.loop-place.unread c.loop-place.out) c.loop-place.invariant (omega arith)
