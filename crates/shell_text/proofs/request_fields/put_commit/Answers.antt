use Rattle.std.proofs.Common.{◌++◌, ◌∙◌, ap, sym, codes}
use Rattle.wire_item.specs.Readings.{u8_front, u16_front}
use Rattle.wire_talk.specs.Valid.{is_commit}
use Rattle.text_words.specs.Puts.{putting, says, spaced}
use Rattle.text_words.proofs.Putting.{says-twice}
use Rattle.shell_text.specs.RequestLines.{flags_word}
use Rattle.shell_text.proofs.Arms.{two-said, two-refused, two-lost, one-lost}
use Rattle.shell_text.proofs.request_fields.put_commit.Goals as goal

pub returns-in-None : goal.returns-in-None
returns-in-None c = one-lost u8_front u16_front (λ p. is_commit (record { 0 = p.0 }) p.1)
    (λ p. codes " commit" ++ spaced (flags_word (record { 0 = p.0 }) p.1)) c.args.unread.now c.u8.new.self c.args.out.now c.in-None.ensures

pub returns-in-None-u16 : goal.returns-in-None-u16
returns-in-None-u16 c = two-lost u8_front u16_front (λ p. is_commit (record { 0 = p.0 }) p.1)
    (λ p. codes " commit" ++ spaced (flags_word (record { 0 = p.0 }) p.1)) c.args.unread.now c.in-Some.flags c.u8.new.self c.u16.new.self c.args.out.now
    c.in-Some.ensures c.in-None-u16.ensures

pub returns-then-is_commit : goal.returns-then-is_commit
returns-then-is_commit c =
    c.say_flags.ensures ∙ ap (says (spaced (flags_word (record { 0 = c.in-Some.flags }) c.in-Some-u16.k))) c.say.ensures
    ∙ says-twice (codes " commit") (spaced (flags_word (record { 0 = c.in-Some.flags }) c.in-Some-u16.k)) (putting c.u16.new.self c.args.out.now)
    ∙ two-said u8_front u16_front (λ p. is_commit (record { 0 = p.0 }) p.1) (λ p. codes " commit" ++ spaced (flags_word (record { 0 = p.0 }) p.1))
    c.args.unread.now c.in-Some.flags c.u8.new.self c.in-Some-u16.k c.u16.new.self c.args.out.now c.in-Some.ensures c.in-Some-u16.ensures
    (sym c.if-is_commit.ensures)

pub returns-else-is_commit : goal.returns-else-is_commit
returns-else-is_commit c =
    ap (λ o. putting o c.args.out.now) c.lose.ensures
    ∙ two-refused u8_front u16_front (λ p. is_commit (record { 0 = p.0 }) p.1) (λ p. codes " commit" ++ spaced (flags_word (record { 0 = p.0 }) p.1))
    c.args.unread.now c.in-Some.flags c.u8.new.self c.in-Some-u16.k c.u16.new.self c.args.out.now c.in-Some.ensures c.in-Some-u16.ensures
    (sym c.if-is_commit.ensures)
