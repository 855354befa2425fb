use Rattle.std.proofs.Common.{◌≡◌, ℕ, ◌≤◌, ◌+◌, Bool, true, false, ◌==◌, List, [], ◌∷◌, ◌++◌, length, map, nat_le, Some, None, ◌∙◌, ap, sym, subst, arith}
use Rattle.std.proofs.Common.{refl, append-nil, append_assoc, codes}
use Rattle.wire_talk.specs.Valid.{is_after}
use Rattle.wire_talk.proofs.RequestFields.{after-tested}
use Rattle.text_words.specs.Words.{line, byte_word}
use Rattle.text_words.specs.Puts.{putting, says, spaced}
use Rattle.text_words.proofs.Putting.{says-twice}
use Rattle.shell_text.specs.RequestLines.{after_words}
use Rattle.shell_text.proofs.Arms.{bytes-said, bytes-refused, bytes-lost, count-lost}
use Rattle.shell_text.proofs.request_fields.put_conflicts.Goals as goal

after-text : (b : ℕ) (bs : List ℕ) → codes " conflicts" ++ spaced (byte_word (b ∷ bs)) ≡ spaced (line (codes "conflicts" ∷ after_words (b ∷ bs)))
after-text b bs = refl

some-text : (after : List ℕ) → (length after == 0) ≡ false → codes " conflicts" ++ spaced (byte_word after)
    ≡ spaced (line (codes "conflicts" ∷ after_words after))
some-text [] h = absurd (cc)
some-text (b ∷ bs) h = after-text b bs

none-text : (after : List ℕ) → (length after == 0) ≡ true → codes " conflicts" ≡ spaced (line (codes "conflicts" ∷ after_words after))
none-text [] h = refl
none-text (b ∷ bs) h = absurd (omega (arith, Rattle.std.proofs.Common.eqb-true (length (b ∷ bs)) 0 h))

pub returns-in-None : goal.returns-in-None
returns-in-None c = count-lost is_after (λ after. spaced (line (codes "conflicts" ∷ after_words after))) c.args.unread.now c.u8.new.self c.args.out.now
    c.in-None.ensures

pub returns-in-None-counted_bytes : goal.returns-in-None-counted_bytes
returns-in-None-counted_bytes c = bytes-lost is_after (λ after. spaced (line (codes "conflicts" ∷ after_words after))) c.args.unread.now c.in-Some.count
    c.u8.new.self c.counted_bytes.new.self c.args.out.now c.in-Some.ensures c.in-None-counted_bytes.ensures

pub returns-then-not-is_after_length : goal.returns-then-not-is_after_length
returns-then-not-is_after_length c =
    ap (λ o. putting o c.args.out.now) c.lose.ensures
    ∙ bytes-refused is_after (λ after. spaced (line (codes "conflicts" ∷ after_words after))) c.args.unread.now c.in-Some.count c.u8.new.self
    c.in-Some-counted_bytes.after.now c.counted_bytes.new.self c.args.out.now c.in-Some.ensures c.in-Some-counted_bytes.ensures
    (λ left rest e. after-tested c.in-Some.count left c.in-Some-counted_bytes.after.now rest e ∙ sym c.if-not-is_after_length.ensures)

pub returns-then-not-is_empty : goal.returns-then-not-is_empty
returns-then-not-is_empty c =
    c.say_bytes.ensures ∙ ap (says (spaced (byte_word c.in-Some-counted_bytes.after.now))) c.say.ensures
    ∙ says-twice (codes " conflicts") (spaced (byte_word c.in-Some-counted_bytes.after.now)) (putting c.counted_bytes.new.self c.args.out.now)
    ∙ ap (λ z. says z (putting c.counted_bytes.new.self c.args.out.now)) (some-text c.in-Some-counted_bytes.after.now (sym c.if-not-is_empty.ensures))
    ∙ bytes-said is_after (λ after. spaced (line (codes "conflicts" ∷ after_words after))) c.args.unread.now c.in-Some.count c.u8.new.self
    c.in-Some-counted_bytes.after.now c.counted_bytes.new.self c.args.out.now c.in-Some.ensures c.in-Some-counted_bytes.ensures
    (λ left rest e. after-tested c.in-Some.count left c.in-Some-counted_bytes.after.now rest e ∙ sym c.if-not-is_after_length.ensures)

pub returns-else-not-is_empty : goal.returns-else-not-is_empty
returns-else-not-is_empty c =
    c.say.ensures
    ∙ ap (λ z. says z (putting c.counted_bytes.new.self c.args.out.now)) (none-text c.in-Some-counted_bytes.after.now (sym c.if-not-is_empty.ensures))
    ∙ bytes-said is_after (λ after. spaced (line (codes "conflicts" ∷ after_words after))) c.args.unread.now c.in-Some.count c.u8.new.self
    c.in-Some-counted_bytes.after.now c.counted_bytes.new.self c.args.out.now c.in-Some.ensures c.in-Some-counted_bytes.ensures
    (λ left rest e. after-tested c.in-Some.count left c.in-Some-counted_bytes.after.now rest e ∙ sym c.if-not-is_after_length.ensures)
