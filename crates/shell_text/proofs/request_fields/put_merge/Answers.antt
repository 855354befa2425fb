use Rattle.std.proofs.Common.{◌≡◌, ℕ, List, [], ◌∷◌, length, Some, ◌∙◌, ap, sym, subst, codes}
use Rattle.tardis_base.specs.declared.ids.StateId.{StateId}
use Rattle.wire_item.specs.Fronts.{after, counted, times}
use Rattle.wire_item.specs.Readings.{u8_front, id_front}
use Rattle.wire_item.proofs.Takings.{made-none, after-none}
use Rattle.wire_talk.specs.RequestReadings.{merge_of, merge_of_front}
use Rattle.text_words.specs.Words.{line, id_word}
use Rattle.text_words.specs.Puts.{putting, puts, spaced, texts, TakesNext}
use Rattle.text_words.proofs.Putting.{puts-made}
use Rattle.text_words.proofs.Sequences.{counted-put, says-nothing, next-none, puts-read-same}
use Rattle.shell_text.specs.RequestLines.{merge_words}
use Rattle.shell_text.proofs.LineTexts.{line-map, times-length}
use Rattle.shell_text.proofs.request_fields.put_merge.Goals as goal

merge-text : (n : ℕ) (xs : List StateId) → length xs ≡ n → (n ≡ 0 → ⊥) → texts (codes " merge") (λ x. spaced (id_word x)) xs
    ≡ spaced (line (codes "merge" ∷ merge_words (merge_of xs)))
merge-text n [] e other = absurd (other (sym e))
merge-text n (x ∷ xs) e other = ap (λ z. 32 ∷ z) (line-map id_word (codes "merge") (x ∷ xs))

pub returns-in-None : goal.returns-in-None
returns-in-None c =
    next-none u8_front merge_of_front (λ of. spaced (line (codes "merge" ∷ merge_words of)))
    (λ left e. made-none merge_of (counted u8_front (times id_front)) left
    (made-none (λ read. read.1) (after u8_front (times id_front)) left (after-none u8_front (times id_front) left e)))
    c.args.unread.now c.u8.new.self c.args.out.now c.in-None.ensures

pub returns-then-count-eq0 : goal.returns-then-count-eq0
returns-then-count-eq0 c =
    c.say.ensures ∙ says-nothing [] (λ xs. spaced (line (codes "merge" ∷ merge_words (merge_of xs)))) (putting c.u8.new.self c.args.out.now)
    ∙ counted-put u8_front id_front (λ xs. spaced (line (codes "merge" ∷ merge_words (merge_of xs)))) c.args.unread.now 0 c.u8.new.self c.args.out.now
    (subst (λ k. TakesNext u8_front c.args.unread.now (Some k) c.u8.new.self) c.if-count-eq0.true c.in-Some.ensures)
    ∙ puts-made merge_of (counted u8_front (times id_front)) (λ of. spaced (line (codes "merge" ∷ merge_words of))) (putting c.args.unread.now c.args.out.now)

pub returns-else-count-eq0 : goal.returns-else-count-eq0
returns-else-count-eq0 c =
    let other = c.if-count-eq0.false in
    c.put_ids.ensures
    ∙ ap (λ n. puts (times id_front n) (texts (codes " merge") (λ x. spaced (id_word x))) (putting c.u8.new.self c.args.out.now)) c.from.ensures
    ∙ puts-read-same (times id_front c.in-Some.count) (texts (codes " merge") (λ x. spaced (id_word x)))
    (λ xs. spaced (line (codes "merge" ∷ merge_words (merge_of xs))))
    (λ left xs rest e. merge-text c.in-Some.count xs (times-length id_front c.in-Some.count left xs rest e) other) (putting c.u8.new.self c.args.out.now)
    ∙ counted-put u8_front id_front (λ xs. spaced (line (codes "merge" ∷ merge_words (merge_of xs)))) c.args.unread.now c.in-Some.count c.u8.new.self
    c.args.out.now c.in-Some.ensures
    ∙ puts-made merge_of (counted u8_front (times id_front)) (λ of. spaced (line (codes "merge" ∷ merge_words of))) (putting c.args.unread.now c.args.out.now)
