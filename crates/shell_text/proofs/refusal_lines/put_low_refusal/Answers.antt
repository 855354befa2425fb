use Rattle.std.proofs.Common.{◌≡◌, ◌++◌, ◌∙◌, ap, arith, refl, codes}
use Rattle.tardis_base.specs.declared.replies.Refusal.TheVariants.{Malformed, NotOpen, AlreadyOpen, SessionsFull, TxnOpen, NoTxn, WrongMode, TooMany, Unknown}
use Rattle.tardis_base.specs.declared.replies.Refusal.TheVariants.{Below, Comparable, NotRead, ConflictKey, OpenConflict}
use Rattle.wire_item.specs.Fronts.{both, front_of_code}
use Rattle.wire_item.specs.Readings.{u16_front, u32_front, id_front, key_front}
use Rattle.wire_talk.specs.ReplyReadings.{excess_front, refusal_rows}
use Rattle.text_words.specs.Words.{line, number_word, id_word, byte_word}
use Rattle.text_words.specs.Puts.{putting, spaced}
use Rattle.shell_text.specs.ReplyLines.{excess_word, refusal_words}
use Rattle.shell_text.proofs.Arms.{arm, arm-plain, arm-lost}
use Rattle.shell_text.proofs.refusal_lines.put_low_refusal.Goals as goal

pub returns-in-1 : goal.returns-in-1
returns-in-1 c =
    c.say.ensures ∙ arm-plain refusal_rows (λ r. spaced (line (refusal_words r))) 1 c.args.code Malformed (codes " malformed") c.in-1.is refl refl
    (putting c.args.unread.now c.args.out.now)

pub returns-in-2 : goal.returns-in-2
returns-in-2 c =
    c.say-in-2.ensures ∙ arm-plain refusal_rows (λ r. spaced (line (refusal_words r))) 2 c.args.code NotOpen (codes " notopen") c.in-2.is refl refl
    (putting c.args.unread.now c.args.out.now)

pub returns-in-3 : goal.returns-in-3
returns-in-3 c =
    c.say-in-3.ensures ∙ arm-plain refusal_rows (λ r. spaced (line (refusal_words r))) 3 c.args.code AlreadyOpen (codes " alreadyopen") c.in-3.is refl refl
    (putting c.args.unread.now c.args.out.now)

pub returns-in-4 : goal.returns-in-4
returns-in-4 c =
    c.put_u16.ensures ∙ arm refusal_rows (λ r. spaced (line (refusal_words r))) 4 c.args.code SessionsFull u16_front
    (λ x. codes " sessionsfull" ++ spaced (number_word x)) c.in-4.is refl (λ x. refl) (putting c.args.unread.now c.args.out.now)

pub returns-in-5 : goal.returns-in-5
returns-in-5 c =
    c.say-in-5.ensures ∙ arm-plain refusal_rows (λ r. spaced (line (refusal_words r))) 5 c.args.code TxnOpen (codes " txnopen") c.in-5.is refl refl
    (putting c.args.unread.now c.args.out.now)

pub returns-in-6 : goal.returns-in-6
returns-in-6 c =
    c.say-in-6.ensures ∙ arm-plain refusal_rows (λ r. spaced (line (refusal_words r))) 6 c.args.code NoTxn (codes " notxn") c.in-6.is refl refl
    (putting c.args.unread.now c.args.out.now)

pub returns-in-7 : goal.returns-in-7
returns-in-7 c =
    c.say-in-7.ensures ∙ arm-plain refusal_rows (λ r. spaced (line (refusal_words r))) 7 c.args.code WrongMode (codes " wrongmode") c.in-7.is refl refl
    (putting c.args.unread.now c.args.out.now)

pub returns-in-8 : goal.returns-in-8
returns-in-8 c =
    c.put_too_many.ensures ∙ arm refusal_rows (λ r. spaced (line (refusal_words r))) 8 c.args.code (λ p. TooMany p.0 p.1)
    (both excess_front u32_front) (λ p. (codes " toomany" ++ spaced (excess_word p.0)) ++ spaced (number_word p.1)) c.in-8.is refl
    (λ p. refl) (putting c.args.unread.now c.args.out.now)

pub returns-in-9 : goal.returns-in-9
returns-in-9 c =
    c.put_id.ensures ∙ arm refusal_rows (λ r. spaced (line (refusal_words r))) 9 c.args.code Unknown id_front (λ x. codes " unknown" ++ spaced (id_word x))
    c.in-9.is refl (λ x. refl) (putting c.args.unread.now c.args.out.now)

pub returns-in-10 : goal.returns-in-10
returns-in-10 c =
    c.put_two_ids.ensures ∙ arm refusal_rows (λ r. spaced (line (refusal_words r))) 10 c.args.code (λ p. Below p.0 p.1) (both id_front id_front)
    (λ p. (codes " below" ++ spaced (id_word p.0)) ++ spaced (id_word p.1)) c.in-10.is refl (λ p. refl) (putting c.args.unread.now c.args.out.now)

pub returns-in-11 : goal.returns-in-11
returns-in-11 c =
    c.put_two_ids-in-11.ensures ∙ arm refusal_rows (λ r. spaced (line (refusal_words r))) 11 c.args.code (λ p. Comparable p.0 p.1) (both id_front id_front)
    (λ p. (codes " comparable" ++ spaced (id_word p.0)) ++ spaced (id_word p.1)) c.in-11.is refl (λ p. refl) (putting c.args.unread.now c.args.out.now)

pub returns-in-12 : goal.returns-in-12
returns-in-12 c =
    c.put_id-in-12.ensures ∙ arm refusal_rows (λ r. spaced (line (refusal_words r))) 12 c.args.code NotRead id_front
    (λ x. codes " notread" ++ spaced (id_word x)) c.in-12.is refl (λ x. refl) (putting c.args.unread.now c.args.out.now)

pub returns-in-13 : goal.returns-in-13
returns-in-13 c =
    c.put_key.ensures ∙ arm refusal_rows (λ r. spaced (line (refusal_words r))) 13 c.args.code ConflictKey key_front
    (λ x. codes " conflictkey" ++ spaced (byte_word x)) c.in-13.is refl (λ x. refl) (putting c.args.unread.now c.args.out.now)

pub returns-in-14 : goal.returns-in-14
returns-in-14 c =
    c.put_key-in-14.ensures ∙ arm refusal_rows (λ r. spaced (line (refusal_words r))) 14 c.args.code OpenConflict key_front
    (λ x. codes " openconflict" ++ spaced (byte_word x)) c.in-14.is refl (λ x. refl) (putting c.args.unread.now c.args.out.now)

pub returns-in_default : goal.returns-in_default
returns-in_default c =
    let zero : c.args.code ≡ 0 = omega arith in
    ap (λ o. putting o c.args.out.now) c.lose.ensures
    ∙ arm-lost (front_of_code c.args.code refusal_rows) (λ r. spaced (line (refusal_words r)))
    (λ left. ap (λ k. front_of_code k refusal_rows left) zero) (putting c.args.unread.now c.args.out.now)
