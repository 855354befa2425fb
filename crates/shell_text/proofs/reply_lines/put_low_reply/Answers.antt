use Rattle.std.proofs.Common.{◌≡◌, ◌∷◌, ◌++◌, ◌∙◌, ap, arith, refl, codes}
use Rattle.tardis_base.specs.declared.replies.Reply.TheVariants.{Opened, Begun, Merging, Value, Deleted, Absent, Done, Committed, Ended, States, Keys}
use Rattle.wire_item.specs.Fronts.{both, front_of_code}
use Rattle.wire_item.specs.Readings.{id_front, value_front, parents_front}
use Rattle.wire_talk.specs.ReplyReadings.{first_ids_front, first_keys_front, reply_rows}
use Rattle.text_words.specs.Words.{number_word, id_word, byte_word}
use Rattle.text_words.specs.Puts.{putting, spaced, texts}
use Rattle.shell_text.specs.ReplyLines.{reply_line}
use Rattle.shell_text.proofs.Arms.{arm, arm-plain, arm-lost}
use Rattle.shell_text.proofs.LineTexts.{line-map}
use Rattle.shell_text.proofs.reply_lines.put_low_reply.Goals as goal

pub returns-in-1 : goal.returns-in-1
returns-in-1 c =
    c.put_id.ensures ∙ arm reply_rows reply_line 1 c.args.code Opened id_front (λ x. codes "opened" ++ spaced (id_word x)) c.in-1.is refl (λ x. refl)
    (putting c.args.unread.now c.args.out.now)

pub returns-in-2 : goal.returns-in-2
returns-in-2 c =
    c.put_id-in-2.ensures ∙ arm reply_rows reply_line 2 c.args.code Begun id_front (λ x. codes "begun" ++ spaced (id_word x)) c.in-2.is refl (λ x. refl)
    (putting c.args.unread.now c.args.out.now)

pub returns-in-3 : goal.returns-in-3
returns-in-3 c =
    c.put_parents.ensures ∙ arm reply_rows reply_line 3 c.args.code Merging parents_front (texts (codes "merging") (λ x. spaced (id_word x))) c.in-3.is
    refl (λ xs. line-map id_word (codes "merging") xs) (putting c.args.unread.now c.args.out.now)

pub returns-in-4 : goal.returns-in-4
returns-in-4 c =
    c.put_id_and_value.ensures ∙ arm reply_rows reply_line 4 c.args.code (λ p. Value p.0 p.1) (both id_front value_front)
    (λ p. (codes "value" ++ spaced (id_word p.0)) ++ spaced (byte_word p.1)) c.in-4.is refl (λ p. refl) (putting c.args.unread.now c.args.out.now)

pub returns-in-5 : goal.returns-in-5
returns-in-5 c =
    c.put_id-in-5.ensures ∙ arm reply_rows reply_line 5 c.args.code Deleted id_front (λ x. codes "deleted" ++ spaced (id_word x)) c.in-5.is refl
    (λ x. refl) (putting c.args.unread.now c.args.out.now)

pub returns-in-6 : goal.returns-in-6
returns-in-6 c =
    c.say.ensures ∙ arm-plain reply_rows reply_line 6 c.args.code Absent (codes "absent") c.in-6.is refl refl (putting c.args.unread.now c.args.out.now)

pub returns-in-7 : goal.returns-in-7
returns-in-7 c =
    c.say-in-7.ensures ∙ arm-plain reply_rows reply_line 7 c.args.code Done (codes "done") c.in-7.is refl refl (putting c.args.unread.now c.args.out.now)

pub returns-in-8 : goal.returns-in-8
returns-in-8 c =
    c.put_committed.ensures ∙ arm reply_rows reply_line 8 c.args.code (λ p. Committed p.0 p.1) (both id_front parents_front)
    (λ p. (codes "committed" ++ spaced (id_word p.0)) ++ texts (codes " from") (λ x. spaced (id_word x)) p.1) c.in-8.is refl
    (λ p. ap (λ z. codes "committed " ++ (id_word p.0 ++ 32 ∷ z)) (line-map id_word (codes "from") p.1)) (putting c.args.unread.now c.args.out.now)

pub returns-in-9 : goal.returns-in-9
returns-in-9 c =
    c.put_id-in-9.ensures ∙ arm reply_rows reply_line 9 c.args.code Ended id_front (λ x. codes "ended" ++ spaced (id_word x)) c.in-9.is refl (λ x. refl)
    (putting c.args.unread.now c.args.out.now)

pub returns-in-10 : goal.returns-in-10
returns-in-10 c =
    c.put_states.ensures ∙ arm reply_rows reply_line 10 c.args.code (λ p. States p.0 p.1) first_ids_front
    (λ p. texts (codes "states" ++ spaced (number_word p.0)) (λ x. spaced (id_word x)) p.1) c.in-10.is refl
    (λ p. ap (λ z. codes "states " ++ z) (line-map id_word (number_word p.0) p.1)) (putting c.args.unread.now c.args.out.now)

pub returns-in-11 : goal.returns-in-11
returns-in-11 c =
    c.put_keys.ensures ∙ arm reply_rows reply_line 11 c.args.code (λ p. Keys p.0 p.1) first_keys_front
    (λ p. texts (codes "keys" ++ spaced (number_word p.0)) (λ k. spaced (byte_word k)) p.1) c.in-11.is refl
    (λ p. ap (λ z. codes "keys " ++ z) (line-map (λ k. byte_word k) (number_word p.0) p.1)) (putting c.args.unread.now c.args.out.now)

pub returns-in_default : goal.returns-in_default
returns-in_default c =
    let zero : c.args.code ≡ 0 = omega arith in
    ap (λ o. putting o c.args.out.now) c.lose.ensures
    ∙ arm-lost (front_of_code c.args.code reply_rows) reply_line
    (λ left. ap (λ k. front_of_code k reply_rows left) zero) (putting c.args.unread.now c.args.out.now)
