use Rattle.std.proofs.Common.{◌≡◌, ℕ, ◌≤◌, List, ◌∷◌, ◌++◌, length, map, ◌∙◌, ap, ap₂, arith, refl, append_assoc, codes}
use Rattle.tardis_base.specs.declared.ids.StateId.{StateId}
use Rattle.tardis_base.specs.declared.replies.SiteLine.{SiteLine}
use Rattle.tardis_base.specs.declared.replies.Reply.TheVariants.{Raised, Tidied, Stat as Statistics, Shown, Applied, Known, Early, Closed, Refused, NoMemory}
use Rattle.wire_item.specs.Fronts.{both, front_of_code}
use Rattle.wire_item.specs.Readings.{u16_front, u32_front, u64_front, id_front}
use Rattle.wire_talk.specs.ReplyReadings.{children_front, path_front, refusal_front, reply_rows, site_lines_front}
use Rattle.wire_talk.proofs.Arms.{front-beyond}
use Rattle.text_words.specs.Words.{line, number_word, id_word}
use Rattle.text_words.specs.Puts.{putting, spaced, texts}
use Rattle.shell_text.specs.ReplyLines.{pair_word, refusal_words, reply_line, site_line_word}
use Rattle.shell_text.proofs.Arms.{arm, arm-plain, arm-lost}
use Rattle.shell_text.proofs.LineTexts.{line-map, line-append, line-refused, five}
use Rattle.shell_text.proofs.reply_lines.put_high_reply.Goals as goal

statistics-text : (p : ((((ℕ × ℕ) × ℕ) × ℕ) × List SiteLine)) →
    ((((codes "stat known" ++ spaced (number_word p.0.0.0.0)) ++ (codes " kept" ++ spaced (number_word p.0.0.0.1)))
    ++ (codes " leaves" ++ spaced (number_word p.0.0.1)))
    ++ (codes " sessions" ++ spaced (number_word p.0.1))) ++ texts (codes " sites" ++ spaced (number_word (length p.1))) (λ l. spaced (site_line_word l))
    p.1 ≡ reply_line (Statistics p.0.0.0.0 p.0.0.0.1 p.0.0.1 p.0.1 p.1)
statistics-text p =
    five (codes "stat known") (spaced (number_word p.0.0.0.0)) (codes " kept" ++ spaced (number_word p.0.0.0.1))
    (codes " leaves" ++ spaced (number_word p.0.0.1)) (codes " sessions" ++ spaced (number_word p.0.1))
    (texts (codes " sites" ++ spaced (number_word (length p.1))) (λ l. spaced (site_line_word l)) p.1)
    ∙ ap (λ z. codes "stat known " ++ (number_word p.0.0.0.0
    ++ (codes " kept "
    ++ (number_word p.0.0.0.1
    ++ (codes " leaves " ++ (number_word p.0.0.1 ++ (codes " sessions " ++ (number_word p.0.1 ++ (codes " sites " ++ z)))))))))
    (line-map site_line_word (number_word (length p.1)) p.1)

shown-text : (p : ((ℕ × List StateId) × List (StateId × ℕ))) →
    ((codes "shown" ++ spaced (number_word p.0.0)) ++ texts (codes " children" ++ spaced (number_word (length p.0.1))) (λ x. spaced (id_word x)) p.0.1)
    ++ texts (codes " path" ++ spaced (number_word (length p.1))) (λ q. spaced (pair_word q)) p.1 ≡ reply_line (Shown p.0.0 p.0.1 p.1)
shown-text p =
    append_assoc (codes "shown" ++ spaced (number_word p.0.0))
    (texts (codes " children" ++ spaced (number_word (length p.0.1))) (λ x. spaced (id_word x)) p.0.1)
    (texts (codes " path" ++ spaced (number_word (length p.1))) (λ q. spaced (pair_word q)) p.1)
    ∙ ap (λ z. codes "shown " ++ (number_word p.0.0 ++ 32 ∷ z))
    (ap₂ (λ y z. (codes "children " ++ y) ++ (codes " path " ++ z)) (line-map id_word (number_word (length p.0.1)) p.0.1)
    (line-map pair_word (number_word (length p.1)) p.1)
    ∙ line-append (codes "children") (number_word (length p.0.1) ∷ map id_word p.0.1) (codes "path") (number_word (length p.1) ∷ map pair_word p.1))

pub returns-in-12 : goal.returns-in-12
returns-in-12 c =
    c.put_id_and_u32.ensures ∙ arm reply_rows reply_line 12 c.args.code (λ p. Raised p.0 p.1) (both id_front u32_front)
    (λ p. (codes "raised" ++ spaced (id_word p.0)) ++ spaced (number_word p.1)) c.in-12.is refl (λ p. refl) (putting c.args.unread.now c.args.out.now)

pub returns-in-13 : goal.returns-in-13
returns-in-13 c =
    c.put_u32.ensures ∙ arm reply_rows reply_line 13 c.args.code Tidied u32_front (λ x. codes "tidied" ++ spaced (number_word x)) c.in-13.is refl
    (λ x. refl) (putting c.args.unread.now c.args.out.now)

pub returns-in-14 : goal.returns-in-14
returns-in-14 c =
    c.put_statistics.ensures ∙ arm reply_rows reply_line 14 c.args.code (λ p. Statistics p.0.0.0.0 p.0.0.0.1 p.0.0.1 p.0.1 p.1)
    (both (both (both (both u64_front u32_front) u32_front) u16_front) site_lines_front)
    (λ p. ((((codes "stat known" ++ spaced (number_word p.0.0.0.0)) ++ (codes " kept" ++ spaced (number_word p.0.0.0.1)))
    ++ (codes " leaves" ++ spaced (number_word p.0.0.1))) ++ (codes " sessions" ++ spaced (number_word p.0.1)))
    ++ texts (codes " sites" ++ spaced (number_word (length p.1))) (λ l. spaced (site_line_word l)) p.1) c.in-14.is refl statistics-text
    (putting c.args.unread.now c.args.out.now)

pub returns-in-15 : goal.returns-in-15
returns-in-15 c =
    c.put_shown.ensures ∙ arm reply_rows reply_line 15 c.args.code (λ p. Shown p.0.0 p.0.1 p.1) (both (both u64_front children_front) path_front)
    (λ p. ((codes "shown" ++ spaced (number_word p.0.0)) ++ texts (codes " children" ++ spaced (number_word (length p.0.1)))
    (λ x. spaced (id_word x)) p.0.1) ++ texts (codes " path" ++ spaced (number_word (length p.1))) (λ q. spaced (pair_word q)) p.1) c.in-15.is refl
    shown-text (putting c.args.unread.now c.args.out.now)

pub returns-in-17 : goal.returns-in-17
returns-in-17 c =
    c.say.ensures ∙ arm-plain reply_rows reply_line 17 c.args.code Applied (codes "applied") c.in-17.is refl refl (putting c.args.unread.now c.args.out.now)

pub returns-in-18 : goal.returns-in-18
returns-in-18 c =
    c.say-in-18.ensures ∙ arm-plain reply_rows reply_line 18 c.args.code Known (codes "known") c.in-18.is refl refl (putting c.args.unread.now c.args.out.now)

pub returns-in-19 : goal.returns-in-19
returns-in-19 c =
    c.put_u32-in-19.ensures ∙ arm reply_rows reply_line 19 c.args.code Early u32_front (λ x. codes "early" ++ spaced (number_word x)) c.in-19.is refl
    (λ x. refl) (putting c.args.unread.now c.args.out.now)

pub returns-in-20 : goal.returns-in-20
returns-in-20 c =
    c.say-in-20.ensures ∙ arm-plain reply_rows reply_line 20 c.args.code Closed (codes "closed") c.in-20.is refl refl (putting c.args.unread.now c.args.out.now)

pub returns-in-21 : goal.returns-in-21
returns-in-21 c =
    c.put_refused.ensures ∙ arm reply_rows reply_line 21 c.args.code Refused refusal_front (λ r. codes "refused" ++ spaced (line (refusal_words r)))
    c.in-21.is refl line-refused (putting c.args.unread.now c.args.out.now)

pub returns-in-22 : goal.returns-in-22
returns-in-22 c =
    c.say-in-22.ensures ∙ arm-plain reply_rows reply_line 22 c.args.code NoMemory (codes "nomemory") c.in-22.is refl refl
    (putting c.args.unread.now c.args.out.now)

pub returns-in_default : goal.returns-in_default
returns-in_default c =
    let other : c.args.code ≡ 16 → ⊥ = c.requires.other in
    let great : 23 ≤ c.args.code = omega (arith, other) in
    ap (λ o. putting o c.args.out.now) c.lose.ensures
    ∙ arm-lost (front_of_code c.args.code reply_rows) reply_line
    (λ left. front-beyond 23 reply_rows c.args.code left refl great) (putting c.args.unread.now c.args.out.now)
