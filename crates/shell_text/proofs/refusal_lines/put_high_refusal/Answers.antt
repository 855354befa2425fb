use Rattle.std.proofs.Common.{◌≡◌, ℕ, ◌≤◌, List, ◌∷◌, ◌++◌, ◌∙◌, ap, arith, refl, append_assoc, codes}
use Rattle.tardis_base.specs.declared.replies.Refusal.TheVariants.{Branches, CeilingBack, FloorBack, Held, Collected, Full, PathFull, SeqEnd, BadSite}
use Rattle.tardis_base.specs.declared.replies.Refusal.TheVariants.{ClosedParent, OwnItem, TrailFull, Unsupported, NoSuchItem, BagFull}
use Rattle.wire_item.specs.Fronts.{both, front_of_code, only_if}
use Rattle.wire_item.specs.Readings.{u8_front, u16_front, u32_front, u64_front, id_front}
use Rattle.wire_talk.specs.ReplyReadings.{refusal_rows}
use Rattle.wire_talk.specs.Valid.{is_constraint}
use Rattle.wire_talk.proofs.Arms.{front-beyond}
use Rattle.text_words.specs.Words.{line, number_word, id_word}
use Rattle.text_words.specs.Puts.{putting, spaced}
use Rattle.shell_text.specs.ReplyLines.{constraint_word, refusal_words}
use Rattle.shell_text.proofs.Arms.{arm, arm-plain, arm-lost}
use Rattle.shell_text.proofs.refusal_lines.put_high_refusal.Goals as goal

branches-text : (c x n : List ℕ) → ((codes " branches" ++ spaced c) ++ spaced x) ++ spaced n ≡ codes " branches" ++ spaced (c ++ 32 ∷ (x ++ 32 ∷ n))
branches-text c x n = ap (λ z. codes " branches " ++ z) (append_assoc c (32 ∷ x) (32 ∷ n))

pub returns-in-15 : goal.returns-in-15
returns-in-15 c =
    c.put_branches.ensures ∙ arm refusal_rows (λ r. spaced (line (refusal_words r))) 15 c.args.code (λ p. Branches p.0.0 p.0.1 p.1)
    (both (both (only_if is_constraint u8_front) id_front) u32_front)
    (λ p. ((codes " branches" ++ spaced (constraint_word p.0.0)) ++ spaced (id_word p.0.1)) ++ spaced (number_word p.1)) c.in-15.is refl
    (λ p. branches-text (constraint_word p.0.0) (id_word p.0.1) (number_word p.1)) (putting c.args.unread.now c.args.out.now)

pub returns-in-16 : goal.returns-in-16
returns-in-16 c =
    c.put_id.ensures ∙ arm refusal_rows (λ r. spaced (line (refusal_words r))) 16 c.args.code CeilingBack id_front
    (λ x. codes " ceilingback" ++ spaced (id_word x)) c.in-16.is refl (λ x. refl) (putting c.args.unread.now c.args.out.now)

pub returns-in-17 : goal.returns-in-17
returns-in-17 c =
    c.put_id-in-17.ensures ∙ arm refusal_rows (λ r. spaced (line (refusal_words r))) 17 c.args.code FloorBack id_front
    (λ x. codes " floorback" ++ spaced (id_word x)) c.in-17.is refl (λ x. refl) (putting c.args.unread.now c.args.out.now)

pub returns-in-18 : goal.returns-in-18
returns-in-18 c =
    c.put_u16_and_id.ensures ∙ arm refusal_rows (λ r. spaced (line (refusal_words r))) 18 c.args.code (λ p. Held p.0 p.1) (both u16_front id_front)
    (λ p. (codes " held" ++ spaced (number_word p.0)) ++ spaced (id_word p.1)) c.in-18.is refl (λ p. refl) (putting c.args.unread.now c.args.out.now)

pub returns-in-19 : goal.returns-in-19
returns-in-19 c =
    c.put_id-in-19.ensures ∙ arm refusal_rows (λ r. spaced (line (refusal_words r))) 19 c.args.code Collected id_front
    (λ x. codes " collected" ++ spaced (id_word x)) c.in-19.is refl (λ x. refl) (putting c.args.unread.now c.args.out.now)

pub returns-in-20 : goal.returns-in-20
returns-in-20 c =
    c.put_u32.ensures ∙ arm refusal_rows (λ r. spaced (line (refusal_words r))) 20 c.args.code Full u32_front
    (λ x. codes " full" ++ spaced (number_word x)) c.in-20.is refl (λ x. refl) (putting c.args.unread.now c.args.out.now)

pub returns-in-21 : goal.returns-in-21
returns-in-21 c =
    c.put_id_and_u32.ensures ∙ arm refusal_rows (λ r. spaced (line (refusal_words r))) 21 c.args.code (λ p. PathFull p.0 p.1) (both id_front u32_front)
    (λ p. (codes " pathfull" ++ spaced (id_word p.0)) ++ spaced (number_word p.1)) c.in-21.is refl (λ p. refl) (putting c.args.unread.now c.args.out.now)

pub returns-in-22 : goal.returns-in-22
returns-in-22 c =
    c.say.ensures ∙ arm-plain refusal_rows (λ r. spaced (line (refusal_words r))) 22 c.args.code SeqEnd (codes " seqend") c.in-22.is refl refl
    (putting c.args.unread.now c.args.out.now)

pub returns-in-23 : goal.returns-in-23
returns-in-23 c =
    c.put_u16.ensures ∙ arm refusal_rows (λ r. spaced (line (refusal_words r))) 23 c.args.code BadSite u16_front
    (λ x. codes " badsite" ++ spaced (number_word x)) c.in-23.is refl (λ x. refl) (putting c.args.unread.now c.args.out.now)

pub returns-in-24 : goal.returns-in-24
returns-in-24 c =
    c.put_id-in-24.ensures ∙ arm refusal_rows (λ r. spaced (line (refusal_words r))) 24 c.args.code ClosedParent id_front
    (λ x. codes " closedparent" ++ spaced (id_word x)) c.in-24.is refl (λ x. refl) (putting c.args.unread.now c.args.out.now)

pub returns-in-25 : goal.returns-in-25
returns-in-25 c =
    c.put_u16_and_u32.ensures ∙ arm refusal_rows (λ r. spaced (line (refusal_words r))) 25 c.args.code (λ p. OwnItem p.0 p.1) (both u16_front u32_front)
    (λ p. (codes " ownitem" ++ spaced (number_word p.0)) ++ spaced (number_word p.1)) c.in-25.is refl (λ p. refl) (putting c.args.unread.now c.args.out.now)

pub returns-in-26 : goal.returns-in-26
returns-in-26 c =
    c.put_u64.ensures ∙ arm refusal_rows (λ r. spaced (line (refusal_words r))) 26 c.args.code TrailFull u64_front
    (λ x. codes " trailfull" ++ spaced (number_word x)) c.in-26.is refl (λ x. refl) (putting c.args.unread.now c.args.out.now)

pub returns-in-27 : goal.returns-in-27
returns-in-27 c =
    c.put_u8.ensures ∙ arm refusal_rows (λ r. spaced (line (refusal_words r))) 27 c.args.code Unsupported u8_front
    (λ x. codes " unsupported" ++ spaced (number_word x)) c.in-27.is refl (λ x. refl) (putting c.args.unread.now c.args.out.now)

pub returns-in-28 : goal.returns-in-28
returns-in-28 c =
    c.put_u32-in-28.ensures ∙ arm refusal_rows (λ r. spaced (line (refusal_words r))) 28 c.args.code NoSuchItem u32_front
    (λ x. codes " nosuchitem" ++ spaced (number_word x)) c.in-28.is refl (λ x. refl) (putting c.args.unread.now c.args.out.now)

pub returns-in-29 : goal.returns-in-29
returns-in-29 c =
    c.put_u32-in-29.ensures ∙ arm refusal_rows (λ r. spaced (line (refusal_words r))) 29 c.args.code BagFull u32_front
    (λ x. codes " bagfull" ++ spaced (number_word x)) c.in-29.is refl (λ x. refl) (putting c.args.unread.now c.args.out.now)

pub returns-in_default : goal.returns-in_default
returns-in_default c =
    let great : 30 ≤ c.args.code = omega arith in
    ap (λ o. putting o c.args.out.now) c.lose.ensures
    ∙ arm-lost (front_of_code c.args.code refusal_rows) (λ r. spaced (line (refusal_words r)))
    (λ left. front-beyond 30 refusal_rows c.args.code left refl great) (putting c.args.unread.now c.args.out.now)
