use Rattle.std.proofs.Common.{◌∷◌, ◌++◌, map, ◌∙◌, ap, arith, refl, codes}
use Rattle.tardis_base.specs.declared.requests.Request.TheVariants.{Ceiling, Raise, RaiseAuto, Tidy, Stat, Show, Leaves, Pull, Close, Settle}
use Rattle.wire_item.specs.Fronts.{front_of_code}
use Rattle.wire_item.specs.Readings.{u16_front, id_front}
use Rattle.wire_talk.specs.RequestReadings.{counts_front, request_rows}
use Rattle.wire_talk.proofs.RequestFields.{rows-other}
use Rattle.text_words.specs.Words.{line, number_word, id_word}
use Rattle.text_words.specs.Puts.{putting, spaced}
use Rattle.shell_text.specs.RequestLines.{request_words}
use Rattle.shell_text.proofs.Arms.{arm, arm-plain, arm-lost}
use Rattle.shell_text.proofs.request_lines.put_high_request.Goals as goal

pub returns-in-12 : goal.returns-in-12
returns-in-12 c =
    c.put_id.ensures ∙ arm request_rows (λ r. spaced (line (request_words r))) 12 c.args.code Ceiling id_front
    (λ x. codes " ceiling" ++ spaced (id_word x)) c.in-12.is refl (λ x. refl) (putting c.args.unread.now c.args.out.now)

pub returns-in-13 : goal.returns-in-13
returns-in-13 c =
    c.put_id-in-13.ensures ∙ arm request_rows (λ r. spaced (line (request_words r))) 13 c.args.code Raise id_front
    (λ x. codes " raise" ++ spaced (id_word x)) c.in-13.is refl (λ x. refl) (putting c.args.unread.now c.args.out.now)

pub returns-in-14 : goal.returns-in-14
returns-in-14 c =
    c.say.ensures ∙ arm-plain request_rows (λ r. spaced (line (request_words r))) 14 c.args.code RaiseAuto (codes " raise auto") c.in-14.is refl refl
    (putting c.args.unread.now c.args.out.now)

pub returns-in-15 : goal.returns-in-15
returns-in-15 c =
    c.put_u16.ensures ∙ arm request_rows (λ r. spaced (line (request_words r))) 15 c.args.code Tidy u16_front
    (λ x. codes " tidy" ++ spaced (number_word x)) c.in-15.is refl (λ x. refl) (putting c.args.unread.now c.args.out.now)

pub returns-in-16 : goal.returns-in-16
returns-in-16 c =
    c.say-in-16.ensures ∙ arm-plain request_rows (λ r. spaced (line (request_words r))) 16 c.args.code Stat (codes " stat") c.in-16.is refl refl
    (putting c.args.unread.now c.args.out.now)

pub returns-in-17 : goal.returns-in-17
returns-in-17 c =
    c.put_id-in-17.ensures ∙ arm request_rows (λ r. spaced (line (request_words r))) 17 c.args.code Show id_front
    (λ x. codes " show" ++ spaced (id_word x)) c.in-17.is refl (λ x. refl) (putting c.args.unread.now c.args.out.now)

pub returns-in-18 : goal.returns-in-18
returns-in-18 c =
    c.say-in-18.ensures ∙ arm-plain request_rows (λ r. spaced (line (request_words r))) 18 c.args.code Leaves (codes " leaves") c.in-18.is refl refl
    (putting c.args.unread.now c.args.out.now)

pub returns-in-19 : goal.returns-in-19
returns-in-19 c =
    c.put_pull.ensures ∙ arm request_rows (λ r. spaced (line (request_words r))) 19 c.args.code Pull counts_front
    (λ ns. spaced (line (codes "pull" ∷ map number_word ns))) c.in-19.is refl (λ ns. refl) (putting c.args.unread.now c.args.out.now)

pub returns-in-21 : goal.returns-in-21
returns-in-21 c =
    c.say-in-21.ensures ∙ arm-plain request_rows (λ r. spaced (line (request_words r))) 21 c.args.code Close (codes " close") c.in-21.is refl refl
    (putting c.args.unread.now c.args.out.now)

pub returns-in-22 : goal.returns-in-22
returns-in-22 c =
    c.say-in-22.ensures ∙ arm-plain request_rows (λ r. spaced (line (request_words r))) 22 c.args.code Settle (codes " settle") c.in-22.is refl refl
    (putting c.args.unread.now c.args.out.now)

pub returns-in_default : goal.returns-in_default
returns-in_default c =
    let other = c.requires.other in
    let from = c.requires.from in
    ap (λ o. putting o c.args.out.now) c.lose.ensures
    ∙ arm-lost (front_of_code c.args.code request_rows) (λ r. spaced (line (request_words r)))
    (λ left. rows-other request_rows 1 22 c.args.code left refl (λ m low high e. omega (arith, low, high, e, other, from)))
    (putting c.args.unread.now c.args.out.now)
