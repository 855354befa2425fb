use Rattle.std.proofs.Common.{◌≡◌, ◌∷◌, ◌++◌, ◌∙◌, ap, arith, refl, codes}
use Rattle.tardis_base.specs.declared.requests.Request.TheVariants.{Open, Begin as BeginAt, Get, Put, Delete, Commit, Abort, BeginMerge, ForkPoints}
use Rattle.tardis_base.specs.declared.requests.Request.TheVariants.{Conflicts, GetFor}
use Rattle.wire_item.specs.Fronts.{both, front_of_code}
use Rattle.wire_item.specs.Readings.{id_front, key_front, value_front}
use Rattle.wire_talk.specs.RequestReadings.{flag_front, begin_front, commit_front, merge_of_front, after_front, request_rows}
use Rattle.text_words.specs.Words.{line, id_word, byte_word}
use Rattle.text_words.specs.Puts.{putting, spaced}
use Rattle.shell_text.specs.RequestLines.{begin_words, flags_word, merge_words, after_words, name_if, request_words}
use Rattle.shell_text.proofs.Arms.{arm, arm-plain, arm-lost}
use Rattle.shell_text.proofs.request_lines.put_low_request.Goals as goal

pub returns-in-1 : goal.returns-in-1
returns-in-1 c =
    c.put_open.ensures ∙ arm request_rows (λ r. spaced (line (request_words r))) 1 c.args.code Open flag_front
    (λ f. spaced (line (codes "open" ∷ name_if f (codes "follow")))) c.in-1.is refl (λ f. refl) (putting c.args.unread.now c.args.out.now)

pub returns-in-2 : goal.returns-in-2
returns-in-2 c =
    c.put_begin.ensures ∙ arm request_rows (λ r. spaced (line (request_words r))) 2 c.args.code BeginAt begin_front
    (λ b. spaced (line (codes "begin" ∷ begin_words b))) c.in-2.is refl (λ b. refl) (putting c.args.unread.now c.args.out.now)

pub returns-in-3 : goal.returns-in-3
returns-in-3 c =
    c.put_key.ensures ∙ arm request_rows (λ r. spaced (line (request_words r))) 3 c.args.code Get key_front (λ x. codes " get" ++ spaced (byte_word x))
    c.in-3.is refl (λ x. refl) (putting c.args.unread.now c.args.out.now)

pub returns-in-4 : goal.returns-in-4
returns-in-4 c =
    c.put_key_and_value.ensures ∙ arm request_rows (λ r. spaced (line (request_words r))) 4 c.args.code (λ p. Put p.0 p.1) (both key_front value_front)
    (λ p. (codes " put" ++ spaced (byte_word p.0)) ++ spaced (byte_word p.1)) c.in-4.is refl (λ p. refl) (putting c.args.unread.now c.args.out.now)

pub returns-in-5 : goal.returns-in-5
returns-in-5 c =
    c.put_key-in-5.ensures ∙ arm request_rows (λ r. spaced (line (request_words r))) 5 c.args.code Delete key_front
    (λ x. codes " del" ++ spaced (byte_word x)) c.in-5.is refl (λ x. refl) (putting c.args.unread.now c.args.out.now)

pub returns-in-6 : goal.returns-in-6
returns-in-6 c =
    c.put_commit.ensures ∙ arm request_rows (λ r. spaced (line (request_words r))) 6 c.args.code (λ p. Commit (record { 0 = p.0 }) p.1) commit_front
    (λ p. codes " commit" ++ spaced (flags_word (record { 0 = p.0 }) p.1)) c.in-6.is refl (λ p. refl) (putting c.args.unread.now c.args.out.now)

pub returns-in-7 : goal.returns-in-7
returns-in-7 c =
    c.say.ensures ∙ arm-plain request_rows (λ r. spaced (line (request_words r))) 7 c.args.code Abort (codes " abort") c.in-7.is refl refl
    (putting c.args.unread.now c.args.out.now)

pub returns-in-8 : goal.returns-in-8
returns-in-8 c =
    c.put_merge.ensures ∙ arm request_rows (λ r. spaced (line (request_words r))) 8 c.args.code BeginMerge merge_of_front
    (λ of. spaced (line (codes "merge" ∷ merge_words of))) c.in-8.is refl (λ of. refl) (putting c.args.unread.now c.args.out.now)

pub returns-in-9 : goal.returns-in-9
returns-in-9 c =
    c.say-in-9.ensures ∙ arm-plain request_rows (λ r. spaced (line (request_words r))) 9 c.args.code ForkPoints (codes " forks") c.in-9.is refl refl
    (putting c.args.unread.now c.args.out.now)

pub returns-in-10 : goal.returns-in-10
returns-in-10 c =
    c.put_conflicts.ensures ∙ arm request_rows (λ r. spaced (line (request_words r))) 10 c.args.code Conflicts after_front
    (λ after. spaced (line (codes "conflicts" ∷ after_words after))) c.in-10.is refl (λ after. refl) (putting c.args.unread.now c.args.out.now)

pub returns-in-11 : goal.returns-in-11
returns-in-11 c =
    c.put_key_and_id.ensures ∙ arm request_rows (λ r. spaced (line (request_words r))) 11 c.args.code (λ p. GetFor p.0 p.1) (both key_front id_front)
    (λ p. (codes " getfor" ++ spaced (byte_word p.0)) ++ spaced (id_word p.1)) c.in-11.is refl (λ p. refl) (putting c.args.unread.now c.args.out.now)

pub returns-in_default : goal.returns-in_default
returns-in_default c =
    let zero : c.args.code ≡ 0 = omega arith in
    ap (λ o. putting o c.args.out.now) c.lose.ensures
    ∙ arm-lost (front_of_code c.args.code request_rows) (λ r. spaced (line (request_words r)))
    (λ left. ap (λ k. front_of_code k request_rows left) zero) (putting c.args.unread.now c.args.out.now)
