use Rattle.std.proofs.Common.{◌^◌, codes, drop}
use Rattle.tardis_base.specs.declared.requests.Request.TheVariants.{GetFor, Ceiling, Tidy}
use Rattle.wire_item.specs.Fronts.{both, made, whole}
use Rattle.wire_talk.specs.Memory.{takes_no_memory}
use Rattle.text_words.specs.Texts.{id_until, number_until}
use Rattle.shell_text.specs.RequestTexts.{key_text, raise_text, request_text_rows}
use Rattle.shell_text.proofs.NamedReads.{answer-first, answer-later, answer-same}
use Rattle.shell_text.proofs.line_readers.read_state_request.Goals as goal

pub returns-in-Some : goal.returns-in-Some
returns-in-Some c =
    answer-first takes_no_memory (codes "getfor ") (made (λ p. GetFor p.0 p.1) (both key_text (id_until 32))) (drop 11 request_text_rows) c.args.words.now
    c.in-Some.left c.read_get_for.result c.in-Some.ensures (c.read_get_for.ensures)

pub returns-in-Some-behind : goal.returns-in-Some-behind
returns-in-Some-behind c =
    answer-later takes_no_memory (codes "getfor ") (made (λ p. GetFor p.0 p.1) (both key_text (id_until 32))) (drop 11 request_text_rows) c.args.words.now
    c.behind.result c.sure.result c.behind.ensures c.in_default.not-Some
    (answer-first takes_no_memory (codes "ceiling ") (made Ceiling (id_until 32)) (drop 12 request_text_rows) c.args.words.now c.in-Some-behind.left
    c.sure.result c.in-Some-behind.ensures (answer-same takes_no_memory c.read_ceiling.result (whole (made Ceiling (id_until 32)) c.in-Some-behind.left)
    c.sure.result c.read_ceiling.ensures c.sure.ensures))

pub returns-in-Some-behind-2 : goal.returns-in-Some-behind-2
returns-in-Some-behind-2 c =
    answer-later takes_no_memory (codes "getfor ") (made (λ p. GetFor p.0 p.1) (both key_text (id_until 32))) (drop 11 request_text_rows) c.args.words.now
    c.behind.result c.sure-in-Some-behind-2.result c.behind.ensures c.in_default.not-Some
    (answer-later takes_no_memory (codes "ceiling ") (made Ceiling (id_until 32)) (drop 12 request_text_rows) c.args.words.now c.behind-2.result
    c.sure-in-Some-behind-2.result c.behind-2.ensures c.in_default-behind.not-Some
    (answer-first takes_no_memory (codes "raise ") raise_text (drop 13 request_text_rows) c.args.words.now c.in-Some-behind-2.left
    c.sure-in-Some-behind-2.result c.in-Some-behind-2.ensures (answer-same takes_no_memory c.read_raise.result (whole raise_text c.in-Some-behind-2.left)
    c.sure-in-Some-behind-2.result c.read_raise.ensures c.sure-in-Some-behind-2.ensures)))

pub returns-in-Some-behind-3 : goal.returns-in-Some-behind-3
returns-in-Some-behind-3 c =
    answer-later takes_no_memory (codes "getfor ") (made (λ p. GetFor p.0 p.1) (both key_text (id_until 32))) (drop 11 request_text_rows) c.args.words.now
    c.behind.result c.sure-in-Some-behind-3.result c.behind.ensures c.in_default.not-Some
    (answer-later takes_no_memory (codes "ceiling ") (made Ceiling (id_until 32)) (drop 12 request_text_rows) c.args.words.now c.behind-2.result
    c.sure-in-Some-behind-3.result c.behind-2.ensures c.in_default-behind.not-Some
    (answer-later takes_no_memory (codes "raise ") raise_text (drop 13 request_text_rows) c.args.words.now c.behind-3.result c.sure-in-Some-behind-3.result
    c.behind-3.ensures c.in_default-behind-2.not-Some
    (answer-first takes_no_memory (codes "tidy ") (made Tidy (number_until (2 ^ 16) 32)) (drop 14 request_text_rows) c.args.words.now c.in-Some-behind-3.left
    c.sure-in-Some-behind-3.result c.in-Some-behind-3.ensures (answer-same takes_no_memory c.read_tidy.result (whole (made Tidy (number_until (2 ^ 16) 32))
    c.in-Some-behind-3.left) c.sure-in-Some-behind-3.result c.read_tidy.ensures c.sure-in-Some-behind-3.ensures))))

pub returns : goal.returns
returns c =
    answer-later takes_no_memory (codes "getfor ") (made (λ p. GetFor p.0 p.1) (both key_text (id_until 32))) (drop 11 request_text_rows) c.args.words.now
    c.behind.result c.read_other_request.result c.behind.ensures c.in_default.not-Some
    (answer-later takes_no_memory (codes "ceiling ") (made Ceiling (id_until 32)) (drop 12 request_text_rows) c.args.words.now c.behind-2.result
    c.read_other_request.result c.behind-2.ensures c.in_default-behind.not-Some
    (answer-later takes_no_memory (codes "raise ") raise_text (drop 13 request_text_rows) c.args.words.now c.behind-3.result c.read_other_request.result
    c.behind-3.ensures c.in_default-behind-2.not-Some
    (answer-later takes_no_memory (codes "tidy ") (made Tidy (number_until (2 ^ 16) 32)) (drop 14 request_text_rows) c.args.words.now c.behind-4.result
    c.read_other_request.result c.behind-4.ensures c.in_default-behind-3.not-Some
    (c.read_other_request.ensures))))
