use Rattle.std.proofs.Common.{codes, drop}
use Rattle.tardis_base.specs.declared.requests.Request.TheVariants.{Open, Begin, Get, Put, Delete}
use Rattle.wire_item.specs.Fronts.{both, made, whole}
use Rattle.wire_talk.specs.Memory.{takes_no_memory}
use Rattle.shell_text.specs.RequestTexts.{begin_text, follow_text, key_text, request_text_rows, value_text}
use Rattle.shell_text.proofs.NamedReads.{answer-first, answer-later, answer-same}
use Rattle.shell_text.proofs.line_readers.read_request.Goals as goal

pub returns-in-Some : goal.returns-in-Some
returns-in-Some c =
    answer-first takes_no_memory (codes "open ") (made Open follow_text) (drop 1 request_text_rows) c.args.words.now c.in-Some.left c.sure.result
    c.in-Some.ensures (answer-same takes_no_memory c.read_open.result (whole (made Open follow_text) c.in-Some.left) c.sure.result c.read_open.ensures
    c.sure.ensures)

pub returns-in-Some-behind : goal.returns-in-Some-behind
returns-in-Some-behind c =
    answer-later takes_no_memory (codes "open ") (made Open follow_text) (drop 1 request_text_rows) c.args.words.now c.behind.result
    c.sure-in-Some-behind.result c.behind.ensures c.in_default.not-Some
    (answer-first takes_no_memory (codes "begin ") (made Begin begin_text) (drop 2 request_text_rows) c.args.words.now c.in-Some-behind.left
    c.sure-in-Some-behind.result c.in-Some-behind.ensures (answer-same takes_no_memory c.read_begin.result (whole (made Begin begin_text)
    c.in-Some-behind.left) c.sure-in-Some-behind.result c.read_begin.ensures c.sure-in-Some-behind.ensures))

pub returns-in-Some-behind-2 : goal.returns-in-Some-behind-2
returns-in-Some-behind-2 c =
    answer-later takes_no_memory (codes "open ") (made Open follow_text) (drop 1 request_text_rows) c.args.words.now c.behind.result c.read_get.result
    c.behind.ensures c.in_default.not-Some
    (answer-later takes_no_memory (codes "begin ") (made Begin begin_text) (drop 2 request_text_rows) c.args.words.now c.behind-2.result c.read_get.result
    c.behind-2.ensures c.in_default-behind.not-Some
    (answer-first takes_no_memory (codes "get ") (made Get key_text) (drop 3 request_text_rows) c.args.words.now c.in-Some-behind-2.left c.read_get.result
    c.in-Some-behind-2.ensures (c.read_get.ensures)))

pub returns-in-Some-behind-3 : goal.returns-in-Some-behind-3
returns-in-Some-behind-3 c =
    answer-later takes_no_memory (codes "open ") (made Open follow_text) (drop 1 request_text_rows) c.args.words.now c.behind.result c.read_put.result
    c.behind.ensures c.in_default.not-Some
    (answer-later takes_no_memory (codes "begin ") (made Begin begin_text) (drop 2 request_text_rows) c.args.words.now c.behind-2.result c.read_put.result
    c.behind-2.ensures c.in_default-behind.not-Some
    (answer-later takes_no_memory (codes "get ") (made Get key_text) (drop 3 request_text_rows) c.args.words.now c.behind-3.result c.read_put.result
    c.behind-3.ensures c.in_default-behind-2.not-Some
    (answer-first takes_no_memory (codes "put ") (made (λ p. Put p.0 p.1) (both key_text value_text)) (drop 4 request_text_rows) c.args.words.now
    c.in-Some-behind-3.left c.read_put.result c.in-Some-behind-3.ensures (c.read_put.ensures))))

pub returns-in-Some-behind-4 : goal.returns-in-Some-behind-4
returns-in-Some-behind-4 c =
    answer-later takes_no_memory (codes "open ") (made Open follow_text) (drop 1 request_text_rows) c.args.words.now c.behind.result c.read_delete.result
    c.behind.ensures c.in_default.not-Some
    (answer-later takes_no_memory (codes "begin ") (made Begin begin_text) (drop 2 request_text_rows) c.args.words.now c.behind-2.result c.read_delete.result
    c.behind-2.ensures c.in_default-behind.not-Some
    (answer-later takes_no_memory (codes "get ") (made Get key_text) (drop 3 request_text_rows) c.args.words.now c.behind-3.result c.read_delete.result
    c.behind-3.ensures c.in_default-behind-2.not-Some
    (answer-later takes_no_memory (codes "put ") (made (λ p. Put p.0 p.1) (both key_text value_text)) (drop 4 request_text_rows) c.args.words.now
    c.behind-4.result c.read_delete.result c.behind-4.ensures c.in_default-behind-3.not-Some
    (answer-first takes_no_memory (codes "del ") (made Delete key_text) (drop 5 request_text_rows) c.args.words.now c.in-Some-behind-4.left
    c.read_delete.result c.in-Some-behind-4.ensures (c.read_delete.ensures)))))

pub returns : goal.returns
returns c =
    answer-later takes_no_memory (codes "open ") (made Open follow_text) (drop 1 request_text_rows) c.args.words.now c.behind.result c.read_end_request.result
    c.behind.ensures c.in_default.not-Some
    (answer-later takes_no_memory (codes "begin ") (made Begin begin_text) (drop 2 request_text_rows) c.args.words.now c.behind-2.result
    c.read_end_request.result c.behind-2.ensures c.in_default-behind.not-Some
    (answer-later takes_no_memory (codes "get ") (made Get key_text) (drop 3 request_text_rows) c.args.words.now c.behind-3.result c.read_end_request.result
    c.behind-3.ensures c.in_default-behind-2.not-Some
    (answer-later takes_no_memory (codes "put ") (made (λ p. Put p.0 p.1) (both key_text value_text)) (drop 4 request_text_rows) c.args.words.now
    c.behind-4.result c.read_end_request.result c.behind-4.ensures c.in_default-behind-3.not-Some
    (answer-later takes_no_memory (codes "del ") (made Delete key_text) (drop 5 request_text_rows) c.args.words.now c.behind-5.result
    c.read_end_request.result c.behind-5.ensures c.in_default-behind-4.not-Some
    (c.read_end_request.ensures)))))
