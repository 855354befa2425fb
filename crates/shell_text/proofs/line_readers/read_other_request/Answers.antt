use Rattle.std.proofs.Common.{◌^◌, codes, drop}
use Rattle.tardis_base.specs.declared.requests.Request.TheVariants.{Stat, Show, Leaves, Pull, Deliver}
use Rattle.wire_item.specs.Fronts.{made, nothing_but, only_if, whole}
use Rattle.wire_talk.specs.Memory.{takes_no_memory}
use Rattle.wire_talk.specs.Valid.{are_counts}
use Rattle.text_words.specs.Texts.{by_prefix, id_until, number_until, parsed, rest_of}
use Rattle.shell_text.specs.RequestTexts.{item_from, request_text_rows}
use Rattle.shell_text.proofs.NamedReads.{answer-first, answer-later, answer-same}
use Rattle.shell_text.proofs.line_readers.read_other_request.Goals as goal

pub returns-in-Some : goal.returns-in-Some
returns-in-Some c =
    answer-first takes_no_memory (codes "stat ") (nothing_but Stat) (drop 15 request_text_rows) c.args.words.now c.in-Some.left c.sure.result
    c.in-Some.ensures (answer-same takes_no_memory c.alone.result (whole (nothing_but Stat) c.in-Some.left) c.sure.result c.alone.ensures c.sure.ensures)

pub returns-in-Some-behind : goal.returns-in-Some-behind
returns-in-Some-behind c =
    answer-later takes_no_memory (codes "stat ") (nothing_but Stat) (drop 15 request_text_rows) c.args.words.now c.behind.result c.sure-in-Some-behind.result
    c.behind.ensures c.in_default.not-Some
    (answer-first takes_no_memory (codes "show ") (made Show (id_until 32)) (drop 16 request_text_rows) c.args.words.now c.in-Some-behind.left
    c.sure-in-Some-behind.result c.in-Some-behind.ensures (answer-same takes_no_memory c.read_show.result (whole (made Show (id_until 32))
    c.in-Some-behind.left) c.sure-in-Some-behind.result c.read_show.ensures c.sure-in-Some-behind.ensures))

pub returns-in-Some-behind-2 : goal.returns-in-Some-behind-2
returns-in-Some-behind-2 c =
    answer-later takes_no_memory (codes "stat ") (nothing_but Stat) (drop 15 request_text_rows) c.args.words.now c.behind.result
    c.sure-in-Some-behind-2.result c.behind.ensures c.in_default.not-Some
    (answer-later takes_no_memory (codes "show ") (made Show (id_until 32)) (drop 16 request_text_rows) c.args.words.now c.behind-2.result
    c.sure-in-Some-behind-2.result c.behind-2.ensures c.in_default-behind.not-Some
    (answer-first takes_no_memory (codes "leaves ") (nothing_but Leaves) (drop 17 request_text_rows) c.args.words.now c.in-Some-behind-2.left
    c.sure-in-Some-behind-2.result c.in-Some-behind-2.ensures (answer-same takes_no_memory c.alone-in-Some-behind-2.result (whole (nothing_but Leaves)
    c.in-Some-behind-2.left) c.sure-in-Some-behind-2.result c.alone-in-Some-behind-2.ensures c.sure-in-Some-behind-2.ensures)))

pub returns-in-Some-behind-3 : goal.returns-in-Some-behind-3
returns-in-Some-behind-3 c =
    answer-later takes_no_memory (codes "stat ") (nothing_but Stat) (drop 15 request_text_rows) c.args.words.now c.behind.result c.read_pull.result
    c.behind.ensures c.in_default.not-Some
    (answer-later takes_no_memory (codes "show ") (made Show (id_until 32)) (drop 16 request_text_rows) c.args.words.now c.behind-2.result c.read_pull.result
    c.behind-2.ensures c.in_default-behind.not-Some
    (answer-later takes_no_memory (codes "leaves ") (nothing_but Leaves) (drop 17 request_text_rows) c.args.words.now c.behind-3.result c.read_pull.result
    c.behind-3.ensures c.in_default-behind-2.not-Some
    (answer-first takes_no_memory (codes "pull ") (made Pull (only_if are_counts (rest_of (number_until (2 ^ 32) 32)))) (drop 18 request_text_rows)
    c.args.words.now c.in-Some-behind-3.left c.read_pull.result c.in-Some-behind-3.ensures (c.read_pull.ensures))))

pub returns-in-Some-behind-4 : goal.returns-in-Some-behind-4
returns-in-Some-behind-4 c =
    answer-later takes_no_memory (codes "stat ") (nothing_but Stat) (drop 15 request_text_rows) c.args.words.now c.behind.result c.read_deliver.result
    c.behind.ensures c.in_default.not-Some
    (answer-later takes_no_memory (codes "show ") (made Show (id_until 32)) (drop 16 request_text_rows) c.args.words.now c.behind-2.result
    c.read_deliver.result c.behind-2.ensures c.in_default-behind.not-Some
    (answer-later takes_no_memory (codes "leaves ") (nothing_but Leaves) (drop 17 request_text_rows) c.args.words.now c.behind-3.result c.read_deliver.result
    c.behind-3.ensures c.in_default-behind-2.not-Some
    (answer-later takes_no_memory (codes "pull ") (made Pull (only_if are_counts (rest_of (number_until (2 ^ 32) 32)))) (drop 18 request_text_rows)
    c.args.words.now c.behind-4.result c.read_deliver.result c.behind-4.ensures c.in_default-behind-3.not-Some
    (answer-first takes_no_memory (codes "deliver ") (made Deliver (parsed item_from 32)) (drop 19 request_text_rows) c.args.words.now c.in-Some-behind-4.left
    c.read_deliver.result c.in-Some-behind-4.ensures (c.read_deliver.ensures)))))

pub returns : goal.returns
returns c =
    answer-later takes_no_memory (codes "stat ") (nothing_but Stat) (drop 15 request_text_rows) c.args.words.now c.behind.result c.sure-2.result
    c.behind.ensures c.in_default.not-Some
    (answer-later takes_no_memory (codes "show ") (made Show (id_until 32)) (drop 16 request_text_rows) c.args.words.now c.behind-2.result c.sure-2.result
    c.behind-2.ensures c.in_default-behind.not-Some
    (answer-later takes_no_memory (codes "leaves ") (nothing_but Leaves) (drop 17 request_text_rows) c.args.words.now c.behind-3.result c.sure-2.result
    c.behind-3.ensures c.in_default-behind-2.not-Some
    (answer-later takes_no_memory (codes "pull ") (made Pull (only_if are_counts (rest_of (number_until (2 ^ 32) 32)))) (drop 18 request_text_rows)
    c.args.words.now c.behind-4.result c.sure-2.result c.behind-4.ensures c.in_default-behind-3.not-Some
    (answer-later takes_no_memory (codes "deliver ") (made Deliver (parsed item_from 32)) (drop 19 request_text_rows) c.args.words.now c.behind-5.result
    c.sure-2.result c.behind-5.ensures c.in_default-behind-4.not-Some
    (answer-same takes_no_memory c.read_last_request.result (whole (by_prefix (drop 19 request_text_rows)) c.args.words.now) c.sure-2.result
    c.read_last_request.ensures c.sure-2.ensures)))))
