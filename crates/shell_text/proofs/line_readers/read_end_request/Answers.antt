use Rattle.std.proofs.Common.{codes, drop}
use Rattle.tardis_base.specs.declared.requests.Request.TheVariants.{Commit, Abort, BeginMerge, ForkPoints, Conflicts}
use Rattle.wire_item.specs.Fronts.{made, nothing_but, whole}
use Rattle.wire_talk.specs.Memory.{takes_no_memory}
use Rattle.shell_text.specs.RequestTexts.{after_text, flags_text, merge_text, request_text_rows}
use Rattle.shell_text.proofs.NamedReads.{answer-first, answer-later, answer-same}
use Rattle.shell_text.proofs.line_readers.read_end_request.Goals as goal

pub returns-in-Some : goal.returns-in-Some
returns-in-Some c =
    answer-first takes_no_memory (codes "commit ") (made (λ p. Commit (record { 0 = p.0 }) p.1) flags_text) (drop 6 request_text_rows) c.args.words.now
    c.in-Some.left c.sure.result c.in-Some.ensures (answer-same takes_no_memory c.read_commit.result (whole (made (λ p. Commit (record { 0 = p.0 }) p.1)
    flags_text) c.in-Some.left) c.sure.result c.read_commit.ensures c.sure.ensures)

pub returns-in-Some-behind : goal.returns-in-Some-behind
returns-in-Some-behind c =
    answer-later takes_no_memory (codes "commit ") (made (λ p. Commit (record { 0 = p.0 }) p.1) flags_text) (drop 6 request_text_rows) c.args.words.now
    c.behind.result c.sure-in-Some-behind.result c.behind.ensures c.in_default.not-Some
    (answer-first takes_no_memory (codes "abort ") (nothing_but Abort) (drop 7 request_text_rows) c.args.words.now c.in-Some-behind.left
    c.sure-in-Some-behind.result c.in-Some-behind.ensures (answer-same takes_no_memory c.alone.result (whole (nothing_but Abort) c.in-Some-behind.left)
    c.sure-in-Some-behind.result c.alone.ensures c.sure-in-Some-behind.ensures))

pub returns-in-Some-behind-2 : goal.returns-in-Some-behind-2
returns-in-Some-behind-2 c =
    answer-later takes_no_memory (codes "commit ") (made (λ p. Commit (record { 0 = p.0 }) p.1) flags_text) (drop 6 request_text_rows) c.args.words.now
    c.behind.result c.read_begin_merge.result c.behind.ensures c.in_default.not-Some
    (answer-later takes_no_memory (codes "abort ") (nothing_but Abort) (drop 7 request_text_rows) c.args.words.now c.behind-2.result c.read_begin_merge.result
    c.behind-2.ensures c.in_default-behind.not-Some
    (answer-first takes_no_memory (codes "merge ") (made BeginMerge merge_text) (drop 8 request_text_rows) c.args.words.now c.in-Some-behind-2.left
    c.read_begin_merge.result c.in-Some-behind-2.ensures (c.read_begin_merge.ensures)))

pub returns-in-Some-behind-3 : goal.returns-in-Some-behind-3
returns-in-Some-behind-3 c =
    answer-later takes_no_memory (codes "commit ") (made (λ p. Commit (record { 0 = p.0 }) p.1) flags_text) (drop 6 request_text_rows) c.args.words.now
    c.behind.result c.sure-in-Some-behind-3.result c.behind.ensures c.in_default.not-Some
    (answer-later takes_no_memory (codes "abort ") (nothing_but Abort) (drop 7 request_text_rows) c.args.words.now c.behind-2.result
    c.sure-in-Some-behind-3.result c.behind-2.ensures c.in_default-behind.not-Some
    (answer-later takes_no_memory (codes "merge ") (made BeginMerge merge_text) (drop 8 request_text_rows) c.args.words.now c.behind-3.result
    c.sure-in-Some-behind-3.result c.behind-3.ensures c.in_default-behind-2.not-Some
    (answer-first takes_no_memory (codes "forks ") (nothing_but ForkPoints) (drop 9 request_text_rows) c.args.words.now c.in-Some-behind-3.left
    c.sure-in-Some-behind-3.result c.in-Some-behind-3.ensures (answer-same takes_no_memory c.alone-in-Some-behind-3.result (whole (nothing_but ForkPoints)
    c.in-Some-behind-3.left) c.sure-in-Some-behind-3.result c.alone-in-Some-behind-3.ensures c.sure-in-Some-behind-3.ensures))))

pub returns-in-Some-behind-4 : goal.returns-in-Some-behind-4
returns-in-Some-behind-4 c =
    answer-later takes_no_memory (codes "commit ") (made (λ p. Commit (record { 0 = p.0 }) p.1) flags_text) (drop 6 request_text_rows) c.args.words.now
    c.behind.result c.read_conflicts.result c.behind.ensures c.in_default.not-Some
    (answer-later takes_no_memory (codes "abort ") (nothing_but Abort) (drop 7 request_text_rows) c.args.words.now c.behind-2.result c.read_conflicts.result
    c.behind-2.ensures c.in_default-behind.not-Some
    (answer-later takes_no_memory (codes "merge ") (made BeginMerge merge_text) (drop 8 request_text_rows) c.args.words.now c.behind-3.result
    c.read_conflicts.result c.behind-3.ensures c.in_default-behind-2.not-Some
    (answer-later takes_no_memory (codes "forks ") (nothing_but ForkPoints) (drop 9 request_text_rows) c.args.words.now c.behind-4.result
    c.read_conflicts.result c.behind-4.ensures c.in_default-behind-3.not-Some
    (answer-first takes_no_memory (codes "conflicts ") (made Conflicts after_text) (drop 10 request_text_rows) c.args.words.now c.in-Some-behind-4.left
    c.read_conflicts.result c.in-Some-behind-4.ensures (c.read_conflicts.ensures)))))

pub returns : goal.returns
returns c =
    answer-later takes_no_memory (codes "commit ") (made (λ p. Commit (record { 0 = p.0 }) p.1) flags_text) (drop 6 request_text_rows) c.args.words.now
    c.behind.result c.read_state_request.result c.behind.ensures c.in_default.not-Some
    (answer-later takes_no_memory (codes "abort ") (nothing_but Abort) (drop 7 request_text_rows) c.args.words.now c.behind-2.result
    c.read_state_request.result c.behind-2.ensures c.in_default-behind.not-Some
    (answer-later takes_no_memory (codes "merge ") (made BeginMerge merge_text) (drop 8 request_text_rows) c.args.words.now c.behind-3.result
    c.read_state_request.result c.behind-3.ensures c.in_default-behind-2.not-Some
    (answer-later takes_no_memory (codes "forks ") (nothing_but ForkPoints) (drop 9 request_text_rows) c.args.words.now c.behind-4.result
    c.read_state_request.result c.behind-4.ensures c.in_default-behind-3.not-Some
    (answer-later takes_no_memory (codes "conflicts ") (made Conflicts after_text) (drop 10 request_text_rows) c.args.words.now c.behind-5.result
    c.read_state_request.result c.behind-5.ensures c.in_default-behind-4.not-Some
    (c.read_state_request.ensures)))))
