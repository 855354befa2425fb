use Rattle.std.proofs.Common.{refl, ◌^◌}
use Rattle.tardis_base.specs.declared.requests.Request.TheVariants.{Pull}
use Rattle.text_words.specs.Texts.{number_until, rest_of}
use Rattle.wire_item.specs.Fronts.{only_if}
use Rattle.wire_talk.specs.Valid.{are_counts}
use Rattle.wire_talk.specs.Memory.{takes_no_memory}
use Rattle.shell_text.proofs.LineReads.{kept-ok, kept-err}
use Rattle.shell_text.proofs.line_field_readers.read_pull.Goals as goal

pub returns-in-Ok : goal.returns-in-Ok
returns-in-Ok c =
    let front = only_if are_counts (rest_of (number_until (2 ^ 32) 32)) in
    kept-ok (Pull) front c.args.words.now c.in-Ok.counts (c.in-Ok.ensures front c.args.words.now c.read_counts.ensures)

pub returns-in-Err : goal.returns-in-Err
returns-in-Err c =
    let front = only_if are_counts (rest_of (number_until (2 ^ 32) 32)) in
    kept-err takes_no_memory (Pull) front c.args.words.now c.in-Err.fault (λ _. refl) (c.in-Err.ensures front c.args.words.now c.read_counts.ensures)
