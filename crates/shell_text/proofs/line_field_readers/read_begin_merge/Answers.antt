use Rattle.std.proofs.Common.{◌∙◌}
use Rattle.tardis_base.specs.declared.requests.MergeOf.TheVariants.{States}
use Rattle.tardis_base.specs.declared.requests.Request.TheVariants.{BeginMerge}
use Rattle.shell_text.specs.RequestTexts.{merge_text}
use Rattle.wire_item.specs.Fronts.{made, whole}
use Rattle.wire_talk.specs.Memory.{takes_no_memory}
use Rattle.shell_text.proofs.LineReads.{answer-made, leaves-read, states-read}
use Rattle.shell_text.proofs.NamedReads.{answer-same}
use Rattle.shell_text.proofs.line_field_readers.read_begin_merge.Goals as goal

pub returns-in-Some : goal.returns-in-Some
returns-in-Some c =
    let read = c.in-Some.ensures in
    answer-made takes_no_memory BeginMerge merge_text c.args.words.now (States read.0) c.in-Some.left c.begin_merge.result
    (states-read c.args.words.now read.0 c.in-Some.left read.1)
    (c.begin_merge.ensures read.0 read.2)

pub returns-in-None : goal.returns-in-None
returns-in-None c =
    answer-same takes_no_memory c.read_merge_of_leaves.result (whole (made BeginMerge merge_text) c.args.words.now) c.sure.result
    (c.read_merge_of_leaves.ensures ∙ leaves-read c.args.words.now c.in-None.ensures) c.sure.ensures
