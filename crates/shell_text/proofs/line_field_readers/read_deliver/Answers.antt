use Rattle.std.proofs.Common.{sym, ◌∙◌}
use Rattle.shell_text.proofs.LineReads.{delivered}
use Rattle.shell_text.proofs.line_field_readers.read_deliver.Goals as goal

pub returns-then-is_over : goal.returns-then-is_over
returns-then-is_over c =
    delivered c.args.words.now c.in-Some.word.now c.in-Some.left c.deliver.result c.in-Some.ensures (sym c.is_over.ensures ∙ c.if-is_over.true)
    c.deliver.ensures
