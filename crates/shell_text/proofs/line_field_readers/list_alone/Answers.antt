use Rattle.std.proofs.Common.{None, Some, false, sym, ◌∙◌}
use Rattle.wire_item.specs.Fronts.{whole}
use Rattle.shell_text.proofs.LineReads.{read-same, whole-none, whole-over, whole-more}
use Rattle.shell_text.proofs.NamedReads.{answer-same}
use Rattle.shell_text.proofs.line_field_readers.list_alone.Goals as goal

pub returns-in-None : goal.returns-in-None
returns-in-None t c = λ front text read. whole-none front text (read-same front text c.args.read None c.in-None.is read)

pub returns-then-is_over : goal.returns-then-is_over
returns-then-is_over t c = λ front text read.
    let found = read-same front text c.args.read (Some (c.in-Some.list, c.in-Some.left)) c.in-Some.is read in
    answer-same (λ _. false) (Some found.0) (whole front text) c.with_memory.result
    (sym (whole-over front text found.0 c.in-Some.left found.1 (sym c.is_over.ensures ∙ c.if-is_over.true))) (c.with_memory.ensures found.0 found.2)

pub returns-else-is_over : goal.returns-else-is_over
returns-else-is_over t c = λ front text read.
    let found = read-same front text c.args.read (Some (c.in-Some.list, c.in-Some.left)) c.in-Some.is read in
    whole-more front text found.0 c.in-Some.left found.1 (sym c.is_over.ensures ∙ c.if-is_over.false)
