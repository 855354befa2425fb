use Rattle.std.proofs.Common.{sym, ◌∙◌}
use Rattle.join_rules.proofs.ReadLaws.{is-read, is-text}
use Rattle.join_rules.proofs.counts.read.Goals as goal

pub returns-in-Err-parse : goal.returns-in-Err-parse
returns-in-Err-parse c = λ n h is.
    is-read c.in-Ok.text.now c.parse.result c.in-Err-parse.field-0 c.parse.ensures.value.0 c.in-Err-parse.is n h (c.in-Ok.ensures.cases.0 ∙ sym is)

pub returns-in-Err : goal.returns-in-Err
returns-in-Err c = λ n h is. is-text c.args.text.now c.in-Err.ensures.cases.0 n h is
