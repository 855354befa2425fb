use Rattle.std.proofs.Common.{refl, sym, ◌∙◌}
use Rattle.tardis_base.specs.declared.requests.MergeOf.TheVariants.{States}
use Rattle.tardis_base.specs.declared.requests.Request.TheVariants.{BeginMerge}
use Rattle.shell_text.proofs.LineReads.{over-alone}
use Rattle.shell_text.proofs.line_field_readers.begin_merge.Goals as goal

pub returns-in-Err : goal.returns-in-Err
returns-in-Err c = λ xs _. (BeginMerge (States xs), over-alone (BeginMerge (States xs)) c.args.left.now (sym c.is_over.ensures ∙ c.if-not-is_over.false), refl)
