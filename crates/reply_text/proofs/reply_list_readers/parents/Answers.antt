use Rattle.std.proofs.Common.{sym, ◌∙◌}
use Rattle.tardis_base.specs.Ids.{are_ascending}
use Rattle.tardis_base.specs.Valid.{are_parents, is_within}
use Rattle.shell_text.specs.ReplyTexts.{id_text}
use Rattle.reply_text.proofs.ReplyReads.{ordered-read, ordered-other, parents-tested}
use Rattle.reply_text.proofs.reply_list_readers.parents.Goals as goal

pub returns-then-is_parent_count : goal.returns-then-is_parent_count
returns-then-is_parent_count c =
    ordered-read id_text are_parents are_ascending (λ n. is_within 1 8 n) parents-tested c.args.words.now c.count-count.result c.ascending_ids.result
    c.count-count.ensures
    (sym c.is_parent_count.ensures ∙ c.if-is_parent_count.true) c.ascending_ids.ensures

pub returns-else-is_parent_count : goal.returns-else-is_parent_count
returns-else-is_parent_count c =
    ordered-other id_text are_parents are_ascending (λ n. is_within 1 8 n) parents-tested c.args.words.now c.count-count.result c.count-count.ensures
    (sym c.is_parent_count.ensures ∙ c.if-is_parent_count.false)
