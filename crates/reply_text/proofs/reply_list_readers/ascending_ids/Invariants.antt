use Rattle.tardis_base.specs.declared.ids.StateId.{StateId}
use Rattle.tardis_base.specs.Ids.{are_ascending}
use Rattle.wire_item.proofs.Progress.{Progress}
use Rattle.shell_text.specs.ReplyTexts.{id_text}
use Rattle.reply_text.proofs.reply_list_readers.ascending_ids.Given as goal

abbrev pub invariant-loop-place : goal.invariant-loop-place
invariant-loop-place l = Progress (λ (x : StateId). x) are_ascending id_text l.words l._place l.left l.last l.ids
