use Rattle.wire_item.proofs.Gathering.{Gathered}
use Rattle.shell_text.specs.ReplyTexts.{pair_text}
use Rattle.reply_text.proofs.reply_list_readers.pairs.Given as goal

abbrev pub invariant-loop-place : goal.invariant-loop-place
invariant-loop-place l = Gathered pair_text l.words l._place l.left l.pairs
