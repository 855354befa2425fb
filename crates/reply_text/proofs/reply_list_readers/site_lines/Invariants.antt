use Rattle.std.proofs.Common.{◌≡◌, Some}
use Rattle.wire_item.specs.Fronts.{times}
use Rattle.shell_text.specs.ReplyTexts.{site_line_text}
use Rattle.reply_text.proofs.reply_list_readers.site_lines.Given as goal

abbrev pub invariant-loop-place : goal.invariant-loop-place
invariant-loop-place l = times site_line_text l._place l.words ≡ Some (l.lines, l.left)
