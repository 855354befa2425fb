use Rattle.std.proofs.Common.{◌≡◌, Some}
use Rattle.wire_item.specs.Fronts.{times}
use Rattle.wire_talk.specs.ReplyReadings.{site_line_front}
use Rattle.talk_bytes.proofs.list_readers.site_lines.Given as goal

abbrev pub invariant-loop-place : goal.invariant-loop-place
invariant-loop-place l = times site_line_front l._place l.initial.reader ≡ Some (l.lines, l.reader)
