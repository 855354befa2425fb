use Rattle.std.proofs.Common.{◌^◌}
use Rattle.text_words.specs.Texts.{number_until}
use Rattle.wire_item.proofs.Gathering.{Gathered}
use Rattle.shell_text.proofs.line_field_readers.numbers.Given as goal

abbrev pub invariant-loop-place : goal.invariant-loop-place
invariant-loop-place l = Gathered (number_until (2 ^ 32) 32) l.words l._place l.left l.numbers
