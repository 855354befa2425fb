use Rattle.text_words.specs.Texts.{id_until}
use Rattle.wire_item.proofs.Gathering.{Gathered}
use Rattle.shell_text.proofs.line_field_readers.ids.Given as goal

abbrev pub invariant-loop-place : goal.invariant-loop-place
invariant-loop-place l = Gathered (id_until 32) l.words l._place l.left l.ids
