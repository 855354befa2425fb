use Rattle.std.proofs.Common.{◌≡◌, ◌++◌, take}
use Rattle.std.specs.Prelude.{flat_map}
use Rattle.wire_talk.specs.Spellings.{site_line_spelling}
use Rattle.talk_bytes.proofs.reply_writers.write_each_site_line.Given as goal

abbrev pub invariant-loop-line : goal.invariant-loop-line
invariant-loop-line l = l.out ≡ l.fn.out ++ flat_map site_line_spelling (take l.line-index l.line-items)
