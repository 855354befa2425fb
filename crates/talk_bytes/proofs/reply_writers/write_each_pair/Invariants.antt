use Rattle.std.proofs.Common.{◌≡◌, ◌++◌, take}
use Rattle.std.specs.Prelude.{flat_map}
use Rattle.wire_talk.specs.Spellings.{pair_spelling}
use Rattle.talk_bytes.proofs.reply_writers.write_each_pair.Given as goal

abbrev pub invariant-loop-fork : goal.invariant-loop-fork
invariant-loop-fork l = l.out ≡ l.fn.out ++ flat_map pair_spelling (take l.fork-index l.fork-items)
