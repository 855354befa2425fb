use Rattle.std.proofs.Common.{◌≡◌, ◌+◌, ◌≤◌, take}
use Rattle.text_words.specs.Texts.{spaces}
use Rattle.text_words.proofs.words.Words.count.Given as goal

abbrev pub invariant-loop-byte : goal.invariant-loop-byte
invariant-loop-byte l = (l.count ≡ spaces (take l.byte-index l.byte-items) + 1) × (l.count ≤ l.byte-index + 1)
