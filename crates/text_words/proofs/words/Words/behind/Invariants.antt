use Rattle.std.proofs.Common.{◌≡◌, Some, take}
use Rattle.text_words.specs.Texts.{behind}
use Rattle.text_words.proofs.words.Words.behind.Given as goal

abbrev pub invariant-loop-byte : goal.invariant-loop-byte
invariant-loop-byte l = behind (take l.byte-index l.prefix) l.self ≡ Some l.words
