use Rattle.std.proofs.Common.{◌≡◌, ◌++◌, take}
use Rattle.text_words.specs.Puts.{putting, says}
use Rattle.text_words.specs.Words.{hex_word}
use Rattle.text_words.proofs.unread.Unread.say_hex.Given as goal

abbrev pub invariant-loop-byte : goal.invariant-loop-byte
invariant-loop-byte l = putting l.self l.out ≡ says (l.fn.lead ++ hex_word (take l.byte-index l.bytes)) (putting l.fn.self l.fn.out)
