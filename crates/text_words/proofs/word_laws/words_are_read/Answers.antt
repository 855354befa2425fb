use Rattle.text_words.proofs.WordsRead.{number-words, id-words, hex-words, byte-words}
use Rattle.text_words.proofs.word_laws.words_are_read.Goals as goal

pub returns-clause-number : goal.returns-clause-number
returns-clause-number c = number-words

pub returns-clause-id : goal.returns-clause-id
returns-clause-id c = id-words

pub returns-clause-hex : goal.returns-clause-hex
returns-clause-hex c = hex-words

pub returns-clause-bytes : goal.returns-clause-bytes
returns-clause-bytes c = byte-words
