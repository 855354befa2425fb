-- The laws of introductions in bytes.
use Rattle.std.specs.Prelude.{◌≡◌, length, IsTrue}
use Rattle.wire_item.specs.Laws.{HasOneSpelling}
use Rattle.wire_lives.specs.declared.introductions.Introduction.{Introduction}
use Rattle.wire_lives.specs.Spellings.{is_introduction, introduction_spelling}
use Rattle.wire_lives.specs.Readings.{introduction_of}

abbrev pub IntroductionsHaveOneSpelling : Type 0
IntroductionsHaveOneSpelling = HasOneSpelling is_introduction introduction_spelling introduction_of

abbrev pub IntroductionsHaveTheirLength : Type 0
IntroductionsHaveTheirLength = (i : Introduction) → IsTrue (is_introduction i) → length (introduction_spelling i) ≡ 21
