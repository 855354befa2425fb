-- What sound sites tell can be spelled, and fits a frame.
use Rattle.std.specs.Prelude.{ℕ, ◌≤◌, List, length, IsTrue}
use Rattle.std.specs.Option.{option_map_or}
use Rattle.tardis_base.specs.Sizes.{longest_frame}
use Rattle.plain_site.specs.Site.{Site}
use Rattle.plain_site.specs.Sound.{IsSound}
use Rattle.plain_questions.specs.declared.questions.Question.{Question}
use Rattle.plain_questions.specs.declared.questions.Denial.TheVariants.{Malformed}
use Rattle.plain_questions.specs.declared.questions.Answered.{Answered}
use Rattle.plain_questions.specs.declared.questions.Answered.TheVariants.{Refused}
use Rattle.plain_questions.specs.Answer.{answer}
use Rattle.plain_questions.specs.Spellings.{answer_spelling}
use Rattle.plain_questions.specs.Valid.{is_question, is_answer}
use Rattle.plain_questions.specs.Readings.{question_of, answer_over_bytes}

-- what bytes are told; those that spell no question are malformed
abbrev pub told_over_bytes : Site → List ℕ → Answered
told_over_bytes site bytes = option_map_or (answer site) (question_of bytes) (Refused Malformed)

-- what a sound site tells can be spelled, and fits a frame
pub record AnswersFit : Type 0 where
  pub valid : (site : Site) (q : Question) → IsTrue (is_question q) → IsSound site → IsTrue (is_answer (answer site q))
  pub short : (site : Site) (q : Question) → IsTrue (is_question q) → IsSound site → length (answer_spelling (answer site q)) ≤ longest_frame

-- so does what it tells over bytes, whatever they spell
pub record AnswersToBytesFit : Type 0 where
  pub valid : (site : Site) (bytes : List ℕ) → IsSound site → IsTrue (is_answer (told_over_bytes site bytes))
  pub short : (site : Site) (bytes : List ℕ) → IsSound site → length (answer_over_bytes site bytes) ≤ longest_frame
