-- Laws of questions and answers.
use Rattle.std.specs.Prelude.{◌≡◌, ℕ, Bool, true, false, None, IsFalse}
use Rattle.tardis_base.specs.declared.ids.StateId.{StateId}
use Rattle.tardis_base.specs.declared.replies.Refusal.TheVariants.{Malformed as MalformedReply, Unknown as UnknownReply, Collected as CollectedReply}
use Rattle.tardis_base.specs.declared.replies.Reply.TheVariants.{Refused as RefusedReply}
use Rattle.wire_item.specs.Laws.{HasOneSpelling}
use Rattle.wire_talk.specs.Spellings.{reply_spelling}
use Rattle.wire_talk.specs.RequestReadings.{request_of}
use Rattle.wire_talk.specs.ReplyReadings.{reply_of}
use Rattle.plain_questions.specs.declared.questions.Question.{Question}
use Rattle.plain_questions.specs.declared.questions.Denial.TheVariants.{Malformed, Unknown, Collected, ForkPoints}
use Rattle.plain_questions.specs.declared.questions.Answered.{Answered}
use Rattle.plain_questions.specs.declared.questions.Answered.TheVariants.{Refused}
use Rattle.plain_questions.specs.Spellings.{question_spelling, answer_spelling}
use Rattle.plain_questions.specs.Valid.{is_question, is_answer}
use Rattle.plain_questions.specs.Readings.{question_of, answer_of}

-- ===== Spellings

abbrev pub QuestionsHaveOneSpelling : Type 0
QuestionsHaveOneSpelling = HasOneSpelling is_question question_spelling question_of

abbrev pub AnswersHaveOneSpelling : Type 0
AnswersHaveOneSpelling = HasOneSpelling is_answer answer_spelling answer_of

-- what a question is spelled as is no request
abbrev pub QuestionsAreNoRequests : Type 0
QuestionsAreNoRequests = (q : Question) → request_of (question_spelling q) ≡ None

-- nothing is told
abbrev pub is_refused : Answered → Bool
is_refused (Refused why) = true
is_refused _ = false

-- What is told is spelled as no reply is. Where nothing is told it is spelled as a refused request is, where there is such a
-- refusal.
pub record AnswersAreApart : Type 0 where
  pub told : (a : Answered) → IsFalse (is_refused a) → reply_of (answer_spelling a) ≡ None
  pub malformed : answer_spelling (Refused Malformed) ≡ reply_spelling (RefusedReply MalformedReply)
  pub unknown : (x : StateId) → answer_spelling (Refused (Unknown x)) ≡ reply_spelling (RefusedReply (UnknownReply x))
  pub collected : (x : StateId) → answer_spelling (Refused (Collected x)) ≡ reply_spelling (RefusedReply (CollectedReply x))
  pub fork_points : (n : ℕ) → reply_of (answer_spelling (Refused (ForkPoints n))) ≡ None
