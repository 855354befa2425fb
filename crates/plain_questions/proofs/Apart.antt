-- Questions are no requests, and answers are no replies.
use Rattle.std.proofs.Common.{refl}
use Rattle.plain_questions.specs.declared.questions.Question.TheVariants.{At, Keys, Scan, Record as RecordOf, Base, Sessions, Site as TheSite}
use Rattle.plain_questions.specs.declared.questions.Answered.TheVariants.{Read, Keys as TheKeys, Entries, Record as TheRecord, ForkReads, Sessions as TheSessions}
use Rattle.plain_questions.specs.declared.questions.Answered.{Answered}
use Rattle.plain_questions.specs.declared.questions.Answered.TheVariants.{Site as OfSite, Refused}
use Rattle.std.specs.Prelude.{◌≡◌, None, IsFalse}
use Rattle.wire_talk.specs.ReplyReadings.{reply_of}
use Rattle.plain_questions.specs.Spellings.{answer_spelling}
use Rattle.plain_questions.specs.Laws.{QuestionsAreNoRequests, AnswersAreApart, is_refused}

pub questions-are-no-requests : QuestionsAreNoRequests
questions-are-no-requests (At state key) = refl
questions-are-no-requests (Keys state prefix after) = refl
questions-are-no-requests (Scan state prefix after) = refl
questions-are-no-requests (RecordOf state) = refl
questions-are-no-requests (Base states key) = refl
questions-are-no-requests (Sessions after) = refl
questions-are-no-requests TheSite = refl

told-is-no-reply : (a : Answered) → IsFalse (is_refused a) → reply_of (answer_spelling a) ≡ None
told-is-no-reply (Read found) h = refl
told-is-no-reply (TheKeys total first) h = refl
told-is-no-reply (Entries total first) h = refl
told-is-no-reply (TheRecord arrival parents kept_parents kept_children keys) h = refl
told-is-no-reply (ForkReads reads) h = refl
told-is-no-reply (TheSessions floor total first) h = refl
told-is-no-reply (OfSite version limits own known kept) h = refl
told-is-no-reply (Refused why) h = absurd (cc)

pub answers-are-apart : AnswersAreApart
answers-are-apart = record {
  told = told-is-no-reply;
  malformed = refl;
  unknown = λ x. refl;
  collected = λ x. refl;
  fork_points = λ n. refl;
}
