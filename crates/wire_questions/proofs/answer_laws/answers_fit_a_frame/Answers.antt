use Rattle.wire_questions.proofs.AnswersFit.{answers-fit, answers-to-bytes-fit}
use Rattle.wire_questions.proofs.answer_laws.answers_fit_a_frame.Goals as goal

pub returns-clause-questions : goal.returns-clause-questions
returns-clause-questions c = answers-fit

pub returns-clause-bytes : goal.returns-clause-bytes
returns-clause-bytes c = answers-to-bytes-fit
