use Rattle.plain_questions.proofs.Spelled.{questions-have-one-spelling, answers-have-one-spelling}
use Rattle.plain_questions.proofs.spelling_laws.questions_have_one_spelling.Goals as goal

pub returns-clause-question : goal.returns-clause-question
returns-clause-question c = questions-have-one-spelling

pub returns-clause-answer : goal.returns-clause-answer
returns-clause-answer c = answers-have-one-spelling
