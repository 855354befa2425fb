use Rattle.plain_questions.proofs.Apart.{questions-are-no-requests, answers-are-apart}
use Rattle.plain_questions.proofs.spelling_laws.questions_are_apart.Goals as goal

pub returns-clause-question : goal.returns-clause-question
returns-clause-question c = questions-are-no-requests

pub returns-clause-answer : goal.returns-clause-answer
returns-clause-answer c = answers-are-apart
