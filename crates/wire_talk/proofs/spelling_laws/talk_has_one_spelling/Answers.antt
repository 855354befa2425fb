use Rattle.wire_talk.proofs.Laws.{requests, replies}
use Rattle.wire_talk.proofs.spelling_laws.talk_has_one_spelling.Goals as goal

pub returns-clause-request : goal.returns-clause-request
returns-clause-request c = requests

pub returns-clause-reply : goal.returns-clause-reply
returns-clause-reply c = replies
