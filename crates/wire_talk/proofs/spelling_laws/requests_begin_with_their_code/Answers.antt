use Rattle.wire_talk.proofs.Laws.{codes}
use Rattle.wire_talk.proofs.spelling_laws.requests_begin_with_their_code.Goals as goal

pub returns : goal.returns
returns c = codes
