use Rattle.wire_lives.proofs.Laws.{one-spelling, their-length}
use Rattle.wire_lives.proofs.introductions.introductions_have_one_spelling.Goals as goal

pub returns-clause-one : goal.returns-clause-one
returns-clause-one c = one-spelling

pub returns-clause-length : goal.returns-clause-length
returns-clause-length c = their-length
