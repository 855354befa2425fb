use Rattle.auto_run.proofs.Lines.{auto-lines}
use Rattle.auto_run.proofs.laws.auto_lines_have_one_reading.Goals as goal

pub returns : goal.returns
returns c = auto-lines
