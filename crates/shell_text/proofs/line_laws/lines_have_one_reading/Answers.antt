use Rattle.shell_text.proofs.RequestsRead.{requests}
use Rattle.shell_text.proofs.RepliesRead.{replies}
use Rattle.shell_text.proofs.line_laws.lines_have_one_reading.Goals as goal

pub returns-clause-request : goal.returns-clause-request
returns-clause-request c = requests

pub returns-clause-reply : goal.returns-clause-reply
returns-clause-reply c = replies
