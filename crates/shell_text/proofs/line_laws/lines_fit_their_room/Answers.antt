use Rattle.shell_text.proofs.Lengths.{reply-lines-fit, request-lines-fit}
use Rattle.shell_text.proofs.line_laws.lines_fit_their_room.Goals as goal

pub returns-clause-request : goal.returns-clause-request
returns-clause-request c = request-lines-fit

pub returns-clause-reply : goal.returns-clause-reply
returns-clause-reply c = reply-lines-fit
