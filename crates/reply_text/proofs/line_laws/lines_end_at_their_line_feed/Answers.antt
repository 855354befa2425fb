use Rattle.reply_text.proofs.Printed.{request-lines-end, reply-lines-end}
use Rattle.reply_text.proofs.line_laws.lines_end_at_their_line_feed.Goals as goal

pub returns-clause-request : goal.returns-clause-request
returns-clause-request c = request-lines-end

pub returns-clause-reply : goal.returns-clause-reply
returns-clause-reply c = reply-lines-end
