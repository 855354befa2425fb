use Rattle.session_laws.proofs.OneReply.{gives-one-reply}
use Rattle.session_laws.proofs.one_site_gives_one_reply.Goals as goal

pub returns : goal.returns
returns c = λ core. gives-one-reply core
