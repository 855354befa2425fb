use Rattle.std.proofs.Common.{sym, subst}
use Rattle.site_peers.specs.Asking.{AreStatistics}
use Rattle.site_peers.proofs.Telling.{no_fault}
use Rattle.site_peers.proofs.pulls.put_pull.Goals as goal

pub returns-in-Err-clause-none : goal.returns-in-Err-clause-none
returns-in-Err-clause-none c = λ none lines are.
    no_fault c.talk_has_one_spelling.ensures.reply c.bytes.result.now lines c.read_reply.result c.in-Err._fault c.read_reply.ensures.malformed
    c.read_reply.ensures.sure c.in-Err.is (subst (λ b. AreStatistics b lines) (sym c.bytes.ensures.same) are)
