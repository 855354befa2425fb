use Rattle.plain_site.proofs.RepliesSite.{refusals-leave-site, refused-bytes-leave-site}
use Rattle.plain_site.proofs.replies.refusals_leave_site.Goals as goal

pub returns-clause-requests : goal.returns-clause-requests
returns-clause-requests c = refusals-leave-site

pub returns-clause-bytes : goal.returns-clause-bytes
returns-clause-bytes c = refused-bytes-leave-site
