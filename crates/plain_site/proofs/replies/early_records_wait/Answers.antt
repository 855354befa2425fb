use Rattle.plain_site.proofs.RepliesSite.{early-records-wait, early-bytes-wait}
use Rattle.plain_site.proofs.replies.early_records_wait.Goals as goal

pub returns-clause-requests : goal.returns-clause-requests
returns-clause-requests c = early-records-wait

pub returns-clause-bytes : goal.returns-clause-bytes
returns-clause-bytes c = early-bytes-wait
