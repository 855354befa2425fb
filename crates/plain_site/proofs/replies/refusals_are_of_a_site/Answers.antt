use Rattle.plain_site.proofs.RepliesMemory.{refuses-as-a-site}
use Rattle.plain_site.proofs.replies.refusals_are_of_a_site.Goals as goal

pub returns : goal.returns
returns c = refuses-as-a-site
