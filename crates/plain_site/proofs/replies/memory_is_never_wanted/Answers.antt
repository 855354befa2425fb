use Rattle.plain_site.proofs.RepliesMemory.{never-wants-memory}
use Rattle.plain_site.proofs.replies.memory_is_never_wanted.Goals as goal

pub returns : goal.returns
returns c = never-wants-memory
