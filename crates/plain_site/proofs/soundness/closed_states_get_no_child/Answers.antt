use Rattle.plain_site.proofs.ClosedStates.{closed-get-no-child}
use Rattle.plain_site.proofs.soundness.closed_states_get_no_child.Goals as goal

pub returns : goal.returns
returns c = closed-get-no-child
