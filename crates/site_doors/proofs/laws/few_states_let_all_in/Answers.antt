use Rattle.site_doors.proofs.Shares.{few-states-let-all-in}
use Rattle.site_doors.proofs.laws.few_states_let_all_in.Goals as goal

pub returns : goal.returns
returns c = few-states-let-all-in
