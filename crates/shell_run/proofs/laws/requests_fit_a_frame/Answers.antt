use Rattle.shell_run.proofs.Lengths.{fits}
use Rattle.shell_run.proofs.laws.requests_fit_a_frame.Goals as goal

pub returns : goal.returns
returns c = fits c.spellings_have_their_lengths.ensures.record c.spellings_have_their_lengths.ensures.bound c.spellings_have_their_lengths.ensures.consent
