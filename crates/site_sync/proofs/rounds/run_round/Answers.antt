use Rattle.std.proofs.Common.{[], refl}
use Rattle.site_sync.proofs.Going.{goes_both}
use Rattle.site_sync.proofs.rounds.run_round.Goals as goal

pub returns-then-tidy-clause-goes_on : goal.returns-then-tidy-clause-goes_on
returns-then-tidy-clause-goes_on g c =
    goes_both c.args.pass c.call_all-pass.result.0 c.tidy_up.result.0 c.call_all-pass.ensures.goes_on c.tidy_up.ensures.goes_on

pub returns-then-tidy-clause-round : goal.returns-then-tidy-clause-round
returns-then-tidy-clause-round g c = record {
  mid = c.call_all-pass.result.0;
  between = c.call_all-pass.result.1;
  calls = c.call_all-pass.ensures.calls;
  tidies = rw c.if-tidy.true c.tidy_up.ensures.tidies;
}

pub returns-else-tidy-clause-goes_on : goal.returns-else-tidy-clause-goes_on
returns-else-tidy-clause-goes_on g c = c.call_all-pass.ensures.goes_on

pub returns-else-tidy-clause-round : goal.returns-else-tidy-clause-round
returns-else-tidy-clause-round g c = record {
  mid = c.call_all-pass.result.0;
  between = c.call_all-pass.result.1;
  calls = c.call_all-pass.ensures.calls;
  tidies = rw c.if-tidy.false (record { steps = []; tried = refl; numbers = refl });
}
