use Rattle.plain_checkpoint.specs.Checkpoints.{ToldState}
use Rattle.rest_site.proofs.Loads.{some-limits, part-loaded, not-begun}
use Rattle.rest_site.proofs.loading.load_state.Goals as goal

pub taken_out-requires : goal.taken_out-requires
taken_out-requires c = some-limits c.args.core.now c.args.loading.now c.requires.stands

pub returns-in_err-checkpoint : goal.returns-in_err-checkpoint
returns-in_err-checkpoint c =
    not-begun c.args.core.now.store.table.limits c.args.loading.now c.taken_out.new.loading (ToldState c.args.rec) c.from_residual.result c.in_err-checkpoint.ensures.none
    c.taken_out.ensures.taken c.from_residual.ensures.0

pub returns : goal.returns
returns c =
    part-loaded c.args.core.now.store.table.limits c.args.loading.now c.put_back.new.loading c.in_ok-checkpoint.checkpoint c.take_state-taken.new.self (ToldState c.args.rec) c.take_state-taken.result
    c.in_ok-checkpoint.ensures.stands c.take_state-taken.ensures.limits c.take_state-taken.ensures.taken c.put_back.ensures
