use Rattle.site_log.proofs.Wanting.{groups_result, other_end, with_front}
use Rattle.site_log.proofs.reads.take_wanted.Goals as goal

pub returns-in-Ok-clause-wanted : goal.returns-in-Ok-clause-wanted
returns-in-Ok-clause-wanted g c =
    with_front c.args.front.now c.args.wanted.now c.take_groups.result c.in-Ok.ensures c.take_groups.ensures.front

pub returns-in-Ok-clause-refused : goal.returns-in-Ok-clause-refused
returns-in-Ok-clause-refused g c =
    groups_result g.M.Resting c.args.machine.now c.args.bytes.now c.args.front.now c.args.wanted.now c.in-Ok.ensures c.take_groups.result
    c.take_groups.ensures.refused

pub returns-in-Err-clause-refused : goal.returns-in-Err-clause-refused
returns-in-Err-clause-refused g c =
    other_end g.M.Resting c.args.machine.now c.args.bytes.now c.args.front.now c.args.wanted.now c.in-Err.end c.in-Err.ensures
