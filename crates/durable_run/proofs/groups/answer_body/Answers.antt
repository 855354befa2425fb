use Rattle.std.proofs.Common.{◌≡◌, ◌++◌, subst}
use Rattle.frame_cut.specs.Frames.{frame}
use Rattle.durable_run.proofs.Grouped.{one_more}
use Rattle.durable_run.proofs.groups.answer_body.Goals as goal

pub returns-clause-grouped : goal.returns-clause-grouped
returns-clause-grouped g c = λ at given bodies group.
    let M = g.M.Machine in
    let K = g.K.Disk in
    let put = subst (λ r. c.put_reply.new.out.bytes ≡ c.args.gathered.now.bytes ++ frame r) c.bytes.ensures.same c.put_reply.ensures.bytes in
    one_more M K at c.args.journal.now c.stage-staged.new.self given
    c.args.gathered.now.bytes c.put_reply.new.out.bytes c.stage-staged.new.out c.spell.new.reply c.args.body.now bodies
    (c.event-actor.result.0, c.event-actor.result.1.now) c.stage-staged.result c.event-actor.ensures c.stage-staged.ensures.staged c.spell.ensures put
    c.stage-staged.ensures.opening c.stage-staged.ensures.most c.stage-staged.ensures.disk group
