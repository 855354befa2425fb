use Rattle.std.proofs.Common.{sym, subst}
use Rattle.auto_run.specs.Telling.{CanBeTold}
use Rattle.auto_run.proofs.Refusals.{step-told}
use Rattle.auto_run.proofs.Answering.{stepped, wanting}
use Rattle.auto_run.proofs.replies.put_step.Goals as goal

pub put-requires-clause-told : goal.put-requires-clause-told
put-requires-clause-told g c =
    let before = c.requires.stands in
    subst CanBeTold (sym (c.in-Ok.ensures.plain before.site before.there).1)
    (step-told before.site c.args.actor c.args.rules.now (g.met.A.AnySite.sound c.args.core.now before.site before.there))

pub returns-in-Ok-clause-answer : goal.returns-in-Ok-clause-answer
returns-in-Ok-clause-answer g c = λ site f.
    let ended = c.in-Ok.ensures.plain site f in
    stepped c.args.actor c.args.rules.now (g.A.AnySite.stands c.auto_step.new.core) site c.args.out.now.bytes c.put.new.out.bytes c.in-Ok.end ended.0 ended.1
    c.put.ensures.bytes

pub returns-in-Err-clause-answer : goal.returns-in-Err-clause-answer
returns-in-Err-clause-answer g c = λ site f.
    wanting c.args.actor c.args.rules.now (g.A.AnySite.stands c.auto_step.new.core) site c.args.out.now.bytes c.put-in-Err.new.self.bytes
    (c.in-Err.ensures.plain site f) c.put-in-Err.ensures.bytes
