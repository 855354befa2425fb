use Rattle.std.proofs.Common.{Some, Err, sym, ap, ◌∙◌}
use Rattle.tardis_base.specs.Plain.{no_memory}
use Rattle.shell_run.specs.Answers.{malformed, over_lines}
use Rattle.shell_run.proofs.Asked.{false_is_not_true, wanting, wanting_to_read, refused, responded}
use Rattle.shell_run.proofs.shells.ShellRepliesResponder.respond.Goals as goal

pub returns-in-Err-clause-answer : goal.returns-in-Err-clause-answer
returns-in-Err-clause-answer g c = λ s f.
    responded (over_lines g.M.Machine.plain) (g.M.Machine.stands c.act.new.self) s s c.args.body.now c.args.out.now.bytes c.put_line-in-Err.new.out.bytes
    no_memory
    (wanting g.M.Machine.plain s c.args.body.now (c.in-Ok.actor, c.bytes.result.now)
    (c.in-Ok.ensures.read ∙ ap (λ b. Some (c.in-Ok.actor, b)) (sym c.bytes.ensures.same)) (λ sure. false_is_not_true (c.in-Err.ensures.sure sure)))
    (c.in-Err.ensures.same s f) c.put_line-in-Err.ensures.bytes

pub returns-in-Err-Malformed-clause-answer : goal.returns-in-Err-Malformed-clause-answer
returns-in-Err-Malformed-clause-answer g c = λ s f.
    responded (over_lines g.M.Machine.plain) (g.M.Machine.stands c.args.subject.now) s s c.args.body.now c.args.out.now.bytes
    c.put_line-in-Err-Malformed.new.out.bytes malformed
    (refused g.M.Machine.plain s c.args.body.now (c.in-Err-Malformed.ensures.malformed (ap (λ e. Err e) c.in-Err-Malformed.field-0-is))) f
    c.put_line-in-Err-Malformed.ensures.bytes

pub returns-in-Err-NoMemory-clause-answer : goal.returns-in-Err-NoMemory-clause-answer
returns-in-Err-NoMemory-clause-answer g c = λ s f.
    responded (over_lines g.M.Machine.plain) (g.M.Machine.stands c.args.subject.now) s s c.args.body.now c.args.out.now.bytes
    c.put_line-in-Err-NoMemory.new.out.bytes no_memory
    (wanting_to_read g.M.Machine.plain s c.args.body.now (c.in-Err-NoMemory.ensures.memory (ap (λ e. Err e) c.in-Err-NoMemory.field-0-is))) f
    c.put_line-in-Err-NoMemory.ensures.bytes
