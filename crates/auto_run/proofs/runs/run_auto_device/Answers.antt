use Rattle.std.proofs.Common.{[]}
use Rattle.tardis_io.proofs.Told.{weaker, same}
use Rattle.tardis_io.specs.declared.statuses.Status.TheVariants.{NoMemory}
use Rattle.site_run.specs.Responses.{AnsweredBy}
use Rattle.site_run.specs.Endings.{shape_within}
use Rattle.site_run.specs.Endings.{LineOutcome}
use Rattle.shell_run.specs.Answers.{over_lines}
use Rattle.plain_site.specs.Step.{site_machine}
use Rattle.auto_run.specs.Ruled.{RuledStands, RuledMay}
use Rattle.auto_run.specs.Outcomes.{AutoOutcome, AutoIsPrompt}
use Rattle.auto_run.proofs.AutoRuns.{of_site, no_run}
use Rattle.auto_run.proofs.AutoPrompts.{auto_prompt, no_take}
use Rattle.tardis_io.specs.Told.{WhileTold}
use Rattle.auto_run.proofs.runs.run_auto_device.Goals as goal

pub returns-in-Ok-clause-outcome : goal.returns-in-Ok-clause-outcome
returns-in-Ok-clause-outcome g c =
    let before = c.args.site.now in
    let after = c.answer_lines.new.subject in
    let status = c.answer_lines.result in
    let old = g.D.Sink.given c.args.device.now in
    let new = g.D.Sink.given c.answer_lines.new.device in
    weaker (g.D.Duplex.left c.args.device.now) (g.D.Duplex.left c.answer_lines.new.device)
    (LineOutcome status (RuledStands g.A.AnySite.stands before)
    (λ s lines. AnsweredBy RuledMay (shape_within 5242945 status) (RuledStands g.A.AnySite.stands after) old new [] [] s lines))
    (AutoOutcome (over_lines site_machine) before.rules status (g.A.AnySite.stands before.core) (g.A.AnySite.stands after.core) old new)
    c.answer_lines.ensures.outcome
    (λ x y o. of_site g.A.AnySite.stands before after status old new x y o)

pub returns-in-Err-clause-outcome : goal.returns-in-Err-clause-outcome
returns-in-Err-clause-outcome g c =
    let site = c.args.site.now in
    let given = g.D.Sink.given c.args.device.now in
    same (g.D.Duplex.left c.args.device.now) (AutoOutcome (over_lines site_machine) site.rules NoMemory (g.A.AnySite.stands site.core) (g.A.AnySite.stands site.core) given
    given)
    (λ x. no_run (over_lines site_machine) site.rules (g.A.AnySite.stands site.core) (g.A.AnySite.stands site.core) given x (λ s f. f))

pub returns-in-Ok-clause-prompt : goal.returns-in-Ok-clause-prompt
returns-in-Ok-clause-prompt g c =
    auto_prompt g.A.AnySite.stands c.args.site.now (g.D.Sink.given c.args.device.now) (g.D.Duplex.left c.args.device.now)
    (g.D.Duplex.takes c.args.device.now) (g.D.Duplex.takes c.answer_lines.new.device) c.answer_lines.ensures.prompt

pub returns-in-Err-clause-prompt : goal.returns-in-Err-clause-prompt
returns-in-Err-clause-prompt g c =
    no_take (g.D.Duplex.takes c.args.device.now) (λ moment. WhileTold (g.D.Duplex.left c.args.device.now) moment.left
    (AutoIsPrompt (over_lines site_machine) c.args.site.now.rules (g.A.AnySite.stands c.args.site.now.core) (g.D.Sink.given c.args.device.now) moment.given))
