use Rattle.std.proofs.Common.{◌≡◌, map, [], Some, subst, rules}
use Rattle.tardis_io.specs.Told.{WhileTold}
use Rattle.tardis_io.proofs.Told.{same, weaker}
use Rattle.tardis_io.specs.declared.statuses.Status.TheVariants.{NoMemory}
use Rattle.frame_cut.specs.Events.{event_of}
use Rattle.site_run.specs.Responses.{AnsweredBy}
use Rattle.site_run.specs.Endings.{Outcome, shape_within}
use Rattle.export_run.specs.Silence.{SilentMay, Led}
use Rattle.export_run.proofs.Silences.{led, unled, outcome-weaker}
use Rattle.export_run.proofs.silence.ask_silently.Goals as goal

pub returns-in_default-clause-outcome : goal.returns-in_default-clause-outcome
returns-in_default-clause-outcome g c =
    same (g.I.Source.left c.args.input.now)
    (λ first left. Outcome NoMemory (g.M.Machine.stands c.args.machine.now)
    (λ s bodies. Led g.M.Machine.plain NoMemory (g.M.Machine.stands c.args.machine.now) s (map event_of bodies)) first left)
    (λ x. unled g.M.Machine.plain (g.M.Machine.stands c.args.machine.now) x)

pub returns-clause-outcome : goal.returns-clause-outcome
returns-clause-outcome g c =
    let from = g.M.Machine.stands c.args.machine.now in
    let to = g.M.Machine.stands c.answer_frames.new.subject in
    let status = c.answer_frames.result in
    let input : c.answer_frames.new.device.input.now ≡ c.input-1.given.0 = search rules in
    subst (λ i. WhileTold (g.I.Source.left c.args.input.now) (g.I.Source.left i)
    (λ first left. Outcome status from (λ s bodies. Led g.M.Machine.plain status to s (map event_of bodies)) first left)) input
    (weaker (g.I.Source.left c.args.input.now) (g.I.Source.left c.answer_frames.new.device.input.now)
    (λ first left. Outcome status from (λ s bodies. AnsweredBy (SilentMay g.M.Machine.plain) (shape_within 1048577 status) to (Some [])
    (Some []) [] [] s bodies) first left)
    (λ first left. Outcome status from (λ s bodies. Led g.M.Machine.plain status to s (map event_of bodies)) first left)
    c.answer_frames.ensures.outcome
    (λ x y o.
    outcome-weaker status from (λ s bodies. AnsweredBy (SilentMay g.M.Machine.plain) (shape_within 1048577 status) to (Some []) (Some []) [] [] s bodies)
    (λ s bodies. Led g.M.Machine.plain status to s (map event_of bodies)) x y
    (λ s bodies a. led g.M.Machine.plain 1048577 status to s bodies a) o))
