use Rattle.std.proofs.Common.{map}
use Rattle.tardis_io.specs.Told.{WhileTold}
use Rattle.tardis_io.proofs.Told.{same, weaker}
use Rattle.tardis_io.specs.declared.statuses.Status.TheVariants.{NoMemory}
use Rattle.frame_cut.specs.Events.{event_of}
use Rattle.site_run.specs.Machines.{MachineMay, Answered}
use Rattle.site_run.specs.Endings.{Outcome, shape_of}
use Rattle.site_run.proofs.Replies.{machine_outcome}
use Rattle.site_run.specs.Responses.{Whole}
use Rattle.site_run.specs.Prompt.{UpToDate}
use Rattle.site_run.proofs.Takings.{FramesDone, frames_done_none}
use Rattle.site_run.proofs.Prompts.{each_none, machine_prompt}
use Rattle.site_run.proofs.runs.run_device.Goals as goal

pub returns-in-Ok-clause-outcome : goal.returns-in-Ok-clause-outcome
returns-in-Ok-clause-outcome g c =
    weaker (g.D.Duplex.left c.args.device.now) (g.D.Duplex.left c.answer_frames.new.device)
    (FramesDone (MachineMay g.M.Machine.plain) 2097156 (g.M.Machine.stands c.args.machine.now) (g.M.Machine.stands c.answer_frames.new.subject)
    (g.D.Sink.given c.args.device.now) (g.D.Sink.given c.answer_frames.new.device) c.answer_frames.result)
    (λ first left. Outcome c.answer_frames.result (g.M.Machine.stands c.args.machine.now)
    (λ s bodies. Answered g.M.Machine.plain (shape_of c.answer_frames.result) (g.M.Machine.stands c.answer_frames.new.subject)
    (g.D.Sink.given c.args.device.now) (g.D.Sink.given c.answer_frames.new.device) s (map event_of bodies)) first left)
    c.answer_frames.ensures.outcome
    (λ x y o. machine_outcome g.M.Machine.plain c.answer_frames.result (g.M.Machine.stands c.args.machine.now)
    (g.M.Machine.stands c.answer_frames.new.subject) (g.D.Sink.given c.args.device.now) (g.D.Sink.given c.answer_frames.new.device) x y o)

pub returns-in-Err-clause-outcome : goal.returns-in-Err-clause-outcome
returns-in-Err-clause-outcome g c =
    same (g.D.Duplex.left c.args.device.now)
    (λ first left. Outcome NoMemory (g.M.Machine.stands c.args.machine.now)
    (λ s bodies. Answered g.M.Machine.plain (shape_of NoMemory) (g.M.Machine.stands c.args.machine.now) (g.D.Sink.given c.args.device.now)
    (g.D.Sink.given c.args.device.now) s (map event_of bodies)) first left)
    (λ x. machine_outcome g.M.Machine.plain NoMemory (g.M.Machine.stands c.args.machine.now) (g.M.Machine.stands c.args.machine.now)
    (g.D.Sink.given c.args.device.now) (g.D.Sink.given c.args.device.now) x x
    (frames_done_none (MachineMay g.M.Machine.plain) 2097156 (g.M.Machine.stands c.args.machine.now) (g.D.Sink.given c.args.device.now) x))

pub returns-in-Ok-clause-prompt : goal.returns-in-Ok-clause-prompt
returns-in-Ok-clause-prompt g c =
    machine_prompt g.M.Machine.plain (g.M.Machine.stands c.args.machine.now) (g.D.Sink.given c.args.device.now) (g.D.Duplex.left c.args.device.now)
    (g.D.Duplex.takes c.args.device.now) (g.D.Duplex.takes c.answer_frames.new.device) c.answer_frames.ensures.prompt

pub returns-in-Err-clause-prompt : goal.returns-in-Err-clause-prompt
returns-in-Err-clause-prompt g c = each_none (g.D.Duplex.takes c.args.device.now)
    (λ moment. WhileTold (g.D.Duplex.left c.args.device.now) moment.left
    (UpToDate (g.M.Machine.stands c.args.machine.now) (λ s bodies. Answered g.M.Machine.plain Whole (λ _. Unit {0}) (g.D.Sink.given c.args.device.now)
    moment.given s (map event_of bodies))))
