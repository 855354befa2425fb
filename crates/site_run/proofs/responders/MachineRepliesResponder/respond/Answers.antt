use Rattle.std.proofs.Common.{◌≡◌, ◌++◌, ◌∙◌, List, ℕ, refl, ap, inl}
use Rattle.tardis_base.specs.Plain.{Event, PlainMachine}
use Rattle.frame_cut.specs.Frames.{frame}
use Rattle.frame_cut.specs.Events.{event_of}
use Rattle.site_run.specs.Responses.{Responded}
use Rattle.site_run.specs.Machines.{MachineMay}
use Rattle.site_run.proofs.responders.MachineRepliesResponder.respond.Goals as goal

-- a body is answered by the frame of the machine's reply to its event
by_reply : {S : Type 0} (m : PlainMachine S) (to : S → Type 0) (s : S) (body old new reply : List ℕ) (e : Event) → e ≡ event_of body
    → reply ≡ m.reply s e → to (m.step s e) → new ≡ old ++ frame reply → Responded (MachineMay m) to s body old new
by_reply m to s body old new reply e asked replied stands put = record {
  answer = frame reply;
  state = m.step s e;
  allowed = (reply, (refl, inl (replied ∙ ap (m.reply s) asked, ap (m.step s) asked)));
  stands = stands;
  put = put;
}

pub returns-in-Ok-clause-answer : goal.returns-in-Ok-clause-answer
returns-in-Ok-clause-answer g c = λ s f.
    by_reply g.M.Machine.plain (g.M.Machine.stands c.act.new.self) s c.args.body.now c.args.out.now.bytes c.put_reply.new.out.bytes
    c.bytes.result.now (c.event-actor.result.0, c.event-actor.result.1.now) c.event-actor.ensures
    (c.bytes.ensures.same ∙ c.in-Ok.ensures.reply s f) (c.in-Ok.ensures.step s f) c.put_reply.ensures.bytes
