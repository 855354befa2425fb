use Rattle.std.proofs.Common.{[], append-nil, inl, refl, sym, subst}
use Rattle.frame_cut.specs.Events.{event_of}
use Rattle.export_run.proofs.silence.SilenceResponder.respond.Goals as goal

pub returns-in-Ok-clause-answer : goal.returns-in-Ok-clause-answer
returns-in-Ok-clause-answer g c = λ s f. record {
  answer = [];
  state = g.M.Machine.plain.step s (event_of c.args.body.now);
  allowed = inl (refl, refl);
  stands = subst (λ e. g.M.Machine.stands c.act.new.self (g.M.Machine.plain.step s e)) c.event-actor.ensures (c.in-Ok.ensures.step s f);
  put = sym (append-nil c.args.out.now.bytes);
}
