use Rattle.std.proofs.Common.{◌∙◌, refl, inl, inr}
use Rattle.std.proofs.lemmas.Bool.{false_from_ne_true}
use Rattle.tardis_base.specs.Plain.{no_memory}
use Rattle.shell_run.proofs.Asked.{false_is_not_true, told}
use Rattle.shell_run.proofs.audits.AuditLinesResponder.respond.Goals as goal

pub returns-in-Ok-clause-answer : goal.returns-in-Ok-clause-answer
returns-in-Ok-clause-answer g c = λ s f.
    told g.M.Machine.plain (g.M.Machine.stands c.act.new.self) s (g.M.Machine.plain.step s (c.event-actor.result.0, c.event-actor.result.1.now))
    c.args.body.now c.args.out.now.bytes c.put_told.new.out.bytes
    c.event-actor.result.0 c.event-actor.result.1.now c.bytes.result.now c.event-actor.ensures
    (inl (c.bytes.ensures.same ∙ c.in-Ok.ensures.reply s f, refl)) (c.in-Ok.ensures.step s f) c.put_told.ensures.bytes

pub returns-in-Err-clause-answer : goal.returns-in-Err-clause-answer
returns-in-Err-clause-answer g c = λ s f.
    told g.M.Machine.plain (g.M.Machine.stands c.act.new.self) s s c.args.body.now c.args.out.now.bytes c.put_told-in-Err.new.out.bytes
    c.event-actor.result.0 c.event-actor.result.1.now no_memory c.event-actor.ensures
    (inr (
      refl,
      false_from_ne_true (g.M.Machine.plain.is_sure (c.event-actor.result.0, c.event-actor.result.1.now))
          (λ sure. false_is_not_true (c.in-Err.ensures.sure sure)),
      refl,
    )) (c.in-Err.ensures.same s f) c.put_told-in-Err.ensures.bytes
