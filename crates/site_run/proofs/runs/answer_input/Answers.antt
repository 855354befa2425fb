use Rattle.std.proofs.Common.{◌≡◌, inl, inr, ◌+◌, ◌≤◌, ◌∙◌, ◌++◌, [], length, take, sym, refl, subst, arith, rules, Ok}
use Rattle.tardis_io.specs.Told.{WhileTold, Takes}
use Rattle.tardis_io.proofs.Told.{then, weaker, same}
use Rattle.tardis_io.specs.declared.statuses.Status.TheVariants.{Ok as Finished, ReadFault, WriteFault as Broken, Cut, LongFrame, Spent}
use Rattle.site_run.specs.Responses.{Whole, Front, AnsweredBy, Serves}
use Rattle.site_run.specs.Nexts.{IsBehind}
use Rattle.site_run.specs.Ended.{EndIs}
use Rattle.site_run.specs.Prompt.{AllSoFar}
use Rattle.site_run.proofs.Takings.{Taking, Done, taking_none, done_all, done_cut, done_last, done_read, done_spent, taking_more, done_long, done_write}
use Rattle.site_run.proofs.Turns.{front_weaker}
use Rattle.site_run.proofs.Serving.{serves_weaker, answered_weaker}
use Rattle.site_run.proofs.Prompts.{each_none, each_more, up_to_date}
use Rattle.site_run.proofs.runs.answer_input.Goals as goal

pub loop-taken-init : goal.loop-taken-init
loop-taken-init g c = record {
  told = same (g.D.Duplex.left c.args.device.now) (Taking g.C.Cutter.form g.R.Responder.may (1048576 + g.R.Responder.MOST) (g.R.Responder.stands c.args.subject.now) (g.R.Responder.stands c.args.subject.now) (g.D.Sink.given c.args.device.now) (g.D.Sink.given c.args.device.now) 0 (g.C.Cutter.held c.args.buffers.now.cutter))
      (λ x. taking_none g.C.Cutter.form c.requires.laws g.R.Responder.may (g.R.Responder.stands c.args.subject.now) (g.D.Sink.given c.args.device.now) (g.C.Cutter.held c.args.buffers.now.cutter) x c.requires.fresh.cutter);
  prompt = each_none (g.D.Duplex.takes c.args.device.now) (λ moment. WhileTold (g.D.Duplex.left c.args.device.now) moment.left
      (AllSoFar g.C.Cutter.form (g.R.Responder.stands c.args.subject.now)
      (λ s bodies. AnsweredBy g.R.Responder.may Whole (λ _. Unit {0}) (g.D.Sink.given c.args.device.now) moment.given [] [] s bodies)));
  within = omega arith;
  part = subst (λ z. g.C.Cutter.form.IsPart z) (sym c.requires.fresh.cutter) c.requires.laws.nothing;
  piece = search rules;
  none = c.requires.fresh.gathered;
  room = c.requires.fresh.room;
  bounded = c.requires.fresh.bounded;
  read_later = omega arith;
  write_later = omega arith;
  opening = refl;
  parts = refl;
}

pub returns-in-All-clause-outcome : goal.returns-in-All-clause-outcome
returns-in-All-clause-outcome g c =
    let apart = g.met.D.Duplex.gives_are_apart c.answer_last.new.output c.take_front.new.device c.answer_last.ensures.kept in
    let end_is = subst (λ e. EndIs g.C.Cutter.form e (g.C.Cutter.held c.loop-taken.cutter) (λ bodies. (s : g.R.Responder.State) → g.R.Responder.stands c.loop-taken.subject s →
    AnsweredBy g.R.Responder.may Whole (g.R.Responder.stands c.answer_last.new.subject) (g.D.Sink.given c.take_front.new.device) (g.D.Sink.given c.answer_last.new.output) [] [] s bodies)) c.in-All.is c.in-Ok-answer_last.ensures.answered in
    let more = subst (λ h. (s : g.R.Responder.State) → g.R.Responder.stands c.loop-taken.subject s →
    AnsweredBy g.R.Responder.may Whole (g.R.Responder.stands c.answer_last.new.subject) h (g.D.Sink.given c.answer_last.new.output) [] [] s (g.C.Cutter.form.last (g.C.Cutter.held c.loop-taken.cutter))) c.in-Ok-eq0.ensures.given end_is.1 in
    subst (λ l. WhileTold (g.D.Duplex.left c.args.device.now) l (Done g.C.Cutter.form g.R.Responder.may (1048576 + g.R.Responder.MOST) (g.R.Responder.stands c.args.subject.now) (g.R.Responder.stands c.answer_last.new.subject) (g.D.Sink.given c.args.device.now) (g.D.Sink.given c.answer_last.new.output) Finished)) (sym apart.0)
    (then (g.D.Duplex.left c.args.device.now) (g.D.Duplex.left c.loop-taken.device) (g.D.Duplex.left c.take_front.new.device)
    (Taking g.C.Cutter.form g.R.Responder.may (1048576 + g.R.Responder.MOST) (g.R.Responder.stands c.args.subject.now) (g.R.Responder.stands c.loop-taken.subject) (g.D.Sink.given c.args.device.now) (g.D.Sink.given c.loop-taken.device) c.loop-taken.taken (g.C.Cutter.held c.loop-taken.cutter))
    (λ before after. Takes before after (Ok c.in-Ok-eq0.field-0) c.take_front.new.buf)
    (Done g.C.Cutter.form g.R.Responder.may (1048576 + g.R.Responder.MOST) (g.R.Responder.stands c.args.subject.now) (g.R.Responder.stands c.answer_last.new.subject) (g.D.Sink.given c.args.device.now) (g.D.Sink.given c.answer_last.new.output) Finished)
    c.loop-taken.invariant.told c.in-Ok-eq0.ensures.bytes
    (λ x y z p q. done_all g.C.Cutter.form c.requires.laws g.R.Responder.may (1048576 + g.R.Responder.MOST) (g.R.Responder.stands c.args.subject.now) (g.R.Responder.stands c.loop-taken.subject) (g.R.Responder.stands c.answer_last.new.subject) (g.D.Sink.given c.args.device.now) (g.D.Sink.given c.loop-taken.device) (g.D.Sink.given c.answer_last.new.output) c.loop-taken.taken (g.C.Cutter.held c.loop-taken.cutter) x y z
    c.take_front.new.buf c.in-Ok-eq0.field-0 p c.in-Ok-eq0.field-0-test q end_is.0 c.loop-taken-test.true more))

pub returns-in-All-clause-prompt : goal.returns-in-All-clause-prompt
returns-in-All-clause-prompt g c =
    let apart = g.met.D.Duplex.gives_are_apart c.answer_last.new.output c.take_front.new.device c.answer_last.ensures.kept in
    each_more (g.D.Duplex.takes c.args.device.now) (g.D.Duplex.takes c.loop-taken.device) (g.D.Duplex.takes c.answer_last.new.output)
    (g.D.Duplex.left c.loop-taken.device) (g.D.Sink.given c.loop-taken.device)
    (λ moment. WhileTold (g.D.Duplex.left c.args.device.now) moment.left
    (AllSoFar g.C.Cutter.form (g.R.Responder.stands c.args.subject.now)
    (λ s bodies. AnsweredBy g.R.Responder.may Whole (λ _. Unit {0}) (g.D.Sink.given c.args.device.now) moment.given [] [] s bodies)))
    c.loop-taken.invariant.prompt (apart.2 ∙ c.in-Ok-eq0.ensures.told)
    (up_to_date g.C.Cutter.form g.R.Responder.may (g.R.Responder.stands c.args.subject.now) (g.R.Responder.stands c.loop-taken.subject) (g.D.Sink.given c.args.device.now) (g.D.Sink.given c.loop-taken.device) (1048576 + g.R.Responder.MOST) c.loop-taken.taken (g.C.Cutter.held c.loop-taken.cutter)
    (g.D.Duplex.left c.args.device.now) (g.D.Duplex.left c.loop-taken.device) c.loop-taken.invariant.told c.loop-taken.invariant.part)

pub returns-in-All-clause-read_later : goal.returns-in-All-clause-read_later
returns-in-All-clause-read_later g c =
    let apart = g.met.D.Duplex.gives_are_apart c.answer_last.new.output c.take_front.new.device c.answer_last.ensures.kept in
    omega (arith, c.in-Ok-eq0.ensures.cause.later, c.loop-taken.invariant.read_later, apart.1)

pub returns-in-All-clause-parts : goal.returns-in-All-clause-parts
returns-in-All-clause-parts g c =
    let apart = g.met.D.Duplex.gives_are_apart c.answer_last.new.output c.take_front.new.device c.answer_last.ensures.kept in
    apart.3 ∙ (c.in-Ok-eq0.ensures.parts ∙ c.loop-taken.invariant.parts)

pub returns-in-CutOff-clause-outcome : goal.returns-in-CutOff-clause-outcome
returns-in-CutOff-clause-outcome g c =
    let apart = g.met.D.Duplex.gives_are_apart c.answer_last.new.output c.take_front.new.device c.answer_last.ensures.kept in
    let end_is = subst (λ e. EndIs g.C.Cutter.form e (g.C.Cutter.held c.loop-taken.cutter) (λ bodies. (s : g.R.Responder.State) → g.R.Responder.stands c.loop-taken.subject s →
    AnsweredBy g.R.Responder.may Whole (g.R.Responder.stands c.answer_last.new.subject) (g.D.Sink.given c.take_front.new.device) (g.D.Sink.given c.answer_last.new.output) [] [] s bodies)) c.in-CutOff.is c.in-Ok-answer_last.ensures.answered in
    let more = subst (λ h. (s : g.R.Responder.State) → g.R.Responder.stands c.loop-taken.subject s →
    AnsweredBy g.R.Responder.may Whole (g.R.Responder.stands c.answer_last.new.subject) h (g.D.Sink.given c.answer_last.new.output) [] [] s []) c.in-Ok-eq0.ensures.given end_is.1 in
    subst (λ l. WhileTold (g.D.Duplex.left c.args.device.now) l (Done g.C.Cutter.form g.R.Responder.may (1048576 + g.R.Responder.MOST) (g.R.Responder.stands c.args.subject.now) (g.R.Responder.stands c.answer_last.new.subject) (g.D.Sink.given c.args.device.now) (g.D.Sink.given c.answer_last.new.output) Cut)) (sym apart.0)
    (then (g.D.Duplex.left c.args.device.now) (g.D.Duplex.left c.loop-taken.device) (g.D.Duplex.left c.take_front.new.device)
    (Taking g.C.Cutter.form g.R.Responder.may (1048576 + g.R.Responder.MOST) (g.R.Responder.stands c.args.subject.now) (g.R.Responder.stands c.loop-taken.subject) (g.D.Sink.given c.args.device.now) (g.D.Sink.given c.loop-taken.device) c.loop-taken.taken (g.C.Cutter.held c.loop-taken.cutter))
    (λ before after. Takes before after (Ok c.in-Ok-eq0.field-0) c.take_front.new.buf)
    (Done g.C.Cutter.form g.R.Responder.may (1048576 + g.R.Responder.MOST) (g.R.Responder.stands c.args.subject.now) (g.R.Responder.stands c.answer_last.new.subject) (g.D.Sink.given c.args.device.now) (g.D.Sink.given c.answer_last.new.output) Cut)
    c.loop-taken.invariant.told c.in-Ok-eq0.ensures.bytes
    (λ x y z p q. done_cut g.C.Cutter.form c.requires.laws g.R.Responder.may (1048576 + g.R.Responder.MOST) (g.R.Responder.stands c.args.subject.now) (g.R.Responder.stands c.loop-taken.subject) (g.R.Responder.stands c.answer_last.new.subject) (g.D.Sink.given c.args.device.now) (g.D.Sink.given c.loop-taken.device) (g.D.Sink.given c.answer_last.new.output) c.loop-taken.taken (g.C.Cutter.held c.loop-taken.cutter) x y z
    c.take_front.new.buf c.in-Ok-eq0.field-0 p c.in-Ok-eq0.field-0-test q end_is.0 c.loop-taken-test.true more))

pub returns-in-CutOff-clause-prompt : goal.returns-in-CutOff-clause-prompt
returns-in-CutOff-clause-prompt g c =
    let apart = g.met.D.Duplex.gives_are_apart c.answer_last.new.output c.take_front.new.device c.answer_last.ensures.kept in
    each_more (g.D.Duplex.takes c.args.device.now) (g.D.Duplex.takes c.loop-taken.device) (g.D.Duplex.takes c.answer_last.new.output)
    (g.D.Duplex.left c.loop-taken.device) (g.D.Sink.given c.loop-taken.device)
    (λ moment. WhileTold (g.D.Duplex.left c.args.device.now) moment.left
    (AllSoFar g.C.Cutter.form (g.R.Responder.stands c.args.subject.now)
    (λ s bodies. AnsweredBy g.R.Responder.may Whole (λ _. Unit {0}) (g.D.Sink.given c.args.device.now) moment.given [] [] s bodies)))
    c.loop-taken.invariant.prompt (apart.2 ∙ c.in-Ok-eq0.ensures.told)
    (up_to_date g.C.Cutter.form g.R.Responder.may (g.R.Responder.stands c.args.subject.now) (g.R.Responder.stands c.loop-taken.subject) (g.D.Sink.given c.args.device.now) (g.D.Sink.given c.loop-taken.device) (1048576 + g.R.Responder.MOST) c.loop-taken.taken (g.C.Cutter.held c.loop-taken.cutter)
    (g.D.Duplex.left c.args.device.now) (g.D.Duplex.left c.loop-taken.device) c.loop-taken.invariant.told c.loop-taken.invariant.part)

pub returns-in-CutOff-clause-read_later : goal.returns-in-CutOff-clause-read_later
returns-in-CutOff-clause-read_later g c =
    let apart = g.met.D.Duplex.gives_are_apart c.answer_last.new.output c.take_front.new.device c.answer_last.ensures.kept in
    omega (arith, c.in-Ok-eq0.ensures.cause.later, c.loop-taken.invariant.read_later, apart.1)

pub returns-in-CutOff-clause-parts : goal.returns-in-CutOff-clause-parts
returns-in-CutOff-clause-parts g c =
    let apart = g.met.D.Duplex.gives_are_apart c.answer_last.new.output c.take_front.new.device c.answer_last.ensures.kept in
    apart.3 ∙ (c.in-Ok-eq0.ensures.parts ∙ c.loop-taken.invariant.parts)

pub returns-in-Err-answer_last-clause-outcome : goal.returns-in-Err-answer_last-clause-outcome
returns-in-Err-answer_last-clause-outcome g c =
    let apart = g.met.D.Duplex.gives_are_apart c.answer_last.new.output c.take_front.new.device c.answer_last.ensures.kept in
    let end_is = c.in-Err-answer_last.ensures.broken in
    let more = subst (λ h. (s : g.R.Responder.State) → g.R.Responder.stands c.loop-taken.subject s →
    AnsweredBy g.R.Responder.may (Front (1048576 + g.R.Responder.MOST)) (g.R.Responder.stands c.answer_last.new.subject) h (g.D.Sink.given c.answer_last.new.output) [] [] s (g.C.Cutter.form.last (g.C.Cutter.held c.loop-taken.cutter))) c.in-Ok-eq0.ensures.given (λ s f. answered_weaker g.R.Responder.may (Front c.loop-taken.gathered.room) (Front (1048576 + g.R.Responder.MOST))
    (front_weaker c.loop-taken.gathered.room (1048576 + g.R.Responder.MOST) c.loop-taken.invariant.bounded)
    (g.R.Responder.stands c.answer_last.new.subject) (g.D.Sink.given c.take_front.new.device) (g.D.Sink.given c.answer_last.new.output) [] [] s (g.C.Cutter.form.last (g.C.Cutter.held c.loop-taken.cutter)) (end_is.1 s f)) in
    subst (λ l. WhileTold (g.D.Duplex.left c.args.device.now) l (Done g.C.Cutter.form g.R.Responder.may (1048576 + g.R.Responder.MOST) (g.R.Responder.stands c.args.subject.now) (g.R.Responder.stands c.answer_last.new.subject) (g.D.Sink.given c.args.device.now) (g.D.Sink.given c.answer_last.new.output) Broken)) (sym apart.0)
    (then (g.D.Duplex.left c.args.device.now) (g.D.Duplex.left c.loop-taken.device) (g.D.Duplex.left c.take_front.new.device)
    (Taking g.C.Cutter.form g.R.Responder.may (1048576 + g.R.Responder.MOST) (g.R.Responder.stands c.args.subject.now) (g.R.Responder.stands c.loop-taken.subject) (g.D.Sink.given c.args.device.now) (g.D.Sink.given c.loop-taken.device) c.loop-taken.taken (g.C.Cutter.held c.loop-taken.cutter))
    (λ before after. Takes before after (Ok c.in-Ok-eq0.field-0) c.take_front.new.buf)
    (Done g.C.Cutter.form g.R.Responder.may (1048576 + g.R.Responder.MOST) (g.R.Responder.stands c.args.subject.now) (g.R.Responder.stands c.answer_last.new.subject) (g.D.Sink.given c.args.device.now) (g.D.Sink.given c.answer_last.new.output) Broken)
    c.loop-taken.invariant.told c.in-Ok-eq0.ensures.bytes
    (λ x y z p q. done_last g.C.Cutter.form c.requires.laws g.R.Responder.may (1048576 + g.R.Responder.MOST) (g.R.Responder.stands c.args.subject.now) (g.R.Responder.stands c.loop-taken.subject) (g.R.Responder.stands c.answer_last.new.subject) (g.D.Sink.given c.args.device.now) (g.D.Sink.given c.loop-taken.device) (g.D.Sink.given c.answer_last.new.output) c.loop-taken.taken (g.C.Cutter.held c.loop-taken.cutter) x y z
    c.take_front.new.buf c.in-Ok-eq0.field-0 p c.in-Ok-eq0.field-0-test q end_is.0 c.loop-taken-test.true more))

pub returns-in-Err-answer_last-clause-prompt : goal.returns-in-Err-answer_last-clause-prompt
returns-in-Err-answer_last-clause-prompt g c =
    let apart = g.met.D.Duplex.gives_are_apart c.answer_last.new.output c.take_front.new.device c.answer_last.ensures.kept in
    each_more (g.D.Duplex.takes c.args.device.now) (g.D.Duplex.takes c.loop-taken.device) (g.D.Duplex.takes c.answer_last.new.output)
    (g.D.Duplex.left c.loop-taken.device) (g.D.Sink.given c.loop-taken.device)
    (λ moment. WhileTold (g.D.Duplex.left c.args.device.now) moment.left
    (AllSoFar g.C.Cutter.form (g.R.Responder.stands c.args.subject.now)
    (λ s bodies. AnsweredBy g.R.Responder.may Whole (λ _. Unit {0}) (g.D.Sink.given c.args.device.now) moment.given [] [] s bodies)))
    c.loop-taken.invariant.prompt (apart.2 ∙ c.in-Ok-eq0.ensures.told)
    (up_to_date g.C.Cutter.form g.R.Responder.may (g.R.Responder.stands c.args.subject.now) (g.R.Responder.stands c.loop-taken.subject) (g.D.Sink.given c.args.device.now) (g.D.Sink.given c.loop-taken.device) (1048576 + g.R.Responder.MOST) c.loop-taken.taken (g.C.Cutter.held c.loop-taken.cutter)
    (g.D.Duplex.left c.args.device.now) (g.D.Duplex.left c.loop-taken.device) c.loop-taken.invariant.told c.loop-taken.invariant.part)

pub returns-in-Err-answer_last-clause-read_later : goal.returns-in-Err-answer_last-clause-read_later
returns-in-Err-answer_last-clause-read_later g c =
    let apart = g.met.D.Duplex.gives_are_apart c.answer_last.new.output c.take_front.new.device c.answer_last.ensures.kept in
    omega (arith, c.in-Ok-eq0.ensures.cause.later, c.loop-taken.invariant.read_later, apart.1)

pub returns-in-Err-answer_last-clause-parts : goal.returns-in-Err-answer_last-clause-parts
returns-in-Err-answer_last-clause-parts g c =
    let apart = g.met.D.Duplex.gives_are_apart c.answer_last.new.output c.take_front.new.device c.answer_last.ensures.kept in
    apart.3 ∙ (c.in-Ok-eq0.ensures.parts ∙ c.loop-taken.invariant.parts)

pub returns-in-Err-clause-outcome : goal.returns-in-Err-clause-outcome
returns-in-Err-clause-outcome g c =
    subst (λ h. WhileTold (g.D.Duplex.left c.args.device.now) (g.D.Duplex.left c.take_front.new.device)
    (Done g.C.Cutter.form g.R.Responder.may (1048576 + g.R.Responder.MOST) (g.R.Responder.stands c.args.subject.now) (g.R.Responder.stands c.loop-taken.subject) (g.D.Sink.given c.args.device.now) h ReadFault)) (sym c.in-Err.ensures.given)
    (then (g.D.Duplex.left c.args.device.now) (g.D.Duplex.left c.loop-taken.device) (g.D.Duplex.left c.take_front.new.device)
    (Taking g.C.Cutter.form g.R.Responder.may (1048576 + g.R.Responder.MOST) (g.R.Responder.stands c.args.subject.now) (g.R.Responder.stands c.loop-taken.subject) (g.D.Sink.given c.args.device.now) (g.D.Sink.given c.loop-taken.device) c.loop-taken.taken (g.C.Cutter.held c.loop-taken.cutter))
    (λ before after. after ≡ before)
    (Done g.C.Cutter.form g.R.Responder.may (1048576 + g.R.Responder.MOST) (g.R.Responder.stands c.args.subject.now) (g.R.Responder.stands c.loop-taken.subject) (g.D.Sink.given c.args.device.now) (g.D.Sink.given c.loop-taken.device) ReadFault)
    c.loop-taken.invariant.told c.in-Err.ensures.bytes
    (λ x y z p q. done_read g.C.Cutter.form g.R.Responder.may (1048576 + g.R.Responder.MOST) (g.R.Responder.stands c.args.subject.now) (g.R.Responder.stands c.loop-taken.subject) (g.D.Sink.given c.args.device.now) (g.D.Sink.given c.loop-taken.device) c.requires.laws c.loop-taken.taken (g.C.Cutter.held c.loop-taken.cutter) x y z p q c.loop-taken.invariant.part
    c.loop-taken-test.true))

pub returns-clause-outcome : goal.returns-clause-outcome
returns-clause-outcome g c =
    weaker (g.D.Duplex.left c.args.device.now) (g.D.Duplex.left c.loop-taken.device)
    (Taking g.C.Cutter.form g.R.Responder.may (1048576 + g.R.Responder.MOST) (g.R.Responder.stands c.args.subject.now) (g.R.Responder.stands c.loop-taken.subject) (g.D.Sink.given c.args.device.now) (g.D.Sink.given c.loop-taken.device) c.loop-taken.taken (g.C.Cutter.held c.loop-taken.cutter))
    (Done g.C.Cutter.form g.R.Responder.may (1048576 + g.R.Responder.MOST) (g.R.Responder.stands c.args.subject.now) (g.R.Responder.stands c.loop-taken.subject) (g.D.Sink.given c.args.device.now) (g.D.Sink.given c.loop-taken.device) Spent)
    c.loop-taken.invariant.told
    (λ x y p. done_spent g.C.Cutter.form g.R.Responder.may (1048576 + g.R.Responder.MOST) (g.R.Responder.stands c.args.subject.now) (g.R.Responder.stands c.loop-taken.subject) (g.D.Sink.given c.args.device.now) (g.D.Sink.given c.loop-taken.device) c.requires.laws c.loop-taken.taken (g.C.Cutter.held c.loop-taken.cutter) x y p c.loop-taken.invariant.part
    c.loop-taken.invariant.within (omega arith))

pub loop-taken-preserved : goal.loop-taken-preserved
loop-taken-preserved g c =
    let within : c.in-Ok.count ≤ length c.take_front.new.buf =
    omega (arith, c.in-Ok.ensures.bound, c.in-Ok.ensures.room, c.min-size.ensures, c.loop-taken.invariant.piece) in
    let apart = g.met.D.Duplex.gives_are_apart c.answer_piece.new.output c.take_front.new.device c.answer_piece.ensures.kept in
    let served = subst (λ h. Serves g.C.Cutter.form g.R.Responder.may Whole (g.R.Responder.stands c.loop-taken.subject) (g.R.Responder.stands c.answer_piece.new.subject) h (g.D.Sink.given c.answer_piece.new.output) [] []
    ((g.C.Cutter.held c.loop-taken.cutter) ++ take c.in-Ok.count c.take_front.new.buf) (g.C.Cutter.held c.answer_piece.new.cutter)) c.in-Ok.ensures.given c.in-Ok-answer_piece.ensures.served.1 in
    record {
      told =
          subst (λ l. WhileTold (g.D.Duplex.left c.args.device.now) l
          (Taking g.C.Cutter.form g.R.Responder.may (1048576 + g.R.Responder.MOST) (g.R.Responder.stands c.args.subject.now) (g.R.Responder.stands c.answer_piece.new.subject) (g.D.Sink.given c.args.device.now) (g.D.Sink.given c.answer_piece.new.output) (c.loop-taken.taken + c.in-Ok.count) (g.C.Cutter.held c.answer_piece.new.cutter))) (sym apart.0)
          (then (g.D.Duplex.left c.args.device.now) (g.D.Duplex.left c.loop-taken.device) (g.D.Duplex.left c.take_front.new.device)
          (Taking g.C.Cutter.form g.R.Responder.may (1048576 + g.R.Responder.MOST) (g.R.Responder.stands c.args.subject.now) (g.R.Responder.stands c.loop-taken.subject) (g.D.Sink.given c.args.device.now) (g.D.Sink.given c.loop-taken.device) c.loop-taken.taken (g.C.Cutter.held c.loop-taken.cutter))
          (λ before after. Takes before after (Ok c.in-Ok.count) c.take_front.new.buf)
          (Taking g.C.Cutter.form g.R.Responder.may (1048576 + g.R.Responder.MOST) (g.R.Responder.stands c.args.subject.now) (g.R.Responder.stands c.answer_piece.new.subject) (g.D.Sink.given c.args.device.now) (g.D.Sink.given c.answer_piece.new.output) (c.loop-taken.taken + c.in-Ok.count) (g.C.Cutter.held c.answer_piece.new.cutter))
          c.loop-taken.invariant.told c.in-Ok.ensures.bytes
          (λ x y z p q. taking_more g.C.Cutter.form c.requires.laws g.R.Responder.may (1048576 + g.R.Responder.MOST) (g.R.Responder.stands c.args.subject.now) (g.R.Responder.stands c.loop-taken.subject) (g.R.Responder.stands c.answer_piece.new.subject) (g.D.Sink.given c.args.device.now) (g.D.Sink.given c.loop-taken.device) (g.D.Sink.given c.answer_piece.new.output) c.loop-taken.taken c.in-Ok.count (g.C.Cutter.held c.loop-taken.cutter)
          x y z c.take_front.new.buf (take c.in-Ok.count c.take_front.new.buf) (g.C.Cutter.held c.answer_piece.new.cutter) p q within refl served));
      prompt =
          each_more (g.D.Duplex.takes c.args.device.now) (g.D.Duplex.takes c.loop-taken.device) (g.D.Duplex.takes c.answer_piece.new.output)
          (g.D.Duplex.left c.loop-taken.device) (g.D.Sink.given c.loop-taken.device)
          (λ moment. WhileTold (g.D.Duplex.left c.args.device.now) moment.left
          (AllSoFar g.C.Cutter.form (g.R.Responder.stands c.args.subject.now)
          (λ s bodies. AnsweredBy g.R.Responder.may Whole (λ _. Unit {0}) (g.D.Sink.given c.args.device.now) moment.given [] [] s bodies)))
          c.loop-taken.invariant.prompt (apart.2 ∙ c.in-Ok.ensures.told)
          (up_to_date g.C.Cutter.form g.R.Responder.may (g.R.Responder.stands c.args.subject.now) (g.R.Responder.stands c.loop-taken.subject) (g.D.Sink.given c.args.device.now) (g.D.Sink.given c.loop-taken.device) (1048576 + g.R.Responder.MOST) c.loop-taken.taken (g.C.Cutter.held c.loop-taken.cutter)
          (g.D.Duplex.left c.args.device.now) (g.D.Duplex.left c.loop-taken.device) c.loop-taken.invariant.told c.loop-taken.invariant.part);
      within = omega (arith, c.in-Ok.ensures.bound, c.min-size.ensures, c.loop-taken.invariant.within);
      part = subst (λ n. IsBehind g.C.Cutter.form n (g.C.Cutter.held c.answer_piece.new.cutter)) c.in-Part.is c.in-Ok-answer_piece.ensures.served.0;
      piece = c.in-Ok.ensures.room ∙ c.loop-taken.invariant.piece;
      none = c.in-Ok-answer_piece.ensures.none;
      room = omega (arith, c.in-Ok-answer_piece.ensures.room, c.loop-taken.invariant.room);
      bounded = omega (arith, c.in-Ok-answer_piece.ensures.room, c.loop-taken.invariant.bounded);
      read_later = omega (arith, c.in-Ok.ensures.cause.later, c.loop-taken.invariant.read_later, apart.1);
      write_later = omega (arith, c.in-Ok-answer_piece.ensures.cause.later, c.in-Ok.ensures.faults, c.loop-taken.invariant.write_later);
      opening = c.in-Ok-answer_piece.ensures.opening ∙ c.loop-taken.invariant.opening;
      parts = apart.3 ∙ (c.in-Ok.ensures.parts ∙ c.loop-taken.invariant.parts);
    }

pub returns-in-Long-clause-outcome : goal.returns-in-Long-clause-outcome
returns-in-Long-clause-outcome g c =
    let within : c.in-Ok.count ≤ length c.take_front.new.buf =
    omega (arith, c.in-Ok.ensures.bound, c.in-Ok.ensures.room, c.min-size.ensures, c.loop-taken.invariant.piece) in
    let apart = g.met.D.Duplex.gives_are_apart c.answer_piece.new.output c.take_front.new.device c.answer_piece.ensures.kept in
    let served = subst (λ h. Serves g.C.Cutter.form g.R.Responder.may Whole (g.R.Responder.stands c.loop-taken.subject) (g.R.Responder.stands c.answer_piece.new.subject) h (g.D.Sink.given c.answer_piece.new.output) [] []
    ((g.C.Cutter.held c.loop-taken.cutter) ++ take c.in-Ok.count c.take_front.new.buf) (g.C.Cutter.held c.answer_piece.new.cutter)) c.in-Ok.ensures.given c.in-Ok-answer_piece.ensures.served.1 in
    subst (λ l. WhileTold (g.D.Duplex.left c.args.device.now) l (Done g.C.Cutter.form g.R.Responder.may (1048576 + g.R.Responder.MOST) (g.R.Responder.stands c.args.subject.now) (g.R.Responder.stands c.answer_piece.new.subject) (g.D.Sink.given c.args.device.now) (g.D.Sink.given c.answer_piece.new.output) (LongFrame c.in-Long.len))) (sym apart.0)
    (then (g.D.Duplex.left c.args.device.now) (g.D.Duplex.left c.loop-taken.device) (g.D.Duplex.left c.take_front.new.device)
    (Taking g.C.Cutter.form g.R.Responder.may (1048576 + g.R.Responder.MOST) (g.R.Responder.stands c.args.subject.now) (g.R.Responder.stands c.loop-taken.subject) (g.D.Sink.given c.args.device.now) (g.D.Sink.given c.loop-taken.device) c.loop-taken.taken (g.C.Cutter.held c.loop-taken.cutter))
    (λ before after. Takes before after (Ok c.in-Ok.count) c.take_front.new.buf)
    (Done g.C.Cutter.form g.R.Responder.may (1048576 + g.R.Responder.MOST) (g.R.Responder.stands c.args.subject.now) (g.R.Responder.stands c.answer_piece.new.subject) (g.D.Sink.given c.args.device.now) (g.D.Sink.given c.answer_piece.new.output) (LongFrame c.in-Long.len))
    c.loop-taken.invariant.told c.in-Ok.ensures.bytes
    (λ x y z p q. done_long g.C.Cutter.form c.requires.laws g.R.Responder.may (1048576 + g.R.Responder.MOST) (g.R.Responder.stands c.args.subject.now) (g.R.Responder.stands c.loop-taken.subject) (g.R.Responder.stands c.answer_piece.new.subject) (g.D.Sink.given c.args.device.now) (g.D.Sink.given c.loop-taken.device) (g.D.Sink.given c.answer_piece.new.output) c.loop-taken.taken c.in-Ok.count c.in-Long.len (g.C.Cutter.held c.loop-taken.cutter)
    x y z c.take_front.new.buf (take c.in-Ok.count c.take_front.new.buf) (g.C.Cutter.held c.answer_piece.new.cutter) p q within refl served
    (subst (λ n. IsBehind g.C.Cutter.form n (g.C.Cutter.held c.answer_piece.new.cutter)) c.in-Long.is c.in-Ok-answer_piece.ensures.served.0)
    (omega (arith, c.in-Ok.ensures.bound, c.min-size.ensures, c.loop-taken.invariant.within))))

pub returns-in-Err-answer_piece-clause-outcome : goal.returns-in-Err-answer_piece-clause-outcome
returns-in-Err-answer_piece-clause-outcome g c =
    let within : c.in-Ok.count ≤ length c.take_front.new.buf =
    omega (arith, c.in-Ok.ensures.bound, c.in-Ok.ensures.room, c.min-size.ensures, c.loop-taken.invariant.piece) in
    let apart = g.met.D.Duplex.gives_are_apart c.answer_piece.new.output c.take_front.new.device c.answer_piece.ensures.kept in
    let broken = c.in-Err-answer_piece.ensures.broken in
    let served = subst (λ h. Serves g.C.Cutter.form g.R.Responder.may (Front (1048576 + g.R.Responder.MOST)) (g.R.Responder.stands c.loop-taken.subject) (g.R.Responder.stands c.answer_piece.new.subject) h (g.D.Sink.given c.answer_piece.new.output) [] []
    ((g.C.Cutter.held c.loop-taken.cutter) ++ take c.in-Ok.count c.take_front.new.buf) broken.0) c.in-Ok.ensures.given
    (serves_weaker g.C.Cutter.form g.R.Responder.may (Front c.loop-taken.gathered.room) (Front (1048576 + g.R.Responder.MOST))
    (front_weaker c.loop-taken.gathered.room (1048576 + g.R.Responder.MOST) c.loop-taken.invariant.bounded)
    (g.R.Responder.stands c.loop-taken.subject) (g.R.Responder.stands c.answer_piece.new.subject) (g.D.Sink.given c.take_front.new.device) (g.D.Sink.given c.answer_piece.new.output) [] [] ((g.C.Cutter.held c.loop-taken.cutter) ++ take c.in-Ok.count c.take_front.new.buf) broken.0 broken.1) in
    subst (λ l. WhileTold (g.D.Duplex.left c.args.device.now) l (Done g.C.Cutter.form g.R.Responder.may (1048576 + g.R.Responder.MOST) (g.R.Responder.stands c.args.subject.now) (g.R.Responder.stands c.answer_piece.new.subject) (g.D.Sink.given c.args.device.now) (g.D.Sink.given c.answer_piece.new.output) Broken)) (sym apart.0)
    (then (g.D.Duplex.left c.args.device.now) (g.D.Duplex.left c.loop-taken.device) (g.D.Duplex.left c.take_front.new.device)
    (Taking g.C.Cutter.form g.R.Responder.may (1048576 + g.R.Responder.MOST) (g.R.Responder.stands c.args.subject.now) (g.R.Responder.stands c.loop-taken.subject) (g.D.Sink.given c.args.device.now) (g.D.Sink.given c.loop-taken.device) c.loop-taken.taken (g.C.Cutter.held c.loop-taken.cutter))
    (λ before after. Takes before after (Ok c.in-Ok.count) c.take_front.new.buf)
    (Done g.C.Cutter.form g.R.Responder.may (1048576 + g.R.Responder.MOST) (g.R.Responder.stands c.args.subject.now) (g.R.Responder.stands c.answer_piece.new.subject) (g.D.Sink.given c.args.device.now) (g.D.Sink.given c.answer_piece.new.output) Broken)
    c.loop-taken.invariant.told c.in-Ok.ensures.bytes
    (λ x y z p q. done_write g.C.Cutter.form c.requires.laws g.R.Responder.may (1048576 + g.R.Responder.MOST) (g.R.Responder.stands c.args.subject.now) (g.R.Responder.stands c.loop-taken.subject) (g.R.Responder.stands c.answer_piece.new.subject) (g.D.Sink.given c.args.device.now) (g.D.Sink.given c.loop-taken.device) (g.D.Sink.given c.answer_piece.new.output) c.loop-taken.taken c.in-Ok.count (g.C.Cutter.held c.loop-taken.cutter)
    x y z c.take_front.new.buf (take c.in-Ok.count c.take_front.new.buf) broken.0 p q within refl served
    (omega (arith, c.in-Ok.ensures.bound, c.min-size.ensures, c.loop-taken.invariant.within))))

pub returns-in-Long-clause-prompt : goal.returns-in-Long-clause-prompt
returns-in-Long-clause-prompt g c =
    let apart = g.met.D.Duplex.gives_are_apart c.answer_piece.new.output c.take_front.new.device c.answer_piece.ensures.kept in
    each_more (g.D.Duplex.takes c.args.device.now) (g.D.Duplex.takes c.loop-taken.device) (g.D.Duplex.takes c.answer_piece.new.output)
    (g.D.Duplex.left c.loop-taken.device) (g.D.Sink.given c.loop-taken.device)
    (λ moment. WhileTold (g.D.Duplex.left c.args.device.now) moment.left
    (AllSoFar g.C.Cutter.form (g.R.Responder.stands c.args.subject.now)
    (λ s bodies. AnsweredBy g.R.Responder.may Whole (λ _. Unit {0}) (g.D.Sink.given c.args.device.now) moment.given [] [] s bodies)))
    c.loop-taken.invariant.prompt (apart.2 ∙ c.in-Ok.ensures.told)
    (up_to_date g.C.Cutter.form g.R.Responder.may (g.R.Responder.stands c.args.subject.now) (g.R.Responder.stands c.loop-taken.subject) (g.D.Sink.given c.args.device.now) (g.D.Sink.given c.loop-taken.device) (1048576 + g.R.Responder.MOST) c.loop-taken.taken (g.C.Cutter.held c.loop-taken.cutter)
    (g.D.Duplex.left c.args.device.now) (g.D.Duplex.left c.loop-taken.device) c.loop-taken.invariant.told c.loop-taken.invariant.part)

pub returns-in-Err-answer_piece-clause-prompt : goal.returns-in-Err-answer_piece-clause-prompt
returns-in-Err-answer_piece-clause-prompt g c =
    let apart = g.met.D.Duplex.gives_are_apart c.answer_piece.new.output c.take_front.new.device c.answer_piece.ensures.kept in
    each_more (g.D.Duplex.takes c.args.device.now) (g.D.Duplex.takes c.loop-taken.device) (g.D.Duplex.takes c.answer_piece.new.output)
    (g.D.Duplex.left c.loop-taken.device) (g.D.Sink.given c.loop-taken.device)
    (λ moment. WhileTold (g.D.Duplex.left c.args.device.now) moment.left
    (AllSoFar g.C.Cutter.form (g.R.Responder.stands c.args.subject.now)
    (λ s bodies. AnsweredBy g.R.Responder.may Whole (λ _. Unit {0}) (g.D.Sink.given c.args.device.now) moment.given [] [] s bodies)))
    c.loop-taken.invariant.prompt (apart.2 ∙ c.in-Ok.ensures.told)
    (up_to_date g.C.Cutter.form g.R.Responder.may (g.R.Responder.stands c.args.subject.now) (g.R.Responder.stands c.loop-taken.subject) (g.D.Sink.given c.args.device.now) (g.D.Sink.given c.loop-taken.device) (1048576 + g.R.Responder.MOST) c.loop-taken.taken (g.C.Cutter.held c.loop-taken.cutter)
    (g.D.Duplex.left c.args.device.now) (g.D.Duplex.left c.loop-taken.device) c.loop-taken.invariant.told c.loop-taken.invariant.part)

pub returns-in-Long-clause-read_later : goal.returns-in-Long-clause-read_later
returns-in-Long-clause-read_later g c =
    let apart = g.met.D.Duplex.gives_are_apart c.answer_piece.new.output c.take_front.new.device c.answer_piece.ensures.kept in
    omega (arith, c.in-Ok.ensures.cause.later, c.loop-taken.invariant.read_later, apart.1)

pub returns-in-Long-clause-parts : goal.returns-in-Long-clause-parts
returns-in-Long-clause-parts g c =
    let apart = g.met.D.Duplex.gives_are_apart c.answer_piece.new.output c.take_front.new.device c.answer_piece.ensures.kept in
    apart.3 ∙ (c.in-Ok.ensures.parts ∙ c.loop-taken.invariant.parts)

pub returns-in-Err-answer_piece-clause-read_later : goal.returns-in-Err-answer_piece-clause-read_later
returns-in-Err-answer_piece-clause-read_later g c =
    let apart = g.met.D.Duplex.gives_are_apart c.answer_piece.new.output c.take_front.new.device c.answer_piece.ensures.kept in
    omega (arith, c.in-Ok.ensures.cause.later, c.loop-taken.invariant.read_later, apart.1)

pub returns-in-Err-answer_piece-clause-parts : goal.returns-in-Err-answer_piece-clause-parts
returns-in-Err-answer_piece-clause-parts g c =
    let apart = g.met.D.Duplex.gives_are_apart c.answer_piece.new.output c.take_front.new.device c.answer_piece.ensures.kept in
    apart.3 ∙ (c.in-Ok.ensures.parts ∙ c.loop-taken.invariant.parts)
