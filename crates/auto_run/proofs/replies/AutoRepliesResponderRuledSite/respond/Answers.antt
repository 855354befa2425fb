use Rattle.std.proofs.Common.{sym, subst, ◌∙◌}
use Rattle.auto_run.specs.Ruled.{RuledStands}
use Rattle.auto_run.proofs.Answering.{by_step, by_shell, still-stands}
use Rattle.auto_run.proofs.replies.AutoRepliesResponderRuledSite.respond.Goals as goal

pub returns-in-Some-clause-answer : goal.returns-in-Some-clause-answer
returns-in-Some-clause-answer g c = λ s f.
    let here = subst (λ v. RuledStands g.A.AnySite.stands v s) (sym c.subject.view_is) f in
    by_step g.A.AnySite.stands (record { core = c.put_step.new.core; rules = c.subject.inside.rules }) s c.args.body.now c.args.out.now.bytes c.put_step.new.out.bytes c.in-Some.actor
    (sym c.auto_actor.ensures ∙ c.in-Some.is) here.1
    (c.put_step.ensures.answer s.site (subst (λ m. g.A.AnySite.stands m s.site) (sym c.core.view_is) here.0))

pub returns-in-None-clause-answer : goal.returns-in-None-clause-answer
returns-in-None-clause-answer g c = λ s f.
    let here = subst (λ v. RuledStands g.A.AnySite.stands v s) (sym c.subject.view_is) f in
    by_shell g.A.AnySite.stands (record { core = c.respond.new.subject; rules = c.subject.inside.rules }) s c.args.body.now c.args.out.now.bytes c.respond.new.out.bytes
    (sym c.auto_actor.ensures ∙ c.in-None.is) here.1
    (c.respond.ensures.answer s.site here.0)

pub invariant_of-subject : goal.invariant_of-subject
invariant_of-subject g c =
    let before = c.subject.invariant in
    still-stands (g.A.AnySite.stands c.put_step.new.core)
    (c.put_step.ensures.answer before.site (subst (λ m. g.A.AnySite.stands m before.site) (sym c.core.view_is) before.there))

pub invariant_of-subject-in-None : goal.invariant_of-subject-in-None
invariant_of-subject-in-None g c = still-stands (g.A.AnySite.stands c.respond.new.subject)
    (c.respond.ensures.answer c.subject.invariant.site c.subject.invariant.there)
