use Rattle.std.proofs.Common.{◌≡◌, [], sym, subst, ◌∙◌}
use Rattle.std.specs.Option.{option_map_or}
use Rattle.std.proofs.lemmas.Bool.{cond-true, cond-false}
use Rattle.tardis_base.specs.Plain.{Event}
use Rattle.session_core.specs.Machine.{SiteStands}
use Rattle.site_lives.specs.Acquainted.{Acquainted}
use Rattle.rest_site.specs.Stands.{AcquaintedStands}
use Rattle.site_doors.specs.Room.{bound_reached}
use Rattle.site_doors.specs.Rules.{is_let_in, told_at, told_full, site_doors}
use Rattle.site_doors.proofs.Seen.{on_ok}
use Rattle.site_doors.proofs.Sure.{sure-at-door}
use Rattle.site_doors.proofs.answers.answer_at.Goals as goal

pub returns-then-comes_in-clause-told : goal.returns-then-comes_in-clause-told
returns-then-comes_in-clause-told c = λ a stands.
    let body = c.args.body.now in
    let door = c.args.door in
    c.tell_full.ensures a.site (subst (λ core. SiteStands core a.site) (sym c.core.ensures) stands.0)
    ∙ sym (cond-true (is_let_in door body) (option_map_or told_full (bound_reached a.site (c.args.actor, body)) []) (told_at door a body)
    (sym c.comes_in.ensures ∙ c.if-comes_in.true))

pub returns-else-comes_in-clause-told : goal.returns-else-comes_in-clause-told
returns-else-comes_in-clause-told c =
    let body = c.args.body.now in
    let door = c.args.door in
    let e : Event = (c.args.actor, body) in
    let out = c.answer_by_code.new.out in
    on_ok c.answer_by_code.result
    ((a : Acquainted) → AcquaintedStands c.args.site.now a → out ≡ told_at door a body)
    ((a : Acquainted) → AcquaintedStands c.args.site.now a → out ≡ site_doors.answer door a e)
    c.answer_by_code.ensures.told
    (λ f a stands.
    f a stands
    ∙ sym (cond-false (is_let_in door body) (option_map_or told_full (bound_reached a.site e) []) (told_at door a body)
    (sym c.comes_in.ensures ∙ c.if-comes_in.false)))

pub returns-else-comes_in-clause-sure : goal.returns-else-comes_in-clause-sure
returns-else-comes_in-clause-sure c = λ sure.
    c.answer_by_code.ensures.sure
    (sure-at-door c.questions_have_one_spelling.ensures.question c.questions_are_apart.ensures.question c.args.body.now c.args.door c.args.actor sure)
