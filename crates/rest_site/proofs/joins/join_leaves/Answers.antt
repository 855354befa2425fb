use Rattle.std.proofs.Common.{◌≡◌, Option, Some, None, ap, sym, subst, ◌∙◌}
use Rattle.std.specs.Prelude.{IfSome}
use Rattle.ceiling_book.specs.Book.{Book}
use Rattle.join_rules.specs.declared.joints.Joint.{Joint}
use Rattle.join_rules.specs.Searches.{MayBeJoined}
use Rattle.rest_site.proofs.Joined.{by-joint, by-none}
use Rattle.rest_site.proofs.joins.join_leaves.Goals as goal

pub take_joint-requires : goal.take_joint-requires
take_joint-requires c =
    let at = c.book.ensures.stands in
    let some : c.in-Ok-Some.field-0 ≡ Some c.in-Ok-Some.joint = cc in
    record { may = subst (λ (o : Option Joint). IfSome o MayBeJoined) some (c.in-Ok-Some.ensures at.site (c.store.ensures.stands at.site at.stands) at.sound).1 }

pub returns-in-Ok-Some-clause-joins : goal.returns-in-Ok-Some-clause-joins
returns-in-Ok-Some-clause-joins c =
    let some : c.in-Ok-Some.field-0 ≡ Some c.in-Ok-Some.joint = cc in
    by-joint c.args.core.now c.take_joint.new.core c.args.rules.now c.args.patience c.own_site-own.result c.in-Ok-Some.joint c.take_joint.result
    (λ s stands. c.own_site-own.ensures.is ∙ (ap (λ (b : Book). b.own) c.book.ensures.is ∙ stands.0.own))
    (λ s stands. sym some ∙ (c.in-Ok-Some.ensures s (c.store.ensures.stands s stands.0) stands.1).0) c.take_joint.ensures.joins

pub returns-in-Ok-None-clause-joins : goal.returns-in-Ok-None-clause-joins
returns-in-Ok-None-clause-joins c =
    let none : c.in-Ok-None.field-0 ≡ None = cc in
    by-none c.args.core.now c.args.rules.now c.args.patience c.own_site-own.result c.unjoined.result
    (λ s stands. c.own_site-own.ensures.is ∙ (ap (λ (b : Book). b.own) c.book.ensures.is ∙ stands.0.own))
    (λ s stands. sym none ∙ (c.in-Ok-None.ensures s (c.store.ensures.stands s stands.0) stands.1).0) (λ s stands. c.unjoined.ensures s stands)
