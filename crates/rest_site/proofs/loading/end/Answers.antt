use Rattle.std.proofs.Common.{◌≤◌, Some, None, length, sym, ap, subst, ◌∙◌}
use Rattle.ceiling_book.specs.Book.{Book, floors_of}
use Rattle.site_checkpoint.specs.Ends.{floors_told}
use Rattle.plain_site.specs.Site.{opening}
use Rattle.rest_site.proofs.Loads.{some-limits, last-site, unended, not-blank, ended-so, opened-so, ends, floors-unfit, ends-opening}
use Rattle.rest_site.proofs.loading.end.Goals as goal

pub taken_out-requires : goal.taken_out-requires
taken_out-requires c = some-limits c.args.core.now c.args.loading.now c.requires.stands

pub returns-in_err-checkpoint-clause-taken : goal.returns-in_err-checkpoint-clause-taken
returns-in_err-checkpoint-clause-taken c =
    unended c.args.core.now c.args.loading.now (floors_told c.args.floors.now) c.from_residual.result c.from_residual.ensures.0

pub returns-then-not-is_blank-clause-taken : goal.returns-then-not-is_blank-clause-taken
returns-then-not-is_blank-clause-taken c =
    not-blank c.args.core.now c.args.loading.now (floors_told c.args.floors.now) (λ site stands. sym (c.is_blank.ensures site stands) ∙ c.if-not-is_blank.true)

pub end-requires-clause-last : goal.end-requires-clause-last
end-requires-clause-last c =
    last-site c.args.core.now c.args.loading.now c.in_ok-checkpoint.checkpoint c.own_site.result c.requires.stands c.in_ok-checkpoint.ensures.stands
    (subst (λ (b : Book). c.own_site.result ≤ length (floors_of b)) c.book.ensures.is c.own_site.ensures.last)

pub returns-in-Some-clause-taken : goal.returns-in-Some-clause-taken
returns-in-Some-clause-taken c =
    ends c.args.core.now c.args.loading.now c.in_ok-checkpoint.checkpoint c.own_site.result (floors_told c.args.floors.now)
    (c.own_site.ensures.is ∙ ap (λ (b : Book). b.own) c.book.ensures.is)
    c.in_ok-checkpoint.ensures.stands c.replace.new.dest
    (ended-so c.in_ok-checkpoint.checkpoint c.own_site.result c.as_slice.result.now c.args.floors.now c.in_ok-site.field-0 (Some c.replace.new.dest)
    c.as_slice.ensures (c.in-Some.is ∙ ap Some (sym c.replace.ensures.after)) c.in_ok-site.ensures.ended)
    (λ site stands. sym (c.is_blank.ensures site stands) ∙ c.if-not-is_blank.false)

pub returns-in-Some-clause-opening : goal.returns-in-Some-clause-opening
returns-in-Some-clause-opening c =
    ends-opening c.args.core.now c.args.loading.now c.in_ok-checkpoint.checkpoint c.own_site.result (floors_told c.args.floors.now)
    (c.own_site.ensures.is ∙ ap (λ (b : Book). b.own) c.book.ensures.is)
    c.in_ok-checkpoint.ensures.stands c.replace.new.dest c.requires.stands
    (opened-so c.in_ok-site.field-0 c.replace.new.dest (opening c.in_ok-checkpoint.checkpoint.store.table.limits c.own_site.result)
    (c.in-Some.is ∙ ap Some (sym c.replace.ensures.after)) c.in_ok-site.ensures.opening)

pub returns-in-None-clause-taken : goal.returns-in-None-clause-taken
returns-in-None-clause-taken c =
    floors-unfit c.args.core.now c.args.loading.now c.in_ok-checkpoint.checkpoint c.own_site.result (floors_told c.args.floors.now)
    (c.own_site.ensures.is ∙ ap (λ (b : Book). b.own) c.book.ensures.is)
    c.in_ok-checkpoint.ensures.stands
    (ended-so c.in_ok-checkpoint.checkpoint c.own_site.result c.as_slice.result.now c.args.floors.now c.in_ok-site.field-0 None c.as_slice.ensures
    c.in-None.is c.in_ok-site.ensures.ended)
