use Rattle.std.proofs.Common.{◌≡◌, true, false, ap, sym, ◌∙◌}
use Rattle.ceiling_book.specs.Book.{Book}
use Rattle.rest_site.proofs.Joined.{left-to-others}
use Rattle.rest_site.proofs.joins.unjoined.Goals as goal

pub returns-in-Ok-true : goal.returns-in-Ok-true
returns-in-Ok-true c = λ s stands.
    let own = c.own_site-own.ensures.is ∙ (ap (λ (b : Book). b.own) c.book.ensures.is ∙ stands.0.own) in
    let found : c.in-Ok-true.field-0 ≡ true = cc in
    left-to-others s c.args.rules.now c.own_site-own.result c.args.patience true own
    (sym found ∙ c.in-Ok-true.ensures s (c.store.ensures.stands s stands.0) stands.1)

pub returns-in-Ok-false : goal.returns-in-Ok-false
returns-in-Ok-false c = λ s stands.
    let own = c.own_site-own.ensures.is ∙ (ap (λ (b : Book). b.own) c.book.ensures.is ∙ stands.0.own) in
    let found : c.in-Ok-false.field-0 ≡ false = cc in
    c.apart.ensures s stands ∙ left-to-others s c.args.rules.now c.own_site-own.result c.args.patience false own
    (sym found ∙ c.in-Ok-false.ensures s (c.store.ensures.stands s stands.0) stands.1)
