use Rattle.std.proofs.Common.{◌+◌, ◌<◌, length, sym, arith, ◌∙◌}
use Rattle.ceiling_book.specs.Book.{floors_of}
use Rattle.rest_site.specs.Ceilings.{kept_behind}
use Rattle.rest_site.specs.Oldest.{floors_of_others}
use Rattle.rest_site.proofs.Firsts.{all-others, next-other, next-own, none-other}
use Rattle.rest_site.proofs.oldest.first_floor.Goals as goal
use Rattle.rest_site.proofs.oldest.first_floor.Goals.{then-site-own_site, else-site-own_site}

pub loop-site-init : goal.loop-site-init
loop-site-init c = record { kept = λ rs ks stands placed. all-others rs c.args.book.now.own (floors_of c.args.book.now) c.args.ceiling }

pub loop-site-preserved : goal.loop-site-preserved
loop-site-preserved c =
    let book = c.args.book.now in
    let n = c.loop-site.site in
    let end = length (floors_of c.args.book.now) + 1 in
    let first = c.loop-site.auto.site in
    let sites = c.sites-site-end.ensures.is in
    let before = c.loop-site-test.true in
    let less : c.loop-site.site < length (floors_of c.args.book.now) + 1 = omega (arith, before, sites) in
    elim c.if-site-own_site.branch [
      | then-site-own_site w ↦ record {
        kept = λ rs ks stands placed.
            next-other rs book.own (floors_of book) n end c.loop-site.first w.promise_at-next.result c.if-site-own_site.first
            (kept_behind c.args.ceiling (floors_of_others rs book.own (floors_of book))) less
            (λ same. w.if-site-own_site.true (same ∙ sym c.own_site.ensures.is))
            (w.first-is ∙ w.seen-first.ensures)
            (w.promise_at-next.ensures rs ks stands _ (w.floor.ensures.floor c.args.dag.now rs ks placed))
            (c.loop-site.invariant.kept rs ks stands placed);
      }
      | else-site-own_site w ↦ record {
        kept = λ rs ks stands placed.
            next-own rs book.own (floors_of book) n end c.loop-site.first c.if-site-own_site.first
            (kept_behind c.args.ceiling (floors_of_others rs book.own (floors_of book))) less
            (w.if-site-own_site.false ∙ c.own_site.ensures.is)
            w.first-is (c.loop-site.invariant.kept rs ks stands placed);
      }
    ]

pub returns : goal.returns
returns c = λ rs ks stands placed.
    let sites = c.sites-site-end.ensures.is in
    let past = c.loop-site-test.false in
    none-other rs c.args.book.now.own (floors_of c.args.book.now) c.loop-site.site (length (floors_of c.args.book.now) + 1) c.loop-site.first
    (kept_behind c.args.ceiling (floors_of_others rs c.args.book.now.own (floors_of c.args.book.now)))
    (omega (arith, past, sites)) (c.loop-site.invariant.kept rs ks stands placed)
