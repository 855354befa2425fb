use Rattle.rest_site.proofs.Firsts.{book-tells}
use Rattle.rest_site.proofs.oldest.oldest_promise.Goals as goal

pub returns : goal.returns
returns c = λ rs ks stands placed.
    book-tells c.args.book.now rs c.first_ceiling.result c.first_floor.result (c.first_ceiling.ensures rs ks stands placed)
    (c.first_floor.ensures rs ks stands placed)
