use Rattle.std.proofs.Common.{◌∙◌, sym}
use Rattle.ceiling_book.specs.Book.{floors_of}
use Rattle.path_compress.proofs.Walks.{told-collectable}
use Rattle.path_compress.proofs.is_collectable.Goals as goal

pub returns-then-shared-clause-is : goal.returns-then-shared-clause-is
returns-then-shared-clause-is c = λ rs ks stands placed x named.
    told-collectable c.args.dag.now rs ks (floors_of c.args.book.now) c.args.slot x c.shared_stand_in.result c.closed.result stands named
    (c.shared_stand_in.ensures.shared rs ks stands x named) (sym c.is_some-shared.ensures ∙ c.if-shared.true) (c.closed.ensures rs ks stands placed x named)
