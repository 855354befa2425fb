use Rattle.std.proofs.Common.{◌∙◌, map, ap}
use Rattle.tardis_base.specs.Ids.{root}
use Rattle.ceiling_book.specs.declared.parts.KnownFloor.{KnownFloor}
use Rattle.ceiling_book.specs.Book.{Book, known_floor}
use Rattle.ceiling_book.specs.Places.{IsAt, HasStandIn}
use Rattle.ceiling_book.proofs.Keeping.{floors-alike, opening-keeps}
use Rattle.ceiling_book.proofs.Growth.{named-is_stand_in}
use Rattle.ceiling_book.proofs.CeilingBook.new.Goals as goal

pub returns-clause-floors : goal.returns-clause-floors
returns-clause-floors c =
    let f : KnownFloor = record { place = record { state = root; slot = c.args.root }; number = 0; stated = 0 } in
    ap (map known_floor) (c.in_ok-floors.ensures.items_if_clones_equal (λ y e. e)) ∙ floors-alike c.args.limits.now.sites f

pub returns-clause-placed : goal.returns-clause-placed
returns-clause-placed c = λ table rs ks stands named.
    let f : KnownFloor = record { place = record { state = root; slot = c.args.root }; number = 0; stated = 0 } in
    let book : Book = record {
      own = c.args.own;
      max_sessions = c.args.limits.now.max_sessions;
      root = c.args.root;
      sessions =
          c.new.result.entries;
      floors = c.in_ok-floors.floors.items;
    } in
    opening-keeps (IsAt table) (HasStandIn table rs ks) book c.args.limits.now.sites f c.new.ensures.empty
    (c.in_ok-floors.ensures.items_if_clones_equal (λ y e. e)) named
    (named-is_stand_in table rs ks c.args.root root stands named)
