use Rattle.std.proofs.Common.{◌-◌, None, sym, ap, ◌∙◌, length, arith}
use Rattle.std.proofs.lemmas.List.{get_or_past}
use Rattle.site_lives.proofs.lives.Lives.of.Goals as goal

pub returns-else-place-lt-SITES : goal.returns-else-place-lt-SITES
returns-else-place-lt-SITES c =
    let far = c.if-place-lt-SITES.false in
    let place = c.place_of-place.ensures in
    let room = sym (ap length c.self.view_is) ∙ c.self.invariant in
    sym (get_or_past c.args.self.now (c.args.number - 1) None (omega (arith, far, place, room)))
