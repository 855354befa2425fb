use Rattle.std.proofs.Common.{◌-◌, Some, sym, ap, ◌∙◌, length, arith}
use Rattle.std.proofs.lemmas.List.{set_past}
use Rattle.site_lives.proofs.lives.Lives.put.Goals as goal

pub returns-else-place-lt-SITES : goal.returns-else-place-lt-SITES
returns-else-place-lt-SITES c =
    let far = c.if-place-lt-SITES.false in
    let place = c.place_of-place.ensures in
    let room = sym (ap length c.self.view_is) ∙ c.self.invariant in
    sym (set_past c.args.self.now (c.args.new.now.number - 1) (Some c.args.new.now.life) (omega (arith, far, place, room)))
