use Rattle.std.proofs.Common.{◌-◌, ◌∙◌, take, drop, subst, ap, refl, arith}
use Rattle.line_cut.specs.Lines.{IsLong}
use Rattle.line_cut.proofs.Lent.{lent}
use Rattle.line_cut.proofs.cutters.LineCutter.next.Goals as goal

pub returns-in-Ended : goal.returns-in-Ended
returns-in-Ended c =
    let both = lent c.self.inside.buf.items c.deref.result.now c.deref-in-Ended.result.now c.args.self.now c.self.inside.start c.self.inside.end
    c.in-Ended.count
    c.deref.ensures.value c.deref-in-Ended.ensures.value c.self.view_is c.self.invariant.0 (omega (arith, c.self.invariant.1, c.self.invariant.2))
    c.in-Ended.ensures.0 c.in-Ended.ensures.1 c.in-Ended.ensures.2 in
    ((refl, (λ _. tt), both.0), record { after = tt; cut = both.1 })

pub returns-in-TooLong : goal.returns-in-TooLong
returns-in-TooLong c =
    let held = ap (λ z. take (c.self.inside.end - c.self.inside.start) (drop c.self.inside.start z)) c.deref.ensures.value ∙ c.self.view_is in
    ((refl, (λ _. tt), c.self.view_is), record { after = tt; cut = subst IsLong held c.in-TooLong.ensures })
