use Rattle.std.proofs.Common.{refl}
use Rattle.frame_cut.proofs.Lent.{lent}
use Rattle.frame_cut.proofs.cutters.FrameCutter.next.Goals as goal

pub returns-in-Body : goal.returns-in-Body
returns-in-Body c =
    let both = lent c.self.inside.buf.items c.deref.result.now c.deref-in-Body.result.now c.args.self.now c.self.inside.start c.in-Body.count
    c.deref.ensures.value c.deref-in-Body.ensures.value c.self.view_is c.self.invariant.0
    c.in-Body.ensures.0 c.in-Body.ensures.1 c.in-Body.ensures.2 in
    ((refl, (λ _. tt), both.0), record { after = tt; cut = both.1 })
