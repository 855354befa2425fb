use Rattle.std.proofs.Common.{◌≡◌, ◌+◌, length, drop, refl, subst}
use Rattle.frame_cut.specs.Cuts.{Leaves}
use Rattle.site_run.proofs.FormLaws.{frame_handed}
use Rattle.site_run.proofs.cutting.FrameCutterCutter.next.Goals as goal

pub returns-in-Frame : goal.returns-in-Frame
returns-in-Frame c =
    let left : c.next.follows.lender-at-none ≡ drop (4 + length c.in-Frame.body.now) c.args.self.now =
    subst (λ r. Leaves c.args.self.now r c.next.follows.lender-at-none) c.in-Frame.is c.next.follows.holds-at-none in (
      (
        refl,
        (λ _. tt),
        frame_handed c.args.self.now c.next.follows.lender-at-none c.in-Frame.body.now c.in-Frame.ensures.cut.0
            c.in-Frame.ensures.cut.1 left,
      ),
      record { after = tt; cut = c.in-Frame.ensures.cut.0 },
    )
