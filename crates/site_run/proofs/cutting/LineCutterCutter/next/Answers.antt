use Rattle.std.proofs.Common.{◌≡◌, ◌+◌, length, drop, refl, subst}
use Rattle.line_cut.specs.Cuts.{Leaves}
use Rattle.site_run.proofs.FormLaws.{line_handed}
use Rattle.site_run.proofs.cutting.LineCutterCutter.next.Goals as goal

pub returns-in-Line : goal.returns-in-Line
returns-in-Line c =
    let left : c.next.follows.lender-at-none ≡ drop (length c.in-Line.line.now + 1) c.args.self.now =
    subst (λ r. Leaves c.args.self.now r c.next.follows.lender-at-none) c.in-Line.is c.next.follows.holds-at-none in (
      (
        refl,
        (λ _. tt),
        line_handed c.args.self.now c.next.follows.lender-at-none c.in-Line.line.now c.in-Line.ensures.cut.0
            c.in-Line.ensures.cut.1 left,
      ),
      record { after = tt; cut = c.in-Line.ensures.cut.0.1 },
    )

pub returns-in-Long : goal.returns-in-Long
returns-in-Long c =
    let same : c.next.follows.lender-at-none ≡ c.args.self.now =
    subst (λ r. Leaves c.args.self.now r c.next.follows.lender-at-none) c.in-Long.is c.next.follows.holds-at-none in
    ((refl, (λ _. tt), same), record { after = tt; cut = (c.in-Long.ensures.cut, refl) })
