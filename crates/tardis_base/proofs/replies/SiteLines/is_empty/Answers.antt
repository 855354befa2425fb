use Rattle.std.proofs.Common.{◌≤◌, length, nat_eq, sym, ◌∙◌, ap, arith}
use Rattle.std.proofs.lemmas.List.{length-take-le}
use Rattle.tardis_base.proofs.replies.SiteLines.is_empty.Goals as goal

pub returns : goal.returns
returns c =
    let lines = c.self.inside.lines in
    let within : c.self.inside.len ≤ length lines = omega (arith, c.self.invariant.0, c.self.invariant.1) in
    ap (λ n. nat_eq n 0) (sym (length-take-le c.self.inside.len lines within) ∙ ap length c.self.view_is)
