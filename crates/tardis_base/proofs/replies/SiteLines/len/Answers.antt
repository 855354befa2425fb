use Rattle.std.proofs.Common.{◌≤◌, length, sym, ◌∙◌, ap, arith}
use Rattle.std.proofs.lemmas.List.{length-take-le}
use Rattle.tardis_base.proofs.replies.SiteLines.len.Goals as goal

pub returns-clause-count : goal.returns-clause-count
returns-clause-count c =
    let lines = c.self.inside.lines in
    let within : c.self.inside.len ≤ length lines = omega (arith, c.self.invariant.0, c.self.invariant.1) in
    sym (length-take-le c.self.inside.len lines within) ∙ ap length c.self.view_is

pub returns-clause-room : goal.returns-clause-room
returns-clause-room c = omega (arith, returns-clause-count c, c.self.invariant.0)
