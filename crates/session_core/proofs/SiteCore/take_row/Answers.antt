use Rattle.std.proofs.Common.{◌≡◌, subst}
use Rattle.session_core.specs.Machine.{opened_with}
use Rattle.session_core.specs.Rests.{TakesRow}
use Rattle.session_core.proofs.TakingRows.{row-stands, row-opening}
use Rattle.session_core.proofs.SiteCore.take_row.Goals as goal

pub invariant_of-self : goal.invariant_of-self
invariant_of-self c =
    row-stands c.self.inside.parts c.take_row.new.self c.args.site c.args.count c.take_row.result c.take_row.ensures c.self.invariant

pub returns-clause-taken : goal.returns-clause-taken
returns-clause-taken c =
    subst (λ old. TakesRow old c.take_row.new.self c.args.site c.args.count c.take_row.result) c.self.view_is c.take_row.ensures

pub returns-clause-opening : goal.returns-clause-opening
returns-clause-opening c =
    subst (λ old. opened_with c.take_row.new.self ≡ opened_with old) c.self.view_is
    (row-opening c.self.inside.parts c.take_row.new.self c.args.site c.args.count c.take_row.result c.take_row.ensures c.self.invariant)
