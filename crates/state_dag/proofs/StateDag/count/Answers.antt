use Rattle.std.proofs.Common.{◌∙◌, ◌-◌, unwrap_or, slice_get, sym, ap, arith}
use Rattle.std.proofs.lemmas.List.{get_or_default}
use Rattle.std.proofs.lemmas.Option.{unwrap_or-slice_get}
use Rattle.state_dag.specs.Table.{Table}
use Rattle.state_dag.proofs.Calls.{counted}
use Rattle.state_dag.proofs.StateDag.count.Goals as goal

pub returns-clause-is : goal.returns-clause-is
returns-clause-is c =
    let counts = c.self.inside.counts.items in
    let i = c.args.site - 1 in
    let sites = c.self.invariant.sites in
    let most = ap (λ (t : Table). t.limits.sites) c.self.view_is in
    let first = c.requires.first in
    let last = c.requires.last in
    c.index.ensures
    ∙ get_or_default counts i c.index.result.now 0 (omega arith)
    ∙ sym (unwrap_or-slice_get counts i 0)
    ∙ ap (λ (t : Table). unwrap_or (slice_get t.counts i) 0) c.self.view_is

pub returns-clause-count : goal.returns-clause-count
returns-clause-count c = λ rs ks stands.
    c.index.ensures ∙ counted c.args.self.now rs ks stands c.args.site c.self.inside.counts.items c.index.result.now (ap (λ t. t.counts) c.self.view_is)
    c.requires.first c.requires.last
