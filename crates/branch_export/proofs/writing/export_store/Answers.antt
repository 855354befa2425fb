use Rattle.std.proofs.Common.{◌≡◌, Some, ◌∙◌, ap, subst}
use Rattle.state_dag.specs.Table.{id_at}
use Rattle.branch_export.proofs.Orders.{texts}
use Rattle.branch_export.proofs.Kept.{named-kept, wanting, written, cut_short}
use Rattle.branch_export.proofs.writing.export_store.Goals as goal

pub returns-in_err-keys-clause-exported : goal.returns-in_err-keys-clause-exported
returns-in_err-keys-clause-exported g c = λ rs ks stands.
    wanting rs ks c.args.state (g.O.Sink.given c.args.output.now) c.from_residual.result
    (named-kept c.args.store.now.table rs ks stands.table c.in-Some.slot c.args.state
    (subst (λ t. id_at t c.in-Some.slot ≡ Some c.args.state) c.dag.ensures c.in-Some.ensures.found))
    c.from_residual.ensures

pub returns-in_err-gathered-clause-exported : goal.returns-in_err-gathered-clause-exported
returns-in_err-gathered-clause-exported g c = λ rs ks stands.
    wanting rs ks c.args.state (g.O.Sink.given c.args.output.now) c.from_residual-in_err-gathered.result
    (named-kept c.args.store.now.table rs ks stands.table c.in-Some.slot c.args.state
    (subst (λ t. id_at t c.in-Some.slot ≡ Some c.args.state) c.dag.ensures c.in-Some.ensures.found))
    c.from_residual-in_err-gathered.ensures

pub returns-in-Ok-clause-exported : goal.returns-in-Ok-clause-exported
returns-in-Ok-clause-exported g c = λ rs ks stands.
    let named = subst (λ t. id_at t c.in-Some.slot ≡ Some c.args.state) c.dag.ensures c.in-Some.ensures.found in
    written rs ks c.args.state (g.O.Sink.given c.args.output.now) (g.O.Sink.given c.write_entries.new.output) (texts c.as_slice.result.now)
    (named-kept c.args.store.now.table rs ks stands.table c.in-Some.slot c.args.state named)
    (ap texts c.as_slice.ensures.value ∙ c.in_ok-keys.ensures rs ks stands c.args.state named)
    (c.in-Ok.ensures.written rs ks stands c.args.state named)

pub returns-clause-exported : goal.returns-clause-exported
returns-clause-exported g c = λ rs ks stands.
    let named = subst (λ t. id_at t c.in-Some.slot ≡ Some c.args.state) c.dag.ensures c.in-Some.ensures.found in
    cut_short rs ks c.args.state (g.O.Sink.given c.args.output.now) (g.O.Sink.given c.write_entries.new.output) (texts c.as_slice.result.now)
    (named-kept c.args.store.now.table rs ks stands.table c.in-Some.slot c.args.state named)
    (ap texts c.as_slice.ensures.value ∙ c.in_ok-keys.ensures rs ks stands c.args.state named)
    (c.in-Err.ensures.written rs ks stands c.args.state named)
