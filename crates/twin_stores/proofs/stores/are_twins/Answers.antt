use Rattle.std.proofs.Common.{sym, subst, ◌∙◌}
use Rattle.state_dag.specs.Stands.{Stands}
use Rattle.twin_stores.specs.Tables.{AreTwinTables}
use Rattle.twin_stores.proofs.TwinTables.{kept-alike}
use Rattle.twin_stores.proofs.HeldReads.{reads-from, held-from}
use Rattle.twin_stores.proofs.stores.are_twins.Goals as goal

pub returns : goal.returns
returns c = λ rs rs' ks ks' sa sb.
    let one = c.args.one.now in
    let other = c.args.other.now in
    let told = c.are_twin_tables.ensures rs rs' ks ks' (subst (λ t. Stands t rs ks) (sym c.dag.ensures) sa.table)
    (subst (λ t. Stands t rs' ks') (sym c.dag-2.ensures) sb.table) in
    let tables : AreTwinTables one.table other.table =
    subst (λ t. AreTwinTables t other.table) c.dag.ensures
    (subst (λ t. AreTwinTables c.dag.result.now t) c.dag-2.ensures (told.0 c.if-not-are_twin_tables.false)) in
    let kept = kept-alike one.table other.table rs ks rs' ks' sa.table sb.table tables.entries in
    let held = c.hold_the_same.ensures rs rs' ks ks' sa sb kept in (
      λ t. record {
        tables = tables;
        versions = λ k. sa.versions k ∙ (reads-from rs ks rs' ks' kept (held.0 t) k ∙ sym (sb.versions k));
      },
      λ twins. held.1 (held-from rs ks rs' ks' kept (λ k. sym (sa.versions k) ∙ (twins.versions k ∙ sb.versions k))),
    )
