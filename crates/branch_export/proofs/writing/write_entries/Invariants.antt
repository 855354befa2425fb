use Rattle.std.proofs.Common.{◌≡◌, ◌≤◌, ◌++◌, List, Some, map}
use Rattle.tardis_base.specs.declared.ids.StateId.{StateId}
use Rattle.tardis_base.specs.declared.records.Record.{Record}
use Rattle.tardis_io.specs.Told.{WhileTold}
use Rattle.state_dag.specs.Table.{id_at}
use Rattle.record_store.specs.Stands.{StoreStands}
use Rattle.branch_export.proofs.Gathered.{begun}
use Rattle.branch_export.proofs.writing.write_entries.Given as goal

abbrev pub invariant-loop-key : goal.invariant-loop-key
invariant-loop-key g l = record {
  told : (rs : List Record) (ks : List StateId) → StoreStands l.fn.store rs ks → (x : StateId) → id_at l.fn.store.table l.fn.slot ≡ Some x
      → WhileTold (g.O.Sink.given l.fn.output) (g.O.Sink.given l.output)
      (λ before after. after ++ l.gathered ≡ before ++ begun rs x (map (λ k. k.now) l.fn.keys) l.key-index);
  later : g.O.Sink.faults l.fn.output ≤ g.O.Sink.faults l.output;
}
