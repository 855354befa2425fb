use Rattle.std.proofs.Common.{◌≡◌, true, List, Some, take}
use Rattle.std.specs.List.{list_all}
use Rattle.tardis_base.specs.declared.ids.StateId.{StateId}
use Rattle.tardis_base.specs.declared.records.Record.{Record}
use Rattle.plain_dag.specs.Above.{is_proper_ancestor}
use Rattle.state_dag.specs.Table.{id_at}
use Rattle.state_dag.specs.Stands.{Stands}
use Rattle.ceiling_book.specs.declared.parts.KnownFloor.{KnownFloor}
use Rattle.ceiling_book.specs.Places.{ArePlaced}
use Rattle.ceiling_book.proofs.CeilingBook.closed.Given as goal

abbrev pub invariant-loop-floor : goal.invariant-loop-floor
invariant-loop-floor l = record {
  items : l.floor-items ≡ l.self.floors;
  closed : (rs : List Record) (ks : List StateId) → Stands l.dag rs ks → ArePlaced l.self l.dag rs ks → (x : StateId) → id_at l.dag l.fn.slot ≡ Some x →
      list_all (λ (f : KnownFloor). is_proper_ancestor rs x f.place.state) (take l.floor-index l.floor-items) ≡ true;
}
