use Rattle.std.proofs.Common.{◌≡◌, ◌==◌, ◌&&◌, true, List, Some, take}
use Rattle.std.specs.List.{list_all}
use Rattle.tardis_base.specs.declared.ids.StateId.{StateId}
use Rattle.tardis_base.specs.declared.records.Record.{Record}
use Rattle.plain_dag.specs.Above.{is_above}
use Rattle.state_dag.specs.Table.{id_at}
use Rattle.state_dag.specs.Stands.{Stands}
use Rattle.ceiling_book.specs.declared.parts.KnownFloor.{KnownFloor}
use Rattle.ceiling_book.specs.Places.{ArePlaced}
use Rattle.ceiling_book.proofs.CeilingBook.are_unpromised_above.Given as goal

abbrev pub invariant-loop-floor : goal.invariant-loop-floor
invariant-loop-floor l = record {
  items : l.floor-items ≡ l.self.floors;
  above : (rs : List Record) (ks : List StateId) → Stands l.dag rs ks → ArePlaced l.self l.dag rs ks → (x : StateId) → id_at l.dag l.slot ≡ Some x →
      list_all (λ (f : KnownFloor). f.number == 0 && is_above rs f.place.state x) (take l.floor-index l.floor-items) ≡ true;
}
