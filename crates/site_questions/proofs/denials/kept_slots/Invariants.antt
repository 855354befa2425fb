use Rattle.std.proofs.Common.{◌≡◌, take, map, List, Some, IsTrue}
use Rattle.std.specs.List.{list_all}
use Rattle.tardis_base.specs.declared.ids.StateId.{StateId}
use Rattle.tardis_base.specs.declared.records.Record.{Record}
use Rattle.plain_dag.specs.Collection.{is_kept}
use Rattle.state_dag.specs.Table.{id_at, is_slot}
use Rattle.state_dag.specs.Stands.{Stands}
use Rattle.site_questions.proofs.denials.kept_slots.Given as goal

abbrev pub invariant-loop-state : goal.invariant-loop-state
invariant-loop-state l = record {
  slots : IsTrue (list_all (is_slot l.dag) l.slots.items);
  named : (rs : List Record) (ks : List StateId) → Stands l.dag rs ks → IsTrue (list_all (is_kept rs ks) l.states) →
      map (id_at l.dag) l.slots.items ≡ map (λ x. Some x) (take l.state-index l.states);
}
