-- Leaves are chosen.
use Rattle.std.proofs.Common.{◌≡◌, not, List, Some, Ok, IsTrue, sym, ap, subst}
use Rattle.std.proofs.lemmas.Bool.{and_parts}
use Rattle.tardis_base.specs.declared.ids.StateId.{StateId}
use Rattle.tardis_base.specs.declared.ids.Slot.{Slot}
use Rattle.tardis_base.specs.declared.records.Record.{Record}
use Rattle.tardis_base.specs.declared.requests.Begin.{Begin}
use Rattle.tardis_base.specs.declared.requests.Begin.TheVariants.{Any, Ancestor}
use Rattle.tardis_base.specs.Ids.{is_among}
use Rattle.plain_dag.specs.States.{is_known}
use Rattle.plain_dag.specs.Forks.{is_leaf}
use Rattle.plain_dag.specs.Begin.{begin_state, last_arrived, last_below}
use Rattle.plain_dag.proofs.Leaves.{begins-at-leaves, leaves-are-admitted}
use Rattle.state_dag.specs.Table.{Table, id_at}
use Rattle.state_dag.specs.Stands.{Stands}
use Rattle.state_dag.proofs.Standing.{slot-is_kept}
use Rattle.begin_rule.specs.Choices.{ChosenAs}

module _ (table : Table) (rs : List Record) (ks : List StateId) (stands : Stands table rs ks) (begin : Begin) (last c : StateId) (ceiling slot : Slot) where
  leaf-chosen : (x : StateId) → begin_state rs last begin ≡ x → id_at table ceiling ≡ Some c → IsTrue (is_known rs x) → IsTrue (is_leaf rs x) →
      id_at table slot ≡ Some x → ChosenAs table rs c (begin_state rs last begin) (Ok slot)
  leaf-chosen x same at known leaf named =
      let ceiling_known = (and_parts (is_known rs c) (not (is_among c ks)) (slot-is_kept table rs ks stands ceiling c at)).0 in
      subst (λ y. ChosenAs table rs c y (Ok slot)) (sym same) (named, known, leaves-are-admitted rs stands.dag x c ceiling_known leaf)

  pub any-chosen : begin ≡ Any → id_at table ceiling ≡ Some c → IsTrue (is_known rs last) → id_at table slot ≡ Some (last_arrived rs) →
      ChosenAs table rs c (begin_state rs last begin) (Ok slot)
  any-chosen is at known named =
      let leaf = begins-at-leaves rs stands.dag last known in
      leaf-chosen (last_arrived rs) (ap (begin_state rs last) is) at leaf.0 leaf.1 named

  pub ancestor-chosen : begin ≡ Ancestor → id_at table ceiling ≡ Some c → IsTrue (is_known rs last) → id_at table slot ≡ Some (last_below rs last) →
      ChosenAs table rs c (begin_state rs last begin) (Ok slot)
  ancestor-chosen is at known named =
      let leaf = begins-at-leaves rs stands.dag last known in
      leaf-chosen (last_below rs last) (ap (begin_state rs last) is) at leaf.2 leaf.3 named
