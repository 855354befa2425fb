-- Which keys a state holds.
use Rattle.std.proofs.Common.{◌≡◌, ℕ, false, List, Option, Some, None, IsTrue, refl, sym, ap, subst, ◌∙◌}
use Rattle.std.specs.Option.{option_map, option_map_or}
use Rattle.std.proofs.lemmas.Bool.{and_parts, false_from_ne_true}
use Rattle.std.proofs.lemmas.Option.{none-some, same_Some}
use Rattle.tardis_base.specs.declared.ids.StateId.{StateId}
use Rattle.tardis_base.specs.declared.ids.Slot.{Slot}
use Rattle.tardis_base.specs.declared.records.Record.{Record}
use Rattle.tardis_base.specs.Ids.{same_id}
use Rattle.plain_dag.specs.States.{is_known, writes_key}
use Rattle.plain_dag.specs.Above.{is_above}
use Rattle.plain_dag.specs.Writers.{latest_writer}
use Rattle.plain_dag.specs.Collection.{stand_in}
use Rattle.plain_dag.proofs.Ids.{same_test, same_id-true, same_id_from}
use Rattle.plain_dag.proofs.Growth.{writer-is-known}
use Rattle.plain_dag.proofs.LatestWriter.{one-latest-writer}
use Rattle.plain_dag.proofs.StandInWriters.{latest-writers-stand-in-there}
use Rattle.state_dag.specs.Table.{id_at}
use Rattle.state_dag.proofs.Standing.{slot-is_kept}
use Rattle.record_store.specs.Store.{Store}
use Rattle.record_store.specs.Stands.{StoreStands, holds_key}
use Rattle.record_store.proofs.Holders.{holder-writes, writer-holds}

module _ (store : Store) (rs : List Record) (ks : List StateId) (stands : StoreStands store rs ks) (slot : Slot) (x : StateId)
    (named : id_at store.table slot ≡ Some x) (k : List ℕ) where
  -- a state that holds the key stands in for its own latest writer
  held-latest : IsTrue (holds_key rs ks k x) → (v : StateId) × (latest_writer rs k x ≡ Some v) × (stand_in rs ks v ≡ x)
  held-latest h =
      let w = holder-writes rs ks stands.table.dag stands.table.shared k x h in
      let v = latest-writers-stand-in-there rs ks stands.table.dag stands.table.shared k w.0 w.2 in
      (v.0, sym (ap (latest_writer rs k) w.3) ∙ v.1, v.2 ∙ w.3)

  known : IsTrue (is_known rs x)
  known = (and_parts (is_known rs x) _ (slot-is_kept store.table rs ks stands.table slot x named)).0

  latest-writes : (v : StateId) → latest_writer rs k x ≡ Some v → IsTrue (holds_key rs ks k (stand_in rs ks v))
  latest-writes v e =
      let is_latest = (one-latest-writer rs stands.table.dag k x known).is_latest v e in
      let writes = (and_parts (writes_key rs k v) (is_above rs v x) is_latest.writes).0 in
      writer-holds rs ks stands.table.dag stands.table.shared k v (writer-is-known rs k v writes) writes

  -- it holds the key exactly where it stands in for its latest writer there
  pub holds-where : (h : Option StateId) → h ≡ option_map (stand_in rs ks) (latest_writer rs k x) → holds_key rs ks k x ≡ option_map_or (λ y. same_id y x) h false
  holds-where h is = go (latest_writer rs k x) refl ∙ sym (ap (λ o. option_map_or (λ y. same_id y x) o false) is)
    where
      told : (v : StateId) → latest_writer rs k x ≡ Some v → holds_key rs ks k x ≡ same_id (stand_in rs ks v) x
      told v e =
          same_test (holds_key rs ks k x) (same_id (stand_in rs ks v) x)
          (λ t. let w = held-latest t in same_id_from (stand_in rs ks v) x (ap (stand_in rs ks) (same_Some v w.0 (sym e ∙ w.1)) ∙ w.2))
          (λ t. subst (λ y. IsTrue (holds_key rs ks k y)) (same_id-true (stand_in rs ks v) x t) (latest-writes v e))

      go : (o : Option StateId) → latest_writer rs k x ≡ o → holds_key rs ks k x
          ≡ option_map_or (λ y. same_id y x) (option_map (stand_in rs ks) (latest_writer rs k x)) false
      go None e =
          false_from_ne_true (holds_key rs ks k x) (λ t. let w = held-latest t in none-some w.0 (sym e ∙ w.1))
          ∙ sym (ap (λ o. option_map_or (λ y. same_id y x) (option_map (stand_in rs ks) o) false) e)
      go (Some v) e = told v e ∙ sym (ap (λ o. option_map_or (λ y. same_id y x) (option_map (stand_in rs ks) o) false) e)
