-- What a transaction has written is added to the store.
use Rattle.std.specs.Prelude.{◌≡◌, ℕ, List, Option, Some, None, Result, Ok, Err, IfOk, OnErr}
use Rattle.tardis_base.specs.declared.ids.Slot.{Slot}
use Rattle.tardis_base.specs.declared.ids.StateId.{StateId}
use Rattle.tardis_base.specs.declared.records.Record.{Record}
use Rattle.tardis_base.specs.declared.faults.AddFault.{AddFault}
use Rattle.tardis_base.specs.Keys.{KeyWrite}
use Rattle.plain_dag.specs.Entries.{entry_of, without_entry}
use Rattle.state_dag.specs.Answers.{KeepsSlots, IsNewSlot, MayBeAdded}
use Rattle.record_store.specs.Store.{Store}
use Rattle.record_store.specs.Stands.{StoreStands}
use Rattle.record_store.specs.Answers.{AddedIn, IsSameStore}
use Rattle.merge_txn.specs.declared.Txn.{Txn}
use Rattle.merge_txn.specs.Txns.{writes_of}

-- the state with these writes was added below those of these slots, or it was not, and the store is as it was
pub record Adds (old new : Store) (id : StateId) (ws : List KeyWrite) (below : List Slot) (result : Result Slot AddFault) : Type 0 where
  pub added :
      (rs : List Record) (ks : List StateId) (r : Record) → StoreStands old rs ks → r.id ≡ id → r.writes ≡ ws → MayBeAdded old.table rs ks r below
      → AddedIn old new rs ks r result
  pub slot : IfOk result (λ slot. IsNewSlot old.table new.table id slot)
  pub keeps : KeepsSlots old.table new.table
  pub limits : new.table.limits ≡ old.table.limits
  pub same : OnErr result (IsSameStore old new)

-- the transaction of this place commits so and is gone, or it stays; where there is none, all is as before
abbrev pub CommitsAtPlace : Store → Store → Option Txn → Option Txn → StateId → List Slot → Option (Result Slot AddFault) → Type 0
CommitsAtPlace old new place after id below (Some (Ok slot)) =
    (t : Txn) × (place ≡ Some t) × Adds old new id (writes_of t) below (Ok slot) × (after ≡ None)
CommitsAtPlace old new place after id below (Some (Err fault)) =
    (t : Txn) × (place ≡ Some t) × Adds old new id (writes_of t) below (Err fault) × (after ≡ place)
CommitsAtPlace old new place after id below None = (place ≡ None) × (after ≡ None) × (new ≡ old)

-- so for the transaction of the session
abbrev pub CommitsIn : Store → Store → List (ℕ × Txn) → List (ℕ × Txn) → ℕ → StateId → List Slot → Option (Result Slot AddFault) → Type 0
CommitsIn old new txns after n id below (Some (Ok slot)) =
    (t : Txn) × (entry_of n txns ≡ Some t) × Adds old new id (writes_of t) below (Ok slot) × (after ≡ without_entry n txns)
CommitsIn old new txns after n id below (Some (Err fault)) =
    (t : Txn) × (entry_of n txns ≡ Some t) × Adds old new id (writes_of t) below (Err fault) × (after ≡ txns)
CommitsIn old new txns after n id below None = (entry_of n txns ≡ None) × (after ≡ txns) × (new ≡ old)
