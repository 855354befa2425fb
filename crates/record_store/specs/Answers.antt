-- What the calls of a store answer.
use Rattle.std.specs.Prelude.{◌≡◌, ◌≤◌, ℕ, Bool, List, ◌∷◌, Option, Some, None, Result, Ok, Err, IsTrue, IsFalse, if◌then◌else◌}
use Rattle.std.specs.Option.{option_map}
use Rattle.tardis_base.specs.declared.ids.StateId.{StateId}
use Rattle.tardis_base.specs.declared.ids.Slot.{Slot}
use Rattle.tardis_base.specs.declared.records.Record.{Record}
use Rattle.tardis_base.specs.declared.records.Write.{Write}
use Rattle.tardis_base.specs.declared.faults.AddFault.{AddFault}
use Rattle.tardis_base.specs.declared.faults.AddFault.TheVariants.{Full, PathFull, NoMemory}
use Rattle.tardis_base.specs.declared.replies.Refusal.TheVariants.{Full as IsFull, PathFull as IsPathFull}
use Rattle.tardis_base.specs.Ids.{is_among}
use Rattle.tardis_base.specs.Keys.{KeyWrite, write_of}
use Rattle.plain_dag.specs.States.{is_known}
use Rattle.plain_dag.specs.Writers.{read}
use Rattle.plain_dag.specs.Collection.{stand_in}
use Rattle.plain_dag.specs.Dag.{IsNext}
use Rattle.plain_dag.specs.Growth.{growth_refusal}
use Rattle.version_list.specs.Versions.{listed_keys, versions_of}
use Rattle.record_store.specs.Store.{Store}
use Rattle.record_store.specs.Stands.{StoreStands}

-- the record was added, or refused as the history refuses it, or there was no memory; where it wasn't added the store
-- stands for what it stood for
abbrev pub AddedIn : Store → Store → List Record → List StateId → Record → Result Slot AddFault → Type 0
AddedIn old new rs ks r (Ok slot) = (growth_refusal old.table.limits ks rs r ≡ None) × StoreStands new (r ∷ rs) ks
AddedIn old new rs ks r (Err (Full kept)) = (growth_refusal old.table.limits ks rs r ≡ Some (IsFull kept)) × StoreStands new rs ks
AddedIn old new rs ks r (Err (PathFull x n)) = (growth_refusal old.table.limits ks rs r ≡ Some (IsPathFull x n)) × StoreStands new rs ks
AddedIn old new rs ks r (Err NoMemory) = StoreStands new rs ks

-- the table, all versions and the listed keys are as they were; only room for more may have grown
pub record IsSameStore (old new : Store) : Type 0 where
  pub table : new.table ≡ old.table
  pub versions : (k : List ℕ) → versions_of new.versions k ≡ versions_of old.versions k
  pub listed : listed_keys new.versions ≡ listed_keys old.versions

-- the record may arrive, at one of the sites, and none of its parents is collected
pub record MayArrive (sites : ℕ) (rs : List Record) (ks : List StateId) (r : Record) : Type 0 where
  pub next : IsNext rs r
  pub site : r.id.site ≤ sites
  pub kept : (p : StateId) → IsTrue (is_among p r.parents) → IsFalse (is_among p ks)

-- no other state stands in where x does
abbrev pub StandsAlone : List Record → List StateId → StateId → Type 0
StandsAlone rs ks x = (w : StateId) → IsTrue (is_known rs w) → stand_in rs ks w ≡ x → w ≡ x

-- what was written where something was found
abbrev pub write_found : Option (StateId × Write) → Option Write
write_found read = option_map (λ w. w.1) read

-- what is written where the key is read at the state
abbrev pub read_write : List Record → StateId → List ℕ → Option Write
read_write rs x k = write_found (read rs k x)

-- of the keys that were met exactly what is read is written
abbrev pub HasReads : (List ℕ → Option Write) → (List ℕ → Bool) → List KeyWrite → Type 0
HasReads reads met ws = (k : List ℕ) → write_of k ws ≡ (if met k then reads k else None)
