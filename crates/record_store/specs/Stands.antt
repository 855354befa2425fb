-- When a store stands for a history, beside the list of its collected states.
use Rattle.std.specs.Prelude.{◌≡◌, ℕ, Bool, ◌&&◌, List, map, filter, Option, Some}
use Rattle.std.specs.List.{list_any}
use Rattle.tardis_base.specs.declared.ids.StateId.{StateId}
use Rattle.tardis_base.specs.declared.records.Record.{Record}
use Rattle.tardis_base.specs.declared.records.Write.{Write}
use Rattle.tardis_base.specs.Ids.{same_id}
use Rattle.plain_dag.specs.States.{states, writes_key}
use Rattle.plain_dag.specs.Writers.{read}
use Rattle.plain_dag.specs.Collection.{kept_states, stand_in}
use Rattle.state_dag.specs.Table.{Table, id_at}
use Rattle.state_dag.specs.Stands.{Stands}
use Rattle.version_list.specs.declared.histories.Version.{Version}
use Rattle.version_list.specs.Versions.{versions_of}
use Rattle.version_list.specs.Reads.{written}
use Rattle.record_store.specs.Store.{Store}

-- x stands in for a state that writes the key
abbrev pub holds_key : List Record → List StateId → List ℕ → StateId → Bool
holds_key rs ks k x = list_any (λ w. writes_key rs k w && same_id (stand_in rs ks w) x) (states rs)

-- the kept states that hold the key, in arrival order, each with what is read of the key there
abbrev pub held_reads : List Record → List StateId → List ℕ → List (Option StateId × Option (StateId × Write))
held_reads rs ks k = map (λ x. (Some x, read rs k x)) (filter (holds_key rs ks k) (kept_states rs ks))

-- at which state a version is kept, with its writer and what that one wrote
abbrev pub shown_version : Table → Version → Option StateId × Option (StateId × Write)
shown_version table v = (id_at table v.slot, Some (written v))

-- the table stands for the history, and the versions of each key are those of the kept states that hold it
pub record StoreStands (store : Store) (rs : List Record) (ks : List StateId) : Type 0 where
  pub table : Stands store.table rs ks
  pub versions : (k : List ℕ) → map (shown_version store.table) (versions_of store.versions k) ≡ held_reads rs ks k
