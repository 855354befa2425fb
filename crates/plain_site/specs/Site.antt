-- What a site holds.
use Rattle.std.specs.Prelude.{ℕ, ◌+◌, List, [], ◌∷◌, replicate}
use Rattle.tardis_base.specs.declared.ids.StateId.{StateId}
use Rattle.tardis_base.specs.declared.records.Record.{Record}
use Rattle.tardis_base.specs.declared.records.Limits.{Limits}
use Rattle.tardis_base.specs.Keys.{KeyWrite}
use Rattle.plain_dag.specs.States.{root_record, count_of_site}
use Rattle.plain_dag.specs.Entries.{changed}
use Rattle.plain_dag.specs.Floors.{Floor, Sessions, opening_floor, floor_of}

-- a transaction with one read state: it keeps the keys that it read
pub record SingleTxn : Type 0 where
  pub state : StateId
  pub reads : List (List ℕ)
  pub writes : List KeyWrite

-- a transaction with several read states, ascending
pub record MergeTxn : Type 0 where
  pub states : List StateId
  pub writes : List KeyWrite

pub data Txn : Type 0 where
  Single : (txn : SingleTxn) → Txn
  Merge : (txn : MergeTxn) → Txn

-- A site: its limits and its own number; its history, newest first; what it knows of each site's floor; the collected
-- states; the open sessions by their numbers, and the open transactions by the numbers of their sessions; and the records
-- that wait for others.
pub record Site : Type 0 where
  pub limits : Limits
  pub own : ℕ
  pub dag : List Record
  pub floors : List Floor
  pub collected : List StateId
  pub sessions : Sessions
  pub txns : List (ℕ × Txn)
  pub waiting : List Record

-- a site that opens: the root alone, floors at the root, no session, and nothing that waits
abbrev pub opening : Limits → ℕ → Site
opening limits own =
    record {
      limits = limits;
      own = own;
      dag = root_record ∷ [];
      floors = replicate limits.sites opening_floor;
      collected = [];
      sessions = [];
      txns = [];
      waiting = [];
    }

-- the site's own floor
abbrev pub own_floor : Site → Floor
own_floor site = floor_of site.floors site.own

-- how many states the site made
abbrev pub own_count : Site → ℕ
own_count site = count_of_site site.dag site.own

-- the next id of the site
abbrev pub next_id : Site → StateId
next_id site = record { site = site.own; sequence = own_count site + 1 }

-- the next record of the site, with these parents and these writes
abbrev pub next_record : Site → List StateId → List KeyWrite → Record
next_record site parents writes = record { id = next_id site; parents = parents; writes = writes }

-- what the transaction wrote
abbrev pub writes_of : Txn → List KeyWrite
writes_of (Single t) = t.writes
writes_of (Merge t) = t.writes

-- the states at which the transaction reads
abbrev pub read_states : Txn → List StateId
read_states (Single t) = t.state ∷ []
read_states (Merge t) = t.states

-- the site with this transaction of the session changed
abbrev pub with_txn_changed : ℕ → (Txn → Txn) → Site → Site
with_txn_changed n f site = record site { txns = changed n f site.txns }
