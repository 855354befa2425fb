-- What a table lends of itself.
use Rattle.std.specs.Prelude.{◌≡◌, ◌+◌, ◌^◌, ◌≤◌, ◌<◌, length, map, sum, IsTrue, nat_lt, nat_le}
use Rattle.std.specs.List.{list_all}
use Rattle.tardis_base.specs.Valid.{are_limits}
use Rattle.fork_path.specs.Pairs.{are_ascending_pairs}
use Rattle.fork_path.specs.Tiles.{pairs_of}
use Rattle.state_dag.specs.declared.images.EntryParts.{EntryParts}
use Rattle.state_dag.specs.Table.{Entry, Table, is_slot, arrive_in_order, arrival_at}
use Rattle.state_dag.specs.Views.{is_counted, AllDiffer}
use Rattle.state_dag.specs.Nodes.{AreDistinct}

-- the entry of these parts
abbrev pub entry_of_parts : EntryParts → Entry
entry_of_parts e = record {
  slot = e.slot;
  id = e.id;
  arrival = e.arrival;
  parents = e.parents.now;
  children = e.children.now;
  stand_ins = e.stand_ins.now;
  path = pairs_of e.path.now;
}

-- what is so of every table: its limits are valid; there is a kept state, there are no more than may be, and each has a slot
-- of its own, below that number; they stand in the order in which they arrived, and all have arrived; their paths ascend and are
-- short; their children stand in slots of kept states that arrived later; there is a count of 32 bits for each site, and with
-- the root as many have arrived as are counted, all that are kept among them; no state is kept twice
pub record IsTable (table : Table) : Type 0 where
  pub valid : IsTrue (are_limits table.limits)
  pub some : 0 < length table.entries
  pub within : length table.entries ≤ table.limits.max_kept
  pub few : IsTrue (list_all (λ e. nat_lt e.slot.0 table.limits.max_kept) table.entries)
  pub distinct : AreDistinct (map (λ e. e.slot) table.entries)
  pub in_order : IsTrue (arrive_in_order table.entries)
  pub arrived : IsTrue (list_all (λ e. nat_lt e.arrival table.known) table.entries)
  pub ascending : IsTrue (list_all (λ e. are_ascending_pairs e.path) table.entries)
  pub short : IsTrue (list_all (λ e. nat_le (length e.path) table.limits.max_path) table.entries)
  pub stand_ins : IsTrue (list_all (λ e. list_all (is_slot table) e.stand_ins) table.entries)
  pub later : IsTrue (list_all (λ e. list_all (λ s. nat_lt e.arrival (arrival_at table s)) e.stand_ins) table.entries)
  pub sites : length table.counts ≡ table.limits.sites
  pub fit : IsTrue (list_all (λ n. nat_lt n (2 ^ 32)) table.counts)
  pub counted : table.known ≡ sum table.counts + 1
  pub among_counted : IsTrue (list_all (λ e. is_counted table.counts e.id) table.entries)
  pub once : AllDiffer (map (λ e. e.id) table.entries)
