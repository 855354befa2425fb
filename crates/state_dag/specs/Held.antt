-- What holds of the table's memory at all times.
use Rattle.std.specs.Prelude.{◌≡◌, ◌+◌, ◌^◌, ◌≤◌, ◌<◌, List, length, map, filter, take, sum, IsTrue, nat_lt, nat_le, slice_index_or}
use Rattle.std.specs.List.{list_all}
use Rattle.tardis_base.specs.declared.ids.StateId.{StateId}
use Rattle.tardis_base.specs.declared.ids.Slot.{Slot}
use Rattle.tardis_base.specs.Valid.{are_limits}
use Rattle.fork_path.specs.Pairs.{are_ascending_pairs}
use Rattle.state_dag.specs.declared.StateDag.TheInside.{Inside}
use Rattle.state_dag.specs.IdSlots.{slot_of_state}
use Rattle.state_dag.specs.Table.{Table, is_slot, arrive_in_order, arrival_at}
use Rattle.state_dag.specs.Views.{entries_in, is_childless, slot_of_id, is_counted, AllDiffer}
use Rattle.state_dag.specs.Nodes.{are_places, AreDistinct}

-- the slots of the kept states
abbrev pub kept_of : Inside → List Slot
kept_of a = take a.kept a.order.items

-- the table that the memory is seen as
abbrev pub seen : Inside → Table
seen a = record {
  limits = a.limits;
  counts = a.counts.items;
  known = a.known;
  entries = entries_in a.nodes.items (kept_of a);
}

-- the limits are valid; there is a kept state, there are no more than may be, and so many slots are in use; as many slots are listed as there are
-- nodes, each the place of another node, and no more than states may be kept; the kept states stand in arrival order, and
-- all have arrived; their paths ascend and are short; their children stand in slots of kept states that arrived later; the
-- leaves are those without a child; there is a count of 32 bits for each site, and with the root as many have arrived as are
-- counted, all that are kept among them; no state is kept twice, and each state's slot is the last that has its id; there is a
-- time for each node, and no child of a state that is kept and arrived before that of a slot stands there
pub record IsHeld (a : Inside) : Type 0 where
  pub valid : IsTrue (are_limits a.limits)
  pub some : 0 < a.kept
  pub within : a.kept ≤ a.limits.max_kept
  pub inside : a.kept ≤ length a.order.items
  pub used : a.order.used ≡ a.kept
  pub all : length a.order.items ≡ length a.nodes.items
  pub few : length a.nodes.items ≤ a.limits.max_kept
  pub placed : IsTrue (are_places a.nodes.items a.order.items)
  pub distinct : AreDistinct a.order.items
  pub in_order : IsTrue (arrive_in_order (seen a).entries)
  pub arrived : IsTrue (list_all (λ e. nat_lt e.arrival a.known) (seen a).entries)
  pub ascending : IsTrue (list_all (λ e. are_ascending_pairs e.path) (seen a).entries)
  pub short : IsTrue (list_all (λ e. nat_le (length e.path) a.limits.max_path) (seen a).entries)
  pub stand_ins : IsTrue (list_all (λ e. list_all (is_slot (seen a)) e.stand_ins) (seen a).entries)
  pub later : IsTrue (list_all (λ e. list_all (λ s. nat_lt e.arrival (arrival_at (seen a) s)) e.stand_ins) (seen a).entries)
  pub childless : a.leaves.items ≡ map (λ e. e.slot) (filter is_childless (seen a).entries)
  pub sites : length a.counts.items ≡ a.limits.sites
  pub fit : IsTrue (list_all (λ n. nat_lt n (2 ^ 32)) a.counts.items)
  pub counted : a.known ≡ sum a.counts.items + 1
  pub among_counted : IsTrue (list_all (λ e. is_counted a.counts.items e.id) (seen a).entries)
  pub once : AllDiffer (map (λ e. e.id) (seen a).entries)
  pub times : length a.nodes.items ≤ length a.since.items
  pub since : IsTrue (list_all (λ e. list_all (λ s. nat_le (slice_index_or a.since.items s.0 0) e.arrival) e.stand_ins) (seen a).entries)
  pub indexed : (x : StateId) → slot_of_state a.slots x ≡ slot_of_id (seen a).entries x
