-- Tables that nobody can tell apart. A slot is a place in one table alone: what is said of slots is compared by the states there.
use Rattle.std.specs.Prelude.{◌≡◌, ℕ, List, map, flat_map, Option}
use Rattle.tardis_base.specs.declared.ids.StateId.{StateId}
use Rattle.state_dag.specs.Table.{Entry, Table, id_at}
use Rattle.state_dag.specs.Views.{named_branches}

-- what an entry says of its state: its id, how many states had arrived before it, its parents, all its children, and which
-- states stand in for these
pub record Outline : Type 0 where
  pub id : StateId
  pub arrival : ℕ
  pub parents : List StateId
  pub children : List StateId
  pub stand_ins : List (Option StateId)

abbrev pub outline : Table → Entry → Outline
outline table e = record { id = e.id; arrival = e.arrival; parents = e.parents; children = e.children; stand_ins = map (id_at table) e.stand_ins }

-- the branches on the entry's path, each by the fork's state and its number, by the fork's arrival and then by number
abbrev pub named_path : Table → Entry → List (StateId × ℕ)
named_path table e = flat_map (named_branches e.path) table.entries

-- the tables have the same limits and counts, and know as many states; in the same order they keep the same states, and say
-- the same of each, with the same branches on its path
pub record AreTwinTables (one other : Table) : Type 0 where
  pub limits : one.limits ≡ other.limits
  pub counts : one.counts ≡ other.counts
  pub known : one.known ≡ other.known
  pub entries : map (outline one) one.entries ≡ map (outline other) other.entries
  pub paths : map (named_path one) one.entries ≡ map (named_path other) other.entries
