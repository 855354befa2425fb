-- What the nodes of a table get as it grows.
use Rattle.std.specs.Prelude.{◌≡◌, ℕ, ◌+◌, ◌≤◌, ◌<◌, Bool, false, ◌==◌, ◌&&◌, ◌||◌, List, [], ◌∷◌, ◌++◌, length, map, filter, Option, Some, None, Result, Ok}
use Rattle.std.specs.Prelude.{Err, IsTrue, nat_lt, slice_get, slice_set, slice_index_or, unwrap_or, if◌then◌else◌, ⊤}
use Rattle.std.specs.List.{list_any, list_all, flat_map}
use Rattle.std.specs.Option.{option_map_or}
use Rattle.tardis_base.specs.declared.ids.StateId.{StateId}
use Rattle.tardis_base.specs.declared.ids.Slot.{Slot}
use Rattle.tardis_base.specs.declared.faults.AddFault.{AddFault}
use Rattle.tardis_base.specs.declared.faults.AddFault.TheVariants.{Full, PathFull, NoMemory}
use Rattle.tardis_base.specs.declared.replies.Refusal.{Refusal}
use Rattle.tardis_base.specs.declared.replies.Refusal.TheVariants.{PathFull as IsPathFull}
use Rattle.fork_path.specs.Pairs.{are_ascending_pairs, is_same_pair, has_pair}
use Rattle.state_dag.specs.declared.nodes.Node.{Node}
use Rattle.state_dag.specs.declared.leads.Gain.{Gain}
use Rattle.state_dag.specs.Table.{Table, entry_at, id_at, is_entry_above}
use Rattle.state_dag.specs.Views.{entry_of, entries_from}
use Rattle.state_dag.specs.Grown.{path_at, leads_first, is_slot_among, is_first_branch, only_if, too_long, KeepsPlaces}

-- a table with these nodes and nothing else
abbrev pub table_of : List Node → Table
table_of nodes = record {
  limits = record { sites = 0; max_kept = 0; max_path = 0; max_sessions = 0; max_trail = 0 };
  counts = [];
  known = 0;
  entries = entries_from 0 nodes;
}

-- and with the number of states that have arrived
abbrev pub table_after : ℕ → List Node → Table
table_after known nodes = record (table_of nodes) { known = known }

-- the nodes with this one in the place, or behind all
abbrev pub with_node : List Node → ℕ → Node → List Node
with_node nodes place node = if nat_lt place (length nodes) then slice_set nodes place node else nodes ++ node ∷ []

-- the first of the slots behind so many, or else that of the next number
abbrev pub slot_after_all : List Slot → ℕ → Slot
slot_after_all slots used = unwrap_or (slice_get slots used) (record { 0 = used })

-- the slots, and this one behind them where all are used
abbrev pub with_slot : List Slot → ℕ → Slot → List Slot
with_slot slots used slot = if nat_lt used (length slots) then slots else slots ++ slot ∷ []

-- each slot is the place of a node
abbrev pub are_places : List Node → List Slot → Bool
are_places nodes slots = list_all (λ slot. nat_lt slot.0 (length nodes)) slots

-- no slot is there twice
abbrev pub AreDistinct : List Slot → Type 0
AreDistinct [] = Unit {0}
AreDistinct (slot ∷ slots) = (is_slot_among slot slots ≡ false) × AreDistinct slots

-- each has a lower number than all behind it
abbrev pub Rise : (Slot → ℕ) → List Slot → Type 0
Rise number [] = Unit {0}
Rise number (slot ∷ slots) = IsTrue (list_all (λ s. nat_lt (number slot) (number s)) slots) × Rise number slots

-- this child, if there is one, is at or above the state at the slot
abbrev pub is_child_above : Table → Slot → Option Node → Bool
is_child_above table slot child =
    option_map_or (λ c. option_map_or (λ e. is_entry_above (entry_of 0 c) e) (entry_at table slot) false) child false

-- the first branches of the parents that lead to the state at the slot
abbrev pub gains_at : Table → List Slot → Slot → List Gain
gains_at table parents slot = map (λ p. record { at = slot; fork = p }) (filter (leads_first table slot) parents)

-- all first branches of the parents, with each of the states at these slots that they lead to
abbrev pub all_gains : Table → List Slot → List Slot → List Gain
all_gains table parents slots = flat_map (gains_at table parents) slots

-- how many pairs the path of the state at the slot has afterwards
abbrev pub length_after : Table → List Slot → Slot → ℕ
length_after table parents slot = length (path_at table slot) + length (filter (leads_first table slot) parents)

-- they are too many
abbrev pub is_long : Table → ℕ → List Slot → Slot → Bool
is_long table most parents slot = nat_lt most (length_after table parents slot)

-- the path of the state at this slot is told as too long, or there was no memory
abbrev pub TellsLong : Table → List Slot → Option Slot → AddFault → Type 0
TellsLong table parents long (PathFull x pairs) = (slot : Slot) × (long ≡ Some slot) × (id_at table slot ≡ Some x) × (length_after table parents slot ≡ pairs)
TellsLong table parents long NoMemory = ⊤
TellsLong table parents long (Full kept) = ⊥

-- the fork's first branch leads to one of the parents
abbrev pub leads_to_some : Table → List Slot → Slot → Bool
leads_to_some table parents fork = list_any (λ p. leads_first table p fork) parents

-- a path that is too long already, or else that of the new state, which has so many pairs
abbrev pub first_refusal : StateId → ℕ → ℕ → Option (StateId × ℕ) → Option Refusal
first_refusal x most pairs (Some long) = Some (IsPathFull long.0 long.1)
first_refusal x most pairs None = if nat_lt most pairs then Some (IsPathFull x pairs) else None

-- why the new state would make a path too long
abbrev pub path_refusal : Table → StateId → List Slot → ℕ → Option Refusal
path_refusal table x parents pairs = first_refusal x table.limits.max_path pairs (too_long table parents)

-- nothing is refused, or this is, or there was no memory
abbrev pub TellsRefusal : Option Refusal → Result (Unit {0}) AddFault → Type 0
TellsRefusal refusal (Ok done) = refusal ≡ None
TellsRefusal refusal (Err (PathFull x pairs)) = refusal ≡ Some (IsPathFull x pairs)
TellsRefusal refusal (Err NoMemory) = ⊤
TellsRefusal refusal (Err (Full kept)) = ⊥

-- the new state's path isn't too long, or it is told, or there was no memory
abbrev pub TellsOwn : StateId → ℕ → ℕ → Result (Unit {0}) AddFault → Type 0
TellsOwn x pairs most (Ok done) = pairs ≤ most
TellsOwn x pairs most (Err (PathFull y n)) = (y ≡ x) × (n ≡ pairs) × (most < pairs)
TellsOwn x pairs most (Err NoMemory) = ⊤
TellsOwn x pairs most (Err (Full kept)) = ⊥

-- each gain is one of a node
abbrev pub have_places : List Node → List Gain → Bool
have_places nodes gains = list_all (λ (g : Gain). nat_lt g.at.0 (length nodes)) gains

-- the path of the state at this place gains pairs
abbrev pub is_gaining : ℕ → List Gain → Bool
is_gaining place gains = list_any (λ (g : Gain). g.at.0 == place) gains

-- how many of the gains are those of the state at this place
abbrev pub gains_of : ℕ → List Gain → ℕ
gains_of place gains = length (filter (λ (g : Gain). g.at.0 == place) gains)

-- the pair is a gain of the state at this place
abbrev pub is_gain : ℕ → List Gain → ℕ × ℕ → Bool
is_gain place gains pair = list_any (λ (g : Gain). g.at.0 == place && is_same_pair pair (g.fork.0, 0)) gains

-- each path has room for its gains
abbrev pub HasPathRoom : List Node → List Gain → Type 0
HasPathRoom nodes gains = (k : ℕ) (d : Node) → k < length nodes → gains_of k gains ≤ (slice_index_or nodes k d).path.room

-- there is room for a child
abbrev pub TakesChild : Node → Type 0
TakesChild node = (0 < node.children.room) × (0 < node.stand_ins.room)

-- each parent has room for a child
abbrev pub HasChildRoom : List Node → List Slot → Type 0
HasChildRoom nodes parents =
    (k : ℕ) (d : Node) → k < length nodes → IsTrue (is_slot_among (record { 0 = k }) parents) → TakesChild (slice_index_or nodes k d)

-- the node at this place after the gains
pub record HasGained (gains : List Gain) (place : ℕ) (old new : Node) : Type 0 where
  pub rest : new ≡ record old { path = new.path }
  pub ascending : IsTrue (are_ascending_pairs old.path.pairs) → IsTrue (are_ascending_pairs new.path.pairs)
  pub pairs : (pair : ℕ × ℕ) → has_pair pair new.path.pairs ≡ (is_gain place gains pair || has_pair pair old.path.pairs)
  pub longer : length new.path.pairs ≤ length old.path.pairs + gains_of place gains

-- the node at this place after the parents got a child
pub record HasChild (x : StateId) (slot : Slot) (parents : List Slot) (place : ℕ) (old new : Node) : Type 0 where
  pub children : new.children.items ≡ old.children.items ++ only_if (is_slot_among (record { 0 = place }) parents) x
  pub stand_ins : new.stand_ins.items ≡ old.stand_ins.items ++ only_if (is_slot_among (record { 0 = place }) parents) slot

-- what became of the node at this place, with these gains
pub record HasGrown (gains : List Gain) (parents : List Slot) (x : StateId) (slot : Slot) (place : ℕ) (old new : Node) : Type 0 where
  pub id_stays : new.id ≡ old.id
  pub arrival_stays : new.arrival ≡ old.arrival
  pub parents_stay : new.parents ≡ old.parents
  pub ascending : IsTrue (are_ascending_pairs old.path.pairs) → IsTrue (are_ascending_pairs new.path.pairs)
  pub pairs : (pair : ℕ × ℕ) → has_pair pair new.path.pairs ≡ (is_gain place gains pair || has_pair pair old.path.pairs)
  pub longer : length new.path.pairs ≤ length old.path.pairs + gains_of place gains
  pub child : AreDistinct parents → HasChild x slot parents place old new
  pub parent : IsTrue (is_slot_among (record { 0 = place }) parents) → 1 ≤ length new.children.items
  pub other : is_slot_among (record { 0 = place }) parents ≡ false → new.children.items ≡ old.children.items
  pub apart : is_slot_among (record { 0 = place }) parents ≡ false → new.stand_ins.items ≡ old.stand_ins.items
  pub slots : (test : Slot → Bool) → IsTrue (list_all test old.stand_ins.items) → IsTrue (test slot) → IsTrue (list_all test new.stand_ins.items)
  pub places : KeepsPlaces old.stand_ins.items new.stand_ins.items

-- what became of the node at this place below a table that grew
pub record IsGrownNode (table : Table) (parents : List Slot) (x : StateId) (slot : Slot) (place : ℕ) (old new : Node) : Type 0 where
  pub id_stays : new.id ≡ old.id
  pub arrival_stays : new.arrival ≡ old.arrival
  pub parents_stay : new.parents ≡ old.parents
  pub ascending : IsTrue (are_ascending_pairs old.path.pairs) → IsTrue (are_ascending_pairs new.path.pairs)
  pub pairs : (pair : ℕ × ℕ) → has_pair pair new.path.pairs ≡ (has_pair pair old.path.pairs || is_first_branch table parents (record { 0 = place }) pair)
  pub longer : length new.path.pairs ≤ length old.path.pairs + length (filter (leads_first table (record { 0 = place })) parents)
  pub child : AreDistinct parents → HasChild x slot parents place old new
  pub parent : IsTrue (is_slot_among (record { 0 = place }) parents) → 1 ≤ length new.children.items
  pub other : is_slot_among (record { 0 = place }) parents ≡ false → new.children.items ≡ old.children.items
  pub apart : is_slot_among (record { 0 = place }) parents ≡ false → new.stand_ins.items ≡ old.stand_ins.items
  pub slots : (test : Slot → Bool) → IsTrue (list_all test old.stand_ins.items) → IsTrue (test slot) → IsTrue (list_all test new.stand_ins.items)
  pub places : KeepsPlaces old.stand_ins.items new.stand_ins.items
