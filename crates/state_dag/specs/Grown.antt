-- A table that has grown by one state.
use Rattle.std.specs.Prelude.{◌≡◌, ℕ, ◌+◌, ◌-◌, Bool, false, ◌==◌, ◌&&◌, ◌||◌, List, [], ◌∷◌, ◌++◌, length, map, filter, find, Option, Some, None, nat_le}
use Rattle.std.specs.Prelude.{nat_lt, slice_get, slice_set, unwrap_or, if◌then◌else◌, IsTrue}
use Rattle.std.specs.List.{list_any}
use Rattle.std.specs.Option.{option_map, option_map_or, option_and_then}
use Rattle.tardis_base.specs.declared.ids.StateId.{StateId}
use Rattle.tardis_base.specs.declared.ids.Slot.{Slot}
use Rattle.tardis_base.specs.declared.replies.Refusal.{Refusal}
use Rattle.tardis_base.specs.declared.replies.Refusal.TheVariants.{Full as IsFull, PathFull as IsPathFull}
use Rattle.fork_path.specs.Pairs.{are_ascending_pairs, is_same_pair, has_pair}
use Rattle.state_dag.specs.Table.{Entry, Table, entry_at, id_at, is_slot_above}

-- the fork path of the state at the slot
abbrev pub path_at : Table → Slot → List (ℕ × ℕ)
path_at table slot = option_map_or (λ e. e.path) (entry_at table slot) []

-- how many children the state at the slot has
abbrev pub number_of_children : Table → Slot → ℕ
number_of_children table slot = option_map_or (λ e. length e.children) (entry_at table slot) 0

-- where the first child of the state at the slot stands
abbrev pub first_child : Table → Slot → Option Slot
first_child table slot = option_and_then (λ e. slice_get e.stand_ins 0) (entry_at table slot)

-- the slot is one of these
abbrev pub is_slot_among : Slot → List Slot → Bool
is_slot_among slot slots = list_any (λ s. s.0 == slot.0) slots

-- p has one child, which is at or above the state at the slot
abbrev pub leads_first : Table → Slot → Slot → Bool
leads_first table slot p = number_of_children table p == 1 && option_map_or (λ c. is_slot_above table c slot) (first_child table p) false

-- a parent that gets its second child has the first one as a branch, and that branch leads to the state at the slot
abbrev pub is_first_branch : Table → List Slot → Slot → ℕ × ℕ → Bool
is_first_branch table parents slot pair = list_any (λ p. is_same_pair pair (p.0, 0) && leads_first table slot p) parents

-- a parent that had a child has the new state as a branch
abbrev pub is_last_branch : Table → List Slot → ℕ × ℕ → Bool
is_last_branch table parents pair = list_any (λ p. is_same_pair pair (p.0, number_of_children table p) && nat_le 1 (number_of_children table p)) parents

-- the branches that lead to the new state: those that lead to a parent, and those of the parents to itself
abbrev pub is_new_pair : Table → List Slot → ℕ × ℕ → Bool
is_new_pair table parents pair =
    list_any (λ p. has_pair pair (path_at table p) || is_first_branch table parents p pair) parents || is_last_branch table parents pair

-- the list has exactly the branches that lead to the new state, each once
pub record IsNewPath (table : Table) (parents : List Slot) (path : List (ℕ × ℕ)) : Type 0 where
  pub ascending : IsTrue (are_ascending_pairs path)
  pub pairs : (pair : ℕ × ℕ) → has_pair pair path ≡ is_new_pair table parents pair

-- how many pairs the entry's path has afterwards
abbrev pub grown_length : Table → List Slot → Entry → ℕ
grown_length table parents e = length e.path + length (filter (leads_first table e.slot) parents)

-- the first entry whose path is too long afterwards, with its length
abbrev pub too_long : Table → List Slot → Option (StateId × ℕ)
too_long table parents =
    option_map (λ e. (e.id, grown_length table parents e)) (find (λ e. nat_lt table.limits.max_path (grown_length table parents e)) table.entries)

-- why the table doesn't grow by this state, whose path has so many pairs
abbrev pub refusal_of : Table → StateId → List Slot → ℕ → Option Refusal
refusal_of table x parents pairs =
    let path_refusal : Option Refusal =
    elim (too_long table parents) [
      | Some long ↦ Some (IsPathFull long.0 long.1)
      | None ↦ if nat_lt table.limits.max_path pairs then Some (IsPathFull x pairs) else None
    ] in
    if length table.entries == table.limits.max_kept then Some (IsFull (length table.entries)) else path_refusal

-- the item, where the test holds
abbrev pub only_if : {A : Type 0} → Bool → A → List A
only_if test a = if test then a ∷ [] else []

-- the other list has the same in each place that the one has
abbrev pub KeepsPlaces : List Slot → List Slot → Type 0
KeepsPlaces old new = (i : ℕ) (s : Slot) → slice_get old i ≡ Some s → slice_get new i ≡ Some s

-- what became of an entry: a parent has the new state as its last child, and first branches lead where they lead
pub record IsGrownEntry (table : Table) (parents : List Slot) (x : StateId) (slot : Slot) (old new : Entry) : Type 0 where
  pub slot_stays : new.slot ≡ old.slot
  pub id_stays : new.id ≡ old.id
  pub arrival_stays : new.arrival ≡ old.arrival
  pub parents_stay : new.parents ≡ old.parents
  pub children : new.children ≡ old.children ++ only_if (is_slot_among old.slot parents) x
  pub stand_ins : new.stand_ins ≡ old.stand_ins ++ only_if (is_slot_among old.slot parents) slot
  pub ascending : IsTrue (are_ascending_pairs new.path)
  pub path : (pair : ℕ × ℕ) → has_pair pair new.path ≡ (has_pair pair old.path || is_first_branch table parents old.slot pair)

-- the entry of the new state
pub record IsNewEntry (table : Table) (parents : List Slot) (x : StateId) (slot : Slot) (e : Entry) : Type 0 where
  pub slot_is : e.slot ≡ slot
  pub id_is : e.id ≡ x
  pub arrival_is : e.arrival ≡ table.known
  pub has_parents : map (λ p. Some p) e.parents ≡ map (id_at table) parents
  pub no_children : e.children ≡ []
  pub no_stand_ins : e.stand_ins ≡ []
  pub path : IsNewPath table parents e.path

-- each of these entries became that in its place
abbrev pub AreGrownEntries : Table → List Slot → StateId → Slot → List Entry → List Entry → Type 0
AreGrownEntries table parents x slot [] [] = Unit {0}
AreGrownEntries table parents x slot (old ∷ olds) (new ∷ news) = IsGrownEntry table parents x slot old new × AreGrownEntries table parents x slot olds news
AreGrownEntries table parents x slot [] (new ∷ news) = ⊥
AreGrownEntries table parents x slot (old ∷ olds) [] = ⊥

-- the table has grown by this state, below the states at these slots
pub record IsGrown (old new : Table) (x : StateId) (parents : List Slot) (slot : Slot) : Type 0 where
  pub limits : new.limits ≡ old.limits
  pub counts : new.counts ≡ slice_set old.counts (x.site - 1) (unwrap_or (slice_get old.counts (x.site - 1)) 0 + 1)
  pub known : new.known ≡ old.known + 1
  pub fresh : entry_at old slot ≡ None
  pub grown : List Entry
  pub newest : Entry
  pub entries : new.entries ≡ grown ++ newest ∷ []
  pub each : AreGrownEntries old parents x slot old.entries grown
  pub is_new : IsNewEntry old parents x slot newest
