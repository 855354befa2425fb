-- How the table reads its memory.
use Rattle.std.specs.Prelude.{◌≡◌, ℕ, ◌+◌, ◌-◌, Bool, false, ◌==◌, nat_le, slice_index_or, length, filter, map, List, [], ◌∷◌, Option, Some, None, slice_get}
use Rattle.std.specs.Prelude.{if◌then◌else◌}
use Rattle.std.specs.Option.{option_map}
use Rattle.std.specs.List.{cons_option, range_with_len}
use Rattle.tardis_base.specs.declared.ids.StateId.{StateId}
use Rattle.tardis_base.specs.declared.ids.Slot.{Slot}
use Rattle.tardis_base.specs.Ids.{same_id, is_among}
use Rattle.fork_path.specs.Pairs.{has_pair}
use Rattle.state_dag.specs.declared.nodes.Node.{Node}
use Rattle.state_dag.specs.Table.{Entry}

-- the entry of the node at this place
abbrev pub entry_of : ℕ → Node → Entry
entry_of place node = record {
  slot = record { 0 = place };
  id = node.id;
  arrival = node.arrival;
  parents = node.parents.items;
  children = node.children.items;
  stand_ins = node.stand_ins.items;
  path = node.path.pairs;
}

-- the entries of the nodes from this place on
abbrev pub entries_from : ℕ → List Node → List Entry
entries_from place [] = []
entries_from place (node ∷ nodes) = entry_of place node ∷ entries_from (place + 1) nodes

-- the entries of the nodes in these slots
abbrev pub entries_in : List Node → List Slot → List Entry
entries_in nodes [] = []
entries_in nodes (slot ∷ slots) = cons_option (option_map (entry_of slot.0) (slice_get nodes slot.0)) (entries_in nodes slots)

-- the entry's state has no child
abbrev pub is_childless : Entry → Bool
is_childless e = length e.children == 0

-- the one slot, or else the other
abbrev pub slot_or : Option Slot → Option Slot → Option Slot
slot_or (Some slot) other = Some slot
slot_or None other = other

-- the last of these slots that has the state
abbrev pub slot_of_id : List Entry → StateId → Option Slot
slot_of_id [] x = None
slot_of_id (e ∷ es) x =
    let later = slot_of_id es x in
    slot_or later (if same_id x e.id then Some e.slot else None)

-- none of these is there twice
abbrev pub AllDiffer : List StateId → Type 0
AllDiffer [] = Unit {0}
AllDiffer (x ∷ xs) = (is_among x xs ≡ false) × AllDiffer xs

-- the state is one of those counted, or the root
abbrev pub is_counted : List ℕ → StateId → Bool
is_counted counts x = nat_le x.sequence (slice_index_or counts (x.site - 1) 0)

-- the branches of the entry's state that are among these pairs, each with the state's id
abbrev pub named_branches : List (ℕ × ℕ) → Entry → List (StateId × ℕ)
named_branches pairs e =
    filter (λ (b : StateId × ℕ). has_pair (e.slot.0, b.1) pairs) (map (λ n. (e.id, n)) (range_with_len 0 (length e.children)))
