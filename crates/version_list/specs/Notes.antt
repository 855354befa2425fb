-- The keys noted for each state, in chunks.
use Rattle.std.specs.Prelude.{ℕ, Bool, ◌==◌, ◌+◌, ◌&&◌, not, List, [], ◌∷◌, ◌++◌, is_some, length, nat_lt, nat_le}
use Rattle.std.specs.List.{list_all, list_any}
use Rattle.std.specs.Map.{lookup}
use Rattle.std.specs.Option.{option_map_or}
use Rattle.tardis_base.specs.declared.ids.Slot.{Slot}
use Rattle.tardis_base.specs.Keys.{is_key_among}

-- chunks of keys
abbrev pub Chunks : Type 0
Chunks = List (List (List ℕ))

-- chunks at the slots from this number on, one after another
abbrev pub in_a_row : ℕ → List Chunks → List (Slot × Chunks)
in_a_row n [] = []
in_a_row n (c ∷ cs) = (let slot : Slot = record { 0 = n } in (slot, c)) ∷ in_a_row (n + 1) cs

-- the chunks of the slots from 1 on, in a row, and those of others; for how many more slots there is room
pub record Table : Type 0 where
  pub row : List Chunks
  pub others : List (Slot × Chunks)
  pub room : ℕ

-- each slot with its chunks: those of the row come first
abbrev pub entries_in : Table → List (Slot × Chunks)
entries_in t = in_a_row 1 t.row ++ t.others

-- the slot stands in the row
abbrev pub is_in_row : Slot → List Chunks → Bool
is_in_row slot row = nat_lt 0 slot.0 && nat_le slot.0 (length row)

-- for each slot its chunks; for how many more slots and for how many more chunks there is room; how many chunks were made
pub record Noted : Type 0 where
  pub by_slot : List (Slot × Chunks)
  pub states : ℕ
  pub chunks : ℕ
  pub made : ℕ

abbrev pub same_slot : Slot → Slot → Bool
same_slot a b = a.0 == b.0

-- the key stands in one of the chunks
abbrev pub is_key_in : List ℕ → Chunks → Bool
is_key_in k chunks = list_any (is_key_among k) chunks

-- the chunks at the slot; none where it isn't noted
abbrev pub chunks_for : Slot → List (Slot × Chunks) → Chunks
chunks_for slot es = option_map_or (λ chunks. chunks) (lookup (same_slot slot) es) []

-- something was noted for the slot, were it no key at all
abbrev pub is_noted_in : Slot → List (Slot × Chunks) → Bool
is_noted_in slot es = is_some (lookup (same_slot slot) es)

-- how many chunks there are at all slots
abbrev pub chunks_in : List (Slot × Chunks) → ℕ
chunks_in [] = 0
chunks_in (e ∷ es) = length e.1 + chunks_in es

-- each of the chunks has a key
abbrev pub are_full : Chunks → Bool
are_full chunks = list_all (λ c. not (length c == 0)) chunks

-- so it is with the chunks at all slots
abbrev pub are_all_full : List (Slot × Chunks) → Bool
are_all_full es = list_all (λ e. are_full e.1) es

-- the keys in one chunk, or in none where there is no key
abbrev pub chunks_of : List (List ℕ) → Chunks
chunks_of [] = []
chunks_of (k ∷ ks) = (k ∷ ks) ∷ []
