-- Keys in the order of their bytes, and what is written to them.
use Rattle.std.specs.Prelude.{ℕ, Bool, true, ◌&&◌, List, [], ◌∷◌, Option, map, find, bytes_eq, if◌then◌else◌}
use Rattle.std.specs.List.{list_any}
use Rattle.std.specs.Option.{option_map}
use Rattle.std.specs.Ordering.{nat_cmp, is_lt}
use Rattle.std.specs.Cmp.Lexicographic.{slice_cmp}
use Rattle.tardis_base.specs.declared.records.Write.{Write}

-- a key with what is written to it
abbrev pub KeyWrite : Type 0
KeyWrite = List ℕ × Write

-- k stands before l: by the first byte in which they differ, and a proper prefix first
abbrev pub is_key_before : List ℕ → List ℕ → Bool
is_key_before k l = is_lt (slice_cmp nat_cmp k l)

-- each key stands before the next
abbrev pub are_ascending_keys : List (List ℕ) → Bool
are_ascending_keys [] = true
are_ascending_keys (k ∷ []) = true
are_ascending_keys (k ∷ l ∷ ks) = is_key_before k l && are_ascending_keys (l ∷ ks)

-- the key is one of these
abbrev pub is_key_among : List ℕ → List (List ℕ) → Bool
is_key_among k ks = list_any (bytes_eq k) ks

-- the keys with this one, in its place
abbrev pub with_key : List ℕ → List (List ℕ) → List (List ℕ)
with_key k [] = k ∷ []
with_key k (l ∷ ls) =
    let rest = with_key k ls in
    if is_key_before k l then k ∷ l ∷ ls else (if is_key_before l k then l ∷ rest else k ∷ ls)

-- the keys that are written
abbrev pub keys_of : List KeyWrite → List (List ℕ)
keys_of ws = map (λ w. w.0) ws

-- the key is written
abbrev pub has_key : List ℕ → List KeyWrite → Bool
has_key k ws = list_any (λ w. bytes_eq k w.0) ws

-- what is written to the key
abbrev pub write_of : List ℕ → List KeyWrite → Option Write
write_of k ws = option_map (λ w. w.1) (find (λ w. bytes_eq k w.0) ws)

-- the writes with this one, in its place; it replaces what was written to the key
abbrev pub with_write : List ℕ → Write → List KeyWrite → List KeyWrite
with_write k w [] = (k, w) ∷ []
with_write k w (v ∷ vs) =
    let rest = with_write k w vs in
    if is_key_before k v.0 then (k, w) ∷ v ∷ vs else (if is_key_before v.0 k then v ∷ rest else (k, w) ∷ vs)
