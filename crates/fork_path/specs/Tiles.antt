-- Pairs of forks and branches that stand close together, as the bits of a number.
use Rattle.std.specs.Prelude.{ℕ, Bool, ◌≡◌, true, ◌==◌, ◌&&◌, ◌+◌, ◌*◌, ◌/◌, ◌%◌, List, [], ◌∷◌, map, if◌then◌else◌}
use Rattle.std.specs.Int.{bit_at}
use Rattle.std.specs.List.{list_any, flat_map}
use Rattle.fork_path.specs.declared.tiles.Tile.{Tile}
use Rattle.fork_path.specs.Pairs.{is_same_pair, with_each, group_of}

-- which tile it is: the group of its pairs. Tiles stand in the order of their keys
abbrev pub key_of : Tile → ℕ × ℕ
key_of tile = (tile.forks, tile.branches)

abbrev pub keys_of : List Tile → List (ℕ × ℕ)
keys_of tiles = map key_of tiles

-- the pair's bit in its tile
abbrev pub bit_of : ℕ × ℕ → ℕ
bit_of p = p.0 % 32 * 2 + p.1 % 2

-- the tile is the pair's own, and has its bit set
unfoldable pub holds : Tile → ℕ × ℕ → Bool
holds tile p = is_same_pair (group_of p) (key_of tile) && bit_at tile.bits (bit_of p) == 1

-- one of the tiles does
abbrev pub some_holds : List Tile → ℕ × ℕ → Bool
some_holds tiles p = list_any (λ tile. holds tile p) tiles

-- the tile holds some pair
abbrev pub HoldsPair : Tile → Type 0
HoldsPair tile = (p : ℕ × ℕ) × (holds tile p ≡ true)

-- the places of the bits that are set, of so many bits, the first of which is at place from
unfoldable pub set_places : ℕ → ℕ → ℕ → List ℕ
set_places ℕ.zero from bits = []
set_places (ℕ.suc count) from bits =
    let rest = set_places count (from + 1) (bits / 2) in
    if bits % 2 == 1 then from ∷ rest else rest

-- the pairs of a tile
unfoldable pub pairs_in : Tile → List (ℕ × ℕ)
pairs_in tile = map (λ i. (tile.forks * 32 + i / 2, tile.branches * 2 + i % 2)) (set_places 64 0 tile.bits)

-- the pairs of the tiles, each in its place
unfoldable pub pairs_of : List Tile → List (ℕ × ℕ)
pairs_of tiles = with_each (flat_map pairs_in tiles) []
