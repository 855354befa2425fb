-- The front's fields, where they stand in its item.
use Rattle.std.specs.Prelude.{ℕ, List, [], ◌∷◌, take, drop, slice_index}
use Rattle.std.specs.Int.{w16, w32, from_be_bytes}
use Rattle.log_groups.specs.declared.fronts.LogFront.{LogFront}

-- the fields of an item
unfoldable pub front_of : List ℕ → LogFront
front_of item = record {
  sites = from_be_bytes w16 (slice_index item 10 ∷ slice_index item 11 ∷ []);
  own = from_be_bytes w16 (slice_index item 12 ∷ slice_index item 13 ∷ []);
  max_kept = from_be_bytes w32 (slice_index item 14 ∷ slice_index item 15 ∷ slice_index item 16 ∷ slice_index item 17 ∷ []);
  max_path = from_be_bytes w32 (slice_index item 18 ∷ slice_index item 19 ∷ slice_index item 20 ∷ slice_index item 21 ∷ []);
  max_sessions = from_be_bytes w16 (slice_index item 22 ∷ slice_index item 23 ∷ []);
  life = take 16 (drop 24 item);
}
