-- Which ids, writes and records there are.
use Rattle.std.specs.Prelude.{ℕ, Bool, ◌&&◌, ◌||◌, ◌^◌, not, length, List, nat_lt, nat_le}
use Rattle.std.specs.List.{list_all}
use Rattle.tardis_base.specs.declared.ids.StateId.{StateId}
use Rattle.tardis_base.specs.declared.records.Record.{Record}
use Rattle.tardis_base.specs.declared.records.Limits.{Limits}
use Rattle.tardis_base.specs.Sizes.{most_writes, most_parents, most_sites, most_kept, most_pairs, most_sessions, longest_trail}
use Rattle.tardis_base.specs.Ids.{root, same_id, are_ascending}
use Rattle.tardis_base.specs.Keys.{KeyWrite, keys_of, are_ascending_keys}
pub use Rattle.tardis_base.specs.Bytes.{are_bytes, is_within, is_key, is_value, is_write}

-- the number fits 16 bits
abbrev pub is_u16 : ℕ → Bool
is_u16 n = nat_lt n (2 ^ 16)

abbrev pub is_u32 : ℕ → Bool
is_u32 n = nat_lt n (2 ^ 32)

abbrev pub is_u64 : ℕ → Bool
is_u64 n = nat_lt n (2 ^ 64)

-- the root's id, or site and sequence are both above 0
abbrev pub is_id : StateId → Bool
is_id x = is_u16 x.site && is_u32 x.sequence && (same_id x root || nat_le 1 x.site && nat_le 1 x.sequence)

-- at most 64 writes, with ascending keys
abbrev pub are_writes : List KeyWrite → Bool
are_writes ws = nat_le (length ws) most_writes && list_all (λ w. is_key w.0 && is_write w.1) ws && are_ascending_keys (keys_of ws)

-- 1 to 8 ids, ascending
abbrev pub are_parents : List StateId → Bool
are_parents xs = is_within 1 most_parents (length xs) && list_all is_id xs && are_ascending xs

-- the record of a state other than the root
abbrev pub is_record : Record → Bool
is_record r = is_id r.id && not (same_id r.id root) && are_parents r.parents && are_writes r.writes

-- the limits that a site may have
abbrev pub are_limits : Limits → Bool
are_limits l =
    is_within 1 most_sites l.sites && is_within 1 most_kept l.max_kept && is_within 1 most_pairs l.max_path
    && is_within 1 most_sessions l.max_sessions && nat_le l.max_trail longest_trail
