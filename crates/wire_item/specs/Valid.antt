-- Which consents, items and batches there are.
use Rattle.std.specs.Prelude.{ℕ, Bool, true, ◌&&◌, List, [], ◌∷◌, length, map, nat_lt, nat_le}
use Rattle.std.specs.List.{list_all}
use Rattle.tardis_base.specs.declared.records.Record.{Record}
use Rattle.tardis_base.specs.declared.records.Consent.{Consent}
use Rattle.tardis_base.specs.declared.records.Item.{Item}
use Rattle.tardis_base.specs.declared.records.Item.TheVariants.{State, Promise}
use Rattle.tardis_base.specs.declared.records.Batch.{Batch}
use Rattle.tardis_base.specs.Sizes.{most_sites}
use Rattle.tardis_base.specs.Valid.{is_u16, is_u32, is_id, is_record}

-- the number fits 8 bits
abbrev pub is_u8 : ℕ → Bool
is_u8 n = nat_lt n 256

-- each number is less than the next
abbrev pub are_ascending_numbers : List ℕ → Bool
are_ascending_numbers [] = true
are_ascending_numbers (m ∷ []) = true
are_ascending_numbers (m ∷ n ∷ ns) = nat_lt m n && are_ascending_numbers (n ∷ ns)

-- a site's consent with a number: neither is 0
abbrev pub is_consent : Consent → Bool
is_consent c = is_u16 c.site && is_u32 c.number && is_id c.floor && is_u32 c.count && (nat_le 1 c.site && nat_le 1 c.number)

abbrev pub is_item : Item → Bool
is_item (State r) = is_record r
is_item (Promise c) = is_consent c

-- as many records as a u16 tells
abbrev pub are_records : List Record → Bool
are_records rs = is_u16 (length rs) && list_all is_record rs

-- at most 16 consents, their sites ascending
abbrev pub are_consents : List Consent → Bool
are_consents cs = nat_le (length cs) most_sites && list_all is_consent cs && are_ascending_numbers (map (λ c. c.site) cs)

abbrev pub is_batch : Batch → Bool
is_batch b = are_records b.records && are_consents b.consents
