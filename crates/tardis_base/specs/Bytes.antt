-- Which keys, values and writes there are.
use Rattle.std.specs.Prelude.{ℕ, Bool, true, ◌&&◌, length, List, Option, Some, None, nat_lt, nat_le}
use Rattle.std.specs.List.{list_all}
use Rattle.tardis_base.specs.declared.records.Write.{Write}
use Rattle.tardis_base.specs.declared.records.Write.TheVariants.{Put, Delete}
use Rattle.tardis_base.specs.Sizes.{longest_key, longest_value}

-- each is a byte
abbrev pub are_bytes : List ℕ → Bool
are_bytes bs = list_all (λ b. nat_lt b 256) bs

-- the number is one of these and those between
abbrev pub is_within : ℕ → ℕ → ℕ → Bool
is_within least most n = nat_le least n && nat_le n most

-- 1 to 128 bytes
abbrev pub is_key : List ℕ → Bool
is_key k = is_within 1 longest_key (length k) && are_bytes k

-- 0 to 4,096 bytes
abbrev pub is_value : List ℕ → Bool
is_value v = nat_le (length v) longest_value && are_bytes v

abbrev pub is_write : Write → Bool
is_write (Put value) = is_value value
is_write Delete = true

-- the value that is put, if one is
abbrev pub value_of : Write → Option (List ℕ)
value_of (Put value) = Some value
value_of Delete = None
