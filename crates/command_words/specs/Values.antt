-- The values of options.
use Rattle.std.specs.Prelude.{ℕ, Bool, true, false, ◌==◌, ◌&&◌, not, length, List, [], ◌∷◌, Option, None, Some, nat_le, nat_lt, nat_eq, filter_map}
use Rattle.std.specs.Prelude.{option_and_then, if◌then◌else◌, slice_index}
use Rattle.std.specs.Bool.{then_some}
use Rattle.std.specs.List.{list_all, before_first, after_first}
use Rattle.std.specs.Str.Parse.{digits_value}
use Rattle.tardis_base.specs.declared.ids.StateId.{StateId}
use Rattle.tardis_base.specs.Bytes.{is_within}
use Rattle.tardis_base.specs.Valid.{is_id}

-- each byte is one of `0` to `9`
abbrev pub are_digits : List ℕ → Bool
are_digits word = list_all (λ b. is_within 48 57 b) word

-- 1 to 10 digits
abbrev pub is_numeral : List ℕ → Bool
is_numeral word = is_within 1 10 (length word) && are_digits word

-- the number that the word writes, where it is one of the range
abbrev pub number : ℕ → ℕ → List ℕ → Option ℕ
number least most word = if is_numeral word && is_within least most (digits_value 10 word) then Some (digits_value 10 word) else None

-- the number of an option that must be there, once
abbrev pub needed : ℕ → ℕ → List (Option (List ℕ)) → Option ℕ
needed least most (Some word ∷ []) = number least most word
needed least most _ = None

-- the number of an option that may be left out
abbrev pub number_or : ℕ → ℕ → ℕ → List (Option (List ℕ)) → Option ℕ
number_or default least most [] = Some default
number_or default least most (value ∷ more) = needed least most (value ∷ more)

-- whether the option without a value is there, at most once
abbrev pub flag : List (Option (List ℕ)) → Option Bool
flag [] = Some false
flag (None ∷ []) = Some true
flag _ = None

-- each byte is one of `!` to `~`
abbrev pub are_printed : List ℕ → Bool
are_printed word = list_all (λ b. is_within 33 126 b) word

-- 1 to 200 printed bytes, of which the first isn't `-`
abbrev pub is_address : List ℕ → Bool
is_address word = is_within 1 200 (length word) && not (nat_eq (slice_index word 0) 45) && are_printed word

-- the address of an option that must be there, once
abbrev pub address : List (Option (List ℕ)) → Option (List ℕ)
address (Some word ∷ []) = if is_address word then Some word else None
address _ = None

abbrev pub is_some_address : Option (List ℕ) → Bool
is_some_address None = false
is_some_address (Some word) = is_address word

-- at most so many, and each is an address
abbrev pub are_addresses : ℕ → List (Option (List ℕ)) → Bool
are_addresses most found = nat_le (length found) most && list_all is_some_address found

-- at most 15 addresses
abbrev pub addresses : List (Option (List ℕ)) → Option (List (List ℕ))
addresses found = if are_addresses 15 found then Some (filter_map (λ v. v) found) else None

-- the value of an option that must be there, once
abbrev pub once : List (Option (List ℕ)) → Option (List ℕ)
once (Some word ∷ []) = Some word
once _ = None

-- a number without a leading zero
abbrev pub plain_number : ℕ → ℕ → List ℕ → Option ℕ
plain_number least most word = if nat_eq (slice_index word 0) 48 && nat_lt 1 (length word) then None else number least most word

-- the id, where it is one: that of the root, or neither number is 0
abbrev pub valid_id : StateId → Option StateId
valid_id id = then_some (is_id id) id

-- the id that a word writes: the number of its site, `.`, and its sequence
abbrev pub id_of : List ℕ → Option StateId
id_of word =
    option_and_then (λ site. option_and_then (λ sequence. valid_id (record { site = site; sequence = sequence }))
    (plain_number 0 4294967295 (after_first (λ b. b == 46) word)))
    (plain_number 0 65535 (before_first (λ b. b == 46) word))
