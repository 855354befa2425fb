-- The value that a rule gives to a key that two sides wrote.
use Rattle.std.specs.Prelude.{ℕ, Bool, true, ◌&&◌, ◌^◌, ℤ, pos, negsuc, ◌+ℤ◌, ◌-ℤ◌, nat_lt, nat_le, bytes_eq, length, filter, List, [], ◌∷◌, Option, Some, None}
use Rattle.std.specs.Prelude.{if◌then◌else◌}
use Rattle.std.specs.List.{join_with_byte}
use Rattle.std.specs.Bool.{then_some}
use Rattle.std.specs.Fmt.{signed_decimal}
use Rattle.std.specs.Str.Parse.{signed_digits_value}
use Rattle.tardis_base.specs.declared.ids.StateId.{StateId}
use Rattle.tardis_base.specs.declared.records.Write.{Write}
use Rattle.tardis_base.specs.declared.records.Write.TheVariants.{Put, Delete}
use Rattle.tardis_base.specs.Sizes.{longest_value}
use Rattle.tardis_base.specs.Ids.{is_before}
use Rattle.tardis_base.specs.Keys.{are_ascending_keys, is_key_among, with_key}
use Rattle.rule_list.specs.declared.rules.Rule.{Rule}
use Rattle.rule_list.specs.declared.rules.Rule.TheVariants.{Last, Count, Set, Set3, Refuse}
use Rattle.join_rules.specs.Parts.{parts}

-- a side: a latest writer of the key, and what it writes
abbrev pub Side : Type 0
Side = StateId × Write

-- what both sides began with: it isn't known, or there was nothing, or this was written
pub data Base : Type 0 where
  Unknown : Base
  Absent : Base
  Is : (write : Write) → Base

-- ===== Last

-- what the side with the greater writer wrote
abbrev pub last : Side → Side → Write
last a b = if is_before a.0 b.0 then b.1 else a.1

-- ===== Count

-- the number fits 64 bits with a sign
abbrev pub is_i64 : ℤ → Bool
is_i64 (pos n) = nat_lt n (2 ^ 63)
is_i64 (negsuc n) = nat_lt n (2 ^ 63)

-- the number that is written so: in decimal, with no leading zero, and with no sign but a minus before what is below 0
abbrev pub number_in : List ℕ → Option ℤ
number_in text =
    let n = signed_digits_value 10 text in
    then_some (is_i64 n && bytes_eq (signed_decimal n) text) n

-- a deletion counts as 0
abbrev pub number_of : Write → Option ℤ
number_of Delete = Some (pos 0)
number_of (Put text) = number_in text

-- so does a base where nothing was written
abbrev pub base_number : Base → Option ℤ
base_number Unknown = None
base_number Absent = Some (pos 0)
base_number (Is write) = number_of write

-- the number, where it fits
abbrev pub fitting : ℤ → Option ℤ
fitting n = then_some (is_i64 n) n

-- both sides, less the base that both began with
abbrev pub total : Option ℤ → Option ℤ → Option ℤ → Option ℤ
total (Some base) (Some a) (Some b) = fitting ((a +ℤ b) -ℤ base)
total _ _ _ = None

abbrev pub written_number : Option ℤ → Option Write
written_number None = None
written_number (Some n) = Some (Put (signed_decimal n))

-- ===== Set

-- each item stands before the next, and none is empty: the empty bytes stand before the first
abbrev pub are_items : List (List ℕ) → Bool
are_items items = are_ascending_keys ([] ∷ items)

-- the set that is written so: its items, with a comma between each two; the empty text is the empty set
abbrev pub set_in : List ℕ → Option (List (List ℕ))
set_in [] = Some []
set_in (c ∷ cs) = then_some (are_items (parts (c ∷ cs))) (parts (c ∷ cs))

-- a deletion is the empty set
abbrev pub set_of : Write → Option (List (List ℕ))
set_of Delete = Some []
set_of (Put text) = set_in text

-- the items of both, each once, ascending
abbrev pub union : List (List ℕ) → List (List ℕ) → List (List ℕ)
union [] ys = ys
union (x ∷ xs) ys = with_key x (union xs ys)

-- the value that writes the set, where it isn't too long
abbrev pub written_set : List (List ℕ) → Option Write
written_set items = then_some (nat_le (length (join_with_byte 44 items)) longest_value) (Put (join_with_byte 44 items))

abbrev pub united : Option (List (List ℕ)) → Option (List (List ℕ)) → Option Write
united (Some xs) (Some ys) = written_set (union xs ys)
united _ _ = None

-- ===== Set3

-- the set that both began with: where nothing was written it is empty
abbrev pub base_set : Base → Option (List (List ℕ))
base_set Unknown = None
base_set Absent = Some []
base_set (Is write) = set_of write

-- the item is in both, or in one of them and new since the base
abbrev pub stays : List (List ℕ) → List (List ℕ) → List (List ℕ) → List ℕ → Bool
stays base xs ys item = if is_key_among item base then is_key_among item xs && is_key_among item ys else true

-- the items of both that stay, each once, ascending
abbrev pub three_way : List (List ℕ) → List (List ℕ) → List (List ℕ) → List (List ℕ)
three_way base xs ys = filter (stays base xs ys) (union xs ys)

abbrev pub united_since : Option (List (List ℕ)) → Option (List (List ℕ)) → Option (List (List ℕ)) → Option Write
united_since (Some base) (Some xs) (Some ys) = written_set (three_way base xs ys)
united_since _ _ _ = None

-- ===== All rules

-- the value that the rule gives to a key with this base and these sides; none where it gives none
abbrev pub merged : Rule → Base → Side → Side → Option Write
merged Last base a b = Some (last a b)
merged Count base a b = written_number (total (base_number base) (number_of a.1) (number_of b.1))
merged Set base a b = united (set_of a.1) (set_of b.1)
merged Set3 base a b = united_since (base_set base) (set_of a.1) (set_of b.1)
merged Refuse base a b = None
