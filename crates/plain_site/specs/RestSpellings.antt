-- How what lasts of requests is spelled in bytes, and read back.
use Rattle.std.specs.Prelude.{ℕ, Bool, ◌&&◌, nat_le, List, [], ◌∷◌, flat_map, Option}
use Rattle.std.specs.List.{list_all}
use Rattle.tardis_base.specs.declared.records.Item.TheVariants.{State, Promise}
use Rattle.tardis_base.specs.Valid.{is_u32}
use Rattle.wire_item.specs.Spellings.{u32_spelling, item_spelling}
use Rattle.wire_item.specs.Valid.{is_item}
use Rattle.wire_item.specs.Fronts.{Front, made, only_if, by_code, whole}
use Rattle.wire_item.specs.Readings.{u32_front, record_front, consent_front}
use Rattle.plain_site.specs.Rest.{Lasting, News, Collection}

-- an item, as other sites get it: 1 and a record, or 2 and a consent; or 3 and a u32 for how many states were collected
abbrev pub lasting_spelling : Lasting → List ℕ
lasting_spelling (News item) = item_spelling item
lasting_spelling (Collection count) = 3 ∷ u32_spelling count

-- some states were collected
abbrev pub is_count : ℕ → Bool
is_count count = is_u32 count && nat_le 1 count

abbrev pub is_lasting : Lasting → Bool
is_lasting (News item) = is_item item
is_lasting (Collection count) = is_count count

-- what stands behind each kind
abbrev pub lasting_rows : List (ℕ × Front Lasting)
lasting_rows =
    (1, made (λ r. News (State r)) record_front)
    ∷ (2, made (λ c. News (Promise c)) consent_front)
    ∷ (3, made Collection (only_if (nat_le 1) u32_front))
    ∷ []

abbrev pub lasting_front : Front Lasting
lasting_front = by_code lasting_rows

-- what the bytes spell
abbrev pub lasting_in : List ℕ → Option Lasting
lasting_in = whole lasting_front

-- ===== Several, one behind another

abbrev pub are_lasting : List Lasting → Bool
are_lasting ls = list_all is_lasting ls

abbrev pub all_spelling : List Lasting → List ℕ
all_spelling ls = flat_map lasting_spelling ls
