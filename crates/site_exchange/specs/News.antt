-- What is news for another site, and how much of it a batch takes.
use Rattle.std.specs.Prelude.{◌≡◌, ℕ, Bool, ◌-◌, ◌&&◌, not, nat_lt, nat_le, List, [], ◌∷◌, ◌++◌, length, filter, Option, Some, None, slice_get, unwrap_or}
use Rattle.std.specs.Prelude.{if◌then◌else◌}
use Rattle.tardis_base.specs.declared.ids.StateId.{StateId}
use Rattle.tardis_base.specs.declared.records.Record.{Record}
use Rattle.tardis_base.specs.Sizes.{most_news}
use Rattle.wire_item.specs.Spellings.{record_spelling}
use Rattle.plain_dag.specs.States.{record_at}
use Rattle.plain_dag.specs.Floors.{is_above_floors}
use Rattle.plain_site.specs.Site.{Site}
use Rattle.plain_site.specs.Exchange.{fitting, is_news_for, in_arrival_order}

-- the state is news for whoever has these counts
abbrev pub is_news : Site → List ℕ → StateId → Bool
is_news site counts x = nat_lt (unwrap_or (slice_get counts (x.site - 1)) 0) x.sequence && not (is_above_floors site.dag site.floors x)

-- the records of the batch for these counts
abbrev pub news_for : Site → List ℕ → List Record
news_for site counts = fitting most_news (filter (is_news_for site counts) (in_arrival_order site.dag))

-- what is left of so much room behind so many bytes, where they fit
abbrev pub left_of : ℕ → ℕ → Option ℕ
left_of room size = if nat_le size room then Some (room - size) else None

-- the state's record has joined the end, and so much room is left behind its spelling; or it doesn't fit
abbrev pub GivenIn : List Record → StateId → ℕ → List Record → List Record → Option ℕ → Type 0
GivenIn rs x room old new (Some left) =
    (r : Record) × (record_at rs x ≡ Some r) × (left_of room (length (record_spelling r)) ≡ Some left) × (new ≡ old ++ r ∷ [])
GivenIn rs x room old new None = (r : Record) × (record_at rs x ≡ Some r) × (left_of room (length (record_spelling r)) ≡ None) × (new ≡ old)
