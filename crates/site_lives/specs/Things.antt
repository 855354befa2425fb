-- What lasts of a site that ends and starts again, and of the lives that it knows.
use Rattle.std.specs.Prelude.{ℕ, Bool, true, ◌==◌, ◌&&◌, List, [], ◌∷◌, ◌++◌, length, flat_map, Option, Some, option_map, nat_le, if◌then◌else◌}
use Rattle.std.specs.List.{list_all}
use Rattle.tardis_base.specs.declared.records.Item.TheVariants.{State, Promise}
use Rattle.tardis_base.specs.Plain.{Event}
use Rattle.tardis_base.specs.Sizes.{most_sites}
use Rattle.tardis_base.specs.Valid.{is_u16, is_u32, is_id, is_record}
use Rattle.wire_item.specs.Spellings.{u8_spelling, u16_spelling, u32_spelling, id_spelling, record_spelling}
use Rattle.wire_item.specs.Fronts.{Front, bytes_front, made, only_if, both, times, counted, by_code}
use Rattle.wire_item.specs.Readings.{u8_front, u16_front, u32_front, id_front, record_front, consent_front}
use Rattle.wire_lives.specs.Spellings.{is_life}
use Rattle.plain_dag.specs.Floors.{Floor}
use Rattle.plain_site.specs.Site.{Site}
use Rattle.plain_site.specs.Rest.{Lasting, News, Collection, at_rest, lasting_of_event, with_lasting, fits}
use Rattle.plain_site.specs.RestSpellings.{lasting_spelling, is_lasting}
use Rattle.plain_rows.specs.Rows.{with_row, fits_row}
use Rattle.plain_checkpoint.specs.Checkpoints.{untold, Part, ToldState, ToldLine, ToldGone, with_part, fits_part, fits_floors, checkpoint_site}
use Rattle.site_lives.specs.declared.lives.NewLife.{NewLife}
use Rattle.site_lives.specs.Lives.{is_of_lives, fits_life}
use Rattle.site_lives.specs.Acquainted.{Acquainted, about_lives, with_news}

-- One thing that lasts: what lasts of a request to the site itself; a life that is new; or what no request makes, and a history
-- is told shorter by: a row of states, a part of a checkpoint, or the end of one, which says the floors.
pub data LastingThing : Type 0 where
  OfSite : (l : Lasting) → LastingThing
  OfLives : (new : NewLife) → LastingThing
  OfRow : (n count : ℕ) → LastingThing
  OfCheckpoint : (p : Part) → LastingThing
  OfEnd : (floors : List Floor) → LastingThing

-- the site at rest; the lives that it knows stay, and what was told
abbrev pub all_at_rest : Acquainted → Acquainted
all_at_rest a = record a { site = at_rest a.site }

-- what lasts of an event
abbrev pub thing_of_event : Acquainted → Event → Option LastingThing
thing_of_event a e = if is_of_lives e.1 then option_map OfLives (about_lives a e.1).1 else option_map OfSite (lasting_of_event a.site e)

-- ===== Taken back

-- a part leaves the site as it is, and at the end the site is the one that was told
abbrev pub with_thing : LastingThing → Acquainted → Acquainted
with_thing (OfSite l) a = record a { site = with_lasting l a.site }
with_thing (OfLives new) a = with_news (Some new) a
with_thing (OfRow n count) a = record a { site = with_row n count a.site }
with_thing (OfCheckpoint p) a = record a { told = with_part p a.told }
with_thing (OfEnd floors) a = record a { site = checkpoint_site a.site.limits a.site.own a.told floors; told = untold }

-- only the root is known, and no floor was promised
abbrev pub is_blank : Site → Bool
is_blank site = length site.dag == 1 && list_all (λ f. f.number == 0) site.floors

-- a checkpoint ends at a blank site alone, so that none takes the place of a history
abbrev pub fits_thing : Acquainted → LastingThing → Bool
fits_thing a (OfSite l) = fits a.site l
fits_thing a (OfLives new) = fits_life a.site.own a.site.limits.sites a.lives new
fits_thing a (OfRow n count) = fits_row a.site n count
fits_thing a (OfCheckpoint p) = fits_part a.site.limits a.told p
fits_thing a (OfEnd floors) = is_blank a.site && fits_floors a.site.limits a.told floors

-- several, oldest first
abbrev pub replay_things : List LastingThing → Acquainted → Acquainted
replay_things [] a = a
replay_things (t ∷ later) a = replay_things later (with_thing t a)

-- each of these, oldest first, where those before it were taken
abbrev pub all_things_fit : Acquainted → List LastingThing → Bool
all_things_fit a [] = true
all_things_fit a (t ∷ later) =
    let others = all_things_fit (with_thing t a) later in
    fits_thing a t && others

-- ===== In bytes

-- a u16 for the site's number, and the 16 bytes of its life
abbrev pub life_spelling : NewLife → List ℕ
life_spelling new = u16_spelling new.number ++ new.life

-- a u16 for the site's number, and a u32 for how many states there are
abbrev pub row_spelling : ℕ × ℕ → List ℕ
row_spelling row = u16_spelling row.0 ++ u32_spelling row.1

-- 6 and a record; or 7 and a row, of the states in a line; or 8 and the id of a state that is gone
abbrev pub part_spelling : Part → List ℕ
part_spelling (ToldState r) = 6 ∷ record_spelling r
part_spelling (ToldLine n count) = 7 ∷ row_spelling (n, count)
part_spelling (ToldGone x) = 8 ∷ id_spelling x

-- the id of its state, a u32 for its number, and a u32 for how many states it states
abbrev pub floor_spelling : Floor → List ℕ
floor_spelling f = id_spelling f.state ++ u32_spelling f.number ++ u32_spelling f.stated

-- a u8 for the number of floors, and the floors
abbrev pub floors_spelling : List Floor → List ℕ
floors_spelling fs = u8_spelling (length fs) ++ flat_map floor_spelling fs

-- what lasts of a request to the site, as that is spelled; or 4 and a life; or 5 and a row; or a part of a checkpoint; or 9 and
-- the floors at its end
abbrev pub thing_spelling : LastingThing → List ℕ
thing_spelling (OfSite l) = lasting_spelling l
thing_spelling (OfLives new) = 4 ∷ life_spelling new
thing_spelling (OfRow n count) = 5 ∷ row_spelling (n, count)
thing_spelling (OfCheckpoint p) = part_spelling p
thing_spelling (OfEnd floors) = 9 ∷ floors_spelling floors

abbrev pub is_new_life : NewLife → Bool
is_new_life new = is_u16 new.number && is_life new.life

abbrev pub is_row : ℕ × ℕ → Bool
is_row row = is_u16 row.0 && is_u32 row.1

abbrev pub is_part : Part → Bool
is_part (ToldState r) = is_record r
is_part (ToldLine n count) = is_row (n, count)
is_part (ToldGone x) = is_id x

abbrev pub is_floor : Floor → Bool
is_floor f = is_id f.state && is_u32 f.number && is_u32 f.stated

-- at most 16 floors
abbrev pub are_floors : List Floor → Bool
are_floors fs = nat_le (length fs) most_sites && list_all is_floor fs

abbrev pub is_thing : LastingThing → Bool
is_thing (OfSite l) = is_lasting l
is_thing (OfLives new) = is_new_life new
is_thing (OfRow n count) = is_row (n, count)
is_thing (OfCheckpoint p) = is_part p
is_thing (OfEnd floors) = are_floors floors

-- what stands behind each kind
abbrev pub life_front : Front NewLife
life_front = made (λ p. record { number = p.0; life = p.1 }) (both u16_front (bytes_front 16))

abbrev pub row_front : Front (ℕ × ℕ)
row_front = both u16_front u32_front

abbrev pub floor_front : Front Floor
floor_front = made (λ p. record { state = p.0.0; number = p.0.1; stated = p.1 }) (both (both id_front u32_front) u32_front)

abbrev pub floors_front : Front (List Floor)
floors_front = only_if are_floors (counted u8_front (times floor_front))

abbrev pub thing_rows : List (ℕ × Front LastingThing)
thing_rows =
    (1, made (λ r. OfSite (News (State r))) record_front)
    ∷ (2, made (λ c. OfSite (News (Promise c))) consent_front)
    ∷ (3, made (λ n. OfSite (Collection n)) (only_if (nat_le 1) u32_front))
    ∷ (4, made OfLives life_front)
    ∷ (5, made (λ row. OfRow row.0 row.1) row_front)
    ∷ (6, made (λ r. OfCheckpoint (ToldState r)) record_front)
    ∷ (7, made (λ row. OfCheckpoint (ToldLine row.0 row.1)) row_front)
    ∷ (8, made (λ x. OfCheckpoint (ToldGone x)) id_front)
    ∷ (9, made OfEnd floors_front)
    ∷ []

abbrev pub thing_front : Front LastingThing
thing_front = by_code thing_rows

-- several, one behind another
abbrev pub are_things : List LastingThing → Bool
are_things ts = list_all is_thing ts

abbrev pub all_spellings : List LastingThing → List ℕ
all_spellings ts = flat_map thing_spelling ts
