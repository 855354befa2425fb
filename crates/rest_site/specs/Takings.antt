-- How what lasted is read from bytes, and taken back.
use Rattle.std.specs.Prelude.{◌≡◌, ◌↔◌, ◌&&◌, Bool, true, false, ℕ, List, [], ◌∷◌, Option, Some, None, Result, Ok, Err, IfOk, IsTrue, IsFalse, nat_le}
use Rattle.tardis_base.specs.declared.faults.NoMemory.{NoMemory}
use Rattle.tardis_base.specs.declared.records.Limits.{Limits}
use Rattle.tardis_base.specs.declared.records.Item.TheVariants.{State as RecordItem, Promise as PromiseItem}
use Rattle.plain_dag.specs.Floors.{Floor}
use Rattle.plain_site.specs.Site.{Site}
use Rattle.plain_site.specs.Rest.{News, Collection as Collected}
use Rattle.plain_checkpoint.specs.Checkpoints.{Told, Part, ToldState, ToldLine, ToldGone, with_part, fits_part, fits_floors, checkpoint_site}
use Rattle.wire_item.specs.Fronts.{Front, made, only_if, both}
use Rattle.wire_item.specs.Readings.{u32_front, id_front, record_front, consent_front}
use Rattle.site_lives.specs.Acquainted.{Acquainted}
use Rattle.site_checkpoint.specs.declared.ends.ToldFloor.{ToldFloor}
use Rattle.site_checkpoint.specs.Loaded.{Loaded}
use Rattle.site_checkpoint.specs.Ends.{floors_told}
use Rattle.session_core.specs.Core.{Core}
use Rattle.session_core.specs.Machine.{SiteStands}
use Rattle.rest_site.specs.declared.things.Thing.{Thing}
use Rattle.rest_site.specs.declared.things.Thing.TheVariants.{State, Promise, Collection, Life, Row, Told as ToldRecord, Line, Gone, End}
use Rattle.rest_site.specs.Stands.{HeldSite, LoadingStands, AcquaintedStands, StandsForSome}
use Rattle.site_lives.specs.Things.{LastingThing, OfSite, OfLives, OfRow, OfCheckpoint, OfEnd, all_at_rest, is_blank, with_thing, fits_thing, life_front, row_front, floors_front}
use Rattle.site_lives.specs.Bytes.{TakesBack}

-- what lasted, as it is held
abbrev pub lasting_of : Thing → LastingThing
lasting_of (State r) = OfSite (News (RecordItem r))
lasting_of (Promise c) = OfSite (News (PromiseItem c))
lasting_of (Collection count) = OfSite (Collected count)
lasting_of (Life new) = OfLives new
lasting_of (Row n count) = OfRow n count
lasting_of (ToldRecord r) = OfCheckpoint (ToldState r)
lasting_of (Line n count) = OfCheckpoint (ToldLine n count)
lasting_of (Gone x) = OfCheckpoint (ToldGone x)
lasting_of (End floors) = OfEnd (floors_told floors)

-- a record, a promise, how many states were collected, a life, and a row, each behind its code
abbrev pub state_front : Front LastingThing
state_front = made (λ r. OfSite (News (RecordItem r))) record_front

abbrev pub promise_front : Front LastingThing
promise_front = made (λ c. OfSite (News (PromiseItem c))) consent_front

abbrev pub collection_front : Front LastingThing
collection_front = made (λ n. OfSite (Collected n)) (only_if (nat_le 1) u32_front)

abbrev pub new_life_front : Front LastingThing
new_life_front = made OfLives life_front

abbrev pub new_row_front : Front LastingThing
new_row_front = made (λ row. OfRow row.0 row.1) row_front

-- and so the parts of a checkpoint, and its end
abbrev pub told_front : Front LastingThing
told_front = made (λ r. OfCheckpoint (ToldState r)) record_front

abbrev pub line_front : Front LastingThing
line_front = made (λ row. OfCheckpoint (ToldLine row.0 row.1)) row_front

abbrev pub gone_front : Front LastingThing
gone_front = made (λ x. OfCheckpoint (ToldGone x)) id_front

abbrev pub end_front : Front LastingThing
end_front = made OfEnd floors_front

-- the codes of the parts of a checkpoint and of its end, and what stands behind each
abbrev pub part_rows : List (ℕ × Front LastingThing)
part_rows = (6, told_front) ∷ (7, line_front) ∷ (8, gone_front) ∷ (9, end_front) ∷ []

-- a floor, as it is held
abbrev pub told_floor_front : Front ToldFloor
told_floor_front = made (λ p. record { state = p.0.0; number = p.0.1; stated = p.1 }) (both (both id_front u32_front) u32_front)

-- the floors at the front are these, and these bytes are left behind them; memory may be wanting for them. None where none stand there
abbrev pub AreRead : List ℕ → Option (Result (List ToldFloor) NoMemory) → List ℕ → Type 0
AreRead old None new = floors_front old ≡ None
AreRead old (Some result) new = (fs : List Floor) × (floors_front old ≡ Some (fs, new)) × IfOk result (λ told. floors_told told ≡ fs)

-- what stands at the front is this thing, and these bytes are left behind it; memory may be wanting for it. None where none stands there
abbrev pub IsRead : Option (LastingThing × List ℕ) → Option (Result Thing NoMemory) → List ℕ → Type 0
IsRead read None left = read ≡ None
IsRead read (Some result) left = (t : LastingThing) × (read ≡ Some (t, left)) × IfOk result (λ thing. lasting_of thing ≡ t)

-- it fits, and was taken; or it doesn't fit; or there was no memory; and what is in memory stands for some sound site
abbrev pub TakenBy : HeldSite → LastingThing → Acquainted → Result Bool NoMemory → Type 0
TakenBy new t a (Ok true) = IsTrue (fits_thing a t) × AcquaintedStands new (with_thing t a)
TakenBy new t a (Ok false) = IsFalse (fits_thing a t) × StandsForSome new.core new.loading
TakenBy new t a (Err fault) = StandsForSome new.core new.loading

-- so it is for each site that it stood for
abbrev pub TakesThing : HeldSite → HeldSite → LastingThing → Result Bool NoMemory → Type 0
TakesThing old new t result = (a : Acquainted) → AcquaintedStands old a → TakenBy new t a result

-- so it is with a part of a checkpoint, which changes nothing else
abbrev pub PartTakenBy : Limits → Option Loaded → Part → Told → Result Bool NoMemory → Type 0
PartTakenBy limits new p t (Ok true) = IsTrue (fits_part limits t p) × LoadingStands limits new (with_part p t)
PartTakenBy limits new p t (Ok false) = IsFalse (fits_part limits t p) × LoadingStands limits new t
PartTakenBy limits new p t (Err fault) = LoadingStands limits new t

abbrev pub TakesPart : Limits → Option Loaded → Option Loaded → Part → Result Bool NoMemory → Type 0
TakesPart limits old new p result = (t : Told) → LoadingStands limits old t → PartTakenBy limits new p t result

-- the floors fit at the end of what was told, and the site that was told stands; or they don't, or there was no memory, and the site is as before
abbrev pub EndTakenBy : Core → List Floor → Site → Told → Result Bool NoMemory → Type 0
EndTakenBy new floors site t (Ok true) =
    IsTrue (is_blank site && fits_floors site.limits t floors) × SiteStands new (checkpoint_site site.limits site.own t floors)
EndTakenBy new floors site t (Ok false) = IsFalse (is_blank site && fits_floors site.limits t floors) × SiteStands new site
EndTakenBy new floors site t (Err fault) = SiteStands new site

-- where a site stood before, one at rest stands behind that takes back what is left as that one took back all
abbrev pub Leads : HeldSite → HeldSite → List ℕ → List ℕ → Type 0
Leads old new all left = (a : Acquainted) → AcquaintedStands old a → all_at_rest a ≡ a →
    (next : Acquainted) × AcquaintedStands new next × (all_at_rest next ≡ next) × ((behind : Acquainted) → TakesBack a all behind ↔ TakesBack next left behind)
