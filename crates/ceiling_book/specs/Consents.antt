-- How a consent of another site is judged, and what it changes.
use Rattle.std.specs.Prelude.{◌≡◌, ℕ, Bool, ◌==◌, ◌||◌, not, nat_lt, nat_le, List, length, Result, Ok, Err, if◌then◌else◌}
use Rattle.tardis_base.specs.declared.ids.Slot.{Slot}
use Rattle.tardis_base.specs.declared.records.Record.{Record}
use Rattle.tardis_base.specs.declared.records.Consent.{Consent}
use Rattle.tardis_base.specs.declared.replies.Refusal.TheVariants.{BadSite, OwnItem, FloorBack}
use Rattle.plain_dag.specs.States.{is_known, count_of_site}
use Rattle.plain_dag.specs.Above.{is_above}
use Rattle.plain_dag.specs.Floors.{Floor, floor_of, with_floor, consented}
use Rattle.ceiling_book.specs.declared.consents.ConsentEnd.{ConsentEnd}
use Rattle.ceiling_book.specs.declared.consents.ConsentEnd.TheVariants.{Applied, Known, Early, Refused}
use Rattle.ceiling_book.specs.Book.{Book, floors_of}

-- the consent comes before the states that it counts, or before its floor
abbrev pub is_early_consent : List Record → Consent → Bool
is_early_consent rs c = nat_lt (count_of_site rs c.site) c.count || not (is_known rs c.floor)

-- The site isn't one of these; or the number isn't above the one that is known; or the site is the own one; or the consent
-- is early; or the site's floor isn't at or above the new one. Else it is taken.
abbrev pub consent_end : List Record → List Floor → ℕ → Consent → ConsentEnd
consent_end rs floors own c =
    let f = floor_of floors c.site in
    if nat_lt (length floors) c.site then Refused (BadSite c.site) else
    if nat_le c.number f.number then Known else
    if c.site == own then Refused (OwnItem c.site c.number) else
    if is_early_consent rs c then Early (count_of_site rs c.site) else
    if not (is_above rs f.state c.floor) then Refused (FloorBack f.state) else Applied

-- where the consent was taken, its site's floor is what it says; else the book is as before
abbrev pub TakenIn : Book → Book → Consent → ConsentEnd → Type 0
TakenIn old new c Applied = floors_of new ≡ with_floor (floors_of old) c.site (consented c)
TakenIn old new c end = new ≡ old

-- a consent that isn't refused is taken
abbrev pub end_of : Result Slot ConsentEnd → ConsentEnd
end_of (Ok slot) = Applied
end_of (Err end) = end
