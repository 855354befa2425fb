-- What lasted of an earlier site is taken back.
use Rattle.std.specs.Prelude.{◌≡◌, ℕ, Bool, true, false, ◌&&◌, ◌==◌, length, [], ◌∷◌, is_none, Result, Ok, Err, IfOk, IsTrue, IsFalse}
use Rattle.tardis_base.specs.declared.faults.NoMemory.{NoMemory as OutOfMemory}
use Rattle.tardis_base.specs.declared.records.Record.{Record}
use Rattle.tardis_base.specs.declared.replies.Refusal.TheVariants.{OpenConflict}
use Rattle.plain_dag.specs.Begin.{last_arrived}
use Rattle.plain_dag.specs.Floors.{are_unpromised_above}
use Rattle.plain_dag.specs.Conflicts.{open_conflict}
use Rattle.ceiling_book.specs.Book.{sessions_of}
use Rattle.site_exchange.specs.Judgements.{first_reply}
use Rattle.plain_site.specs.Site.{Site}
use Rattle.plain_site.specs.Answers.{refuse_found}
use Rattle.plain_site.specs.Exchange.{judgements}
use Rattle.plain_site.specs.Sound.{IsSound}
use Rattle.plain_site.specs.Rest.{Lasting, Collection, nameless, with_lasting, fits, collected_by}
use Rattle.plain_rows.specs.Rows.{with_row, fits_row}
use Rattle.session_core.specs.Core.{Core}
use Rattle.session_core.specs.Stands.{CoreStands}
use Rattle.session_core.specs.Machine.{SiteStands}

-- no session is open, and nothing waits
abbrev pub is_quiet : Core → Bool
is_quiet core = length (sessions_of core.book) == 0 && length core.waiting == 0

-- it fits, and was taken; or it doesn't fit; or there was no memory; and where it wasn't taken all is as before
abbrev pub TakenBy : Core → Lasting → Site → Result Bool OutOfMemory → Type 0
TakenBy new l site (Ok true) = IsTrue (fits site l) × SiteStands new (with_lasting l site)
TakenBy new l site (Ok false) = IsFalse (fits site l) × SiteStands new site
TakenBy new l site (Err fault) = SiteStands new site

-- so it is for each site that it stood for
abbrev pub TakesBack : Core → Core → Lasting → Result Bool OutOfMemory → Type 0
TakesBack old new l result = (site : Site) → SiteStands old site → TakenBy new l site result

-- so many states were to be collected: as many of them were as are there to be collected, and that many were told
abbrev pub Collects : Core → Core → ℕ → ℕ → Type 0
Collects old new count told = (site : Site) → SiteStands old site → SiteStands new (with_lasting (Collection count) site) × (told ≡ collected_by count site)

-- where it fits, the site stays sound with it
abbrev pub KeepsSound : Core → Lasting → Type 0
KeepsSound core l = (site : Site) → SiteStands core site → IsTrue (fits site l) → IsSound (with_lasting l site)

-- nothing but want of room speaks against the record, were it another site's
abbrev pub IsWelcomeTo : Core → Record → Result Bool OutOfMemory → Type 0
IsWelcomeTo core r result =
    (site : Site) → SiteStands core site → IfOk result (λ welcome. welcome ≡ is_none (first_reply (judgements (nameless site) r)))

-- each conflict key of its parents is among what it writes
abbrev pub HasFitWrites : Core → Record → Result Bool OutOfMemory → Type 0
HasFitWrites core r result =
    (site : Site) → CoreStands core site
    → IfOk result (λ fit. fit ≡ is_none (first_reply (refuse_found OpenConflict (open_conflict site.dag r.parents r.writes) ∷ [])))

-- ===== A row

-- the row fits, and was taken; or it doesn't fit; or there was no memory; and where it wasn't taken all is as before
abbrev pub RowTakenBy : Core → (n count : ℕ) → Site → Result Bool OutOfMemory → Type 0
RowTakenBy new n count site (Ok true) = IsTrue (fits_row site n count) × SiteStands new (with_row n count site)
RowTakenBy new n count site (Ok false) = IsFalse (fits_row site n count) × SiteStands new site
RowTakenBy new n count site (Err fault) = SiteStands new site

-- so it is for each site that it stood for
abbrev pub TakesRow : Core → Core → (n count : ℕ) → Result Bool OutOfMemory → Type 0
TakesRow old new n count result = (site : Site) → SiteStands old site → RowTakenBy new n count site result

-- no session is open, and no floor was promised yet, each is at or above the state that arrived last
abbrev pub MayGoOn : Core → Bool → Type 0
MayGoOn core may = (site : Site) → SiteStands core site → may ≡ (length site.sessions == 0 && are_unpromised_above site.dag site.floors (last_arrived site.dag))

-- where it may go on a row of no states was taken, of one of the sites
abbrev pub MovesFloors : Core → Core → (n : ℕ) → Bool → Type 0
MovesFloors old new n result = MayGoOn old true → TakesRow old new n 0 (Ok result)
