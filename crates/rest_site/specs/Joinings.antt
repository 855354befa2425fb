-- What a request to join leaves comes to.
use Rattle.std.specs.Prelude.{◌≡◌, ℕ, ⊤, Bool, true, false, Option, Some, None, Result, Ok, Err}
use Rattle.tardis_base.specs.declared.faults.NoMemory.{NoMemory as OutOfMemory}
use Rattle.tardis_base.specs.declared.ids.StateId.{StateId}
use Rattle.tardis_base.specs.declared.records.Record.{Record}
use Rattle.plain_site.specs.Site.{Site, next_id, own_count}
use Rattle.session_core.specs.Core.{Core}
use Rattle.session_core.specs.Machine.{SiteStands}
use Rattle.join_rules.specs.declared.join_codes.TheConstants.{JOINED, LEFT}
use Rattle.join_rules.specs.Joins.{with_joined}

-- what came of it, and the record that arrived; or there was no memory, and all is as before
abbrev pub JoinedBy : Core → ℕ × Option Record → Site → Result ℕ OutOfMemory → Type 0
JoinedBy new end site (Ok code) = (code ≡ end.0) × SiteStands new (with_joined end.1 site)
JoinedBy new end site (Err fault) = SiteStands new site

-- so it is for each site that it stood for
abbrev pub Joins : Core → Core → (Site → ℕ × Option Record) → Result ℕ OutOfMemory → Type 0
Joins old new end result = (site : Site) → SiteStands old site → JoinedBy new (end site) site result

-- what is told of what was taken; for want of memory nothing
abbrev pub CodeOf : Result Bool OutOfMemory → Result ℕ OutOfMemory → Type 0
CodeOf (Ok true) code = code ≡ Ok JOINED
CodeOf (Ok false) code = code ≡ Ok LEFT
CodeOf (Err fault) (Ok code) = ⊥
CodeOf (Err fault) (Err other) = ⊤

-- the site's next id, or it made all that it may
abbrev pub IsNextId : Site → Option StateId → Type 0
IsNextId site None = own_count site ≡ 4294967295
IsNextId site (Some id) = id ≡ next_id site
