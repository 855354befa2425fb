-- What holds of all that a checkpoint tells, as laws of what a part does and of when it fits.
use Rattle.std.specs.Prelude.{◌≡◌, ℕ, ◌+◌, ◌≤◌, Bool, nat_le, List, [], length, IsTrue}
use Rattle.std.specs.List.{list_all}
use Rattle.tardis_base.specs.declared.ids.StateId.{StateId}
use Rattle.tardis_base.specs.declared.records.Record.{Record}
use Rattle.tardis_base.specs.declared.records.Limits.{Limits}
use Rattle.tardis_base.specs.declared.records.Item.TheVariants.{State}
use Rattle.tardis_base.specs.Ids.{is_among}
use Rattle.tardis_base.specs.Valid.{is_within, is_record, are_limits}
use Rattle.plain_dag.specs.States.{states, is_known, children}
use Rattle.plain_dag.specs.Dag.{IsDag}
use Rattle.plain_dag.specs.Begin.{last_arrived}
use Rattle.plain_dag.specs.Floors.{Floor}
use Rattle.plain_dag.specs.Collection.{is_kept, kept_states, is_absorbed, is_collectable}
use Rattle.plain_dag.specs.Paths.{fork_path}
use Rattle.plain_dag.specs.Rows.{next_below}
use Rattle.plain_site.specs.Site.{Site}
use Rattle.plain_site.specs.Sound.{are_distinct, IsSound}
use Rattle.plain_site.specs.Rest.{at_rest, News, fits}
use Rattle.plain_checkpoint.specs.Checkpoints.{Told, untold, Part, ToldState, ToldLine, ToldGone, with_parts, fit_parts, fits_floors, checkpoint_site}

-- what is told with one part more
abbrev pub Parts : Type 0
Parts = Part → Told → Told

-- whether a part may come next
abbrev pub Fits : Type 0
Fits = Limits → Told → Part → Bool

-- whether floors may stand at the end
abbrev pub FloorsFit : Type 0
FloorsFit = Limits → Told → List Floor → Bool

-- ===== Soundness

-- What a checkpoint has told is such as a sound site holds, but for the floors.
pub record IsToldWell (limits : Limits) (t : Told) : Type 0 where
  -- the history
  pub dag : IsDag t.dag
  pub of_the_sites : IsTrue (list_all (λ x. nat_le x.site limits.sites) (states t.dag))
  pub few_kept : length (kept_states t.dag t.collected) ≤ limits.max_kept
  pub short_paths : (x : StateId) → IsTrue (is_kept t.dag t.collected x) → length (fork_path t.dag t.collected x) ≤ limits.max_path
  pub few_children : (x : StateId) → length (children t.dag x) ≤ limits.max_kept
  -- the collected states
  pub known : (x : StateId) → IsTrue (is_among x t.collected) → IsTrue (is_known t.dag x)
  pub absorbed : (x : StateId) → IsTrue (is_among x t.collected) → IsTrue (is_absorbed t.dag t.collected x)
  pub once : IsTrue (are_distinct t.collected)

-- so it is before the first part
abbrev pub UntoldIsToldWell : Type 0
UntoldIsToldWell = (limits : Limits) → IsTrue (are_limits limits) → IsToldWell limits untold

-- a part that fits keeps it so
abbrev pub PartsKeepToldWell : Parts → Fits → Type 0
PartsKeepToldWell part may = (limits : Limits) (t : Told) (p : Part) → IsTrue (are_limits limits) → IsToldWell limits t → IsTrue (may limits t p) →
    IsToldWell limits (part p t)

-- and so do several
abbrev pub AllPartsKeepToldWell : Type 0
AllPartsKeepToldWell = (limits : Limits) (t : Told) (parts : List Part) → IsTrue (are_limits limits) → IsToldWell limits t →
    IsTrue (fit_parts limits t parts) → IsToldWell limits (with_parts parts t)

-- where the floors fit, the site that is told is sound
abbrev pub ToldSitesAreSound : FloorsFit → Type 0
ToldSitesAreSound may = (limits : Limits) (own : ℕ) (t : Told) (floors : List Floor) → IsTrue (are_limits limits) → IsTrue (is_within 1 limits.sites own) →
    IsToldWell limits t → IsTrue (may limits t floors) → IsSound (checkpoint_site limits own t floors)

-- so each checkpoint whose parts fit, and then its floors, tells a sound site
abbrev pub CheckpointsAreSound : Type 0
CheckpointsAreSound = (limits : Limits) (own : ℕ) (parts : List Part) (floors : List Floor) → IsTrue (are_limits limits) →
    IsTrue (is_within 1 limits.sites own) → IsTrue (fit_parts limits untold parts) → IsTrue (fits_floors limits (with_parts parts untold) floors) →
    IsSound (checkpoint_site limits own (with_parts parts untold) floors)

-- and that site is at rest
abbrev pub ToldSitesRest : Type 0
ToldSitesRest = (limits : Limits) (own : ℕ) (t : Told) (floors : List Floor) →
    at_rest (checkpoint_site limits own t floors) ≡ checkpoint_site limits own t floors

-- ===== What can be told

-- what a checkpoint tells of a site, but for the floors
abbrev pub told_of : Site → Told
told_of site = record { dag = site.dag; collected = site.collected }

-- it is told well of a sound site
abbrev pub SoundSitesAreToldWell : Type 0
SoundSitesAreToldWell = (site : Site) → IsSound site → IsToldWell site.limits (told_of site)

-- and the site's floors fit then, so that the site at rest is the one that is told
abbrev pub FloorsOfSitesFit : FloorsFit → Type 0
FloorsOfSitesFit may = (site : Site) → IsSound site →
    IsTrue (may site.limits (told_of site) site.floors) × (checkpoint_site site.limits site.own (told_of site) site.floors ≡ at_rest site)

-- each record fits that a sound site may take back, be it an own one or another's
abbrev pub ArrivalsFit : Fits → Type 0
ArrivalsFit may = (site : Site) (r : Record) → IsSound site → IsTrue (is_record r) → IsTrue (fits site (News (State r))) →
    IsTrue (may site.limits (told_of site) (ToldState r))

-- so does each state that may be collected there
abbrev pub CollectionsFit : Fits → Type 0
CollectionsFit may = (site : Site) (x : StateId) → IsSound site → IsTrue (is_collectable site.dag site.floors site.collected x) →
    IsTrue (may site.limits (told_of site) (ToldGone x))

-- a line of one state is that state's arrival, after which the state that had arrived last is gone
abbrev pub LinesAreStates : Parts → Type 0
LinesAreStates part = (t : Told) (n : ℕ) →
    part (ToldLine n 1) t ≡ part (ToldGone (last_arrived t.dag)) (part (ToldState (next_below t.dag n [])) t)

-- and two lines of one site, one after the other, are one line
abbrev pub LinesJoin : Parts → Type 0
LinesJoin part = (t : Told) (n a b : ℕ) → part (ToldLine n b) (part (ToldLine n a) t) ≡ part (ToldLine n (a + b)) t

-- ===== Larger limits

-- a part that fits under some limits fits under larger ones of as many sites
abbrev pub LargerLimitsFit : Fits → Type 0
LargerLimitsFit may = (limits larger : Limits) (t : Told) (p : Part) → limits.sites ≡ larger.sites → limits.max_kept ≤ larger.max_kept →
    limits.max_path ≤ larger.max_path → IsToldWell limits t → IsTrue (may limits t p) → IsTrue (may larger t p)

-- so do several
abbrev pub LargerLimitsFitAll : Type 0
LargerLimitsFitAll = (limits larger : Limits) (t : Told) (parts : List Part) → limits.sites ≡ larger.sites → limits.max_kept ≤ larger.max_kept →
    limits.max_path ≤ larger.max_path → IsTrue (are_limits limits) → IsToldWell limits t → IsTrue (fit_parts limits t parts) →
    IsTrue (fit_parts larger t parts)

-- of the limits floors ask only how many sites there are
abbrev pub FloorsGoBySites : FloorsFit → Type 0
FloorsGoBySites may = (limits others : Limits) (t : Told) (floors : List Floor) → limits.sites ≡ others.sites → may limits t floors ≡ may others t floors
