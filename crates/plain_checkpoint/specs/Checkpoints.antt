-- A history told in parts: states arrive, and states join the collected, with no word of floors; the floors come at the end.
use Rattle.std.specs.Prelude.{ℕ, Bool, true, ◌==◌, ◌+◌, ◌^◌, ◌&&◌, nat_lt, nat_le, List, [], ◌∷◌, length, replicate, is_none}
use Rattle.std.specs.List.{list_all}
use Rattle.tardis_base.specs.declared.ids.StateId.{StateId}
use Rattle.tardis_base.specs.declared.records.Record.{Record}
use Rattle.tardis_base.specs.declared.records.Limits.{Limits}
use Rattle.tardis_base.specs.Valid.{is_within, is_record}
use Rattle.plain_dag.specs.States.{root_record, children, count_of_site}
use Rattle.plain_dag.specs.Above.{are_apart}
use Rattle.plain_dag.specs.Conflicts.{open_conflict}
use Rattle.plain_dag.specs.Floors.{Floor, is_closed}
use Rattle.plain_dag.specs.Collection.{is_kept, is_absorbed}
use Rattle.plain_dag.specs.Growth.{growth_refusal}
use Rattle.plain_dag.specs.Rows.{lengthened, row_left}
use Rattle.plain_site.specs.Site.{Site, opening}
use Rattle.plain_site.specs.Sound.{are_sound_floors}

-- ===== What is told

-- what a checkpoint has told so far: a history, newest first, and which of its states are collected, the one that joined last
-- in front
pub record Told : Type 0 where
  pub dag : List Record
  pub collected : List StateId

-- before the first part: the root alone
abbrev pub untold : Told
untold = record { dag = root_record ∷ []; collected = [] }

-- ===== Parts

-- A part: a state arrives; or so many further states of one site arrive, which write nothing, each below the one before it
-- and the first below the state that had arrived last; or a state joins the collected.
pub data Part : Type 0 where
  ToldState : (r : Record) → Part
  ToldLine : (n count : ℕ) → Part
  ToldGone : (x : StateId) → Part

-- what is told with one part more; of a line each state but the last joins the collected, and the state that had arrived last
-- with them
abbrev pub with_part : Part → Told → Told
with_part (ToldState r) t = record { dag = r ∷ t.dag; collected = t.collected }
with_part (ToldLine n count) t = record { dag = lengthened t.dag n (replicate count []); collected = row_left t.dag t.collected n (replicate count []) }
with_part (ToldGone x) t = record { dag = t.dag; collected = x ∷ t.collected }

-- with several, oldest first
abbrev pub with_parts : List Part → Told → Told
with_parts [] t = t
with_parts (p ∷ later) t = with_parts later (with_part p t)

-- ===== Which parts fit

-- the state has fewer children than may be
abbrev pub takes_child : Limits → Told → StateId → Bool
takes_child limits t p = nat_lt (length (children t.dag p)) limits.max_kept

-- the record may arrive: it is the next of one of the sites; its parents are kept, apart, and take one child more; it writes
-- each conflict key of them; and the history may grow by it
abbrev pub fits_state : Limits → Told → Record → Bool
fits_state limits t r =
    is_record r && is_within 1 limits.sites r.id.site && r.id.sequence == count_of_site t.dag r.id.site + 1
    && list_all (is_kept t.dag t.collected) r.parents && are_apart t.dag r.parents && list_all (takes_child limits t) r.parents
    && is_none (open_conflict t.dag r.parents r.writes) && is_none (growth_refusal limits t.collected t.dag r)

-- the line may arrive: it is of one of the sites, of at least one state, and its numbers have 32 bits
abbrev pub fits_line : Limits → Told → (n count : ℕ) → Bool
fits_line limits t n count = is_within 1 limits.sites n && nat_le 1 count && nat_lt (count_of_site t.dag n + count) (2 ^ 32)

-- the state may join the collected: it is kept, and its children share a stand-in
abbrev pub fits_gone : Told → StateId → Bool
fits_gone t x = is_kept t.dag t.collected x && is_absorbed t.dag t.collected x

-- the part may come next
abbrev pub fits_part : Limits → Told → Part → Bool
fits_part limits t (ToldState r) = fits_state limits t r
fits_part limits t (ToldLine n count) = fits_line limits t n count
fits_part limits t (ToldGone x) = fits_gone t x

-- each of these, oldest first, where those before it were told
abbrev pub fit_parts : Limits → Told → List Part → Bool
fit_parts limits t [] = true
fit_parts limits t (p ∷ later) =
    let others = fit_parts limits (with_part p t) later in
    fits_part limits t p && others

-- ===== The end of a checkpoint

-- the floors may stand at the end: there is one for each site, at a kept state, and no more of its states were stated than there
-- are; and all that is collected is closed under them
abbrev pub fits_floors : Limits → Told → List Floor → Bool
fits_floors limits t floors =
    length floors == limits.sites && are_sound_floors t.dag 1 floors && list_all (λ f. is_kept t.dag t.collected f.state) floors
    && list_all (is_closed t.dag floors) t.collected

-- the site of this number that a checkpoint tells: it opens, and has the history, the collected states and the floors
abbrev pub checkpoint_site : Limits → (own : ℕ) → Told → List Floor → Site
checkpoint_site limits own t floors = record (opening limits own) { dag = t.dag; collected = t.collected; floors = floors }
