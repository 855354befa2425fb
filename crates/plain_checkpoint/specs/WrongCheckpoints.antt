-- Wrong parts, and wrong tests of which parts and floors fit. Each is the right one but for one thing.
use Rattle.std.specs.Prelude.{Bool, false, ◌==◌, ◌+◌, ◌-◌, ◌^◌, ◌&&◌, nat_lt, nat_le, [], ◌∷◌, length, replicate, is_none}
use Rattle.std.specs.List.{list_all}
use Rattle.tardis_base.specs.declared.records.Record.{Record}
use Rattle.tardis_base.specs.declared.records.Limits.{Limits}
use Rattle.tardis_base.specs.Valid.{is_within, is_record}
use Rattle.plain_dag.specs.States.{is_known, count_of_site}
use Rattle.plain_dag.specs.Above.{are_apart}
use Rattle.plain_dag.specs.Conflicts.{open_conflict}
use Rattle.plain_dag.specs.Begin.{last_arrived}
use Rattle.plain_dag.specs.Floors.{is_closed}
use Rattle.plain_dag.specs.Collection.{is_kept, kept_states, is_absorbed}
use Rattle.plain_dag.specs.Growth.{growth_refusal}
use Rattle.plain_dag.specs.Rows.{lengthened, row_left}
use Rattle.plain_site.specs.Sound.{are_sound_floors}
use Rattle.plain_checkpoint.specs.Checkpoints.{Told, ToldState, ToldLine, ToldGone, with_part, takes_child, fits_state, fits_part, fits_floors}
use Rattle.plain_checkpoint.specs.Laws.{Parts, Fits, FloorsFit}

-- the law doesn't hold
abbrev pub IsBroken : Type 0 → Type 0
IsBroken Law = Law → ⊥

-- ===== Parts

-- the last of a line is collected too
abbrev pub collects_the_last : Parts
collects_the_last (ToldLine n count) t =
    let behind = with_part (ToldLine n count) t in
    record { dag = behind.dag; collected = last_arrived behind.dag ∷ behind.collected }
collects_the_last p t = with_part p t

-- the state that had arrived last before a line stays kept
abbrev pub keeps_the_old_last : Parts
keeps_the_old_last (ToldLine n count) t =
    record { dag = lengthened t.dag n (replicate count []); collected = row_left (lengthened t.dag n ([] ∷ [])) t.collected n (replicate (count - 1) []) }
keeps_the_old_last p t = with_part p t

-- of each line one state arrives
abbrev pub takes_one : Parts
takes_one (ToldLine n count) t = with_part (ToldLine n 1) t
takes_one p t = with_part p t

-- ===== Tests of parts

-- no part fits
abbrev pub lets_none_in : Fits
lets_none_in limits t p = false

-- what is asked of a record that arrives, but for one thing each
abbrev pub by_states : (Limits → Told → Record → Bool) → Fits
by_states test limits t (ToldState r) = test limits t r
by_states test limits t p = fits_part limits t p

-- a parent may be collected
abbrev pub forgets_kept : Fits
forgets_kept = by_states (λ limits t r.
    is_record r && is_within 1 limits.sites r.id.site && r.id.sequence == count_of_site t.dag r.id.site + 1
    && list_all (is_known t.dag) r.parents && are_apart t.dag r.parents && list_all (takes_child limits t) r.parents
    && is_none (open_conflict t.dag r.parents r.writes) && is_none (growth_refusal limits t.collected t.dag r))

-- a parent may be above another
abbrev pub forgets_apart : Fits
forgets_apart = by_states (λ limits t r.
    is_record r && is_within 1 limits.sites r.id.site && r.id.sequence == count_of_site t.dag r.id.site + 1
    && list_all (is_kept t.dag t.collected) r.parents && list_all (takes_child limits t) r.parents
    && is_none (open_conflict t.dag r.parents r.writes) && is_none (growth_refusal limits t.collected t.dag r))

-- children aren't counted
abbrev pub forgets_children : Fits
forgets_children = by_states (λ limits t r.
    is_record r && is_within 1 limits.sites r.id.site && r.id.sequence == count_of_site t.dag r.id.site + 1
    && list_all (is_kept t.dag t.collected) r.parents && are_apart t.dag r.parents
    && is_none (open_conflict t.dag r.parents r.writes) && is_none (growth_refusal limits t.collected t.dag r))

-- conflict keys need not be written
abbrev pub forgets_conflicts : Fits
forgets_conflicts = by_states (λ limits t r.
    is_record r && is_within 1 limits.sites r.id.site && r.id.sequence == count_of_site t.dag r.id.site + 1
    && list_all (is_kept t.dag t.collected) r.parents && are_apart t.dag r.parents && list_all (takes_child limits t) r.parents
    && is_none (growth_refusal limits t.collected t.dag r))

-- the history may grow without end
abbrev pub forgets_growth : Fits
forgets_growth = by_states (λ limits t r.
    is_record r && is_within 1 limits.sites r.id.site && r.id.sequence == count_of_site t.dag r.id.site + 1
    && list_all (is_kept t.dag t.collected) r.parents && are_apart t.dag r.parents && list_all (takes_child limits t) r.parents
    && is_none (open_conflict t.dag r.parents r.writes))

-- a record fits only where no other one would behind it
abbrev pub fills_up : Fits
fills_up = by_states (λ limits t r. fits_state limits t r && length (kept_states t.dag t.collected) + 1 == limits.max_kept)

-- a line fits where its numbers pass 32 bits
abbrev pub forgets_bits : Fits
forgets_bits limits t (ToldLine n count) = is_within 1 limits.sites n && nat_le 1 count
forgets_bits limits t p = fits_part limits t p

-- a line fits of a site that there isn't
abbrev pub forgets_sites : Fits
forgets_sites limits t (ToldLine n count) = nat_le 1 n && nat_le 1 count && nat_lt (count_of_site t.dag n + count) (2 ^ 32)
forgets_sites limits t p = fits_part limits t p

-- a state may go whose children share no stand-in
abbrev pub forgets_absorbed : Fits
forgets_absorbed limits t (ToldGone x) = is_kept t.dag t.collected x
forgets_absorbed limits t p = fits_part limits t p

-- a state may go that is gone
abbrev pub forgets_gone : Fits
forgets_gone limits t (ToldGone x) = is_known t.dag x && is_absorbed t.dag t.collected x
forgets_gone limits t p = fits_part limits t p

-- ===== Tests of floors

-- no floors fit
abbrev pub lets_no_floors_in : FloorsFit
lets_no_floors_in limits t floors = false

-- only as many states may be told as may be kept
abbrev pub counts_states : FloorsFit
counts_states limits t floors = fits_floors limits t floors && nat_le (length t.dag) limits.max_kept

-- a floor may stand beside what is collected
abbrev pub forgets_closed : FloorsFit
forgets_closed limits t floors =
    length floors == limits.sites && are_sound_floors t.dag 1 floors && list_all (λ f. is_kept t.dag t.collected f.state) floors

-- there may be fewer floors than sites
abbrev pub forgets_some_floors : FloorsFit
forgets_some_floors limits t floors =
    are_sound_floors t.dag 1 floors && list_all (λ f. is_kept t.dag t.collected f.state) floors && list_all (is_closed t.dag floors) t.collected
