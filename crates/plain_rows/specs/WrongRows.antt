-- Wrong rows, and wrong tests of when one may arrive. Each is the right one but for one thing.
use Rattle.std.specs.Prelude.{◌==◌, ◌+◌, ◌-◌, ◌^◌, false, ◌&&◌, nat_lt, [], ◌∷◌, length, replicate}
use Rattle.std.specs.List.{list_all}
use Rattle.tardis_base.specs.Valid.{is_within}
use Rattle.plain_dag.specs.Floors.{are_unpromised_above}
use Rattle.plain_dag.specs.States.{count_of_site}
use Rattle.plain_dag.specs.Above.{is_above}
use Rattle.plain_dag.specs.Begin.{last_arrived}
use Rattle.plain_dag.specs.Rows.{row_left}
use Rattle.plain_rows.specs.Rows.{row_of, with_row}
use Rattle.plain_rows.specs.Laws.{Rows, Fits}

-- the law doesn't hold
abbrev pub IsBroken : Type 0 → Type 0
IsBroken Law = Law → ⊥

-- the floors stay where they were
abbrev pub leaves_floors : Rows
leaves_floors n count site = record (with_row n count site) { floors = site.floors }

-- the last of the row is collected too
abbrev pub collects_the_last : Rows
collects_the_last n count site =
    record (with_row n count site) { collected = last_arrived (row_of site.dag n count) ∷ (with_row n count site).collected }

-- the state that had arrived last stays kept
abbrev pub keeps_the_old_last : Rows
keeps_the_old_last n count site = record (with_row n count site) { collected = row_left (row_of site.dag n 1) site.collected n (replicate (count - 1) []) }

-- of each row one state arrives
abbrev pub takes_one : Rows
takes_one n count site = with_row n 1 site

-- no row fits
abbrev pub lets_none_in : Fits
lets_none_in site n count = false

-- a row fits though a floor was promised
abbrev pub forgets_promises : Fits
forgets_promises site n count =
    is_within 1 site.limits.sites n && nat_lt (count_of_site site.dag n + count) (2 ^ 32)
    && length site.sessions == 0 && list_all (λ f. is_above site.dag f.state (last_arrived site.dag)) site.floors

-- a row fits though a session is open
abbrev pub forgets_sessions : Fits
forgets_sessions site n count =
    is_within 1 site.limits.sites n && nat_lt (count_of_site site.dag n + count) (2 ^ 32)
    && are_unpromised_above site.dag site.floors (last_arrived site.dag)

-- a row fits though a floor is beside the state that arrived last
abbrev pub forgets_places : Fits
forgets_places site n count =
    is_within 1 site.limits.sites n && nat_lt (count_of_site site.dag n + count) (2 ^ 32)
    && length site.sessions == 0 && list_all (λ f. f.number == 0) site.floors

-- a row fits where its numbers pass 32 bits
abbrev pub forgets_bits : Fits
forgets_bits site n count =
    is_within 1 site.limits.sites n && length site.sessions == 0
    && are_unpromised_above site.dag site.floors (last_arrived site.dag)
