-- Worked rows of states.
use Rattle.std.specs.Prelude.{◌≡◌, ℕ, Bool, true, false, ◌-◌, ◌^◌, List, [], ◌∷◌, map}
use Rattle.tardis_base.specs.declared.records.Record.{Record}
use Rattle.plain_dag.specs.States.{root_record}
use Rattle.plain_dag.specs.Collection.{kept_states}
use Rattle.plain_dag.specs.Floors.{opening_session, unpromised}
use Rattle.tardis_base.specs.declared.ids.StateId.{StateId}
use Rattle.plain_site.specs.Site.{Site, opening}
use Rattle.plain_site.specs.RowWords.{◌·◌, program_limits}
use Rattle.plain_rows.specs.Rows.{with_row, fits_row}

-- site 2 of three, as it opens
abbrev pub three_sites : Site
three_sites = opening (program_limits 3) 2

-- two states of site 1 arrive, and then one of site 3
abbrev pub two_arrived : Site
two_arrived = with_row 1 2 three_sites

abbrev pub three_arrived : Site
three_arrived = with_row 3 1 two_arrived

-- the state has this one parent, and wrote nothing
abbrev pub bare : (x parent : StateId) → Record
bare x parent = record { id = x; parents = parent ∷ []; writes = [] }

-- the history, the collected states, and the floors; one state is kept
abbrev pub TwoRowsArrive : Type 0
TwoRowsArrive =
    (three_arrived.dag ≡ bare (3 · 1) (1 · 2) ∷ bare (1 · 2) (1 · 1) ∷ bare (1 · 1) (0 · 0) ∷ root_record ∷ [])
    × (three_arrived.collected ≡ (1 · 2) ∷ (1 · 1) ∷ (0 · 0) ∷ [])
    × (three_arrived.floors ≡ unpromised (3 · 1) ∷ unpromised (3 · 1) ∷ unpromised (3 · 1) ∷ [])
    × (kept_states three_arrived.dag three_arrived.collected ≡ (3 · 1) ∷ [])

-- whether rows may arrive: of so many states of this site, at that one
abbrev pub may_arrive : List (Site × ℕ × ℕ) → List Bool
may_arrive rows = map (λ (row : Site × ℕ × ℕ). fits_row row.0 row.1 row.2) rows

-- they did
abbrev pub BothRowsFit : Type 0
BothRowsFit = may_arrive ((three_sites, 1, 2) ∷ (two_arrived, 3, 1) ∷ []) ≡ true ∷ true ∷ []

-- three sites, one of which promised that floor
abbrev pub promised_by_one : Site
promised_by_one = record three_sites { floors = unpromised (0 · 0) ∷ unpromised (0 · 0) ∷ record { state = 0 · 0; number = 1; stated = 0 } ∷ [] }

-- a session is open
abbrev pub opened_by_one : Site
opened_by_one = record three_sites { sessions = (7, opening_session false (0 · 0)) ∷ [] }

-- the only site has made a chain of two, which its floor is at the end of, and then a state beside it
abbrev pub forked : Site
forked =
    record (opening (program_limits 1) 1) {
      dag = bare (1 · 3) (0 · 0) ∷ bare (1 · 2) (1 · 1) ∷ bare (1 · 1) (0 · 0) ∷ root_record ∷ [];
      floors = unpromised (1 · 2) ∷ [];
    }

-- there is no row of no site, of a fourth site, of more states than numbers of 32 bits, or of one more
-- than those that are left; nor is there one where a floor was promised, where a session is open, or where a floor is beside the
-- state that arrived last
abbrev pub OtherRowsDont : Type 0
OtherRowsDont =
    may_arrive
    ((three_sites, 0, 1)
    ∷ (three_sites, 4, 1)
    ∷ (three_sites, 1, 2 ^ 32)
    ∷ (two_arrived, 1, 2 ^ 32 - 2)
    ∷ (promised_by_one, 1, 1)
    ∷ (opened_by_one, 1, 1)
    ∷ (forked, 1, 1)
    ∷ [])
    ≡ false ∷ false ∷ false ∷ false ∷ false ∷ false ∷ false ∷ []

-- the most that there may be, in the first row and in a later one
abbrev pub MostStatesFit : Type 0
MostStatesFit = may_arrive ((three_sites, 1, 2 ^ 32 - 1) ∷ (two_arrived, 1, 2 ^ 32 - 3) ∷ []) ≡ true ∷ true ∷ []

-- site 1 has made a state, and all floors are at the root still
abbrev pub one_made : Site
one_made = record three_sites { dag = bare (1 · 1) (0 · 0) ∷ root_record ∷ [] }

-- a row of no states may arrive there, and at a site that opens; it moves the floors to that state, and that is all
abbrev pub EmptyRowMovesFloors : Type 0
EmptyRowMovesFloors =
    (may_arrive ((one_made, 2, 0) ∷ (three_sites, 1, 0) ∷ []) ≡ true ∷ true ∷ [])
    × (with_row 2 0 one_made ≡ record one_made { floors = unpromised (1 · 1) ∷ unpromised (1 · 1) ∷ unpromised (1 · 1) ∷ [] })
