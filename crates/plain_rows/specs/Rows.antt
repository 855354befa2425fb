-- Rows of states that arrive at a site in one step.
use Rattle.std.specs.Prelude.{ℕ, Bool, ◌==◌, ◌+◌, ◌^◌, ◌&&◌, nat_lt, List, [], length, map, replicate}
use Rattle.tardis_base.specs.declared.records.Record.{Record}
use Rattle.tardis_base.specs.Valid.{is_within}
use Rattle.plain_dag.specs.States.{count_of_site}
use Rattle.plain_dag.specs.Begin.{last_arrived}
use Rattle.plain_dag.specs.Floors.{unpromised, are_unpromised_above}
use Rattle.plain_dag.specs.Rows.{lengthened, row_left}
use Rattle.plain_site.specs.Site.{Site}

-- the records with so many states of the site in front, which write nothing: each is below the one before it, the first below
-- the state that had arrived last
abbrev pub row_of : List Record → (n count : ℕ) → List Record
row_of rs n count = lengthened rs n (replicate count [])

-- The history goes on with so many states of one site, which write nothing: each is below the one before it, the first below
-- the state that had arrived last. Each but the last of them is collected, and the state that had arrived last with them.
-- Every floor is at the state that has arrived last then, as before any promise; so a row of no states moves the floors alone.
abbrev pub with_row : (n count : ℕ) → Site → Site
with_row n count site =
    record site {
      dag = row_of site.dag n count;
      collected = row_left site.dag site.collected n (replicate count []);
      floors = map (λ f. unpromised (last_arrived (row_of site.dag n count))) site.floors;
    }

-- a row may arrive: at one of the sites, with numbers of 32 bits; no session is open, and no floor was promised yet, each is at
-- or above the state that arrived last
abbrev pub fits_row : Site → (n count : ℕ) → Bool
fits_row site n count =
    is_within 1 site.limits.sites n && nat_lt (count_of_site site.dag n + count) (2 ^ 32)
    && length site.sessions == 0 && are_unpromised_above site.dag site.floors (last_arrived site.dag)
