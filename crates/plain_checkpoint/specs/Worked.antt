-- Worked rows of a checkpoint.
use Rattle.std.specs.Prelude.{◌≡◌, ℕ, Bool, true, false, ◌+◌, ◌-◌, ◌^◌, List, [], ◌∷◌, ◌++◌, map, codes, Some}
use Prim.Native.String.{String}
use Rattle.tardis_base.specs.declared.ids.StateId.{StateId}
use Rattle.tardis_base.specs.declared.records.Record.{Record}
use Rattle.tardis_base.specs.declared.records.Limits.{Limits}
use Rattle.tardis_base.specs.declared.records.Write.TheVariants.{Put}
use Rattle.tardis_base.specs.declared.records.Item.TheVariants.{State}
use Rattle.plain_dag.specs.States.{root_record}
use Rattle.plain_dag.specs.Writers.{read}
use Rattle.plain_dag.specs.Collection.{kept_states}
use Rattle.plain_dag.specs.Floors.{Floor, unpromised}
use Rattle.plain_site.specs.Site.{opening}
use Rattle.plain_site.specs.Commits.{with_record}
use Rattle.plain_site.specs.Rest.{News, fits}
use Rattle.plain_site.specs.RowWords.{◌·◌, program_limits}
use Rattle.plain_rows.specs.Rows.{with_row, fits_row}
use Rattle.plain_checkpoint.specs.Checkpoints.{Told, untold, Part, ToldState, ToldLine, ToldGone, with_parts, fits_part, fit_parts, fits_floors}

-- ===== Words

-- the state has these parents, and wrote nothing
abbrev pub bare : StateId → List StateId → Record
bare x parents = record { id = x; parents = parents; writes = [] }

-- it wrote this to the one key that is written here
abbrev pub writing : String → StateId → List StateId → Record
writing value x parents = record { id = x; parents = parents; writes = (codes "x", Put (codes value)) ∷ [] }

-- three sites
abbrev pub limits_of_three : Limits
limits_of_three = program_limits 3

-- ===== A fork that grew together, and is gone

-- site 2 makes a state below the root, and two more below that
abbrev pub one_branch : List Part
one_branch = ToldState (writing "2" (2 · 1) (0 · 0 ∷ [])) ∷ ToldLine 2 2 ∷ []

-- so does site 1, beside it; both wrote the key
abbrev pub other_branch : List Part
other_branch = ToldState (writing "1" (1 · 1) (0 · 0 ∷ [])) ∷ ToldLine 1 2 ∷ []

-- site 3 merges the tips of both
abbrev pub merge : Record
merge = writing "3" (3 · 1) (1 · 3 ∷ 2 · 3 ∷ [])

-- these go then, and with them all but the merge is gone
abbrev pub gone : List Part
gone = ToldGone (1 · 3) ∷ ToldGone (2 · 3) ∷ ToldGone (0 · 0) ∷ []

-- what is told before the merge, behind it, and at the end
abbrev pub forked : Told
forked = with_parts (one_branch ++ other_branch) untold

abbrev pub merged : Told
merged = with_parts (ToldState merge ∷ []) forked

abbrev pub whole : List Part
whole = one_branch ++ other_branch ++ ToldState merge ∷ gone

abbrev pub all_told : Told
all_told = with_parts whole untold

-- sites 1 and 3 promised a floor at the merge; site 2 has promised nothing
abbrev pub floors_at_merge : List Floor
floors_at_merge = record { state = 3 · 1; number = 2; stated = 3 } ∷ unpromised (3 · 1) ∷ record { state = 3 · 1; number = 1; stated = 1 } ∷ []

-- what is told then; the merge alone is kept, and the key reads there as it was merged
abbrev pub ForkIsTold : Type 0
ForkIsTold =
    (all_told.dag
    ≡ merge
    ∷ bare (1 · 3) (1 · 2 ∷ []) ∷ bare (1 · 2) (1 · 1 ∷ []) ∷ writing "1" (1 · 1) (0 · 0 ∷ [])
    ∷ bare (2 · 3) (2 · 2 ∷ []) ∷ bare (2 · 2) (2 · 1 ∷ []) ∷ writing "2" (2 · 1) (0 · 0 ∷ [])
    ∷ root_record ∷ [])
    × (all_told.collected ≡ 0 · 0 ∷ 2 · 3 ∷ 1 · 3 ∷ 1 · 2 ∷ 1 · 1 ∷ 2 · 2 ∷ 2 · 1 ∷ [])
    × (kept_states all_told.dag all_told.collected ≡ 3 · 1 ∷ [])
    × (read all_told.dag (codes "x") (3 · 1) ≡ Some (3 · 1, Put (codes "3")))

-- all of it fits, and then the floors
abbrev pub ForkFits : Type 0
ForkFits = (fit_parts limits_of_three untold whole ≡ true) × (fits_floors limits_of_three all_told floors_at_merge ≡ true)

-- where a row tells how the one branch goes on all floors are there, and the other branch can't begin; where both have begun the
-- later one goes on by a row, but then the other one doesn't
abbrev pub RowsDontTellIt : Type 0
RowsDontTellIt =
    let one = writing "2" (2 · 1) (0 · 0 ∷ []) in
    let other = writing "1" (1 · 1) (0 · 0 ∷ []) in
    let next = bare (2 · 2) (2 · 1 ∷ []) in
    let begun = with_record one (opening limits_of_three 2) in
    let both_begun = with_record other begun in
    let one_longer = with_row 1 2 both_begun in
    (fits_row begun 2 2 ≡ true)
    × (fits (with_row 2 2 begun) (News (State other)) ≡ false)
    × (fits_row both_begun 1 2 ≡ true)
    × (fits one_longer (News (State next)) ≡ true)
    × (fits_row (with_record next one_longer) 2 1 ≡ false)

-- ===== Parts that don't fit

-- whether the part fits behind what is told
abbrev pub part_fits : Told × Part → Bool
part_fits row = fits_part limits_of_three row.0 row.1

-- a state below a collected one, and below an unknown one; one of no site, of a fourth site, out of sequence; a merge that
-- leaves the conflict key unwritten, or of parents that are comparable
abbrev pub StatesThatDontFit : Type 0
StatesThatDontFit =
    map part_fits
    ((forked, ToldState (bare (3 · 1) (1 · 1 ∷ [])))
    ∷ (forked, ToldState (bare (3 · 1) (1 · 4 ∷ [])))
    ∷ (forked, ToldState (bare (0 · 1) (1 · 3 ∷ [])))
    ∷ (forked, ToldState (bare (4 · 1) (1 · 3 ∷ [])))
    ∷ (forked, ToldState (bare (3 · 2) (1 · 3 ∷ [])))
    ∷ (forked, ToldState (bare (3 · 1) (1 · 3 ∷ 2 · 3 ∷ [])))
    ∷ (forked, ToldState (writing "3" (3 · 1) (0 · 0 ∷ 2 · 3 ∷ [])))
    ∷ [])
    ≡ false ∷ false ∷ false ∷ false ∷ false ∷ false ∷ false ∷ []

-- a line of none, of no site, of a fourth site, of one more than the numbers that are left; and then one of all these
abbrev pub LinesThatDontFit : Type 0
LinesThatDontFit =
    map part_fits
    ((forked, ToldLine 1 0)
    ∷ (forked, ToldLine 0 1)
    ∷ (forked, ToldLine 4 1)
    ∷ (forked, ToldLine 1 (2 ^ 32 - 3))
    ∷ (forked, ToldLine 1 (2 ^ 32 - 4))
    ∷ [])
    ≡ false ∷ false ∷ false ∷ false ∷ true ∷ []

-- a state that is gone, that is unknown, that has no child, or whose children have two stand-ins
abbrev pub StatesThatStay : Type 0
StatesThatStay =
    map part_fits
    ((forked, ToldGone (1 · 1))
    ∷ (forked, ToldGone (3 · 1))
    ∷ (forked, ToldGone (1 · 3))
    ∷ (forked, ToldGone (0 · 0))
    ∷ (merged, ToldGone (0 · 0))
    ∷ [])
    ≡ false ∷ false ∷ false ∷ false ∷ false ∷ []

-- ===== Limits

-- the only site may keep so many states
abbrev pub keeping : ℕ → Limits
keeping most = record (program_limits 1) { max_kept = most }

-- whether its state of this number fits behind these parts, with these parents
abbrev pub grows : Limits → List Part → ℕ → List StateId → Bool
grows limits parts n parents = fits_part limits (with_parts parts untold) (ToldState (bare (1 · n) parents))

-- two states below the root
abbrev pub two_below_root : List Part
two_below_root = ToldState (bare (1 · 1) (0 · 0 ∷ [])) ∷ ToldState (bare (1 · 2) (0 · 0 ∷ [])) ∷ []

-- where three are kept a fourth fits if four may be; and a second fork if fork paths may have two pairs
abbrev pub StatesPastLimits : Type 0
StatesPastLimits =
    (grows (keeping 3) two_below_root 3 (1 · 2 ∷ []) ≡ false)
    × (grows (keeping 4) two_below_root 3 (1 · 2 ∷ []) ≡ true)
    × (grows (record (keeping 8) { max_path = 1 }) (two_below_root ++ ToldState (bare (1 · 3) (1 · 2 ∷ [])) ∷ []) 4 (1 · 2 ∷ []) ≡ false)
    × (grows (record (keeping 8) { max_path = 2 }) (two_below_root ++ ToldState (bare (1 · 3) (1 · 2 ∷ [])) ∷ []) 4 (1 · 2 ∷ []) ≡ true)

-- the state of this number arrives below the root and is merged with the one before it, and both are gone then
abbrev pub merged_below_root : ℕ → List Part
merged_below_root n =
    ToldState (bare (1 · n) (0 · 0 ∷ [])) ∷ ToldState (bare (1 · (n + 1)) (1 · (n - 1) ∷ 1 · n ∷ []))
    ∷ ToldGone (1 · (n - 1)) ∷ ToldGone (1 · n) ∷ []

-- four children of the root are gone so; it and the last merge are kept
abbrev pub four_gone : List Part
four_gone = ToldState (bare (1 · 1) (0 · 0 ∷ [])) ∷ merged_below_root 2 ++ merged_below_root 4 ++ merged_below_root 6

-- where no more than four states may be kept, a fifth child doesn't fit; children that are gone count
abbrev pub GoneChildrenCount : Type 0
GoneChildrenCount =
    (fit_parts (keeping 4) untold four_gone ≡ true)
    × (grows (keeping 4) four_gone 8 (0 · 0 ∷ []) ≡ false)
    × (grows (keeping 5) four_gone 8 (0 · 0 ∷ []) ≡ true)

-- ===== Floors that don't fit

-- all is told but that the root is gone
abbrev pub root_stays : Told
root_stays = with_parts (ToldGone (1 · 3) ∷ ToldGone (2 · 3) ∷ []) merged

-- whether these three floors fit, as before any promise
abbrev pub floors_fit : Told × List StateId → Bool
floors_fit row = fits_floors limits_of_three row.0 (map unpromised row.1)

-- three at the merge do; but not where one leaves collected states open, is at a collected one or an unknown one; nor where there
-- are fewer, or more
abbrev pub FloorsThatDontFit : Type 0
FloorsThatDontFit =
    map floors_fit
    ((root_stays, 3 · 1 ∷ 3 · 1 ∷ 3 · 1 ∷ [])
    ∷ (root_stays, 3 · 1 ∷ 3 · 1 ∷ 0 · 0 ∷ [])
    ∷ (root_stays, 3 · 1 ∷ 3 · 1 ∷ 1 · 3 ∷ [])
    ∷ (root_stays, 3 · 1 ∷ 3 · 1 ∷ 3 · 2 ∷ [])
    ∷ (root_stays, 3 · 1 ∷ 3 · 1 ∷ [])
    ∷ (root_stays, 3 · 1 ∷ 3 · 1 ∷ 3 · 1 ∷ 3 · 1 ∷ [])
    ∷ [])
    ≡ true ∷ false ∷ false ∷ false ∷ false ∷ false ∷ []

-- nor where more states of a site were stated than there are
abbrev pub StatedTooMany : Type 0
StatedTooMany =
    fits_floors limits_of_three root_stays (unpromised (3 · 1) ∷ record { state = 3 · 1; number = 1; stated = 4 } ∷ unpromised (3 · 1) ∷ []) ≡ false
