-- Rows of states: all of one site, each below the one that arrived before it.
use Rattle.std.specs.Prelude.{◌≡◌, ℕ, ◌+◌, List, [], ◌∷◌}
use Rattle.tardis_base.specs.declared.ids.StateId.{StateId}
use Rattle.tardis_base.specs.declared.records.Record.{Record}
use Rattle.tardis_base.specs.Keys.{KeyWrite}
use Rattle.tardis_base.specs.Ids.{root}
use Rattle.plain_dag.specs.States.{root_record, count_of_site}
use Rattle.plain_dag.specs.Begin.{last_arrived}

-- the next record of the site, below the state that arrived last
abbrev pub next_below : List Record → ℕ → List KeyWrite → Record
next_below rs site ws = record { id = record { site = site; sequence = count_of_site rs site + 1 }; parents = last_arrived rs ∷ []; writes = ws }

-- the records with a row of the site in front: a state for each of these writes, the newest first
abbrev pub lengthened : List Record → ℕ → List (List KeyWrite) → List Record
lengthened rs site [] = rs
lengthened rs site (ws ∷ wss) =
    let older = lengthened rs site wss in next_below older site ws ∷ older

-- the collected states then: each state that one of the row is below has joined them
abbrev pub row_left : List Record → List StateId → ℕ → List (List KeyWrite) → List StateId
row_left rs ks site [] = ks
row_left rs ks site (ws ∷ wss) = last_arrived (lengthened rs site wss) ∷ row_left rs ks site wss

-- ===== A row

-- the state of site 1 with this number, below that one
abbrev pub below : ℕ → StateId → Record
below n p = record { id = record { site = 1; sequence = n }; parents = p ∷ []; writes = [] }

-- two states of site 1 below the root: 1.1 and 1.2
abbrev pub TwoBelowTheRoot : Type 0
TwoBelowTheRoot = lengthened (root_record ∷ []) 1 ([] ∷ [] ∷ []) ≡ below 2 (record { site = 1; sequence = 1 }) ∷ below 1 root ∷ root_record ∷ []

-- the root and 1.1 are collected then
abbrev pub TwoAreCollected : Type 0
TwoAreCollected = row_left (root_record ∷ []) [] 1 ([] ∷ [] ∷ []) ≡ record { site = 1; sequence = 1 } ∷ root ∷ []
