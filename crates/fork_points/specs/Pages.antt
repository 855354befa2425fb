-- What a page of states holds.
use Rattle.std.specs.Prelude.{◌≡◌, List, length, take}
use Rattle.tardis_base.specs.declared.ids.StateId.{StateId}
use Rattle.tardis_base.specs.Sizes.{most_named}
use Rattle.fork_points.specs.declared.StatePage.{StatePage}

-- how many these states are, and the first 256 of them
abbrev pub IsPageOf : List StateId → StatePage → Type 0
IsPageOf xs page = (page.total ≡ length xs) × (page.first ≡ take most_named xs)
