-- What a merge reads.
use Rattle.std.specs.Prelude.{◌≡◌, ℕ, List, Option, Some, None}
use Rattle.tardis_base.specs.declared.ids.StateId.{StateId}
use Rattle.tardis_base.specs.declared.records.Record.{Record}
use Rattle.tardis_base.specs.declared.records.Write.{Write}
use Rattle.tardis_base.specs.Ids.{root}
use Rattle.tardis_base.specs.declared.readings.Over.{Over}
use Rattle.tardis_base.specs.declared.readings.Over.TheVariants.{Found, Conflict}
use Rattle.conflict_keys.specs.Values.{OverAs}
use Rattle.version_list.specs.Reads.{found}

-- its own write first, with the root as its writer; without one, what is read over its states
abbrev pub ReadsAs : List Record → List StateId → List ℕ → Option Write → Over → Type 0
ReadsAs rs xs k (Some w) (Found what) = found what ≡ Some (root, w)
ReadsAs rs xs k (Some w) Conflict = ⊥
ReadsAs rs xs k None over = OverAs rs xs k over
