-- What the value of a key over several states is answered as.
use Rattle.std.specs.Prelude.{◌≡◌, ℕ, List, IsTrue, IsFalse}
use Rattle.tardis_base.specs.declared.ids.StateId.{StateId}
use Rattle.tardis_base.specs.declared.records.Record.{Record}
use Rattle.tardis_base.specs.declared.readings.Over.{Over}
use Rattle.tardis_base.specs.declared.readings.Over.TheVariants.{Found as IsFound, Conflict}
use Rattle.plain_dag.specs.Conflicts.{is_conflict_key, value_over}
use Rattle.version_list.specs.Reads.{found}

-- a conflict exactly where it is a conflict key, and else its value
abbrev pub OverAs : List Record → List StateId → List ℕ → Over → Type 0
OverAs rs xs k Conflict = IsTrue (is_conflict_key rs xs k)
OverAs rs xs k (IsFound f) = IsFalse (is_conflict_key rs xs k) × (found f ≡ value_over rs xs k)
