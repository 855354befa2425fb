-- Whether a history may grow by a record.
use Rattle.std.specs.Prelude.{◌==◌, List, ◌∷◌, length, Option, Some, if◌then◌else◌}
use Rattle.std.specs.Option.{option_map}
use Rattle.tardis_base.specs.declared.ids.StateId.{StateId}
use Rattle.tardis_base.specs.declared.records.Record.{Record}
use Rattle.tardis_base.specs.declared.records.Limits.{Limits}
use Rattle.tardis_base.specs.declared.replies.Refusal.{Refusal}
use Rattle.tardis_base.specs.declared.replies.Refusal.TheVariants.{Full, PathFull}
use Rattle.plain_dag.specs.Collection.{kept_states}
use Rattle.plain_dag.specs.Paths.{long_path}

-- why the history doesn't grow by the record: as many states are kept as may be; else some state's fork path would be too long
-- afterwards
abbrev pub growth_refusal : Limits → List StateId → List Record → Record → Option Refusal
growth_refusal limits ks rs r =
    let kept = length (kept_states rs ks) in
    let too_long = option_map (λ p. PathFull p.0 p.1) (long_path (r ∷ rs) ks limits.max_path) in
    if kept == limits.max_kept then Some (Full kept) else too_long
