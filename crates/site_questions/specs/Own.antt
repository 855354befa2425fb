-- The keys that a state itself wrote.
use Rattle.std.specs.Prelude.{ℕ, Bool, false, List, Option}
use Rattle.std.specs.Option.{option_map_or}
use Rattle.tardis_base.specs.declared.ids.StateId.{StateId}
use Rattle.tardis_base.specs.declared.records.Record.{Record}
use Rattle.tardis_base.specs.declared.records.Write.{Write}
use Rattle.tardis_base.specs.Ids.{same_id}
use Rattle.plain_dag.specs.Writers.{read}

-- what was read is what this state wrote
abbrev pub reads_own : StateId → Option (StateId × Write) → Bool
reads_own x found = option_map_or (λ (w : StateId × Write). same_id x w.0) found false

-- what is read of the key at the state is what the state itself wrote
abbrev pub is_own : List Record → StateId → List ℕ → Bool
is_own rs x k = reads_own x (read rs k x)
