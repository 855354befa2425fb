-- The states that an open transaction reads.
use Rattle.std.specs.Prelude.{List, [], ◌∷◌}
use Rattle.tardis_base.specs.declared.ids.StateId.{StateId}
use Rattle.merge_txn.specs.declared.Txn.{Txn}
use Rattle.merge_txn.specs.declared.Txn.TheVariants.{Single, Merge}

-- the states that the transaction reads
abbrev pub states_of : Txn → List StateId
states_of (Single t) = t.state ∷ []
states_of (Merge t) = t.states
