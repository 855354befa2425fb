-- From which place on no state can be collected.
use Rattle.std.specs.Prelude.{ℕ, List, take, IsTrue, IsFalse}
use Rattle.tardis_base.specs.declared.ids.StateId.{StateId}
use Rattle.tardis_base.specs.declared.records.Record.{Record}
use Rattle.tardis_base.specs.Ids.{is_among}
use Rattle.plain_dag.specs.States.{is_known}
use Rattle.plain_dag.specs.Floors.{Floor}
use Rattle.plain_dag.specs.Collection.{kept_states, is_collectable}

-- no state is collectable but the kept ones before the place
abbrev pub NoneCollectable : List Record → List Floor → List StateId → ℕ → Type 0
NoneCollectable rs floors ks place = (y : StateId) → IsTrue (is_known rs y) → IsFalse (is_among y (take place (kept_states rs ks)))
    → IsFalse (is_collectable rs floors ks y)
