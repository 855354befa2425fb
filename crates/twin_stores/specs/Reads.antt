-- Keys that are held and read alike in two histories.
use Rattle.std.specs.Prelude.{◌≡◌, ℕ, Bool, List, IsTrue}
use Rattle.tardis_base.specs.declared.ids.StateId.{StateId}
use Rattle.tardis_base.specs.declared.records.Record.{Record}
use Rattle.plain_dag.specs.Writers.{read}
use Rattle.plain_dag.specs.Collection.{kept_states}
use Rattle.tardis_base.specs.Ids.{is_among}
use Rattle.record_store.specs.Stands.{holds_key}

-- the state holds the key in the other history, and reads the same of it in both
abbrev pub IsReadAlike : List Record → List Record → List StateId → StateId → List ℕ → Type 0
IsReadAlike rs rs' ks' x k = IsTrue (holds_key rs' ks' k x) × (read rs k x ≡ read rs' k x)

-- so it is with each key that was met
abbrev pub AreReadAlike : List Record → List Record → List StateId → StateId → (List ℕ → Bool) → Type 0
AreReadAlike rs rs' ks' x met = (k : List ℕ) → IsTrue (met k) → IsReadAlike rs rs' ks' x k

-- so it is with each key that the state holds in the one
abbrev pub IsHeldAlike : List Record → List StateId → List Record → List StateId → StateId → Type 0
IsHeldAlike rs ks rs' ks' x = AreReadAlike rs rs' ks' x (λ k. holds_key rs ks k x)

-- each kept state of the one holds the same keys in both, and reads the same of them
abbrev pub HoldTheSame : List Record → List StateId → List Record → List StateId → Type 0
HoldTheSame rs ks rs' ks' = (x : StateId) → IsTrue (is_among x (kept_states rs ks)) → IsHeldAlike rs ks rs' ks' x × IsHeldAlike rs' ks' rs ks x
