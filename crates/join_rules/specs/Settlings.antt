-- What the settling of two states answers.
use Rattle.std.specs.List.{list_all}
use Rattle.std.specs.Option.{option_and_then}
use Rattle.tardis_base.specs.declared.records.Write.{Write}
use Rattle.std.specs.Prelude.{IsTrue, ◌==◌, slice_get, if◌then◌else◌, ◌≡◌, ℕ, true, false, nat_lt, min, length, List, [], ◌∷◌, Option, Some, None, Result}
use Rattle.std.specs.Prelude.{IfOk}
use Rattle.tardis_base.specs.declared.faults.NoMemory.{NoMemory as OutOfMemory}
use Rattle.tardis_base.specs.declared.ids.StateId.{StateId}
use Rattle.tardis_base.specs.declared.ids.Slot.{Slot}
use Rattle.tardis_base.specs.declared.records.Record.{Record}
use Rattle.tardis_base.specs.Sizes.{most_writes}
use Rattle.tardis_base.specs.Valid.{is_key}
use Rattle.tardis_base.specs.Keys.{are_ascending_keys}
use Rattle.plain_dag.specs.Collection.{is_kept}
use Rattle.plain_dag.specs.Forks.{fork_points}
use Rattle.plain_dag.specs.Writers.{read}
use Rattle.state_dag.specs.Stands.{Stands}
use Rattle.state_dag.specs.Table.{Table, id_at}
use Rattle.record_store.specs.Store.{Store}
use Rattle.record_store.specs.Stands.{StoreStands}
use Rattle.plain_dag.specs.Conflicts.{conflict_keys}
use Rattle.join_rules.specs.declared.settling.Settled.{Settled}
use Rattle.join_rules.specs.declared.settling.Settled.TheVariants.{Wide, Unmerged, Values}
use Rattle.join_rules.specs.Valued.{value_of, unmerged, values}
use Rattle.rule_list.specs.declared.rules.PrefixRule.{PrefixRule}

-- the conflict keys of the two states are too many, or one of them has no value, or these are their values
abbrev pub SettledAs : List PrefixRule → List Record → StateId → StateId → Settled → Type 0
SettledAs rules rs a b (Wide n) = (nat_lt most_writes (length (conflict_keys rs (a ∷ b ∷ []))) ≡ true) × (n ≡ min (length (conflict_keys rs (a ∷ b ∷ []))) 4294967295)
SettledAs rules rs a b (Unmerged k) = (nat_lt most_writes (length (conflict_keys rs (a ∷ b ∷ []))) ≡ false)
    × (unmerged (value_of rules rs a b) (conflict_keys rs (a ∷ b ∷ [])) ≡ Some k)
SettledAs rules rs a b (Values ws) =
    (nat_lt most_writes (length (conflict_keys rs (a ∷ b ∷ []))) ≡ false) × (unmerged (value_of rules rs a b) (conflict_keys rs (a ∷ b ∷ [])) ≡ None)
    × (ws ≡ values (value_of rules rs a b) (conflict_keys rs (a ∷ b ∷ [])))

-- what the settling of two states may rely on: their conflict keys are keys, and where they part at one state, that is kept
pub record MayBeSettled (rs : List Record) (ks : List StateId) (a b : StateId) : Type 0 where
  pub keys : IsTrue (list_all is_key (conflict_keys rs (a ∷ b ∷ [])))
  pub forks : (p : StateId) → fork_points rs (a ∷ b ∷ []) ≡ p ∷ [] → is_kept rs ks p ≡ true

-- the conflict keys of the states of these slots are settled
abbrev pub SettlesAs : Store → List PrefixRule → Slot → Slot → Result Settled OutOfMemory → Type 0
SettlesAs store rules a b result =
    (rs : List Record) (ks : List StateId) → StoreStands store rs ks → (x y : StateId) → id_at store.table a ≡ Some x → id_at store.table b ≡ Some y →
    MayBeSettled rs ks x y → IfOk result (SettledAs rules rs x y)

-- the slot is that of the only one of these states; there is none where they are none or more
abbrev pub IsParting : Table → List StateId → Option Slot → Type 0
IsParting table [] slot = slot ≡ None
IsParting table (p ∷ []) slot = option_and_then (id_at table) slot ≡ Some p
IsParting table (p ∷ q ∷ ps) slot = slot ≡ None

-- where the states of these slots part
abbrev pub PartsAs : Table → Slot → Slot → Result (Option Slot) OutOfMemory → Type 0
PartsAs table a b result =
    (rs : List Record) (ks : List StateId) → Stands table rs ks → (x y : StateId) → id_at table a ≡ Some x → id_at table b ≡ Some y →
    ((p : StateId) → fork_points rs (x ∷ y ∷ []) ≡ p ∷ [] → is_kept rs ks p ≡ true) → IfOk result (IsParting table (fork_points rs (x ∷ y ∷ [])))

-- the first of these, where there is one in all
abbrev pub only : ℕ → List StateId → Option StateId
only total first = if total == 1 then slice_get first 0 else None

-- what is read of the key where two states part; nothing where that isn't known
abbrev pub BeganAs : Store → Option Slot → List ℕ → Result (Option (StateId × Write)) OutOfMemory → Type 0
BeganAs store None k result = IfOk result (λ began. began ≡ None)
BeganAs store (Some slot) k result =
    (rs : List Record) (ks : List StateId) → StoreStands store rs ks → (p : StateId) → id_at store.table slot ≡ Some p
    → IfOk result (λ began. began ≡ read rs k p)

-- the values of these keys, which ascend; or the first that has none
abbrev pub IsValued : (List ℕ → Option Write) → List (List ℕ) → Settled → Type 0
IsValued value ks (Wide n) = ⊥
IsValued value ks (Unmerged k) = unmerged value ks ≡ Some k
IsValued value ks (Values ws) = (unmerged value ks ≡ None) × (ws ≡ values value ks)

abbrev pub ValuesAs : Store → List PrefixRule → Option Slot → Slot → Slot → List (List ℕ) → Result Settled OutOfMemory → Type 0
ValuesAs store rules parting a b keys result =
    (rs : List Record) (ks : List StateId) → StoreStands store rs ks → (x y : StateId) → id_at store.table a ≡ Some x → id_at store.table b ≡ Some y →
    IsParting store.table (fork_points rs (x ∷ y ∷ [])) parting → IsTrue (are_ascending_keys keys) → IfOk result (IsValued (value_of rules rs x y) keys)
