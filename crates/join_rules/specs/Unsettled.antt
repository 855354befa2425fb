-- What the list of leaves that rules don't settle answers.
use Rattle.std.specs.Prelude.{◌≡◌, ℕ, true, List, [], ◌∷◌, ◌++◌, Option, Some, None, Result, IfOk}
use Rattle.tardis_base.specs.declared.faults.NoMemory.{NoMemory as OutOfMemory}
use Rattle.tardis_base.specs.declared.ids.StateId.{StateId}
use Rattle.tardis_base.specs.declared.ids.Slot.{Slot}
use Rattle.tardis_base.specs.declared.records.Record.{Record}
use Rattle.plain_dag.specs.Collection.{is_kept}
use Rattle.plain_dag.specs.Forks.{fork_points}
use Rattle.state_dag.specs.Table.{id_at}
use Rattle.record_store.specs.Store.{Store}
use Rattle.record_store.specs.Stands.{StoreStands}
use Rattle.plain_site.specs.Site.{Site}
use Rattle.plain_site.specs.Sound.{IsSound}
use Rattle.rule_list.specs.declared.rules.PrefixRule.{PrefixRule}
use Rattle.join_rules.specs.declared.reasons.NoValue.{NoValue}
use Rattle.join_rules.specs.declared.open_forks.Reason.{Reason}
use Rattle.join_rules.specs.declared.open_forks.Unjoined.{Unjoined}
use Rattle.join_rules.specs.Joints.{in_order}
use Rattle.join_rules.specs.Settlings.{MayBeSettled}
use Rattle.join_rules.specs.Searches.{TwoLeaves, DifferentLeaves}
use Rattle.join_rules.specs.Reasons.{cause_of, obstacle, unjoined_of}

-- of the key over the states of these slots
abbrev pub HasCause : Store → List PrefixRule → Slot → Slot → List ℕ → Result NoValue OutOfMemory → Type 0
HasCause store rules a b k result =
    (rs : List Record) (ks : List StateId) → StoreStands store rs ks → (x y : StateId) → id_at store.table a ≡ Some x → id_at store.table b ≡ Some y →
    ((p : StateId) → fork_points rs (x ∷ y ∷ []) ≡ p ∷ [] → is_kept rs ks p ≡ true) → IfOk result (λ cause. cause ≡ cause_of rules rs x y k)

-- of the states of these slots
abbrev pub HasReason : Store → List PrefixRule → Slot → Slot → Result (Option Reason) OutOfMemory → Type 0
HasReason store rules a b result =
    (rs : List Record) (ks : List StateId) → StoreStands store rs ks → (x y : StateId) → id_at store.table a ≡ Some x → id_at store.table b ≡ Some y →
    MayBeSettled rs ks x y → IfOk result (λ reason. reason ≡ obstacle rules rs x y)

-- of the two leaves in these slots, of which the first has the lesser id
abbrev pub IsUnjoined : Store → List PrefixRule → Slot → Slot → Result (Option Unjoined) OutOfMemory → Type 0
IsUnjoined store rules a b result =
    (site : Site) → StoreStands store site.dag site.collected → IsSound site → (x y : StateId) → id_at store.table a ≡ Some x → id_at store.table b ≡ Some y →
    TwoLeaves site.dag x y → IfOk result (λ two. two ≡ unjoined_of rules site.dag (x, y))

-- of the two leaves in these slots
abbrev pub IsUnjoinedTwo : Store → List PrefixRule → Slot → Slot → Result (Option Unjoined) OutOfMemory → Type 0
IsUnjoinedTwo store rules a b result =
    (site : Site) → StoreStands store site.dag site.collected → IsSound site → (x y : StateId) → id_at store.table a ≡ Some x → id_at store.table b ≡ Some y →
    DifferentLeaves site.dag x y → IfOk result (λ two. two ≡ unjoined_of rules site.dag (in_order x y))

-- these, with the two behind them where they are there
abbrev pub with_found : List Unjoined → Option Unjoined → List Unjoined
with_found found None = found
with_found found (Some two) = found ++ two ∷ []
