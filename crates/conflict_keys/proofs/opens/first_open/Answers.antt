use Rattle.std.proofs.Common.{◌≡◌, ◌∙◌, ◌+◌, ◌||◌, not, ℕ, Bool, false, List, Some, IsFalse, map, take, get_or, refl, sym, subst, arith, take_all}
use Rattle.std.specs.Option.{option_copied}
use Rattle.tardis_base.specs.declared.ids.StateId.{StateId}
use Rattle.tardis_base.specs.declared.ids.Slot.{Slot}
use Rattle.tardis_base.specs.declared.records.Record.{Record}
use Rattle.tardis_base.specs.Keys.{has_key}
use Rattle.version_list.specs.Versions.{is_key_in}
use Rattle.plain_dag.specs.Conflicts.{is_conflict_key, conflict_keys}
use Rattle.plain_dag.specs.Collection.{kept_states}
use Rattle.state_dag.specs.Table.{Table, id_at}
use Rattle.state_dag.specs.Stands.{Stands}
use Rattle.branch_region.specs.Regions.{is_above_part}
use Rattle.conflict_keys.specs.Regions.{is_met}
use Rattle.plain_dag.proofs.ConflictKeys.{lists-conflict-keys}
use Rattle.plain_dag.proofs.Ids.{not-both}
use Rattle.conflict_keys.specs.Opens.{IsLeast, is_open_conflict}
use Rattle.conflict_keys.proofs.Walks.{named-next, named-length, named-are_kept, GivesKept}
use Rattle.conflict_keys.proofs.Meetings.{conflict-is_met, met-here, met-passed}
use Rattle.conflict_keys.proofs.Least.{least-of_fewer, least-found}
use Rattle.conflict_keys.proofs.opens.first_open.Goals as goal
use Rattle.conflict_keys.proofs.opens.first_open.Goals.{then-is_above_part, else-is_above_part}

-- where the table stands for a history, this tells whether the state at a place is above a part of the states at these
abbrev TellsPart : Table → List Slot → ℕ → List Slot → Bool → Type 0
TellsPart table slots i ss told = (rs : List Record) (ks : List StateId) → Stands table rs ks → (x : StateId) →
    id_at table (get_or slots i (record { 0 = 0 })) ≡ Some x → (xs : List StateId) → map (id_at table) ss ≡ map (λ y. Some y) xs → told ≡ is_above_part rs x xs

pub loop-slot-init : goal.loop-slot-init
loop-slot-init c = λ rs ks stands xs are. λ k m. not-both false m refl

pub loop-slot-preserved : goal.loop-slot-preserved
loop-slot-preserved c = λ rs ks stands xs are.
    let table = c.args.store.now.table in
    let i = c.loop-slot.slot-index in
    let zs = kept_states rs ks in
    let slots = c.kept_slots-slot-items.result.now in
    let p = is_open_conflict rs xs c.args.writes.now in
    let named = (subst (λ (t : Table). GivesKept t slots) c.dag.ensures c.kept_slots-slot-items.ensures.kept) rs ks stands.table in
    let n = named-next (id_at table) slots zs i (record { 0 = 0 }) named c.loop-slot-test.true in
    let was = is_met rs ks xs (take i zs) in
    let more = is_met rs ks xs (take (i + 1) zs) in
    elim c.if-is_above_part.branch [
      | then-is_above_part v ↦
          let keys = v.keys_at.result.now in
          let wider : List ℕ → Bool = λ k. was k || is_key_in k keys in
          let new = v.least_held-least.ensures rs ks stands xs are was (c.loop-slot.invariant rs ks stands xs are) in
          subst (λ z. IsLeast p more (option_copied z)) (sym v.least-is)
          (least-of_fewer p wider more (option_copied v.least_held-least.result)
          (λ k m. met-here rs ks xs zs i k n.state keys n.got (v.keys_at.ensures rs ks stands n.state n.named k) m) new)
      | else-is_above_part v ↦
          let asked = (subst (λ (t : Table). TellsPart t slots i c.args.states.now c.is_above_part.result) c.dag-in-loop-slot.ensures
          c.is_above_part.ensures) rs ks stands.table n.state n.named xs are in
          let apart : IsFalse (is_above_part rs n.state xs) = sym asked ∙ v.if-is_above_part.false in
          subst (λ z. IsLeast p more (option_copied z)) (sym v.least-is)
          (least-of_fewer p was more (option_copied c.loop-slot.least) (λ k m. met-passed rs ks xs zs i k n.state n.got apart m)
          (c.loop-slot.invariant rs ks stands xs are))
    ]

pub returns : goal.returns
returns c = λ rs ks stands xs are.
    let table = c.args.store.now.table in
    let i = c.loop-slot.slot-index in
    let zs = kept_states rs ks in
    let slots = c.kept_slots-slot-items.result.now in
    let named = (subst (λ (t : Table). GivesKept t slots) c.dag.ensures c.kept_slots-slot-items.ensures.kept) rs ks stands.table in
    let len = named-length (id_at table) slots zs named in
    let law = lists-conflict-keys rs xs in
    let kept = named-are_kept table rs ks stands.table c.args.states.now xs are in
    let least = subst (λ ys. IsLeast (is_open_conflict rs xs c.args.writes.now) (is_met rs ks xs ys) (option_copied c.loop-slot.least))
    (take_all i zs (let end = c.loop-slot-test.false in omega arith)) (c.loop-slot.invariant rs ks stands xs are) in
    least-found (is_conflict_key rs xs) (λ k. not (has_key k c.args.writes.now)) (is_met rs ks xs zs) (conflict_keys rs xs) law.ascends law.complete
    (λ k h. conflict-is_met rs ks table stands.table xs kept k h) (option_copied c.loop-slot.least) least
