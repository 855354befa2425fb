use Rattle.std.proofs.Common.{◌≡◌, ◌∙◌, ◌+◌, ◌||◌, ℕ, Bool, List, [], Some, IfOk, IsTrue, map, take, sym, ap, subst, arith, take_all}
use Rattle.std.specs.List.{list_all}
use Rattle.tardis_base.specs.declared.ids.Slot.{Slot}
use Rattle.version_list.specs.Versions.{is_key_in}
use Rattle.state_dag.specs.Table.{Table, id_at, is_slot}
use Rattle.branch_region.specs.Regions.{apart_states}
use Rattle.conflict_keys.specs.Regions.{is_met}
use Rattle.conflict_keys.specs.Pages.{IsPageOf, AreNoted, is_conflict_behind}
use Rattle.conflict_keys.proofs.Walks.{named-next, named-length, named-are_kept, all-got, GivesApart}
use Rattle.conflict_keys.proofs.Meetings.{conflict-is_met, apart-is_met, met-here}
use Rattle.conflict_keys.proofs.Noted.{none-noted, noted-of_fewer, noted-are_all}
use Rattle.conflict_keys.proofs.pages.conflicts.Goals as goal

pub loop-slot-init : goal.loop-slot-init
loop-slot-init c = λ rs ks stands xs are. subst (λ zs. AreNoted (is_conflict_behind rs xs c.args.after.now) (is_met rs ks xs []) zs)
    (sym c.new-noted.ensures.empty) (none-noted (is_conflict_behind rs xs c.args.after.now))

pub keys_at-requires : goal.keys_at-requires
keys_at-requires c =
    let table = c.args.store.now.table in
    let apart : IsTrue (list_all (is_slot table) c.in_ok-above.above.apart.items) =
    subst (λ (t : Table). IsTrue (list_all (is_slot t) c.in_ok-above.above.apart.items)) c.dag.ensures c.in_ok-above.ensures.slots.0 in
    all-got (is_slot table) c.as_slice-slot-items.result.now c.loop-slot.slot-index (record { 0 = 0 })
    (subst (λ (ss : List Slot). IsTrue (list_all (is_slot table) ss)) (sym c.as_slice-slot-items.ensures.value) apart) c.loop-slot-test.true

pub loop-slot-preserved : goal.loop-slot-preserved
loop-slot-preserved c = λ rs ks stands xs are.
    let table = c.args.store.now.table in
    let i = c.loop-slot.slot-index in
    let zs = apart_states rs ks xs in
    let slots = c.as_slice-slot-items.result.now in
    let apart = subst (λ (t : Table). GivesApart t c.args.states.now c.in_ok-above.above.apart.items) c.dag.ensures c.in_ok-above.ensures.apart in
    let named : map (id_at table) slots ≡ map (λ x. Some x) zs = ap (map (id_at table)) c.as_slice-slot-items.ensures.value ∙ apart rs ks stands.table xs are in
    let n = named-next (id_at table) slots zs i (record { 0 = 0 }) named c.loop-slot-test.true in
    let was = is_met rs ks xs (take i zs) in
    let keys = c.keys_at.result.now in
    let wider : List ℕ → Bool = λ k. was k || is_key_in k keys in
    let new = c.in_ok-note_held.ensures rs ks stands xs are was (c.loop-slot.invariant rs ks stands xs are) in
    noted-of_fewer (is_conflict_behind rs xs c.args.after.now) wider (is_met rs ks xs (take (i + 1) zs)) c.note_held.new.noted.keys
    (λ k m. met-here rs ks xs zs i k n.state keys n.got (c.keys_at.ensures rs ks stands n.state n.named k) m) new

pub returns : goal.returns
returns c = λ rs ks stands xs are.
    let table = c.args.store.now.table in
    let i = c.loop-slot.slot-index in
    let zs = apart_states rs ks xs in
    let slots = c.as_slice-slot-items.result.now in
    let apart = subst (λ (t : Table). GivesApart t c.args.states.now c.in_ok-above.above.apart.items) c.dag.ensures c.in_ok-above.ensures.apart in
    let named : map (id_at table) slots ≡ map (λ x. Some x) zs = ap (map (id_at table)) c.as_slice-slot-items.ensures.value ∙ apart rs ks stands.table xs are in
    let len = named-length (id_at table) slots zs named in
    let kept = named-are_kept table rs ks stands.table c.args.states.now xs are in
    let noted = subst (λ ys. AreNoted (is_conflict_behind rs xs c.args.after.now) (is_met rs ks xs ys) c.loop-slot.noted.keys)
    (take_all i zs (let end = c.loop-slot-test.false in omega arith)) (c.loop-slot.invariant rs ks stands xs are) in
    subst (λ keys. IfOk c.page_of.result (IsPageOf keys))
    (sym (noted-are_all rs xs c.args.after.now (is_met rs ks xs zs) c.loop-slot.noted.keys
    (λ k h. apart-is_met rs ks xs k (conflict-is_met rs ks table stands.table xs kept k h)) noted)) c.page_of.ensures
