use Rattle.std.proofs.Common.{◌≡◌, ◌∙◌, ◌+◌, ◌||◌, not, Some, Vec, Global, get_or, map, filter, take, IsTrue, IfOk, sym, ap, subst, arith, take_all}
use Rattle.std.specs.List.{list_all, list_any}
use Rattle.std.proofs.lemmas.Bool.{and_parts}
use Rattle.tardis_base.specs.declared.ids.Slot.{Slot}
use Rattle.tardis_base.specs.Ids.{is_among}
use Rattle.plain_dag.specs.States.{children}
use Rattle.plain_dag.specs.Above.{is_above_all}
use Rattle.plain_dag.specs.Forks.{is_fork_point, fork_points}
use Rattle.plain_dag.specs.Collection.{kept_states}
use Rattle.plain_dag.proofs.Searches.{filtered-passes}
use Rattle.state_dag.specs.Table.{id_at, is_slot}
use Rattle.branch_region.specs.Regions.{is_above_part, is_last_shared, shared_states}
use Rattle.branch_region.proofs.Named.{named-next, named-length, passing-more, passing-same, all-got, all-more}
use Rattle.fork_points.specs.Pages.{IsPageOf}
use Rattle.fork_points.proofs.Asked.{shared-asked}
use Rattle.fork_points.proofs.Forks.{forks-of_some, forks-of_none, none-named, few-forks}
use Rattle.fork_points.proofs.fork_points.Goals as goal
use Rattle.fork_points.proofs.fork_points.Goals.{then-not-is_one_above_all+in_ok-push, else-not-is_one_above_all}

pub loop-slot-preserved : goal.loop-slot-preserved
loop-slot-preserved c =
    let table = c.args.dag.now in
    let i = c.loop-slot.slot-index in
    let d : Slot = record { 0 = 0 } in
    let slots = c.as_slice-slot-items.result.now in
    let before = c.loop-slot.invariant in
    let are_slots = subst (λ ss. IsTrue (list_all (is_slot table) ss)) (sym c.as_slice-slot-items.ensures.value) c.in_ok-above.ensures.slots.1 in
    let is_one = all-got (is_slot table) slots i d are_slots c.loop-slot-test.true in
    elim c.if-not-is_one_above_all.branch [
      | then-not-is_one_above_all+in_ok-push w ↦ record {
        slots = subst (λ (v : Vec Slot Global). IsTrue (list_all (is_slot table) v.items)) (sym w.forks-is)
            (subst (λ ss. IsTrue (list_all (is_slot table) ss)) (sym w.in_ok-push.ensures.items)
            (all-more (is_slot table) c.loop-slot.forks.items (get_or slots i d) before.slots is_one));
        forks = λ rs ks stands xs are.
            let zs = shared_states rs ks xs in
            let named : map (id_at table) slots ≡ map (λ x. Some x) zs = ap (map (id_at table)) c.as_slice-slot-items.ensures.value
            ∙ c.in_ok-above.ensures.shared rs ks stands xs are in
            let n = named-next (id_at table) slots zs i d named c.loop-slot-test.true in
            let last = (filtered-passes (is_last_shared rs xs) (kept_states rs ks) n.state n.one).1 in
            let all = (and_parts (is_above_all rs n.state xs) (is_among n.state xs || list_any (λ c. is_above_part rs c xs) (children rs n.state)) last).0 in
            let told = shared-asked table rs ks stands (get_or slots i d) n.state n.named c.args.states.now xs are c.child_slots.result.now
            (c.child_slots.ensures.stand_ins rs ks stands n.state n.named) c.is_one_above_all.result c.is_one_above_all.ensures all in
            let passes : IsTrue (is_fork_point rs xs n.state) = sym told ∙ ap not w.if-not-is_one_above_all.true in
            subst (λ (v : Vec Slot Global). map (id_at table) v.items ≡ map (λ x. Some x) (filter (is_fork_point rs xs) (take (i + 1) zs))) (sym w.forks-is)
            (ap (map (id_at table)) w.in_ok-push.ensures.items ∙ passing-more (id_at table) (is_fork_point rs xs) zs i n.state c.loop-slot.forks.items
            (get_or slots i d) n.next n.named passes (before.forks rs ks stands xs are));
      }
      | else-not-is_one_above_all w ↦ record {
        slots = subst (λ (v : Vec Slot Global). IsTrue (list_all (is_slot table) v.items)) (sym w.forks-is) before.slots;
        forks = λ rs ks stands xs are.
            let zs = shared_states rs ks xs in
            let named : map (id_at table) slots ≡ map (λ x. Some x) zs = ap (map (id_at table)) c.as_slice-slot-items.ensures.value
            ∙ c.in_ok-above.ensures.shared rs ks stands xs are in
            let n = named-next (id_at table) slots zs i d named c.loop-slot-test.true in
            let last = (filtered-passes (is_last_shared rs xs) (kept_states rs ks) n.state n.one).1 in
            let all = (and_parts (is_above_all rs n.state xs) (is_among n.state xs || list_any (λ c. is_above_part rs c xs) (children rs n.state)) last).0 in
            let told = shared-asked table rs ks stands (get_or slots i d) n.state n.named c.args.states.now xs are c.child_slots.result.now
            (c.child_slots.ensures.stand_ins rs ks stands n.state n.named) c.is_one_above_all.result c.is_one_above_all.ensures all in
            subst (λ (v : Vec Slot Global). map (id_at table) v.items ≡ map (λ x. Some x) (filter (is_fork_point rs xs) (take (i + 1) zs))) (sym w.forks-is)
            (passing-same (id_at table) (is_fork_point rs xs) zs i n.state c.loop-slot.forks.items n.next
            (sym told ∙ ap not w.if-not-is_one_above_all.false) (before.forks rs ks stands xs are));
      }
    ]

pub returns-then-is_empty : goal.returns-then-is_empty
returns-then-is_empty c = λ rs ks stands xs are.
    let none = none-named c.args.dag.now rs ks stands c.args.states.now xs (sym c.is_empty.ensures ∙ c.if-is_empty.true) are in
    subst (λ zs. IfOk c.leaf_page.result (IsPageOf (fork_points rs zs))) (sym none)
    (subst (λ zs. IfOk c.leaf_page.result (IsPageOf zs)) (forks-of_none rs) (c.leaf_page.ensures rs ks stands))

pub returns : goal.returns
returns c = λ rs ks stands xs are.
    let table = c.args.dag.now in
    let i = c.loop-slot.slot-index in
    let zs = shared_states rs ks xs in
    let slots = c.as_slice-slot-items.result.now in
    let named : map (id_at table) slots ≡ map (λ x. Some x) zs = ap (map (id_at table)) c.as_slice-slot-items.ensures.value
    ∙ c.in_ok-above.ensures.shared rs ks stands xs are in
    let len = named-length (id_at table) slots zs named in
    let whole = take_all i zs (let end = c.loop-slot-test.false in omega arith) in
    let some = forks-of_some table rs ks stands c.args.states.now xs (sym c.is_empty.ensures ∙ c.if-is_empty.false) are in
    let forks = ap (map (id_at table)) c.as_slice.ensures.value
    ∙ (c.loop-slot.invariant.forks rs ks stands xs are ∙ ap (map (λ x. Some x)) (ap (filter (is_fork_point rs xs)) whole ∙ some)) in
    c.page_of.ensures (fork_points rs xs) forks (few-forks table rs ks stands c.args.states.now xs are)
