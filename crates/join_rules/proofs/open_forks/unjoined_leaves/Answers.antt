use Rattle.std.proofs.Common.{◌≡◌, ◌+◌, ◌-◌, List, length, map, drop, Some, IsTrue, refl, sym, ap, subst, ◌∙◌, arith}
use Rattle.std.specs.List.{list_all}
use Rattle.std.proofs.lemmas.List.{take_rest}
use Rattle.plain_dag.specs.Forks.{leaves}
use Rattle.state_dag.specs.Stands.{Stands}
use Rattle.state_dag.specs.Table.{id_at, is_slot}
use Rattle.begin_rule.proofs.NamedStates.{all-behind, named-next}
use Rattle.join_rules.specs.declared.open_forks.Unjoined.{Unjoined}
use Rattle.join_rules.specs.Joints.{last_ones, pairs}
use Rattle.join_rules.proofs.JointLaws.{last-named, dropped-all, leaves-behind, none-left}
use Rattle.join_rules.proofs.ReasonLaws.{FoundOf, found-of-next, found-of-end}
use Rattle.join_rules.proofs.open_forks.unjoined_leaves.Goals as goal

pub loop-place-init : goal.loop-place-init
loop-place-init c =
    let slots = c.leaf_slots.result.now in
    let last = c.last_ones-leaves.result.now in
    let is = c.last_ones-leaves.ensures in
    record {
      slots = subst (λ t. IsTrue (list_all (is_slot t) last)) c.dag.ensures
          (subst (λ zs. IsTrue (list_all (is_slot c.dag.result.now) zs)) (sym is)
          (dropped-all (is_slot c.dag.result.now) (length slots - 16) slots c.leaf_slots.ensures.slots));
      named = λ site stands sound.
          last-named (id_at c.args.store.now.table) slots last (leaves site.dag)
          (subst (λ t. map (id_at t) slots ≡ map (λ x. Some x) (leaves site.dag)) c.dag.ensures
          (c.leaf_slots.ensures.leaves site.dag site.collected (subst (λ t. Stands t site.dag site.collected) (sym c.dag.ensures) stands.table))) is;
      found = λ site stands sound.
          subst (λ (found : List Unjoined). FoundOf c.args.rules.now site.dag (last_ones (leaves site.dag)) 0 found) (sym c.new-found.ensures.items) refl;
    }

pub put_with-requires-clause-others : goal.put_with-requires-clause-others
put_with-requires-clause-others c =
    let last = c.last_ones-leaves.result.now in
    let i = c.loop-place.place in
    let p = is_slot c.args.store.now.table in
    subst (λ ts. IsTrue (list_all p ts)) (sym (take_rest last (i + 1)))
    (all-behind p last i (record { 0 = 0 }) c.loop-place-test.true c.loop-place.invariant.slots)

pub loop-place-preserved : goal.loop-place-preserved
loop-place-preserved c =
    let name = id_at c.args.store.now.table in
    let last = c.last_ones-leaves.result.now in
    let i = c.loop-place.place in
    let p = is_slot c.args.store.now.table in
    record {
      slots = all-behind p last i (record { 0 = 0 }) c.loop-place-test.true c.loop-place.invariant.slots;
      named = c.loop-place.invariant.named;
      found = λ site stands sound.
          let xs = last_ones (leaves site.dag) in
          let n = named-next name last xs i (record { 0 = 0 }) (c.loop-place.invariant.named site stands sound) c.loop-place-test.true in
          let behind = ap (map name) (take_rest last (i + 1)) ∙ n.behind in
          let apart = leaves-behind site sound (length (leaves site.dag) - 16) i n.state (drop (i + 1) xs) n.next in
          found-of-next c.args.rules.now site.dag n.state xs i c.loop-place.found.items c.put_with.new.found.items
          (c.loop-place.invariant.found site stands sound) n.next (c.in_ok-put_with.ensures site stands sound n.state (drop (i + 1) xs) n.named behind apart);
    }

pub returns : goal.returns
returns c = λ site stands sound.
    let name = id_at c.args.store.now.table in
    let last = c.last_ones-leaves.result.now in
    let xs = last_ones (leaves site.dag) in
    let none = none-left name last xs (c.loop-place.invariant.named site stands sound) c.loop-place.place (omega (arith, c.loop-place-test.false)) in
    found-of-end c.args.rules.now site.dag xs c.loop-place.place c.loop-place.found.items (c.loop-place.invariant.found site stands sound) none
