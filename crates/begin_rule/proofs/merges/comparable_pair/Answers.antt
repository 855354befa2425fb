use Rattle.std.proofs.Common.{◌∙◌, ◌+◌, map, drop, Some, IsTrue, sym, ap, subst}
use Rattle.std.specs.List.{list_all}
use Rattle.std.specs.Option.{option_and_then}
use Rattle.std.proofs.lemmas.Option.{same_Some}
use Rattle.std.proofs.lemmas.List.{take_rest}
use Rattle.plain_dag.specs.Above.{comparable_pair}
use Rattle.state_dag.specs.Table.{id_at, is_slot}
use Rattle.begin_rule.proofs.NamedStates.{all-behind, named-next, pair-here, pair-behind}
use Rattle.begin_rule.proofs.merges.comparable_pair.Goals as goal

pub first_comparable-requires-clause-others : goal.first_comparable-requires-clause-others
first_comparable-requires-clause-others c =
    let ss = c.args.slots.now in
    let i = c.loop-place.place in
    subst (λ ts. IsTrue (list_all (is_slot c.args.dag.now) ts)) (sym (take_rest ss (i + 1)))
    (all-behind (is_slot c.args.dag.now) ss i (record { 0 = 0 }) c.loop-place-test.true c.loop-place.invariant.slots)

pub returns-in-Some : goal.returns-in-Some
returns-in-Some c = λ rs ks stands xs are.
    let name = id_at c.args.dag.now in
    let ss = c.args.slots.now in
    let i = c.loop-place.place in
    let n = named-next name ss xs i (record { 0 = 0 }) are c.loop-place-test.true in
    let behind = ap (map name) (take_rest ss (i + 1)) ∙ n.behind in
    let found = sym (c.first_comparable.ensures.first rs ks stands n.state (drop (i + 1) xs) n.named behind)
    ∙ (ap (option_and_then name) c.in-Some.is ∙ c.id_of-in-Some.ensures.is) in
    let same = same_Some c.id_of.result n.state (sym c.id_of.ensures.is ∙ n.named) in
    ap (λ x. Some (x, c.id_of-in-Some.result)) same
    ∙ sym (c.loop-place.invariant.pair rs ks stands xs are ∙ (ap (comparable_pair rs) n.next
    ∙ pair-here rs n.state (drop (i + 1) xs) c.id_of-in-Some.result found))

pub loop-place-preserved : goal.loop-place-preserved
loop-place-preserved c =
    let name = id_at c.args.dag.now in
    let ss = c.args.slots.now in
    let i = c.loop-place.place in
    record {
      slots = all-behind (is_slot c.args.dag.now) ss i (record { 0 = 0 }) c.loop-place-test.true c.loop-place.invariant.slots;
      pair = λ rs ks stands xs are.
          let n = named-next name ss xs i (record { 0 = 0 }) are c.loop-place-test.true in
          let behind = ap (map name) (take_rest ss (i + 1)) ∙ n.behind in
          let none = sym (c.first_comparable.ensures.first rs ks stands n.state (drop (i + 1) xs) n.named behind) ∙ ap (option_and_then name) c.in_default.is in
          c.loop-place.invariant.pair rs ks stands xs are ∙ (ap (comparable_pair rs) n.next ∙ pair-behind rs n.state (drop (i + 1) xs) none);
    }
