use Rattle.std.proofs.Common.{◌≡◌, ◌∙◌, ◌||◌, ◌&&◌, ℕ, Bool, true, false, get_or, IsTrue, refl, sym, ap, ap₂, subst, arith}
use Rattle.std.proofs.lemmas.Bool.{and_right}
use Rattle.tardis_base.specs.declared.ids.Slot.{Slot}
use Rattle.fork_path.specs.Pairs.{Pairs, is_same_pair, has_pair, are_ascending_pairs}
use Rattle.state_dag.specs.Nodes.{table_of, leads_to_some}
use Rattle.state_dag.proofs.Passing.{or-more}
use Rattle.state_dag.proofs.new_paths.add_first_branches.Goals as goal
use Rattle.state_dag.proofs.new_paths.add_first_branches.Goals.{then-leads_to_some+in_ok-reserve, else-leads_to_some}

and-true : (a b : Bool) → b ≡ true → (a && b) ≡ a
and-true true b t = t
and-true false b t = refl

pub loop-parent-preserved : goal.loop-parent-preserved
loop-parent-preserved c =
    let ps = c.args.parents.now in
    let i = c.loop-parent.parent-index in
    let none : Slot = record { 0 = 0 } in
    let parent = get_or ps i none in
    let leads = leads_to_some (table_of c.args.nodes.now) ps in
    let test = λ (pair : ℕ × ℕ) (p : Slot). is_same_pair pair (p.0, 0) && leads p in
    let old = λ (pair : ℕ × ℕ). has_pair pair c.args.path.now.pairs in
    let now = λ (pair : ℕ × ℕ). has_pair pair c.loop-parent.path.pairs in
    let next = λ (pair : ℕ × ℕ). has_pair pair c.if-leads_to_some.path.pairs in
    elim c.if-leads_to_some.branch [
      | then-leads_to_some+in_ok-reserve w ↦ record {
        pairs = λ pair.
            or-more (test pair) ps i none (old pair) (now pair) (next pair) (omega arith) (c.loop-parent.invariant.pairs pair)
            (ap (λ (q : Pairs). has_pair pair q.pairs) w.path-is
            ∙ w.with_pair.ensures.pairs pair
            ∙ ap₂ (λ a b. a || b)
            (sym (and-true (is_same_pair pair (parent.0, 0)) (leads parent) (sym c.leads_to_some.ensures ∙ w.if-leads_to_some.true)))
            (ap (has_pair pair) w.reserve.ensures.same));
        ascending = λ up. subst (λ (q : Pairs). IsTrue (are_ascending_pairs q.pairs)) (sym w.path-is) w.with_pair.ensures.ascending;
      }
      | else-leads_to_some w ↦ record {
        pairs = λ pair.
            or-more (test pair) ps i none (old pair) (now pair) (next pair) (omega arith) (c.loop-parent.invariant.pairs pair)
            (ap (λ (q : Pairs). has_pair pair q.pairs) w.path-is
            ∙ ap (λ b. b || now pair)
            (sym (and_right (is_same_pair pair (parent.0, 0)) (leads parent) (sym c.leads_to_some.ensures ∙ w.if-leads_to_some.false))));
        ascending = λ up. subst (λ (q : Pairs). IsTrue (are_ascending_pairs q.pairs)) (sym w.path-is) (c.loop-parent.invariant.ascending up);
      }
    ]
