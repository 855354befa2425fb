use Rattle.std.proofs.Common.{◌≡◌, ◌∙◌, ◌||◌, ◌&&◌, ◌≤◌, ℕ, Bool, true, false, leb, get_or, IsTrue, refl, sym, ap, ap₂, subst, arith}
use Rattle.std.proofs.lemmas.Bool.{and_right, le-leb}
use Rattle.tardis_base.specs.declared.ids.Slot.{Slot}
use Rattle.fork_path.specs.Pairs.{Pairs, is_same_pair, has_pair, are_ascending_pairs}
use Rattle.state_dag.specs.Grown.{number_of_children}
use Rattle.state_dag.specs.Nodes.{table_of}
use Rattle.state_dag.proofs.Passing.{or-more}
use Rattle.state_dag.proofs.NodeLists.{children-found, place-within}
use Rattle.state_dag.proofs.new_paths.add_last_branches.Goals as goal
use Rattle.state_dag.proofs.new_paths.add_last_branches.Goals.{then-branch-gt0+in_ok-reserve, else-branch-gt0}

-- a branch that is one of some
is-branch : (pair : ℕ × ℕ) (p n m : ℕ) → n ≡ m → 1 ≤ m → (is_same_pair pair (p, n) && leb 1 n) ≡ is_same_pair pair (p, m)
is-branch pair p n m same some = ap (λ z. is_same_pair pair (p, z) && leb 1 z) same ∙ rw (le-leb 1 m some) (both (is_same_pair pair (p, m)))
  where
    both : (b : Bool) → (b && true) ≡ b
    both true = refl
    both false = refl

no-branch : (pair : ℕ × ℕ) (p n : ℕ) → n ≡ 0 → (is_same_pair pair (p, n) && leb 1 n) ≡ false
no-branch pair p n none = and_right (is_same_pair pair (p, n)) (leb 1 n) (ap (leb 1) none)

pub loop-parent-preserved : goal.loop-parent-preserved
loop-parent-preserved c =
    let nodes = c.args.nodes.now in
    let ps = c.args.parents.now in
    let i = c.loop-parent.parent-index in
    let none : Slot = record { 0 = 0 } in
    let place = (get_or ps i none).0 in
    let node = get_or nodes place c.index-nodes-parent.result in
    let table = table_of nodes in
    let test = λ (pair : ℕ × ℕ) (p : Slot). is_same_pair pair (p.0, number_of_children table p) && leb 1 (number_of_children table p) in
    let number : number_of_children table (get_or ps i none) ≡ c.in_ok-branch.branch =
    children-found nodes place c.index-nodes-parent.result (place-within nodes ps i none c.requires (omega arith)) ∙ sym c.len.ensures ∙ sym c.in_ok-branch.ensures.is in
    let old = λ (pair : ℕ × ℕ). has_pair pair c.args.path.now.pairs in
    let now = λ (pair : ℕ × ℕ). has_pair pair c.loop-parent.path.pairs in
    let next = λ (pair : ℕ × ℕ). has_pair pair c.if-branch-gt0.path.pairs in
    elim c.if-branch-gt0.branch [
      | then-branch-gt0+in_ok-reserve w ↦ record {
        pairs = λ pair.
            or-more (test pair) ps i none (old pair) (now pair) (next pair) (omega arith) (c.loop-parent.invariant.pairs pair)
            (ap (λ (q : Pairs). has_pair pair q.pairs) w.path-is
            ∙ w.with_pair.ensures.pairs pair
            ∙ ap₂ (λ a b. a || b)
            (sym (is-branch pair place (number_of_children table (get_or ps i none)) c.in_ok-branch.branch number w.if-branch-gt0.true))
            (ap (has_pair pair) w.reserve.ensures.same));
        ascending = λ up. subst (λ (q : Pairs). IsTrue (are_ascending_pairs q.pairs)) (sym w.path-is) w.with_pair.ensures.ascending;
      }
      | else-branch-gt0 w ↦ record {
        pairs = λ pair.
            or-more (test pair) ps i none (old pair) (now pair) (next pair) (omega arith) (c.loop-parent.invariant.pairs pair)
            (ap (λ (q : Pairs). has_pair pair q.pairs) w.path-is
            ∙ ap (λ b. b || now pair)
            (sym (no-branch pair place (number_of_children table (get_or ps i none))
            (number ∙ (let zero : c.in_ok-branch.branch ≡ 0 = omega (arith, w.if-branch-gt0.false) in zero)))));
        ascending = λ up. subst (λ (q : Pairs). IsTrue (are_ascending_pairs q.pairs)) (sym w.path-is) (c.loop-parent.invariant.ascending up);
      }
    ]
