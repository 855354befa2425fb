use Rattle.std.proofs.Common.{◌≡◌, ◌∙◌, ◌++◌, ◌∷◌, ◌+◌, [], ℕ, Bool, cond, List, filter, map, sym, ap, arith, append_assoc}
use Rattle.std.specs.List.{range_with_len}
use Rattle.std.proofs.lemmas.List.{append-nil}
use Rattle.std.proofs.lemmas.List.FromFn.{filter_of_map_range_with_len_more}
use Rattle.tardis_base.specs.declared.ids.StateId.{StateId}
use Rattle.fork_path.specs.Pairs.{has_pair}
use Rattle.state_dag.proofs.named_paths.add_branches.Goals as goal
use Rattle.state_dag.proofs.named_paths.add_branches.Goals.{then-contains+in_ok-push, else-contains}

-- behind some, the branches of one more number
one-more : (p : StateId × ℕ → Bool) (x : StateId) (k : ℕ) (b : Bool) (first old new : List (StateId × ℕ)) → b ≡ p (x, k) → old ≡ first
    ++ filter p (map (λ n. (x, n)) (range_with_len 0 k)) → new ≡ old ++ cond b ((x, k) ∷ []) [] →
    new ≡ first ++ filter p (map (λ n. (x, n)) (range_with_len 0 (k + 1)))
one-more p x k b first old new is held put =
    let made : ℕ → StateId × ℕ = λ n. (x, n) in
    let before = filter p (map made (range_with_len 0 k)) in
    put ∙ ap (λ l. l ++ cond b ((x, k) ∷ []) []) held ∙ append_assoc first before (cond b ((x, k) ∷ []) [])
    ∙ ap (λ l. first ++ l) (ap (λ c. before ++ cond c ((x, k) ∷ []) []) is ∙ sym (filter_of_map_range_with_len_more p made 0 k k (omega arith)))

pub loop-branch-preserved : goal.loop-branch-preserved
loop-branch-preserved c =
    let p : StateId × ℕ → Bool = λ b. has_pair (c.args.slot.0, b.1) c.args.path.now.pairs in
    let x = c.args.node.now.id in
    let k = c.loop-branch.branch in
    let items = c.if-contains.named.items in
    elim c.if-contains.branch [
      | then-contains+in_ok-push w ↦
          one-more p x k c.contains.result c.args.named.now.items c.loop-branch.named.items items c.contains.ensures c.loop-branch.invariant
          (ap (λ v. v.items) w.named-is ∙ w.in_ok-push.ensures.items ∙ ap (λ b. c.loop-branch.named.items ++ cond b ((x, k) ∷ []) []) (sym w.if-contains.true))
      | else-contains w ↦
          one-more p x k c.contains.result c.args.named.now.items c.loop-branch.named.items items c.contains.ensures c.loop-branch.invariant
          (ap (λ v. v.items) w.named-is ∙ sym (append-nil c.loop-branch.named.items)
          ∙ ap (λ b. c.loop-branch.named.items ++ cond b ((x, k) ∷ []) []) (sym w.if-contains.false))
    ]
