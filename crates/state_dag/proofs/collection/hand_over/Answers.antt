use Rattle.std.proofs.Common.{◌≡◌, ◌∙◌, ◌+◌, ◌++◌, ◌<◌, ◌||◌, ℕ, Bool, true, false, eqb, cond, List, [], ◌∷◌, length, take, drop, get_or, ltb, inl, inr, refl, sym, ap, subst}
use Rattle.std.proofs.lemmas.Bool.{cases_Bool}
use Rattle.std.specs.List.{list_all}
use Rattle.std.proofs.lemmas.List.{take_rest, take-append-drop}
use Rattle.tardis_base.specs.declared.ids.Slot.{Slot}
use Rattle.fork_path.specs.Pairs.{are_ascending_pairs}
use Rattle.state_dag.specs.Views.{entry_of}
use Rattle.state_dag.specs.Table.{Entry}
use Rattle.state_dag.specs.Grown.{is_slot_among}
use Rattle.state_dag.specs.Detached.{passing_on, forgetting, changed_at}
use Rattle.state_dag.proofs.Memory.{take-all}
use Rattle.state_dag.proofs.LeftNodes.{drop-all}
use Rattle.state_dag.proofs.collection.hand_over.Goals as goal

pub pass_on-requires : goal.pass_on-requires
pass_on-requires c =
    let before = take c.args.place c.args.kept.now in
    subst (λ (ss : List Slot). list_all (λ (s : Slot). ltb s.0 (length c.args.nodes.now.items)) ss ≡ true) (sym (take_rest before c.args.first))
    (drop-all (λ s. ltb s.0 (length c.args.nodes.now.items)) c.args.first before
    (take-all (λ s. ltb s.0 (length c.args.nodes.now.items)) c.args.place c.args.kept.now c.requires.places))

-- a change that does nothing at the first slots is one at the others
changed-less : (change : Entry → Entry) (ys zs : List Slot) (e : Entry) → (is_slot_among e.slot ys ≡ true → change e ≡ e) →
    changed_at change zs e ≡ changed_at change (ys ++ zs) e
changed-less change [] zs e same = refl
changed-less change (y ∷ ys) zs e same = elim (cases_Bool (eqb y.0 e.slot.0)) [
  | inl t ↦
      let still = same (ap (λ b. b || is_slot_among e.slot ys) t) in
      rw t (go (is_slot_among e.slot zs) still ∙ sym still)
  | inr f ↦ rw f (changed-less change ys zs e (λ there. same (rw f there)))
]
  where
    go : (b : Bool) → change e ≡ e → cond b (change e) e ≡ e
    go true still = still
    go false still = refl

pub forget-requires : goal.forget-requires
forget-requires c =
    let n = c.args.place + 1 in
    subst (λ (ss : List Slot). list_all (λ (s : Slot). ltb s.0 (length c.pass_on.new.nodes.items)) ss ≡ true) (sym (take_rest c.args.kept.now n))
    (subst (λ (m : ℕ). list_all (λ (s : Slot). ltb s.0 m) (drop n c.args.kept.now) ≡ true) (sym c.pass_on.ensures.count)
    (drop-all (λ s. ltb s.0 (length c.args.nodes.now.items)) n c.args.kept.now c.requires.places))

pub returns-clause-count : goal.returns-clause-count
returns-clause-count c = c.forget.ensures.count ∙ c.pass_on.ensures.count

pub returns-clause-each : goal.returns-clause-each
returns-clause-each c = λ k d lt.
    let forgetting_it = forgetting c.args.gone c.args.is_fork in
    let passing_it = passing_on c.args.gone c.args.heir in
    let before = take c.args.place c.args.kept.now in
    let old = entry_of k (get_or c.args.nodes.now.items k d) in
    let passed = entry_of k (get_or c.pass_on.new.nodes.items k d) in
    c.forget.ensures.each k d (subst (λ (m : ℕ). k < m) (sym c.pass_on.ensures.count) lt)
    ∙ ap (λ (ss : List Slot). changed_at forgetting_it ss passed) (take_rest c.args.kept.now (c.args.place + 1))
    ∙ ap (changed_at forgetting_it (drop (c.args.place + 1) c.args.kept.now)) (
    c.pass_on.ensures.each k d lt
    ∙ ap (λ ss. changed_at passing_it ss old) (take_rest before c.args.first)
    ∙ changed-less passing_it (take c.args.first before) (drop c.args.first before) old (c.requires.none k d)
    ∙ ap (λ ss. changed_at passing_it ss old) (take-append-drop c.args.first before))

pub returns-clause-ascending : goal.returns-clause-ascending
returns-clause-ascending c = λ k d lt up.
    c.forget.ensures.ascending k d (subst (λ (m : ℕ). k < m) (sym c.pass_on.ensures.count) lt)
    (ap (λ p. are_ascending_pairs p.pairs) (c.pass_on.ensures.paths k d) ∙ up)
