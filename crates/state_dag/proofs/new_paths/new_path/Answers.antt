use Rattle.std.proofs.Common.{◌≡◌, ◌∙◌, ◌||◌, ◌&&◌, ℕ, Bool, true, false, List, IsTrue, refl, sym, ap, subst}
use Rattle.std.specs.List.{list_any}
use Rattle.tardis_base.specs.declared.ids.Slot.{Slot}
use Rattle.fork_path.specs.Pairs.{is_same_pair, has_pair, are_ascending_pairs}
use Rattle.state_dag.specs.Table.{Table}
use Rattle.state_dag.specs.Grown.{path_at, leads_first, is_first_branch, is_last_branch, is_new_pair}
use Rattle.state_dag.specs.Nodes.{table_of, leads_to_some}
use Rattle.state_dag.proofs.Passing.{any-or, any-swap}
use Rattle.state_dag.proofs.new_paths.new_path.Goals as goal

joined : (a b c : Bool) → (c || (b || (a || false))) ≡ ((a || b) || c)
joined true true true = refl
joined true true false = refl
joined true false true = refl
joined true false false = refl
joined false true true = refl
joined false true false = refl
joined false false true = refl
joined false false false = refl

new-pairs : (table : Table) (parents : List Slot) (pair : ℕ × ℕ) →
    (is_last_branch table parents pair || (list_any (λ p. is_same_pair pair (p.0, 0) && leads_to_some table parents p) parents ||
    (list_any (λ p. has_pair pair (path_at table p)) parents || false)))
    ≡ is_new_pair table parents pair
new-pairs table parents pair =
    joined (list_any (λ p. has_pair pair (path_at table p)) parents) (list_any (λ p. is_same_pair pair (p.0, 0) && leads_to_some table parents p) parents)
    (is_last_branch table parents pair)
    ∙ ap (λ b. b || is_last_branch table parents pair)
    (ap (λ b. list_any (λ p. has_pair pair (path_at table p)) parents || b)
    (sym (any-swap (λ (q : Slot). is_same_pair pair (q.0, 0)) (λ p q. leads_first table p q) parents parents))
    ∙ sym (any-or (λ p. has_pair pair (path_at table p)) (λ p. is_first_branch table parents p pair) parents))

pub returns : goal.returns
returns c =
    let table = table_of c.args.nodes.now in
    let parents = c.args.parents.now in
    record {
      ascending = c.add_last_branches.ensures.ascending
          (c.add_first_branches.ensures.ascending (c.unite_paths.ensures.ascending
          (subst (λ ps. IsTrue (are_ascending_pairs ps)) (sym c.new-path.ensures) refl)));
      pairs = λ pair.
          c.in_ok-add_last_branches.ensures.pairs pair
          ∙ ap (λ b. is_last_branch table parents pair || b)
          (c.in_ok-add_first_branches.ensures.pairs pair
          ∙ ap (λ b. list_any (λ p. is_same_pair pair (p.0, 0) && leads_to_some table parents p) parents || b)
          (c.in_ok-unite_paths.ensures.pairs pair ∙ ap (λ ps. list_any (λ p. has_pair pair (path_at table p)) parents || has_pair pair ps) c.new-path.ensures))
          ∙ new-pairs table parents pair;
    }
