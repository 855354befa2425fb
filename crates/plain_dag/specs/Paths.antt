-- Fork paths: by which branches of kept forks a state is reached.
use Rattle.std.specs.Prelude.{ℕ, Bool, false, nat_le, List, length, map, filter, find, flat_map, Option, slice_get, nat_lt}
use Rattle.std.specs.List.{range_with_len}
use Rattle.std.specs.Option.{option_map, option_map_or}
use Rattle.tardis_base.specs.declared.ids.StateId.{StateId}
use Rattle.tardis_base.specs.declared.records.Record.{Record}
use Rattle.plain_dag.specs.States.{children}
use Rattle.plain_dag.specs.Above.{is_above}
use Rattle.plain_dag.specs.Collection.{kept_states}

-- the state has two or more children
abbrev pub is_fork : List Record → StateId → Bool
is_fork rs x = nat_le 2 (length (children rs x))

-- the state with the number of each of its children
abbrev pub branches_of : List Record → StateId → List (StateId × ℕ)
branches_of rs x = map (λ n. (x, n)) (range_with_len 0 (length (children rs x)))

-- the branches of all kept forks, by the fork's arrival and then by number
abbrev pub branches : List Record → List StateId → List (StateId × ℕ)
branches rs ks = flat_map (branches_of rs) (filter (is_fork rs) (kept_states rs ks))

-- the child of that number is at or above x
abbrev pub leads_to : List Record → StateId → StateId × ℕ → Bool
leads_to rs x branch = option_map_or (λ c. is_above rs c x) (slice_get (children rs branch.0) branch.1) false

-- the branches of kept forks that lead to x
abbrev pub fork_path : List Record → List StateId → StateId → List (StateId × ℕ)
fork_path rs ks x = filter (leads_to rs x) (branches rs ks)

-- the first kept state whose fork path has more than so many pairs, with their number
abbrev pub long_path : List Record → List StateId → ℕ → Option (StateId × ℕ)
long_path rs ks most =
    option_map (λ x. (x, length (fork_path rs ks x))) (find (λ x. nat_lt most (length (fork_path rs ks x))) (kept_states rs ks))
