-- Fork paths by the ids of their forks.
use Rattle.std.proofs.Common.{◌≡◌, ℕ, Bool, false, ◌&&◌, List, [], ◌∷◌, ◌++◌, length, map, filter, flat_map, Some, inl, inr, refl, sym, ap, ap₂, ◌∙◌, arith}
use Rattle.std.specs.List.{range_with_len}
use Rattle.std.specs.Option.{option_map, option_map_or}
use Rattle.std.proofs.lemmas.Bool.{cases_Bool}
use Rattle.std.proofs.lemmas.List.Elements.{filter-append}
use Rattle.tardis_base.specs.declared.ids.StateId.{StateId}
use Rattle.tardis_base.specs.declared.records.Record.{Record}
use Rattle.fork_path.specs.Pairs.{has_pair}
use Rattle.plain_dag.specs.States.{children}
use Rattle.plain_dag.specs.Paths.{is_fork, branches_of, leads_to, fork_path}
use Rattle.state_dag.specs.Table.{Entry, Table, entry_at}
use Rattle.state_dag.specs.Views.{named_branches}
use Rattle.state_dag.specs.Stands.{is_taken, Stands}
use Rattle.state_dag.proofs.LeafSlots.{AreFound, found-rest}

-- branches of one state that pass alike
filter-numbers : (p q : StateId × ℕ → Bool) (y : StateId) (ns : List ℕ) → ((n : ℕ) → p (y, n) ≡ q (y, n)) → filter p (map (λ n. (y, n)) ns)
    ≡ filter q (map (λ n. (y, n)) ns)
filter-numbers p q y [] same = refl
filter-numbers p q y (n ∷ ns) same = elim (cases_Bool (q (y, n))) [
  | inl t ↦ rw (t, same n ∙ t) (ap (λ bs. (y, n) ∷ bs) (filter-numbers p q y ns same))
  | inr f ↦ rw (f, same n ∙ f) (filter-numbers p q y ns same)
]

filter-none : (p : StateId × ℕ → Bool) (y : StateId) (ns : List ℕ) → ((n : ℕ) → p (y, n) ≡ false) → filter p (map (λ n. (y, n)) ns) ≡ []
filter-none p y [] none = refl
filter-none p y (n ∷ ns) none = rw (none n) (filter-none p y ns none)

module _ (table : Table) (rs : List Record) (ks : List StateId) (x : StateId) (path : List (ℕ × ℕ)) (stands : Stands table rs ks)
    (has : (pair : ℕ × ℕ) → has_pair pair path ≡ is_taken table rs x pair) where
  -- the branches of an entry's state in a path that has those to x
  taken-at : (e : Entry) → entry_at table e.slot ≡ Some e → (n : ℕ) → has_pair (e.slot.0, n) path ≡ (is_fork rs e.id && leads_to rs x (e.id, n))
  taken-at e found n =
      has (e.slot.0, n) ∙ ap (λ o. option_map_or (λ (p : StateId). is_fork rs p && leads_to rs x (p, n)) (option_map (λ (f : Entry). f.id) o) false) found

  numbered : (e : Entry) → entry_at table e.slot ≡ Some e → named_branches path e ≡ filter (λ (b : StateId × ℕ). has_pair (e.slot.0, b.1) path)
      (branches_of rs e.id)
  numbered e found =
      ap (λ (cs : List StateId). filter (λ (b : StateId × ℕ). has_pair (e.slot.0, b.1) path) (map (λ n. (e.id, n)) (range_with_len 0 (length cs))))
      (stands.shows e.slot e found).has_children

  -- named, they are the branches of the forks among the states
  named-entries : (es : List Entry) → AreFound table es → flat_map (named_branches path) es
      ≡ filter (leads_to rs x) (flat_map (branches_of rs) (filter (is_fork rs) (map (λ e. e.id) es)))
  named-entries [] found = refl
  named-entries (e ∷ es) found =
      let here = found 0 e (omega arith) in
      let test : StateId × ℕ → Bool = λ b. has_pair (e.slot.0, b.1) path in
      let numbers = range_with_len 0 (length (children rs e.id)) in
      let rest = named-entries es (found-rest table e es found) in
      elim (cases_Bool (is_fork rs e.id)) [
        | inl t ↦
            rw t (ap₂ (λ (a b : List (StateId × ℕ)). a ++ b)
            (numbered e here ∙ filter-numbers test (leads_to rs x) e.id numbers (λ n. taken-at e here n ∙ ap (λ b. b && leads_to rs x (e.id, n)) t)) rest
            ∙ sym (filter-append (leads_to rs x) (branches_of rs e.id) (flat_map (branches_of rs) (filter (is_fork rs) (map (λ (f : Entry). f.id) es)))))
        | inr f ↦
            rw f (ap₂ (λ (a b : List (StateId × ℕ)). a ++ b)
            (numbered e here ∙ filter-none test e.id numbers (λ n. taken-at e here n ∙ ap (λ b. b && leads_to rs x (e.id, n)) f)) rest)
      ]

  -- those of all entries are x's fork path
  pub named-is_path : AreFound table table.entries → flat_map (named_branches path) table.entries ≡ fork_path rs ks x
  named-is_path found =
      named-entries table.entries found ∙ ap (λ xs. filter (leads_to rs x) (flat_map (branches_of rs) (filter (is_fork rs) xs))) stands.ids
