-- Nodes by their places.
use Rattle.std.proofs.Common.{◌≡◌, ℕ, ◌+◌, ◌<◌, true, ltb, List, [], ◌∷◌, length, get_or, set, Some, inl, inr, refl, sym, ap, subst, ◌∙◌, arith}
use Rattle.std.specs.Option.{option_map, option_map_or}
use Rattle.std.proofs.lemmas.Bool.{cases_eq, ltb-true}
use Rattle.std.proofs.lemmas.List.{get_or-set_same, get_or-set_other}
use Rattle.tardis_base.specs.declared.ids.Slot.{Slot}
use Rattle.state_dag.specs.declared.nodes.Node.{Node}
use Rattle.state_dag.specs.Table.{Entry, id_at}
use Rattle.state_dag.specs.Views.{entry_of, entries_from}
use Rattle.state_dag.specs.Grown.{path_at, number_of_children}
use Rattle.state_dag.specs.Nodes.{table_of, are_places}
use Rattle.state_dag.proofs.Places.{entry-found}
use Rattle.state_dag.proofs.Passing.{all-at}

-- a node in place of another
pub at-set : (R : Node → Type 0) (ns : List Node) (p : ℕ) (n : Node) (k : ℕ) (d : Node) → p < length ns → (k ≡ p → R n) → ((k ≡ p → ⊥) → R (get_or ns k d))
    → R (get_or (set ns p n) k d)
at-set R ns p n k d lt here other = elim (cases_eq k p) [
  | inl e ↦ subst R (sym (ap (λ z. get_or (set ns p n) z d) e ∙ get_or-set_same ns p n d lt)) (here e)
  | inr ne ↦ subst R (sym (get_or-set_other ns p k n d ne)) (other ne)
]

-- with the same entry it leaves the entries
pub entries-set : (ns : List Node) (b p : ℕ) (n d : Node) → ((k : ℕ) → entry_of k n ≡ entry_of k (get_or ns p d)) → entries_from b (set ns p n)
    ≡ entries_from b ns
entries-set [] b p n d same = refl
entries-set (m ∷ ns) b ℕ.zero n d same = ap (λ e. e ∷ entries_from (b + 1) ns) (same b)
entries-set (m ∷ ns) b (ℕ.suc p) n d same = ap (λ es. entry_of b m ∷ es) (entries-set ns (b + 1) p n d same)

pub entries-at : (ns : List Node) (p k : ℕ) (d : Node) (e : Entry) → k < length ns → get_or (entries_from p ns) k e ≡ entry_of (p + k) (get_or ns k d)
entries-at [] p k d e lt = absurd (omega arith)
entries-at (n ∷ ns) p ℕ.zero d e lt = let same : p ≡ p + ℕ.zero = omega arith in ap (λ m. entry_of m n) same
entries-at (n ∷ ns) p (ℕ.suc k) d e lt =
    let same : (p + 1) + k ≡ p + ℕ.suc k = omega arith in
    entries-at ns (p + 1) k d e (omega arith) ∙ ap (λ m. entry_of m (get_or ns k d)) same

pub entry-in : (ns : List Node) (k : ℕ) (d : Node) (e : Entry) → k < length ns → get_or (entries_from 0 ns) k e ≡ entry_of k (get_or ns k d)
entry-in ns k d e lt = let same : 0 + k ≡ k = omega arith in entries-at ns 0 k d e lt ∙ ap (λ m. entry_of m (get_or ns k d)) same

-- ===== What is found at a place

pub path-found : (ns : List Node) (k : ℕ) (d : Node) → k < length ns → path_at (table_of ns) (record { 0 = k }) ≡ (get_or ns k d).path.pairs
path-found ns k d lt = ap (λ o. option_map_or (λ e. e.path) o []) (entry-found ns k d lt)

pub children-found : (ns : List Node) (k : ℕ) (d : Node) → k < length ns → number_of_children (table_of ns) (record { 0 = k })
    ≡ length (get_or ns k d).children.items
children-found ns k d lt = ap (λ o. option_map_or (λ e. length e.children) o 0) (entry-found ns k d lt)

pub id-found : (ns : List Node) (k : ℕ) (d : Node) → k < length ns → id_at (table_of ns) (record { 0 = k }) ≡ Some (get_or ns k d).id
id-found ns k d lt = ap (λ o. option_map (λ e. e.id) o) (entry-found ns k d lt)

pub place-within : (ns : List Node) (slots : List Slot) (i : ℕ) (d : Slot) → are_places ns slots ≡ true → i < length slots → (get_or slots i d).0 < length ns
place-within ns slots i d places lt = ltb-true (get_or slots i d).0 (length ns) (all-at (λ s. ltb s.0 (length ns)) slots i d places lt)
