-- What a room that was made leaves of the entries.
use Rattle.std.proofs.Common.{◌≡◌, ℕ, ◌+◌, ◌<◌, true, eqb, List, length, take, get_or, set, inl, inr, sym, ap, ap₂, ◌∙◌, eqb-true}
use Rattle.std.proofs.lemmas.Bool.{or_cases}
use Rattle.std.proofs.lemmas.List.{get_or_read}
use Rattle.std.proofs.lemmas.List.Folds.{list_any_more}
use Rattle.tardis_base.specs.declared.ids.StateId.{StateId}
use Rattle.tardis_base.specs.declared.ids.Slot.{Slot}
use Rattle.fork_path.specs.Pairs.{Pairs}
use Rattle.state_dag.specs.declared.nodes.Node.{Node}
use Rattle.state_dag.specs.declared.leads.Gain.{Gain}
use Rattle.state_dag.specs.Views.{entry_of, entries_from}
use Rattle.state_dag.specs.Grown.{is_slot_among}
use Rattle.state_dag.specs.Nodes.{is_gaining}
use Rattle.state_dag.proofs.NodeLists.{entries-set}

-- a node with another room for pairs has the same entry
pub path-entry : (n : Node) (path : Pairs) (k : ℕ) → path.pairs ≡ n.path.pairs → entry_of k (record n { path = path }) ≡ entry_of k n
path-entry n path k same = ap (λ (ps : List (ℕ × ℕ)). record (entry_of k n) { path = ps }) same

pub child-entry : (old new : Node) (k : ℕ) → new ≡ record old { children = new.children; stand_ins = new.stand_ins } → new.children.items
    ≡ old.children.items → new.stand_ins.items ≡ old.stand_ins.items → entry_of k new ≡ entry_of k old
child-entry old new k rest children stand_ins =
    ap (entry_of k) rest ∙ ap₂ (λ (cs : List StateId) (ss : List Slot). record (entry_of k old) { children = cs; stand_ins = ss }) children stand_ins

-- a node in a place, read there before
module _ (ns : List Node) (p : ℕ) (old new : Node) (lt : p < length ns) (read : old ≡ get_or ns p old) where
  pub placed-entries : ((k : ℕ) → entry_of k new ≡ entry_of k old) → entries_from 0 (set ns p new) ≡ entries_from 0 ns
  placed-entries same = entries-set ns 0 p new old (λ k. same k ∙ ap (entry_of k) read)

  pub read-at : (k : ℕ) (d : Node) → k ≡ p → old ≡ get_or ns k d
  read-at k d is = get_or_read ns p old lt read d ∙ ap (λ (m : ℕ). get_or ns m d) (sym is)

-- one more gain for which there is room
pub room-more : (gains : List Gain) (i : ℕ) (g : Gain) (k : ℕ) → i < length gains → is_gaining k (take (i + 1) gains) ≡ true →
    (k ≡ (get_or gains i g).at.0 → ⊥) → is_gaining k (take i gains) ≡ true
room-more gains i g k lt here other =
    elim (or_cases (is_gaining k (take i gains)) (eqb (get_or gains i g).at.0 k) (sym (list_any_more (λ (h : Gain). eqb h.at.0 k) gains i g lt) ∙ here)) [
      | inl t ↦ t
      | inr u ↦ absurd (other (sym (eqb-true (get_or gains i g).at.0 k u)))
    ]

pub among-before : (slots : List Slot) (i : ℕ) (s : Slot) (k : ℕ) → i < length slots → is_slot_among (record { 0 = k }) (take (i + 1) slots) ≡ true →
    (k ≡ (get_or slots i s).0 → ⊥) → is_slot_among (record { 0 = k }) (take i slots) ≡ true
among-before slots i s k lt here other =
    elim (or_cases (is_slot_among (record { 0 = k }) (take i slots)) (eqb (get_or slots i s).0 k)
    (sym (list_any_more (λ (t : Slot). eqb t.0 k) slots i s lt) ∙ here)) [
      | inl t ↦ t
      | inr u ↦ absurd (other (sym (eqb-true (get_or slots i s).0 k u)))
    ]
