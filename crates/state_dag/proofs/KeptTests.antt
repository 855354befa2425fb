-- Whether a state is kept at a slot that anybody names.
use Rattle.std.proofs.Common.{◌≡◌, ◌∙◌, ℕ, ◌≤◌, ◌<◌, true, false, eqb, List, length, map, take, get_or, Option, Some, None, is_some, slice_get, inl, inr}
use Rattle.std.proofs.Common.{IsTrue, IfSome, refl, sym, ap, subst, eqb-true, eq-eqb}
use Rattle.std.specs.List.{list_all}
use Rattle.std.specs.Option.{option_map_or}
use Rattle.std.proofs.lemmas.Bool.{cases_Bool, both_ways, false_from_ne_true}
use Rattle.std.proofs.lemmas.Option.{slice_get-get_or}
use Rattle.tardis_base.specs.declared.ids.Slot.{Slot}
use Rattle.state_dag.specs.declared.StateDag.TheInside.{Inside}
use Rattle.state_dag.specs.declared.nodes.Node.{Node}
use Rattle.state_dag.specs.Table.{Entry, Table, entry_at, is_slot, arrival_at}
use Rattle.state_dag.specs.Views.{entry_of}
use Rattle.state_dag.specs.Nodes.{table_of}
use Rattle.state_dag.specs.Held.{kept_of, seen, IsHeld}
use Rattle.state_dag.proofs.LeafSlots.{slots-are}
use Rattle.state_dag.proofs.Memory.{kept-slots, kept-now, entry-alike}
use Rattle.state_dag.proofs.Calls.{entries-found, placed-at, read-is}

module _ (a : Inside) (held : IsHeld a) (table : Table) (is : seen a ≡ table) (slot : Slot) where
  in_memory : is_slot table slot ≡ true → is_slot (seen a) slot ≡ true
  in_memory there = subst (λ t. is_slot t slot ≡ true) (sym is) there

  -- where no node stands no state is kept
  pub found-nowhere : (ns : List Node) → ns ≡ a.nodes.items → ◌≡◌ {A = Option Entry} None (entry_at (table_of ns) slot) → false ≡ is_slot table slot
  found-nowhere ns nodes none = sym (false_from_ne_true (is_slot table slot) (λ t.
      let there = in_memory t in
      both_ways (is_slot (seen a) slot)
      (ap is_some (sym (entry-alike a held slot there) ∙ ap (λ ms. entry_at (table_of ms) slot) (sym nodes) ∙ sym none)) there))

  other : (o : Option Slot) → IfSome o (λ s. IsTrue (is_slot table s)) → is_slot table slot ≡ false → option_map_or (λ s. eqb s.0 slot.0) o false ≡ false
  other None all out = refl
  other (Some s) all out = false_from_ne_true (eqb s.0 slot.0) (λ t.
      let named : ℕ → Slot = λ n. record { 0 = n } in
      both_ways (is_slot table slot) out (subst (λ z. is_slot table z ≡ true) (ap named (eqb-true s.0 slot.0 t)) all))

  -- a state is kept there exactly where the slot is found by the arrival of its node
  pub found-there : (ns : List Node) (ss : List Slot) (n : Node) (p : ℕ) → ns ≡ a.nodes.items → ss ≡ take a.order.used a.order.items →
      Some (entry_of slot.0 n) ≡ entry_at (table_of ns) slot →
      ((j : ℕ) (d : Slot) → j < p → arrival_at (table_of ns) (get_or ss j d) < n.arrival) →
      ((j : ℕ) (d : Slot) → p ≤ j → j < length ss → n.arrival ≤ arrival_at (table_of ns) (get_or ss j d)) →
      (o : Option Slot) → o ≡ slice_get ss p → option_map_or (λ s. eqb s.0 slot.0) o false ≡ is_slot table slot
  found-there ns ss n p nodes lent found before from o read =
      let kept = lent ∙ kept-now a held in
      elim (cases_Bool (is_slot table slot)) [
        | inl t ↦
            let arrival = ap (λ e. option_map_or (λ (f : Entry). f.arrival) e 0) (found ∙ ap (λ ms. entry_at (table_of ms) slot) nodes) in
            let w = placed-at a held ns ss nodes kept slot n.arrival p (in_memory t) arrival before from in
            let at = read ∙ ap (λ qs. slice_get qs p) kept ∙ slice_get-get_or (kept_of a) p slot w.0 ∙ ap (λ s. Some s) (w.1 slot) in
            ap (λ q. option_map_or (λ (s : Slot). eqb s.0 slot.0) q false) at ∙ eq-eqb slot.0 slot.0 refl ∙ sym t
        | inr f ↦
            let are = kept ∙ sym (kept-slots a held) ∙ ap (λ (t : Table). map (λ (e : Entry). e.slot) t.entries) is in
            other o (read-is (is_slot table) ss p o
            (subst (λ qs. list_all (is_slot table) qs ≡ true) (sym are) (slots-are table table.entries (entries-found a table held is))) read) f ∙ sym f
      ]
