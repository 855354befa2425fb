-- What a table lends of itself.
use Rattle.std.proofs.Common.{◌≡◌, ◌∙◌, ℕ, ◌≤◌, ◌<◌, true, ltb, List, [], ◌∷◌, length, take, get_or, Some, is_some, slice_get, refl, sym, ap, subst, arith}
use Rattle.std.specs.List.{list_all}
use Rattle.std.proofs.lemmas.Bool.{and_parts, and_from, ltb-true, lt-ltb}
use Rattle.std.proofs.lemmas.List.{length-map}
use Rattle.tardis_base.specs.declared.ids.StateId.{StateId}
use Rattle.tardis_base.specs.declared.ids.Slot.{Slot}
use Rattle.state_dag.specs.declared.StateDag.TheInside.{Inside}
use Rattle.state_dag.specs.declared.nodes.Node.{Node}
use Rattle.state_dag.specs.Table.{Entry, Table, entry_at, is_slot}
use Rattle.state_dag.specs.Views.{entry_of}
use Rattle.state_dag.specs.Held.{seen, IsHeld}
use Rattle.state_dag.specs.Images.{IsTable}
use Rattle.state_dag.proofs.KeptEntries.{slots_of}
use Rattle.state_dag.proofs.Memory.{kept-slots, kept-placed, kept-now, entries-long, entries-apart}
use Rattle.state_dag.proofs.Calls.{no_entry, slot-of_entry, entries-found, read-some}

below : (es : List Entry) (n m : ℕ) → n ≤ m → list_all (λ s. ltb s.0 n) (slots_of es) ≡ true → list_all (λ e. ltb e.slot.0 m) es ≡ true
below [] n m le all = refl
below (e ∷ es) n m le all =
    let parts = and_parts (ltb e.slot.0 n) (list_all (λ s. ltb s.0 n) (slots_of es)) all in
    let lt = ltb-true e.slot.0 n parts.0 in
    and_from (ltb e.slot.0 m) (list_all (λ f. ltb f.slot.0 m) es) (lt-ltb e.slot.0 m (omega arith)) (below es n m le parts.1)

-- what is so of every table
pub seen-is_table : (a : Inside) → IsHeld a → IsTable (seen a)
seen-is_table a held =
    let long = entries-long a held in
    let kept = held.some in
    let within = held.within in
    record {
      valid = held.valid;
      some = omega arith;
      within = omega arith;
      few = below (seen a).entries (length a.nodes.items) a.limits.max_kept held.few
          (subst (λ ss. list_all (λ s. ltb s.0 (length a.nodes.items)) ss ≡ true) (sym (kept-slots a held)) (kept-placed a held));
      distinct = entries-apart a held;
      in_order = held.in_order;
      arrived = held.arrived;
      ascending = held.ascending;
      short = held.short;
      stand_ins = held.stand_ins;
      later = held.later;
      sites = held.sites;
      fit = held.fit;
      counted = held.counted;
      among_counted = held.among_counted;
      once = held.once;
    }

-- the slots of the entries, as they are lent
module _ (a : Inside) (table : Table) (held : IsHeld a) (is : seen a ≡ table) (slots : List Slot) (lent : slots ≡ take a.order.used a.order.items)
    (place : ℕ) (lt : place < length table.entries) where
  lent-slots : slots ≡ slots_of table.entries
  lent-slots = lent ∙ kept-now a held ∙ sym (kept-slots a held) ∙ ap (λ (t : Table). slots_of t.entries) is

  pub lent-within : place < length slots
  lent-within = (let one = ap length lent-slots in let two = length-map table.entries (λ (e : Entry). e.slot) in omega arith)

  pub lent-slot : (d : Slot) → get_or slots place d ≡ (get_or table.entries place no_entry).slot
  lent-slot d = ap (λ ss. get_or ss place d) lent-slots ∙ slot-of_entry table.entries place no_entry d lt

  -- the slot in this place is that of the entry in this place
  lent-entry : (d : Slot) → entry_at table (get_or slots place d) ≡ Some (get_or table.entries place no_entry)
  lent-entry d = ap (entry_at table) (lent-slot d) ∙ entries-found a table held is place no_entry lt

  pub lent-is_slot : (d : Slot) → is_slot table (get_or slots place d) ≡ true
  lent-is_slot d = ap is_some (lent-entry d)

  pub lent-node : (d : Slot) (n : Node) → entry_at table (get_or slots place d) ≡ Some (entry_of (get_or slots place d).0 n) →
      slice_get table.entries place ≡ Some (entry_of (get_or slots place d).0 n)
  lent-node d n found = read-some table.entries place no_entry lt ∙ sym (lent-entry d) ∙ found

-- the entry of these parts
pub parts-are : (s : Slot) (n : Node) (parents children : List StateId) (stand_ins : List Slot) (path : List (ℕ × ℕ)) → parents ≡ n.parents.items →
    children ≡ n.children.items → stand_ins ≡ n.stand_ins.items → path ≡ n.path.pairs → entry_of s.0 n
    ≡ record { slot = s; id = n.id; arrival = n.arrival; parents = parents; children = children; stand_ins = stand_ins; path = path }
parts-are s n parents children stand_ins path p c t q = rw (p, c, t, q) refl
