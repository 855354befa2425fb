-- What the steps of an addition tell of the table.
use Rattle.std.proofs.Common.{◌≡◌, ℕ, ◌<◌, ◌≤◌, true, leb, ltb, List, [], ◌∷◌, length, find, get_or, Some, None, Err, refl, sym, ap, subst, ◌∙◌, arith}
use Rattle.std.specs.List.{list_all}
use Rattle.std.specs.Option.{option_map_or}
use Rattle.std.proofs.lemmas.Bool.{and_from, and_parts, ne_eqb}
use Rattle.tardis_base.specs.declared.ids.StateId.{StateId}
use Rattle.tardis_base.specs.declared.ids.Slot.{Slot}
use Rattle.tardis_base.specs.declared.records.Record.{Record}
use Rattle.tardis_base.specs.declared.faults.AddFault.{AddFault}
use Rattle.state_dag.specs.declared.StateDag.TheInside.{Inside}
use Rattle.state_dag.specs.declared.nodes.Node.{Node}
use Rattle.state_dag.specs.declared.leads.Gain.{Gain}
use Rattle.state_dag.specs.Table.{Entry, Table, entry_at, is_slot, arrival_at}
use Rattle.state_dag.specs.Views.{entry_of, entries_from, entries_in}
use Rattle.state_dag.specs.Stands.{Stands}
use Rattle.state_dag.specs.Answers.{MayBeAdded, AddedTo}
use Rattle.state_dag.specs.Grown.{path_at, IsNewEntry}
use Rattle.state_dag.specs.Nodes.{table_of, table_after, all_gains, is_long, have_places, gains_of, TellsLong, HasGrown, path_refusal, TellsRefusal, Rise}
use Rattle.state_dag.specs.Held.{kept_of, seen, IsHeld}
use Rattle.state_dag.proofs.Following.{Follow, childless_slots}
use Rattle.state_dag.proofs.LeafSlots.{AreFound, found-rest, slots-are, leaves-rise}
use Rattle.state_dag.proofs.KeptEntries.{slots_of, placed, all-found}
use Rattle.state_dag.proofs.KeptTables.{gains-alike, long-alike, told-alike, entry-moves}
use Rattle.state_dag.proofs.Memory.{kept-placed, kept-distinct, kept-slots, entries-long, found-all, found-nodes, entry-alike, slots-placed}
use Rattle.state_dag.proofs.Gains.{gains-placed, gains-few, grown-as}
use Rattle.state_dag.proofs.SameEntries.{same-count, same-at}
use Rattle.state_dag.proofs.Became.{Became, became, follow-in}
use Rattle.state_dag.proofs.GrownTables.{fault-told}

short-found : (table : Table) (most : ℕ) (es : List Entry) → AreFound table es → list_all (λ e. leb (length e.path) most) es ≡ true →
    list_all (λ s. leb (length (path_at table s)) most) (slots_of es) ≡ true
short-found table most [] found all = refl
short-found table most (e ∷ es) found all =
    let parts = and_parts (leb (length e.path) most) (list_all (λ (f : Entry). leb (length f.path) most) es) all in
    let here : path_at table e.slot ≡ e.path = ap (λ o. option_map_or (λ (f : Entry). f.path) o []) (found 0 e (omega arith)) in
    and_from (leb (length (path_at table e.slot)) most) (list_all (λ s. leb (length (path_at table s)) most) (slots_of es))
    (ap (λ (ps : List (ℕ × ℕ)). leb (length ps) most) here ∙ parts.0)
    (short-found table most es (found-rest table e es found) parts.1)

module _ (a : Inside) (held : IsHeld a) (table : Table) (view : seen a ≡ table) (parents : List Slot) (slots : list_all (is_slot table) parents ≡ true) where
  parents-in : list_all (is_slot (seen a)) parents ≡ true
  parents-in = subst (λ t. list_all (is_slot t) parents ≡ true) (sym view) slots

  pub parents-placed : placed a.nodes.items parents ≡ true
  parents-placed = slots-placed a held parents parents-in

  kept-in : list_all (is_slot (seen a)) (kept_of a) ≡ true
  kept-in = subst (λ ss. list_all (is_slot (seen a)) ss ≡ true) (kept-slots a held) (slots-are (seen a) (seen a).entries (found-all a held))

  agree : (s : Slot) → is_slot (seen a) s ≡ true → entry_at (table_of a.nodes.items) s ≡ entry_at (seen a) s
  agree s there = entry-alike a held s there

  closed : (s : Slot) (e : Entry) → is_slot (seen a) s ≡ true → entry_at (seen a) s ≡ Some e → list_all (is_slot (seen a)) e.stand_ins ≡ true
  closed s e there is = all-found (λ (f : Entry). list_all (is_slot (seen a)) f.stand_ins) (seen a).entries s.0 e is held.stand_ins

  pub short-kept : (ns : List Node) (ss : List Slot) → ns ≡ a.nodes.items → ss ≡ kept_of a →
      list_all (λ s. leb (length (path_at (table_of ns) s)) a.limits.max_path) ss ≡ true
  short-kept ns ss nodes kept =
      subst (λ ms. list_all (λ s. leb (length (path_at (table_of ms) s)) a.limits.max_path) ss ≡ true) (sym nodes)
      (subst (λ qs. list_all (λ s. leb (length (path_at (table_of a.nodes.items) s)) a.limits.max_path) qs ≡ true) (kept-slots a held ∙ sym kept)
      (short-found (table_of a.nodes.items) a.limits.max_path (seen a).entries (found-nodes a held) held.short))

  -- ===== What was found by the slots

  module _ (ns : List Node) (ss : List Slot) (nodes : ns ≡ a.nodes.items) (kept : ss ≡ kept_of a) where
    pub gains-seen : (gains : List Gain) → gains ≡ all_gains (table_of ns) parents ss → gains ≡ all_gains (seen a) parents (kept_of a)
    gains-seen gains is =
        is ∙ ap (λ ms. all_gains (table_of ms) parents ss) nodes ∙ ap (all_gains (table_of a.nodes.items) parents) kept
        ∙ gains-alike (table_of a.nodes.items) (seen a) (is_slot (seen a)) agree closed parents parents-in (kept_of a) kept-in

    pub none-seen : find (is_long (table_of ns) a.limits.max_path parents) ss ≡ None →
        find (is_long (seen a) a.limits.max_path parents) (slots_of (seen a).entries) ≡ None
    none-seen none =
        subst (λ qs. find (is_long (seen a) a.limits.max_path parents) qs ≡ None) (sym (kept-slots a held))
        (sym (long-alike (table_of a.nodes.items) (seen a) (is_slot (seen a)) agree closed parents parents-in a.limits.max_path (kept_of a) kept-in)
        ∙ subst (λ qs. find (is_long (table_of a.nodes.items) a.limits.max_path parents) qs ≡ None) kept
        (subst (λ ms. find (is_long (table_of ms) a.limits.max_path parents) ss ≡ None) nodes none))

    pub long-seen : (fault : AddFault) → TellsLong (table_of ns) parents (find (is_long (table_of ns) a.limits.max_path parents) ss) fault →
        TellsLong (seen a) parents (find (is_long (seen a) a.limits.max_path parents) (slots_of (seen a).entries)) fault
    long-seen fault told =
        subst (λ qs. TellsLong (seen a) parents (find (is_long (seen a) a.limits.max_path parents) qs) fault) (sym (kept-slots a held))
        (told-alike (table_of a.nodes.items) (seen a) (is_slot (seen a)) agree closed parents parents-in a.limits.max_path (kept_of a) fault kept-in
        (subst (λ qs. TellsLong (table_of a.nodes.items) parents (find (is_long (table_of a.nodes.items) a.limits.max_path parents) qs) fault) kept
        (subst (λ ms. TellsLong (table_of ms) parents (find (is_long (table_of ms) a.limits.max_path parents) ss) fault) nodes told)))

  pub gains-now : (gains : List Gain) → gains ≡ all_gains table parents (slots_of table.entries) → gains ≡ all_gains (seen a) parents (kept_of a)
  gains-now gains is =
      is ∙ sym (ap (λ t. all_gains t parents (slots_of t.entries)) view) ∙ ap (all_gains (seen a) parents) (kept-slots a held)

  pub entry-seen : (ns : List Node) (x : StateId) (slot : Slot) (e : Entry) → ns ≡ a.nodes.items → IsNewEntry (table_after a.known ns) parents x slot e →
      IsNewEntry table parents x slot e
  entry-seen ns x slot e nodes new =
      subst (λ t. IsNewEntry t parents x slot e) view
      (entry-moves (table_after a.known a.nodes.items) (seen a) (is_slot (seen a)) agree closed parents parents-in x slot e refl
      (subst (λ ms. IsNewEntry (table_after a.known ms) parents x slot e) nodes new))

  -- ===== What has grown

  module _ (gains : List Gain) (is : gains ≡ all_gains (seen a) parents (kept_of a)) where
    pub gains-at_places : (ms : List Node) → length ms ≡ length a.nodes.items → have_places ms gains ≡ true
    gains-at_places ms count =
        gains-placed (seen a) parents (kept_of a) gains is ms
        (subst (λ (m : ℕ). list_all (λ (s : Slot). ltb s.0 m) (kept_of a) ≡ true) (sym count) (kept-placed a held))

    pub few-gains : (k : ℕ) → gains_of k gains ≤ length parents
    few-gains k = gains-few (seen a) parents (kept_of a) gains is (kept-distinct a held) k

    pub all-grown : (ms ns : List Node) (n : Node) (x : StateId) (slot : Slot) → entries_from 0 ms ≡ entries_from 0 a.nodes.items → length ns ≡ length ms →
        ((k : ℕ) (d : Node) → k < length ms → HasGrown gains parents x slot k (get_or ms k d) (get_or ns k d)) →
        Follow (Became (seen a) parents x slot) (seen a).entries (entries_in ns (kept_of a))
    all-grown ms ns n x slot same count each =
        let counted = same-count ms a.nodes.items same in
        follow-in (Became (seen a) parents x slot) a.nodes.items ns n (kept_of a) (omega arith) (kept-placed a held) (λ k lt there.
        subst (λ e. Became (seen a) parents x slot e (entry_of k (get_or ns k n))) (same-at ms a.nodes.items same k n (omega arith))
        (became (seen a) parents x slot k (get_or ms k n) (get_or ns k n)
        (grown-as (seen a) parents (kept_of a) gains is x slot k (get_or ms k n) (get_or ns k n) (kept-distinct a held) there (each k n (omega arith)))))

  -- ===== Leaves in order, by nodes with the same entries

  pub leaves-in_order : (ms : List Node) (ns : List Node) (ss : List Slot) → ns ≡ ms → entries_from 0 ms ≡ entries_from 0 a.nodes.items →
      ss ≡ a.leaves.items → Rise (arrival_at (table_of ns)) ss
  leaves-in_order ms ns ss nodes same leaves =
      subst (λ qs. Rise (arrival_at (table_of qs)) ss) (sym nodes)
      (subst (λ qs. Rise (arrival_at (table_of ms)) qs) (sym (leaves ∙ held.childless))
      (subst (λ es. Rise (arrival_at (record (table_of ms) { entries = es })) (childless_slots (seen a).entries)) (sym same)
      (leaves-rise (table_of a.nodes.items) (seen a).entries (found-nodes a held) held.in_order)))

-- one more state may be kept
pub room-left : (a : Inside) (held : IsHeld a) (old : Table) → seen a ≡ old → length old.entries < old.limits.max_kept → a.kept < a.limits.max_kept
room-left a held old view lt =
    let count : a.kept ≡ length old.entries = sym (entries-long a held) ∙ ap (λ (t : Table). length t.entries) view in
    let most : a.limits.max_kept ≡ old.limits.max_kept = ap (λ (t : Table). t.limits.max_kept) view in
    omega arith

-- the answer to a fault of a new state's path or that of a kept one
pub fault-answered : (a : Inside) (held : IsHeld a) (old : Table) (parents : List Slot) (n : Node) (x : StateId) → seen a ≡ old →
    IsNewEntry old parents x (record { 0 = 0 }) (entry_of 0 n) →
    (a.kept ≡ a.limits.max_kept → ⊥) → (fault : AddFault) → TellsRefusal (path_refusal (seen a) n.id parents (length n.path.pairs)) (Err fault) →
    (rs : List Record) (ks : List StateId) (r : Record) → Stands old rs ks → r.id ≡ x → MayBeAdded old rs ks r parents → AddedTo old old rs ks r (Err fault)
fault-answered a held old parents n x view entry unfilled fault told rs ks r stands is may =
    let seen_told = subst (λ (t : Table). TellsRefusal (path_refusal t n.id parents (length n.path.pairs)) (Err fault)) view told in
    let named = subst (λ (y : StateId). TellsRefusal (path_refusal old y parents (length n.path.pairs)) (Err fault)) (entry.id_is ∙ sym is) seen_told in
    let count : a.kept ≡ length old.entries = sym (entries-long a held) ∙ ap (λ (t : Table). length t.entries) view in
    let room = ne_eqb (length old.entries) old.limits.max_kept (λ e. unfilled (count ∙ e ∙ sym (ap (λ (t : Table). t.limits.max_kept) view))) in
    fault-told old rs ks r parents stands may room n.path.pairs entry.path fault named
