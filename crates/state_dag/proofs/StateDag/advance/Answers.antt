use Rattle.std.proofs.Common.{◌≡◌, ◌∙◌, ◌+◌, ◌-◌, ◌<◌, ℕ, List, [], ◌∷◌, ◌++◌, length, cond, eqb, get_or, set, Option, Some, None, Result, Err}
use Rattle.std.proofs.lemmas.Bool.{and_parts, cond-true, cond-false, eq-eqb, ne_eqb}
use Rattle.std.proofs.Common.{Bool, ◌&&◌, true, false, refl, sym, ap, ap₂, subst, arith}
use Rattle.std.specs.Option.{option_map, option_map_or}
use Rattle.std.proofs.lemmas.Option.{unwrap_or-slice_get, same_Some}
use Rattle.std.proofs.lemmas.Result.{err_from_is_err_and}
use Rattle.state_dag.specs.declared.rows.RowFault.{RowFault}
use Rattle.state_dag.specs.declared.rows.RowFault.TheVariants.{BadSite, Empty, SeqEnd, NoMemory}
use Rattle.tardis_base.specs.declared.ids.StateId.{StateId}
use Rattle.tardis_base.specs.declared.ids.Slot.{Slot}
use Rattle.tardis_base.specs.Ids.{same_id}
use Rattle.state_dag.specs.declared.StateDag.TheInside.{Inside}
use Rattle.state_dag.specs.declared.nodes.Node.{Node}
use Rattle.state_dag.specs.IdSlots.{slot_of_state}
use Rattle.state_dag.specs.Table.{Entry, Table, entry_at, id_at, is_slot, arrive_in_order, is_kept_at, arrival_at}
use Rattle.state_dag.specs.Views.{entry_of}
use Rattle.state_dag.specs.Held.{seen}
use Rattle.state_dag.specs.Stands.{Stands}
use Rattle.state_dag.specs.Nodes.{AreDistinct}
use Rattle.plain_dag.specs.Rows.{lengthened, row_left}
use Rattle.tardis_base.specs.declared.records.Limits.{Limits}
use Rattle.state_dag.proofs.KeptEntries.{slots_of}
use Rattle.state_dag.specs.Rows.{count_at, further, row_fault, moved_on, with_last, advanced, AdvancedBy}
use Rattle.state_dag.proofs.Memory.{slot-place, entries-apart, entries-long}
use Rattle.state_dag.proofs.NewIds.{uncounted-none}
use Rattle.state_dag.proofs.SameEntries.{sum-within}
use Rattle.state_dag.proofs.Known.{limits-parts}
use Rattle.state_dag.proofs.HeldNext.{held-stays}
use Rattle.state_dag.proofs.RowSteps.{IsAllowed, allowed, with_last-at, row-stands}
use Rattle.state_dag.proofs.RowMemory.{last-split, found-end, earlier-than-last, entries-moved, found-last, found-other-than, slots-same, held-moved}
use Rattle.state_dag.proofs.StateDag.advance.Goals as goal
use Rattle.state_dag.proofs.StateDag.advance.Goals.{then-count-eq1, else-count-eq1}

-- what a fault of the row's end tells
row-refused : (table : Table) (site n : ℕ) (fault : RowFault) → row_fault table site n ≡ Some fault → AdvancedBy table table site n (Err fault)
row-refused table site n BadSite e = (e, refl)
row-refused table site n Empty e = (e, refl)
row-refused table site n SeqEnd e = (e, refl)
row-refused table site n NoMemory e = refl

pub returns-in_err-last-clause-advanced : goal.returns-in_err-last-clause-advanced
returns-in_err-last-clause-advanced c =
    let table = c.args.self.now in
    let p = err_from_is_err_and c.from_residual.result c.from_residual.ensures.1 in
    let wrong : RowFault → Result Slot RowFault = λ f. Err f in
    subst (λ (r : Result Slot RowFault). AdvancedBy table table c.args.site c.args.count r) (sym (p.1 ∙ ap wrong p.2))
    (row-refused table c.args.site c.args.count c.in_err-last.field-0.0 c.in_err-last.ensures.fault)

pub invariant_of-self : goal.invariant_of-self
invariant_of-self c =
    let a = c.self.inside in
    held-stays a (record a { slots = c.put.new.self }) c.self.invariant refl refl refl refl refl refl refl refl c.in_err-put.ensures.same refl

pub returns-in_err-put-clause-advanced : goal.returns-in_err-put-clause-advanced
returns-in_err-put-clause-advanced c =
    let table = c.args.self.now in
    let p = err_from_is_err_and c.from_residual-in_err-put.result c.from_residual-in_err-put.ensures.1 in
    let wrong : RowFault → Result Slot RowFault = λ f. Err f in
    subst (λ (r : Result Slot RowFault). AdvancedBy table (seen c.self.inside) c.args.site c.args.count r) (sym (p.1 ∙ ap wrong p.2)) c.self.view_is

pub put-requires : goal.put-requires
put-requires c = λ x of_site from.
    let a = c.self.inside in
    let table = c.args.self.now in
    let may = allowed table c.args.site c.args.count c.in_ok-last.ensures.fault in
    let some = may.some in
    let number = c.in_ok-last.ensures.number in
    let counts : count_at table c.args.site ≡ get_or a.counts.items (c.args.site - 1) 0 = unwrap_or-slice_get table.counts (c.args.site - 1) 0
    ∙ ap (λ (t : Table). get_or t.counts (c.args.site - 1) 0) (sym c.self.view_is) in
    let counted = ap (λ (n : ℕ). get_or a.counts.items (n - 1) 0) of_site in
    c.self.invariant.indexed x ∙ uncounted-none a.counts.items x (seen a).entries c.self.invariant.among_counted (omega arith)

pub overflow_sub-before : goal.overflow_sub-before
overflow_sub-before c =
    let number = c.in_ok-last.ensures.number in
    let some = (allowed c.args.self.now c.args.site c.args.count c.in_ok-last.ensures.fault).some in
    omega arith

pub overflow_sub-known : goal.overflow_sub-known
overflow_sub-known c =
    let counted = c.self.invariant.counted in
    omega arith

pub set_count-requires-clause-first : goal.set_count-requires-clause-first
set_count-requires-clause-first c = (allowed c.args.self.now c.args.site c.args.count c.in_ok-last.ensures.fault).first

pub set_count-requires-clause-last : goal.set_count-requires-clause-last
set_count-requires-clause-last c =
    let last = (allowed c.args.self.now c.args.site c.args.count c.in_ok-last.ensures.fault).last in
    let most = ap (λ (t : Table). t.limits.sites) c.self.view_is in
    let sites = c.self.invariant.sites in
    omega arith

pub overflow_add-known : goal.overflow_add-known
overflow_add-known c =
    let sums = sum-within c.self.inside.counts.items c.self.invariant.fit in
    let sites = c.self.invariant.sites in
    let few = (limits-parts c.self.inside.limits c.self.invariant.valid).sites in
    let counted = c.self.invariant.counted in
    let more = c.from.ensures in
    let fits = c.ranges.count.fits in
    omega arith

pub move_on-requires : goal.move_on-requires
move_on-requires c =
    slot-place c.self.inside c.self.invariant c.last-slot.result
    (subst (λ (t : Table). is_slot t c.last-slot.result ≡ true) (sym c.self.view_is) c.last-slot.ensures.slot)

-- what the memory is afterwards
abbrev inside-after : goal.After-self-1 → Inside
inside-after c = record {
  limits = c.self.inside.limits;
  counts = c.set_count.new.counts;
  known = c.self.inside.known + c.from.result;
  nodes =
      c.move_on.new.nodes;
  order = c.self.inside.order;
  kept = c.self.inside.kept;
  leaves = c.self.inside.leaves;
  slots = c.remove.new.self;
  since = c.self.inside.since;
}

may : (c : goal.After-self-1) → IsAllowed c.args.self.now c.args.site c.args.count
may c = allowed c.args.self.now c.args.site c.args.count c.in_ok-last.ensures.fault

-- the entries before the last, and it
split : (c : goal.After-self-1) → (front : List Entry) × (e : Entry) × ((seen c.self.inside).entries ≡ front ++ e ∷ []) × (e.slot ≡ c.last-slot.result)
split c = last-split c.self.inside c.args.self.now c.self.view_is c.last-slot.result c.last-slot.ensures.slot c.last-slot.ensures.end

abbrev front : goal.After-self-1 → List Entry
front c = (split c).0

abbrev end : goal.After-self-1 → Entry
end c = (split c).1

-- it is that of the node that was read
end-is : (c : goal.After-self-1) → (end c).id ≡ c.node.result.now.id
end-is c =
    let there : entry_at (seen c.self.inside) (end c).slot ≡ Some (end c) = found-end c.self.inside c.self.invariant (front c) (end c) (split c).2 in
    let read : entry_at (seen c.self.inside) c.last-slot.result ≡ Some (entry_of c.last-slot.result.0 c.node.result.now) =
    ap (λ (t : Table). entry_at t c.last-slot.result) c.self.view_is ∙ c.node.ensures.entry in
    ap (λ (e : Entry). e.id) (same_Some (end c) (entry_of c.last-slot.result.0 c.node.result.now)
    (sym there ∙ (ap (entry_at (seen c.self.inside)) (split c).3 ∙ read)))

-- the state before the last of the row
last-before : (c : goal.After-self-1) → c.if-count-eq1.before ≡ cond (eqb c.args.count 1) (end c).id (further c.args.self.now c.args.site (c.args.count - 1))
last-before c = elim c.if-count-eq1.branch [
  | then-count-eq1 w ↦
      w.before-is
      ∙ (sym (end-is c)
      ∙ sym (cond-true (eqb c.args.count 1) (end c).id (further c.args.self.now c.args.site (c.args.count - 1))
      (eq-eqb c.args.count 1 w.if-count-eq1.true)))
  | else-count-eq1 w ↦
      let number = c.in_ok-last.ensures.number in
      let some = (may c).some in
      let named : ℕ → StateId = λ n. record { site = c.args.site; sequence = n } in
      w.before-is
      ∙ (ap named (omega arith)
      ∙ sym (cond-false (eqb c.args.count 1) (end c).id (further c.args.self.now c.args.site (c.args.count - 1))
      (ne_eqb c.args.count 1 w.if-count-eq1.false)))
]

-- the node of the last of the row
abbrev node-after : goal.After-self-1 → Node
node-after c = record (get_or c.self.inside.nodes.items (end c).slot.0 c.node.result.now) {
  id = record { site = c.args.site; sequence = c.in_ok-last.last };
  arrival = c.self.inside.known + c.from.result - 1;
  parents = c.only-parents.result;
}

nodes-after : (c : goal.After-self-1) → c.move_on.new.nodes.items ≡ set c.self.inside.nodes.items (end c).slot.0 (node-after c)
nodes-after c = subst (λ (s : Slot). c.move_on.new.nodes.items
    ≡ set c.self.inside.nodes.items s.0 (record (get_or c.self.inside.nodes.items s.0 c.node.result.now) {
      id = record { site = c.args.site; sequence = c.in_ok-last.last };
      arrival = c.self.inside.known + c.from.result - 1;
      parents = c.only-parents.result;
    })) (sym (split c).3) (c.move_on.ensures c.node.result.now)

counts-alike : (c : goal.After-self-1) → count_at c.args.self.now c.args.site ≡ get_or c.self.inside.counts.items (c.args.site - 1) 0
counts-alike c =
    unwrap_or-slice_get c.args.self.now.counts (c.args.site - 1) 0
    ∙ ap (λ (t : Table). get_or t.counts (c.args.site - 1) 0) (sym c.self.view_is)

pub invariant_of-self-2 : goal.invariant_of-self-2
invariant_of-self-2 c =
    let a = c.self.inside in
    let allow = may c in
    let first = allow.first in
    let within = allow.last in
    let fits = allow.fits in
    let number = c.in_ok-last.ensures.number in
    let counts = counts-alike c in
    let sites = c.self.invariant.sites in
    let most = ap (λ (t : Table). t.limits.sites) c.self.view_is in
    let more = c.from.ensures in
    let some = allow.some in
    held-moved a (inside-after c) c.self.invariant (front c) (end c) (split c).2 c.node.result.now (node-after c) refl (nodes-after c) refl refl
    (c.args.site - 1) c.in_ok-last.last c.args.count refl refl refl (ap (λ (n : ℕ). a.known + n) more) c.set_count.ensures.set (omega arith) some
    (omega arith) (omega arith) refl refl (omega arith)
    (λ x. c.remove.ensures x
    ∙ ap (λ (z : StateId). cond (same_id x z) None (slot_of_state c.put.new.self x)) (sym (end-is c))
    ∙ ap (λ (o : Option Slot). cond (same_id x (end c).id) None o) (c.in_ok-put.ensures.put x
    ∙ ap (λ (s : Slot). cond (same_id x (record { site = c.args.site; sequence = c.in_ok-last.last })) (Some s) (slot_of_state a.slots x)) (sym (split c).3)))

seen-after : (c : goal.After-self-1) → seen (inside-after c) ≡ advanced c.args.self.now c.args.site c.args.count
seen-after c =
    let a = c.self.inside in
    let table = c.args.self.now in
    let site = c.args.site in
    let n = c.args.count in
    let e = end c in
    let last : ℕ = c.in_ok-last.last in
    let number : last ≡ count_at table site + n = c.in_ok-last.ensures.number in
    let known : a.known + c.from.result ≡ table.known + n = ap₂ (λ (x y : ℕ). x + y) (ap (λ (t : Table). t.known) c.self.view_is) c.from.ensures in
    let made : StateId → ℕ → List StateId → Entry = λ i k ps. record e { id = i; arrival = k; parents = ps } in
    let named : ℕ → StateId = λ m. record { site = site; sequence = m } in
    let moved : made (named last) (a.known + c.from.result - 1) c.only-parents.result.items ≡ moved_on table site n e =
    ap (λ i. made i (a.known + c.from.result - 1) c.only-parents.result.items) (ap named number)
    ∙ (ap (λ (k : ℕ). made (further table site n) (k - 1) c.only-parents.result.items) known
    ∙ ap (made (further table site n) (table.known + n - 1)) (c.only-parents.ensures ∙ ap (λ (z : StateId). z ∷ []) (last-before c))) in
    let entries : (seen (inside-after c)).entries ≡ with_last (moved_on table site n) table.entries =
    entries-moved a (inside-after c) c.self.invariant (front c) e (split c).2 c.node.result.now (node-after c) refl (nodes-after c) refl refl
    ∙ (ap (λ (z : Entry). front c ++ z ∷ []) moved
    ∙ sym (ap (with_last (moved_on table site n)) (sym (ap (λ (t : Table). t.entries) c.self.view_is) ∙ (split c).2)
    ∙ with_last-at (moved_on table site n) (front c) e)) in
    let counts : c.set_count.new.counts.items ≡ set table.counts (site - 1) (count_at table site + n) =
    c.set_count.ensures.set ∙ ap₂ (λ (cs : List ℕ) (m : ℕ). set cs (site - 1) m) (ap (λ (t : Table). t.counts) c.self.view_is) number in
    let whole : Limits → List ℕ → ℕ → List Entry → Table = λ l cs k es. record { limits = l; counts = cs; known = k; entries = es } in
    ap (λ l. whole l c.set_count.new.counts.items (a.known + c.from.result) (seen (inside-after c)).entries) (ap (λ (t : Table). t.limits) c.self.view_is)
    ∙ (ap (λ cs. whole table.limits cs (a.known + c.from.result) (seen (inside-after c)).entries) counts
    ∙ (ap (λ k. whole table.limits (set table.counts (site - 1) (count_at table site + n)) k (seen (inside-after c)).entries) known
    ∙ ap (whole table.limits (set table.counts (site - 1) (count_at table site + n)) (table.known + n)) entries))

pub returns-clause-advanced : goal.returns-clause-advanced
returns-clause-advanced c = (c.in_ok-last.ensures.fault, seen-after c)

pub returns-clause-stands : goal.returns-clause-stands
returns-clause-stands c = λ rs ks wss stands long writes.
    let table = c.args.self.now in
    let allow = may c in
    let some = allow.some in
    let fits = allow.fits in
    let kept = c.self.invariant.some in
    let entries = entries-long c.self.inside c.self.invariant in
    let same = ap (λ (t : Table). length t.entries) c.self.view_is in
    let stood = row-stands c.args.site allow.first table rs ks wss stands
    (subst (λ (t : Table). AreDistinct (slots_of t.entries)) c.self.view_is (entries-apart c.self.inside c.self.invariant)) (omega arith) allow.last
    (omega arith) (omega arith) writes in
    subst (λ (t : Table). Stands t (lengthened rs c.args.site wss) (row_left rs ks c.args.site wss))
    (ap (advanced table c.args.site) long ∙ sym (seen-after c)) stood

pub returns-clause-slot : goal.returns-clause-slot
returns-clause-slot c =
    let there = found-last c.self.inside (inside-after c) c.self.invariant (front c) (end c) (split c).2 c.node.result.now (node-after c) refl (nodes-after c)
    refl refl in
    let named : ℕ → StateId = λ m. record { site = c.args.site; sequence = m } in
    ap (id_at (seen (inside-after c))) (sym (split c).3) ∙ (ap (option_map (λ (e : Entry). e.id)) there
    ∙ ap (λ (m : ℕ). Some (named m)) c.in_ok-last.ensures.number)

-- a slot that isn't that of the last has another number
other-number : (c : goal.After-self-1) (s : Slot) → (s ≡ c.last-slot.result → ⊥) → eqb (end c).slot.0 s.0 ≡ false
other-number c s differs = ne_eqb (end c).slot.0 s.0 (λ e.
    let named : ℕ → Slot = λ n. record { 0 = n } in
    differs (sym (ap named e) ∙ (split c).3))

alike-found : (c : goal.After-self-1) (s : Slot) → (s ≡ c.last-slot.result → ⊥) → entry_at (seen (inside-after c)) s ≡ entry_at c.args.self.now s
alike-found c s differs =
    found-other-than c.self.inside (inside-after c) c.self.invariant (front c) (end c) (split c).2 c.node.result.now (node-after c) refl (nodes-after c)
    refl refl s (other-number c s differs)
    ∙ ap (λ (t : Table). entry_at t s) c.self.view_is

pub returns-clause-names : goal.returns-clause-names
returns-clause-names c = λ s differs. ap (option_map (λ (e : Entry). e.id)) (alike-found c s differs)

pub returns-clause-arrivals : goal.returns-clause-arrivals
returns-clause-arrivals c = λ s differs. ap (λ o. option_map_or (λ (e : Entry). e.arrival) o 0) (alike-found c s differs)

pub returns-clause-kept : goal.returns-clause-kept
returns-clause-kept c = λ s.
    let a = c.self.inside in
    ap₂ (λ (x y : Bool). x && y) (slots-same a (inside-after c) c.self.invariant (front c) (end c) (split c).2 c.node.result.now (node-after c) refl
    (nodes-after c) refl refl s) ((invariant_of-self-2 c).in_order ∙ sym c.self.invariant.in_order)
    ∙ ap (λ (t : Table). is_kept_at t s) c.self.view_is

pub returns-clause-arrived : goal.returns-clause-arrived
returns-clause-arrived c =
    let there = found-last c.self.inside (inside-after c) c.self.invariant (front c) (end c) (split c).2 c.node.result.now (node-after c) refl (nodes-after c)
    refl refl in
    let known = ap (λ (t : Table). t.known) c.self.view_is in
    let more = c.from.ensures in
    let same : c.self.inside.known + c.from.result - 1 ≡ c.args.self.now.known + c.args.count - 1 = omega arith in
    ap (arrival_at (seen (inside-after c))) (sym (split c).3) ∙ (ap (λ o. option_map_or (λ (e : Entry). e.arrival) o 0) there ∙ same)

pub returns-clause-newest : goal.returns-clause-newest
returns-clause-newest c = λ s differs kept.
    let there = (and_parts (is_slot c.args.self.now s) (arrive_in_order c.args.self.now.entries) kept).0 in
    let before = earlier-than-last c.self.inside c.self.invariant (front c) (end c) (split c).2 s (other-number c s differs)
    (subst (λ (t : Table). is_slot t s ≡ true) (sym c.self.view_is) there) in
    subst (λ (t : Table). arrival_at t s < arrival_at t c.last-slot.result) c.self.view_is
    (subst (λ (z : Slot). arrival_at (seen c.self.inside) s < arrival_at (seen c.self.inside) z) (split c).3 before)
