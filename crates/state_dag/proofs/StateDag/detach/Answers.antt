use Rattle.std.proofs.Common.{◌≡◌, ◌∙◌, ◌+◌, ◌-◌, ◌++◌, ◌∷◌, [], ◌<◌, ◌≤◌, ℕ, Bool, true, eqb, ltb, List, length, take, drop, get_or, Option, Some, None, cond}
use Rattle.std.proofs.Common.{is_some, refl, sym, ap, subst, arith}
use Rattle.std.specs.List.{list_all}
use Rattle.std.specs.Option.{option_and_then}
use Rattle.state_dag.specs.IdSlots.{slot_of_state}
use Rattle.tardis_base.specs.Ids.{same_id}
use Rattle.std.proofs.lemmas.Option.{same_Some}
use Rattle.std.proofs.lemmas.List.{append_assoc}
use Rattle.tardis_base.specs.declared.ids.StateId.{StateId}
use Rattle.tardis_base.specs.declared.ids.Slot.{Slot}
use Rattle.state_dag.specs.declared.StateDag.TheInside.{Inside}
use Rattle.state_dag.specs.declared.nodes.Node.{Node}
use Rattle.state_dag.specs.Table.{Entry, Table, entry_at, is_slot, arrival_at}
use Rattle.state_dag.specs.Grown.{is_slot_among}
use Rattle.state_dag.specs.Nodes.{table_of}
use Rattle.state_dag.specs.Views.{entry_of, entries_in}
use Rattle.state_dag.specs.Held.{kept_of, seen, IsHeld}
use Rattle.state_dag.specs.Shared.{common}
use Rattle.state_dag.specs.Detached.{shared_slot, passing_on, forgetting, changed_at}
use Rattle.state_dag.proofs.Memory.{kept-placed, kept-long, kept-now, kept-slots, entries-long, entries-apart, entry-kept, slot-place, take-read}
use Rattle.state_dag.proofs.Calls.{slots-ascend}
use Rattle.state_dag.proofs.AddSteps.{leaves-in_order}
use Rattle.state_dag.proofs.LeftTables.{HasLeft, left-detached, left-above, left-shared, left-gone, left-names, left-others, left-kept, left-arrives}
use Rattle.state_dag.proofs.LeftTables.{left-stays, left-slots, left-children, heir-first, slot-read, common-passes}
use Rattle.state_dag.proofs.LeftSlots.{Parted, parted}
use Rattle.state_dag.proofs.LeftMemory.{was, followed, heir-kept, held-left, unchanged-before}
use Rattle.state_dag.proofs.StateDag.detach.Goals as goal

pub drop_slot-requires : goal.drop_slot-requires
drop_slot-requires c = leaves-in_order c.self.inside c.self.invariant c.args.self.now c.self.view_is [] refl c.self.inside.nodes.items c.deref.result.now
    c.self.inside.leaves.items c.deref.ensures.value refl refl

slot-timed : (a : Inside) → IsHeld a → (table : Table) → seen a ≡ table → (slot : Slot) → is_slot table slot ≡ true → slot.0 < length a.since.items
slot-timed a held table view slot there =
    let placed = slot-place a held slot (subst (λ (t : Table). is_slot t slot ≡ true) (sym view) there) in
    let times = held.times in
    omega arith

same-default : (xs : List ℕ) (k d e : ℕ) → k < length xs → get_or xs k d ≡ get_or xs k e
same-default [] k d e lt = absurd (omega arith)
same-default (x ∷ xs) ℕ.zero d e lt = refl
same-default (x ∷ xs) (ℕ.suc k) d e lt = same-default xs k d e (omega arith)

pub index-since-requires : goal.index-since-requires
index-since-requires c =
    let lt = slot-timed c.self.inside c.self.invariant c.args.self.now c.self.view_is c.args.slot (ap is_some c.node-node.ensures.entry) in
    omega (arith, c.self.inside.since.ok.0)

pub first_holder-first-requires : goal.first_holder-first-requires
first_holder-first-requires c = slots-ascend c.self.inside c.self.invariant c.deref-2.result.now c.kept-kept.result.now
    c.deref-2.ensures.value (c.kept-kept.ensures ∙ kept-now c.self.inside c.self.invariant)

pub hand_over-requires-clause-none : goal.hand_over-requires-clause-none
hand_over-requires-clause-none c = λ k d there.
    let a = c.self.inside in
    let lt = slot-timed a c.self.invariant c.args.self.now c.self.view_is c.args.slot (ap is_some c.node-node.ensures.entry) in
    let time : c.index-since.result.now ≡ get_or a.since.items c.args.slot.0 0 = c.index-since.ensures
    ∙ same-default a.since.items c.args.slot.0 c.index-since.result.now 0 lt in
    let kept = c.kept-kept.ensures ∙ kept-now a c.self.invariant in
    unchanged-before a c.self.invariant c.args.slot c.first_slot-heir.result c.first_holder-first.result c.place-place.result
    c.first_holder-first.ensures.within
    (subst (λ (m : ℕ). (i : ℕ) (e : Slot) → i < c.first_holder-first.result → arrival_at (table_of a.nodes.items) (get_or (kept_of a) i e) < m) time
    (subst (λ (ss : List Slot). (i : ℕ) (e : Slot) → i < c.first_holder-first.result → arrival_at (table_of a.nodes.items) (get_or ss i e)
    < c.index-since.result.now) kept
    (subst (λ (ns : List Node). (i : ℕ) (e : Slot) → i < c.first_holder-first.result → arrival_at (table_of ns)
    (get_or c.kept-kept.result.now i e) < c.index-since.result.now) c.deref-2.ensures.value c.first_holder-first.ensures.before)))
    k d (subst (λ (ss : List Slot). is_slot_among (record { 0 = k }) (take c.first_holder-first.result (take c.place-place.result ss)) ≡ true) kept there)

pub lower_time-requires : goal.lower_time-requires
lower_time-requires c =
    let test : Slot → Slot → Bool = λ a b. eqb a.0 b.0 in
    let read = ap (option_and_then (λ (e : Entry). common test e.stand_ins)) c.node-node.ensures.entry in
    let heir = c.first_slot-heir.result in
    let first = c.first_slot-heir.ensures ∙ ap (λ (ss : List Slot). get_or ss 0 heir) c.as_slice.ensures in
    let shared = heir-first c.node-node.result.now.stand_ins.items heir first (sym (ap is_some read) ∙ c.requires) in
    slot-timed c.self.inside c.self.invariant c.args.self.now c.self.view_is heir
    (common-passes (is_slot c.args.self.now) c.node-node.result.now.stand_ins.items heir shared c.node-node.ensures.stand_ins)

lowered : (c : goal.After-self-1) → get_or c.lower_time.new.since.items c.first_slot-heir.result.0 0 ≤ get_or c.self.inside.since.items c.args.slot.0 0
lowered c =
    let a = c.self.inside in
    let lt = slot-timed a c.self.invariant c.args.self.now c.self.view_is c.args.slot (ap is_some c.node-node.ensures.entry) in
    let time : c.index-since.result.now ≡ get_or a.since.items c.args.slot.0 0 = c.index-since.ensures
    ∙ same-default a.since.items c.args.slot.0 c.index-since.result.now 0 lt in
    let own = c.lower_time.ensures.own in
    omega arith

pub hand_over-requires-clause-places : goal.hand_over-requires-clause-places
hand_over-requires-clause-places c =
    subst (λ (ss : List Slot). list_all (λ (s : Slot). ltb s.0 (length c.self.inside.nodes.items)) ss ≡ true)
    (sym (c.kept-kept.ensures ∙ kept-now c.self.inside c.self.invariant)) (kept-placed c.self.inside c.self.invariant)

pub hand_over-requires-clause-place : goal.hand_over-requires-clause-place
hand_over-requires-clause-place c =
    let a = c.self.inside in
    let within = c.place-place.ensures.within in
    let same = ap (λ (t : Table). length t.entries) c.self.view_is in
    let entries = entries-long a c.self.invariant in
    let kept = kept-long a c.self.invariant in
    let read = ap length (c.kept-kept.ensures ∙ kept-now a c.self.invariant) in
    omega arith

pub leave-requires : goal.leave-requires
leave-requires c =
    let a = c.self.inside in
    let within = c.place-place.ensures.within in
    let same = ap (λ (t : Table). length t.entries) c.self.view_is in
    let entries = entries-long a c.self.invariant in
    let used = c.self.invariant.used in
    omega arith

-- what the memory is afterwards
abbrev inside-left : goal.After-self-1 → Inside
inside-left c = record {
  limits = c.self.inside.limits;
  counts = c.self.inside.counts;
  known = c.self.inside.known;
  nodes = c.hand_over.new.nodes;
  order =
      c.leave.new.self;
  kept = c.self.inside.kept - 1;
  leaves = c.drop_slot.new.slots;
  slots = c.remove.new.self;
  since = c.lower_time.new.since;
}

place-within : (c : goal.After-self-1) → c.place-place.result < c.self.inside.kept
place-within c =
    let within = c.place-place.ensures.within in
    let same = ap (λ (t : Table). length t.entries) c.self.view_is in
    let entries = entries-long c.self.inside c.self.invariant in
    omega arith

place-read : (c : goal.After-self-1) → get_or c.self.inside.order.items c.place-place.result c.args.slot ≡ c.args.slot
place-read c =
    let a = c.self.inside in
    let p = c.place-place.result in
    let d = entry_of 0 c.node-node.result.now in
    let lt = place-within c in
    let entries = entries-long a c.self.invariant in
    sym (take-read a.kept a.order.items p c.args.slot lt)
    ∙ ap (λ (ss : List Slot). get_or ss p c.args.slot) (sym (kept-slots a c.self.invariant))
    ∙ slot-read (seen a).entries p d c.args.slot (omega arith)
    ∙ ap (λ (t : Table). (get_or t.entries p d).slot) c.self.view_is
    ∙ c.place-place.ensures.at d

parts : (c : goal.After-self-1) → Parted c.self.inside.order.items c.place-place.result c.self.inside.kept c.args.slot
parts c = parted c.self.inside.order.items c.place-place.result c.self.inside.kept c.args.slot (place-within c) c.self.invariant.inside (place-read c)

each-changed : (c : goal.After-self-1) → (k : ℕ) (e : Node) → k < length c.self.inside.nodes.items →
    entry_of k (get_or c.hand_over.new.nodes.items k e) ≡ changed_at (forgetting c.args.slot (ltb 1 c.len-is_fork.result))
    (drop (c.place-place.result + 1) (kept_of c.self.inside))
    (changed_at (passing_on c.args.slot c.first_slot-heir.result) (take c.place-place.result (kept_of c.self.inside))
    (entry_of k (get_or c.self.inside.nodes.items k e)))
each-changed c =
    subst (λ (ss : List Slot). (k : ℕ) (e : Node) → k < length c.self.inside.nodes.items →
    entry_of k (get_or c.hand_over.new.nodes.items k e) ≡ changed_at (forgetting c.args.slot (ltb 1 c.len-is_fork.result))
    (drop (c.place-place.result + 1) ss) (changed_at (passing_on c.args.slot c.first_slot-heir.result) (take c.place-place.result ss)
    (entry_of k (get_or c.self.inside.nodes.items k e))))
    (c.kept-kept.ensures ∙ kept-now c.self.inside c.self.invariant) c.hand_over.ensures.each

freed : (c : goal.After-self-1) → c.leave.new.self.items ≡ take c.place-place.result c.self.inside.order.items
    ++ (drop (c.place-place.result + 1) c.self.inside.order.items ++ c.args.slot ∷ [])
freed c =
    c.leave.ensures.items c.args.slot
    ∙ append_assoc (take c.place-place.result c.self.inside.order.items) (drop (c.place-place.result + 1) c.self.inside.order.items)
    (get_or c.self.inside.order.items c.place-place.result c.args.slot ∷ [])
    ∙ ap (λ (s : Slot). take c.place-place.result c.self.inside.order.items ++ (drop (c.place-place.result + 1) c.self.inside.order.items ++ s ∷ []))
    (place-read c)

slot-there : (c : goal.After-self-1) → is_slot (seen c.self.inside) c.args.slot ≡ true
slot-there c = subst (λ (t : Table). is_slot t c.args.slot ≡ true) (sym c.self.view_is) (go (entry_at c.args.self.now c.args.slot) c.node-node.ensures.entry)
  where
    go : (o : Option Entry) → o ≡ Some (entry_of c.args.slot.0 c.node-node.result.now) → is_some o ≡ true
    go o is = ap is_some is

-- the node that was read is that in the slot's place
node-read : (c : goal.After-self-1) → entry_of c.args.slot.0 c.node-node.result.now
    ≡ entry_of c.args.slot.0 (get_or c.self.inside.nodes.items c.args.slot.0 c.node-node.result.now)
node-read c =
    let n = c.node-node.result.now in
    let one = entry_of c.args.slot.0 n in
    let two = entry_of c.args.slot.0 (get_or c.self.inside.nodes.items c.args.slot.0 n) in
    same_Some one two (sym c.node-node.ensures.entry ∙ ap (λ (t : Table). entry_at t c.args.slot) (sym c.self.view_is)
    ∙ entry-kept c.self.inside c.self.invariant c.args.slot n (slot-there c))

shares-now : (c : goal.After-self-1) → shared_slot c.args.self.now c.args.slot ≡ Some c.first_slot-heir.result
shares-now c =
    let test : Slot → Slot → Bool = λ a b. eqb a.0 b.0 in
    let read = ap (option_and_then (λ (e : Entry). common test e.stand_ins)) c.node-node.ensures.entry in
    let heir = c.first_slot-heir.result in
    let first = c.first_slot-heir.ensures ∙ ap (λ (ss : List Slot). get_or ss 0 heir) c.as_slice.ensures in
    read ∙ heir-first c.node-node.result.now.stand_ins.items heir first (sym (ap is_some read) ∙ c.requires)

shares-before : (c : goal.After-self-1) → shared_slot (seen c.self.inside) c.args.slot ≡ Some c.first_slot-heir.result
shares-before c = ap (λ (t : Table). shared_slot t c.args.slot) c.self.view_is ∙ shares-now c

has-left : (c : goal.After-self-1) → HasLeft (seen c.self.inside) (seen (inside-left c)) c.args.slot c.first_slot-heir.result
has-left c =
    let a = c.self.inside in
    let n = c.node-node.result.now in
    let s = c.args.slot in
    let heir = c.first_slot-heir.result in
    let p = c.place-place.result in
    let w = parts c in
    let fork = ltb 1 c.len-is_fork.result in
    let children : c.len-is_fork.result ≡ length n.children.items = c.len-is_fork.ensures in
    record {
      before = entries_in a.nodes.items w.xs;
      behind = entries_in a.nodes.items w.zs;
      g = entry_of s.0 (get_or a.nodes.items s.0 n);
      fork = fork;
      was = was a (inside-left c) c.self.invariant s heir fork p n w c.hand_over.ensures.count (each-changed c) c.hand_over.ensures.ascending (freed c) refl;
      at = refl;
      distinct = entries-apart a c.self.invariant;
      follows = followed a (inside-left c) c.self.invariant s heir fork p n w c.hand_over.ensures.count (each-changed c) c.hand_over.ensures.ascending
          (freed c) refl (shares-before c);
      up = c.self.invariant.in_order;
      shares = shares-before c;
      later = c.self.invariant.later;
      is_fork = ap (ltb 1) children ∙ ap (λ (e : Entry). ltb 1 (length e.children)) (node-read c);
      limits = refl;
      counts = refl;
      known = refl;
      heir_there = heir-kept a (inside-left c) c.self.invariant s heir fork p n w c.hand_over.ensures.count (each-changed c) c.hand_over.ensures.ascending
          (freed c) refl (shares-before c) refl;
    }

has-left-now : (c : goal.After-self-1) → HasLeft c.args.self.now (seen (inside-left c)) c.args.slot c.first_slot-heir.result
has-left-now c = subst (λ (t : Table). HasLeft t (seen (inside-left c)) c.args.slot c.first_slot-heir.result) c.self.view_is (has-left c)

pub invariant_of-self : goal.invariant_of-self
invariant_of-self c =
    let a = c.self.inside in
    let n = c.node-node.result.now in
    held-left a (inside-left c) c.self.invariant c.args.slot c.first_slot-heir.result (ltb 1 c.len-is_fork.result) c.place-place.result n
    (parts c) c.hand_over.ensures.count (each-changed c) c.hand_over.ensures.ascending (freed c) refl (shares-before c) refl
    refl refl refl c.drop_slot.ensures.items
    (subst (λ (z : StateId). (x : StateId) → slot_of_state c.remove.new.self x ≡ cond (same_id x z) None (slot_of_state a.slots x))
    (ap (λ (e : Entry). e.id) (node-read c)) c.remove.ensures)
    c.lower_time.ensures.count (lowered c) c.lower_time.ensures.lower
    (let left = c.leave.ensures.used in let used = c.self.invariant.used in omega arith)

pub returns-clause-detached : goal.returns-clause-detached
returns-clause-detached c = left-detached c.args.self.now (seen (inside-left c)) c.args.slot c.first_slot-heir.result (has-left-now c)

pub returns-clause-shared : goal.returns-clause-shared
returns-clause-shared c = left-shared c.args.self.now (seen (inside-left c)) c.args.slot c.first_slot-heir.result (has-left-now c)

pub returns-clause-gone : goal.returns-clause-gone
returns-clause-gone c = left-gone c.args.self.now (seen (inside-left c)) c.args.slot c.first_slot-heir.result (has-left-now c)

pub returns-clause-names : goal.returns-clause-names
returns-clause-names c = left-names c.args.self.now (seen (inside-left c)) c.args.slot c.first_slot-heir.result (has-left-now c)

pub returns-clause-kept : goal.returns-clause-kept
returns-clause-kept c = left-kept c.args.self.now (seen (inside-left c)) c.args.slot c.first_slot-heir.result (has-left-now c)

pub returns-clause-arrivals : goal.returns-clause-arrivals
returns-clause-arrivals c = left-arrives c.args.self.now (seen (inside-left c)) c.args.slot c.first_slot-heir.result (has-left-now c)

pub returns-clause-stays : goal.returns-clause-stays
returns-clause-stays c = left-stays c.args.self.now (seen (inside-left c)) c.args.slot c.first_slot-heir.result (has-left-now c)

pub returns-clause-slots : goal.returns-clause-slots
returns-clause-slots c = left-slots c.args.self.now (seen (inside-left c)) c.args.slot c.first_slot-heir.result (has-left-now c)

pub returns-clause-children : goal.returns-clause-children
returns-clause-children c = left-children c.args.self.now (seen (inside-left c)) c.args.slot c.first_slot-heir.result (has-left-now c)

pub returns-clause-above : goal.returns-clause-above
returns-clause-above c = left-above c.args.self.now (seen (inside-left c)) c.args.slot c.first_slot-heir.result (has-left-now c)

pub returns-clause-others : goal.returns-clause-others
returns-clause-others c = left-others c.args.self.now (seen (inside-left c)) c.args.slot c.first_slot-heir.result (has-left-now c)
