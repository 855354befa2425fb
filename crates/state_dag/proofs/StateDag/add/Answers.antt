use Rattle.std.proofs.Common.{◌≡◌, ◌∙◌, ◌+◌, ◌-◌, ◌++◌, ◌∷◌, [], not, ◌<◌, ◌≤◌, ℕ, true, List, ltb, length, filter, get_or, unwrap_or, slice_get, slice_set}
use Rattle.std.proofs.Common.{Option, None, Result, Ok, Err, OnErr, IsTrue, refl, sym, ap, ap₂, subst, arith}
use Rattle.std.specs.List.{list_all}
use Rattle.std.proofs.lemmas.Bool.{ne_eqb}
use Rattle.std.proofs.lemmas.Option.{unwrap_or-slice_get}
use Rattle.std.proofs.lemmas.Result.{err_from_is_err_and}
use Rattle.tardis_base.specs.declared.ids.StateId.{StateId}
use Rattle.tardis_base.specs.declared.ids.Slot.{Slot}
use Rattle.tardis_base.specs.declared.records.Record.{Record}
use Rattle.tardis_base.specs.declared.faults.AddFault.{AddFault}
use Rattle.state_dag.specs.declared.StateDag.TheInside.{Inside}
use Rattle.fork_path.specs.Pairs.{are_ascending_pairs}
use Rattle.state_dag.specs.Table.{Entry, Table, entry_at, arrival_at, is_slot, is_kept_at}
use Rattle.state_dag.specs.Views.{entry_of, entries_in}
use Rattle.state_dag.specs.Stands.{Stands}
use Rattle.state_dag.specs.Answers.{MayBeAdded, AddedTo, IsNewSlot, KeepsSlots}
use Rattle.state_dag.specs.Grown.{is_slot_among, refusal_of, too_long, IsNewEntry, IsGrown}
use Rattle.state_dag.specs.Nodes.{table_of, path_refusal, slot_after_all, with_slot}
use Rattle.state_dag.specs.Held.{kept_of, seen}
use Rattle.state_dag.proofs.NewIds.{uncounted-none}
use Rattle.state_dag.proofs.Following.{Follow}
use Rattle.state_dag.proofs.Became.{Became}
use Rattle.state_dag.proofs.Memory.{entries-long}
use Rattle.state_dag.proofs.LongPaths.{nothing-told}
use Rattle.state_dag.proofs.Added.{added, parents-differ}
use Rattle.state_dag.proofs.SameEntries.{same-count, sum-within}
use Rattle.state_dag.proofs.NextSlot.{IsNext, next-slot}
use Rattle.state_dag.proofs.LastSlots.{slots-kept, slot-was, last-named, kept-stays, last-arrives, arrives-last, gives-child}
use Rattle.state_dag.proofs.GrownTables.{distinct-from_differ, refused-alike, table-grown}
use Rattle.state_dag.proofs.HeldNext.{early-entries, among-passes, view-same, held-stays, entries-after, slot-fresh, held-next}
use Rattle.state_dag.proofs.AddSteps.{parents-placed, gains-now, room-left, gains-at_places, few-gains, all-grown}
use Rattle.state_dag.proofs.AddSteps.{leaves-in_order}
use Rattle.state_dag.proofs.Known.{limits-parts}
use Rattle.state_dag.proofs.StateDag.add.Goals as goal

pub returns-in_err-node-clause-added : goal.returns-in_err-node-clause-added
returns-in_err-node-clause-added c = λ rs ks r stands is may.
    let old = c.args.self.now in
    let p = err_from_is_err_and c.from_residual.result c.from_residual.ensures.1 in
    let wrong : AddFault → Result Slot AddFault = λ f. Err f in
    subst (λ (z : Result Slot AddFault). AddedTo old old rs ks r z) (sym (p.1 ∙ ap wrong p.2)) (c.in_err-node.ensures.refused rs ks r stands is may)

pub make_state_room-requires-clause-places : goal.make_state_room-requires-clause-places
make_state_room-requires-clause-places c = parents-placed c.self.inside c.self.invariant c.args.self.now c.self.view_is c.args.parents.now c.requires.slots

pub make_state_room-requires-clause-gains : goal.make_state_room-requires-clause-gains
make_state_room-requires-clause-gains c = gains-at_places c.self.inside c.self.invariant c.args.self.now c.self.view_is c.args.parents.now c.requires.slots
    c.as_slice-gains.result.now (c.as_slice-gains.ensures.value ∙ gains-now c.self.inside c.self.invariant c.args.self.now c.self.view_is c.args.parents.now c.requires.slots c.in_ok-node.gains.items c.in_ok-node.ensures.gains) c.self.inside.nodes.items refl

pub make_state_room-requires-clause-few : goal.make_state_room-requires-clause-few
make_state_room-requires-clause-few c = few-gains c.self.inside c.self.invariant c.args.self.now c.self.view_is c.args.parents.now c.requires.slots
    c.as_slice-gains.result.now (c.as_slice-gains.ensures.value ∙ gains-now c.self.inside c.self.invariant c.args.self.now c.self.view_is c.args.parents.now c.requires.slots c.in_ok-node.gains.items c.in_ok-node.ensures.gains)

pub drop_slots-requires : goal.drop_slots-requires
drop_slots-requires c = leaves-in_order c.self.inside c.self.invariant c.args.self.now c.self.view_is c.args.parents.now c.requires.slots
    c.make_state_room.new.nodes.items c.as_slice-nodes.result.now c.make_state_room.new.leaves.items c.as_slice-nodes.ensures.value c.make_state_room.ensures.same
    c.make_state_room.ensures.leaves

pub grow-requires-clause-places : goal.grow-requires-clause-places
grow-requires-clause-places c =
    subst (λ (n : ℕ). list_all (λ (s : Slot). ltb s.0 n) c.args.parents.now ≡ true)
    (sym (same-count c.make_state_room.new.nodes.items c.self.inside.nodes.items c.make_state_room.ensures.same))
    (parents-placed c.self.inside c.self.invariant c.args.self.now c.self.view_is c.args.parents.now c.requires.slots)

pub grow-requires-clause-gains : goal.grow-requires-clause-gains
grow-requires-clause-gains c = gains-at_places c.self.inside c.self.invariant c.args.self.now c.self.view_is c.args.parents.now c.requires.slots
    c.as_slice-gains.result.now (c.as_slice-gains.ensures.value ∙ gains-now c.self.inside c.self.invariant c.args.self.now c.self.view_is c.args.parents.now c.requires.slots c.in_ok-node.gains.items c.in_ok-node.ensures.gains) c.make_state_room.new.nodes.items
    (same-count c.make_state_room.new.nodes.items c.self.inside.nodes.items c.make_state_room.ensures.same)

pub invariant_of-self : goal.invariant_of-self
invariant_of-self c =
    let a = c.self.inside in
    let b : Inside = record {
      limits = a.limits;
      counts = a.counts;
      known = a.known;
      nodes = c.make_state_room.new.nodes;
      order =
          c.make_state_room.new.order;
      kept = a.kept;
      leaves = c.make_state_room.new.leaves;
      slots = a.slots;
      since = c.make_state_room.new.since;
    } in
    held-stays a b c.self.invariant refl refl refl c.make_state_room.ensures.leaves c.make_state_room.ensures.order refl c.make_state_room.ensures.used c.make_state_room.ensures.same
    (λ x. refl) c.make_state_room.ensures.since

pub put-requires : goal.put-requires
put-requires c = λ x of_site from.
    let a = c.self.inside in
    let i = c.args.id.site - 1 in
    let next = c.requires.next ∙ ap (λ (m : ℕ). m + 1) (unwrap_or-slice_get c.args.self.now.counts i 0
    ∙ ap (λ (t : Table). get_or t.counts i 0) (sym c.self.view_is)) in
    let counted = ap (λ (n : ℕ). get_or a.counts.items (n - 1) 0) of_site in
    c.self.invariant.indexed x ∙ uncounted-none a.counts.items x (seen a).entries c.self.invariant.among_counted (omega arith)

pub invariant_of-self-in_err-put : goal.invariant_of-self-in_err-put
invariant_of-self-in_err-put c =
    let a = c.self.inside in
    let b : Inside = record {
      limits = a.limits;
      counts = a.counts;
      known = a.known;
      nodes = c.make_state_room.new.nodes;
      order =
          c.make_state_room.new.order;
      kept = a.kept;
      leaves = c.make_state_room.new.leaves;
      slots = c.put.new.self;
      since = c.make_state_room.new.since;
    } in
    held-stays a b c.self.invariant refl refl refl c.make_state_room.ensures.leaves c.make_state_room.ensures.order refl c.make_state_room.ensures.used c.make_state_room.ensures.same
    c.in_err-put.ensures.same c.make_state_room.ensures.since

pub overflow_add-self : goal.overflow_add-self
overflow_add-self c =
    let within = c.self.invariant.within in
    let most = (limits-parts c.self.inside.limits c.self.invariant.valid).kept in
    let has_room = room-left c.self.inside c.self.invariant c.args.self.now c.self.view_is c.in_ok-node.ensures.room in
    omega arith

pub overflow_add-self-2 : goal.overflow_add-self-2
overflow_add-self-2 c =
    let sums = sum-within c.self.inside.counts.items c.self.invariant.fit in
    let sites = c.self.invariant.sites in
    let few = (limits-parts c.self.inside.limits c.self.invariant.valid).sites in
    let counted = c.self.invariant.counted in
    omega arith

on_err : (r : Result Slot AddFault) (P : Type 0) → P → OnErr r P
on_err (Ok s) P p = tt
on_err (Err f) P p = p

-- what the memory is where there was no room for the state
abbrev roomless : goal.After-drop-node-in_err-make_state_room-3 → Inside
roomless c = record c.self.inside {
  nodes = c.make_state_room.new.nodes;
  order = c.make_state_room.new.order;
  leaves = c.make_state_room.new.leaves;
  since = c.make_state_room.new.since;
}

roomless-same : (c : goal.After-drop-node-in_err-make_state_room-3) → seen (roomless c) ≡ c.args.self.now
roomless-same c =
    view-same c.self.inside (roomless c) c.self.invariant refl refl refl c.make_state_room.ensures.leaves c.make_state_room.ensures.order refl
    c.make_state_room.ensures.used c.make_state_room.ensures.same (λ x. refl) c.make_state_room.ensures.since c.args.self.now c.self.view_is

pub returns-in_err-make_state_room-clause-same : goal.returns-in_err-make_state_room-clause-same
returns-in_err-make_state_room-clause-same c = on_err c.from_residual-in_err-make_state_room.result (seen (roomless c) ≡ c.args.self.now) (roomless-same c)

pub returns-in_err-make_state_room-clause-keeps : goal.returns-in_err-make_state_room-clause-keeps
returns-in_err-make_state_room-clause-keeps c = subst (λ (t : Table). KeepsSlots c.args.self.now t) (sym (roomless-same c)) (λ s x h. h)

pub returns-in_err-make_state_room-clause-kept : goal.returns-in_err-make_state_room-clause-kept
returns-in_err-make_state_room-clause-kept c =
    let old = c.args.self.now in
    subst (λ (t : Table). (s : Slot) → IsTrue (is_kept_at old s) → IsTrue (is_kept_at t s) × (arrival_at t s ≡ arrival_at old s)) (sym (roomless-same c))
    (λ s h. (h, refl))

pub returns-in_err-make_state_room-clause-added : goal.returns-in_err-make_state_room-clause-added
returns-in_err-make_state_room-clause-added c = λ rs ks r stands is may.
    let p = err_from_is_err_and c.from_residual-in_err-make_state_room.result c.from_residual-in_err-make_state_room.ensures.1 in
    let wrong : AddFault → Result Slot AddFault = λ f. Err f in
    subst (λ (z : Result Slot AddFault). AddedTo c.args.self.now (seen (roomless c)) rs ks r z) (sym (p.1 ∙ ap wrong p.2)) (roomless-same c)

-- what the memory is where there was none for its slot
abbrev slotless : goal.After-drop-node-in_err-put-4 → Inside
slotless c = record c.self.inside {
  nodes = c.make_state_room.new.nodes;
  order = c.make_state_room.new.order;
  leaves = c.make_state_room.new.leaves;
  since = c.make_state_room.new.since;
  slots = c.put.new.self;
}

slotless-same : (c : goal.After-drop-node-in_err-put-4) → seen (slotless c) ≡ c.args.self.now
slotless-same c =
    view-same c.self.inside (slotless c) c.self.invariant refl refl refl c.make_state_room.ensures.leaves c.make_state_room.ensures.order refl
    c.make_state_room.ensures.used c.make_state_room.ensures.same c.in_err-put.ensures.same c.make_state_room.ensures.since c.args.self.now c.self.view_is

pub returns-in_err-put-clause-same : goal.returns-in_err-put-clause-same
returns-in_err-put-clause-same c = on_err c.from_residual-in_err-put.result (seen (slotless c) ≡ c.args.self.now) (slotless-same c)

pub returns-in_err-put-clause-keeps : goal.returns-in_err-put-clause-keeps
returns-in_err-put-clause-keeps c = subst (λ (t : Table). KeepsSlots c.args.self.now t) (sym (slotless-same c)) (λ s x h. h)

pub returns-in_err-put-clause-kept : goal.returns-in_err-put-clause-kept
returns-in_err-put-clause-kept c =
    let old = c.args.self.now in
    subst (λ (t : Table). (s : Slot) → IsTrue (is_kept_at old s) → IsTrue (is_kept_at t s) × (arrival_at t s ≡ arrival_at old s)) (sym (slotless-same c))
    (λ s h. (h, refl))

pub returns-in_err-put-clause-added : goal.returns-in_err-put-clause-added
returns-in_err-put-clause-added c = λ rs ks r stands is may.
    let p = err_from_is_err_and c.from_residual-in_err-put.result c.from_residual-in_err-put.ensures.1 in
    let wrong : AddFault → Result Slot AddFault = λ f. Err f in
    subst (λ (z : Result Slot AddFault). AddedTo c.args.self.now (seen (slotless c)) rs ks r z) (sym (p.1 ∙ ap wrong p.2)) (slotless-same c)

-- the slot is the next one
is-next : (c : goal.After-drop-gains-2) → IsNext c.self.inside c.next_slot-slot.result c.grow.new.nodes.items c.in_ok-node.node
is-next c =
    let a = c.self.inside in
    let within = c.self.invariant.within in
    let has_room = room-left c.self.inside c.self.invariant c.args.self.now c.self.view_is c.in_ok-node.ensures.room in
    let one = (same-count c.make_state_room.new.nodes.items c.self.inside.nodes.items c.make_state_room.ensures.same) in
    let two = c.grow.ensures.count in
    next-slot a c.self.invariant c.next_slot-slot.result (c.next_slot-slot.ensures
    ∙ ap (λ (ss : List Slot). slot_after_all ss a.kept) c.make_state_room.ensures.order) c.grow.new.nodes.items
    c.in_ok-node.node (omega arith) (omega arith)

-- what became of each entry
follows : (c : goal.After-drop-gains-2) → Follow (Became (seen c.self.inside) c.args.parents.now c.args.id c.next_slot-slot.result)
    (seen c.self.inside).entries (entries_in c.grow.new.nodes.items (kept_of c.self.inside))
follows c =
    all-grown c.self.inside c.self.invariant c.args.self.now c.self.view_is c.args.parents.now c.requires.slots c.as_slice-gains.result.now
    (c.as_slice-gains.ensures.value ∙ gains-now c.self.inside c.self.invariant c.args.self.now c.self.view_is c.args.parents.now c.requires.slots c.in_ok-node.gains.items c.in_ok-node.ensures.gains) c.make_state_room.new.nodes.items
    c.grow.new.nodes.items c.in_ok-node.node c.args.id c.next_slot-slot.result c.make_state_room.ensures.same c.grow.ensures.count c.grow.ensures.each

same-nodes : (c : goal.After-drop-gains-2) → length c.grow.new.nodes.items ≡ length c.self.inside.nodes.items
same-nodes c = c.grow.ensures.count ∙ (same-count c.make_state_room.new.nodes.items c.self.inside.nodes.items c.make_state_room.ensures.same)

abbrev inside-next : goal.After-drop-gains-2 → Inside
inside-next c = record {
  limits = c.self.inside.limits;
  counts = c.set_count.new.counts;
  known = c.self.inside.known + 1;
  nodes =
      c.put_node.new.nodes;
  order = c.keep.new.self;
  kept = c.self.inside.kept + 1;
  leaves = c.push_reserved.new.self;
  slots = c.put.new.self;
  since = c.put_time.new.since;
}

listed : (c : goal.After-drop-gains-2) → c.keep.new.self.items ≡ with_slot c.self.inside.order.items c.self.inside.kept c.next_slot-slot.result
listed c = c.keep.ensures.items
    ∙ ap₂ (λ (ss : List Slot) (n : ℕ). with_slot ss n c.next_slot-slot.result) c.make_state_room.ensures.order
    (c.make_state_room.ensures.used ∙ c.self.invariant.used)

used-next : (c : goal.After-drop-gains-2) → c.keep.new.self.used ≡ c.self.inside.kept + 1
used-next c = c.keep.ensures.used ∙ ap (λ (n : ℕ). n + 1) (c.make_state_room.ensures.used ∙ c.self.invariant.used)

pub next_slot-slot-requires : goal.next_slot-slot-requires
next_slot-slot-requires c = c.make_state_room.ensures.used ∙ c.self.invariant.used

pub keep-requires-clause-slot : goal.keep-requires-clause-slot
keep-requires-clause-slot c = c.next_slot-slot.ensures
    ∙ ap (slot_after_all c.make_state_room.new.order.items) (sym (c.make_state_room.ensures.used ∙ c.self.invariant.used))

entries-next : (c : goal.After-drop-gains-2) → (seen (inside-next c)).entries ≡ entries_in c.grow.new.nodes.items (kept_of c.self.inside)
    ++ entry_of c.next_slot-slot.result.0 c.in_ok-node.node ∷ []
entries-next c =
    entries-after c.self.inside (inside-next c) c.self.invariant c.grow.new.nodes.items c.in_ok-node.node c.args.id c.next_slot-slot.result
    c.args.parents.now (is-next c) (same-nodes c) c.put_node.ensures (listed c) refl

is-fresh : (c : goal.After-drop-gains-2) → entry_at (seen c.self.inside) c.next_slot-slot.result ≡ None
is-fresh c =
    slot-fresh c.self.inside (inside-next c) c.self.invariant c.grow.new.nodes.items c.in_ok-node.node c.args.id c.next_slot-slot.result c.args.parents.now
    (is-next c) (same-nodes c) c.put_node.ensures (listed c) refl

new-entry : (c : goal.After-drop-gains-2) → IsNewEntry c.args.self.now c.args.parents.now c.args.id c.next_slot-slot.result
    (entry_of c.next_slot-slot.result.0 c.in_ok-node.node)
new-entry c = c.in_ok-node.ensures.node c.next_slot-slot.result.0

pub put_node-requires-clause-slot : goal.put_node-requires-clause-slot
put_node-requires-clause-slot c =
    let a = c.self.inside in
    let within = c.self.invariant.within in
    let has_room = room-left c.self.inside c.self.invariant c.args.self.now c.self.view_is c.in_ok-node.ensures.room in
    let one = (same-count c.make_state_room.new.nodes.items c.self.inside.nodes.items c.make_state_room.ensures.same) in
    let two = c.grow.ensures.count in
    let next = next-slot a c.self.invariant c.next_slot-slot.result
    (c.next_slot-slot.ensures ∙ ap (λ (ss : List Slot). slot_after_all ss a.kept) c.make_state_room.ensures.order)
    c.grow.new.nodes.items c.in_ok-node.node (omega arith) (omega arith) in
    let inside = next.within in
    omega arith

pub put_time-requires-clause-slot : goal.put_time-requires-clause-slot
put_time-requires-clause-slot c =
    let a = c.self.inside in
    let within = c.self.invariant.within in
    let has_room = room-left c.self.inside c.self.invariant c.args.self.now c.self.view_is c.in_ok-node.ensures.room in
    let next = next-slot a c.self.invariant c.next_slot-slot.result
    (c.next_slot-slot.ensures ∙ ap (λ (ss : List Slot). slot_after_all ss a.kept) c.make_state_room.ensures.order)
    a.nodes.items c.in_ok-node.node (omega arith) (omega arith) in
    let inside = next.within in
    let times = c.self.invariant.times in
    let same = ap length c.make_state_room.ensures.since in
    omega arith

-- each parent arrived no sooner than the new slot's time
early-nodes : (c : goal.After-drop-gains-2) → (k : ℕ) → is_slot_among (record { 0 = k }) c.args.parents.now ≡ true →
    c.first_arrival.result ≤ arrival_at (table_of c.self.inside.nodes.items) (record { 0 = k })
early-nodes c k there =
    let same : table_of c.as_slice-nodes.result.now ≡ table_of c.self.inside.nodes.items =
    ap table_of c.as_slice-nodes.ensures.value ∙ ap (λ es. record (table_of c.self.inside.nodes.items) { entries = es }) c.make_state_room.ensures.same in
    among-passes (arrival_at (table_of c.self.inside.nodes.items)) c.first_arrival.result c.args.parents.now
    (subst (λ (t : Table). (i : ℕ) (d : Slot) → i < length c.args.parents.now → c.first_arrival.result ≤ arrival_at t (get_or c.args.parents.now i d))
    same c.first_arrival.ensures) k there

pub invariant_of-self-2 : goal.invariant_of-self-2
invariant_of-self-2 c =
    let a = c.self.inside in
    let n = c.in_ok-node.node in
    let parents = c.args.parents.now in
    let id = c.args.id in
    let slot : Slot = c.next_slot-slot.result in
    let i = id.site - 1 in
    let entry = new-entry c in
    let within = c.self.invariant.within in
    let sites = c.self.invariant.sites in
    let most = ap (λ (t : Table). t.limits.sites) c.self.view_is in
    let has_room = room-left c.self.inside c.self.invariant c.args.self.now c.self.view_is c.in_ok-node.ensures.room in
    held-next a (inside-next c) c.self.invariant c.grow.new.nodes.items n id slot parents (is-next c) (same-nodes c) c.put_node.ensures (listed c) refl
    (follows c) i id.sequence refl refl c.set_count.ensures.set
    c.in_ok-put.ensures.put
    (c.push_reserved.ensures.items ∙ ap (λ (ss : List Slot). ss ++ slot ∷ [])
    (c.drop_slots.ensures.items ∙ ap (filter (λ (s : Slot). not (is_slot_among s parents))) c.make_state_room.ensures.leaves))
    (omega arith) (used-next c) entry.id_is (entry.arrival_is ∙ sym (ap (λ (t : Table). t.known) c.self.view_is)) entry.no_children entry.no_stand_ins entry.path.ascending
    (subst (λ (t : Table). too_long t parents ≡ None) (sym c.self.view_is) c.in_ok-node.ensures.short)
    (subst (λ (t : Table). length n.path.pairs ≤ t.limits.max_path) (sym c.self.view_is) c.in_ok-node.ensures.own)
    (let first = c.requires.first in let last = c.requires.last in omega arith)
    (c.requires.next ∙ ap (λ (m : ℕ). m + 1) (unwrap_or-slice_get c.args.self.now.counts i 0
    ∙ ap (λ (t : Table). get_or t.counts i 0) (sym c.self.view_is))) c.set_count.ensures.fits refl refl
    c.first_arrival.result c.put_time.ensures.own (λ k ne. c.put_time.ensures.others k ne ∙ ap (λ ts. get_or ts k 0) c.make_state_room.ensures.since)
    (let more = c.put_time.ensures.longer in let same = ap length c.make_state_room.ensures.since in omega arith) c.put_time.ensures.there
    (early-entries a c.self.invariant c.args.parents.now c.first_arrival.result (early-nodes c))

pub returns-clause-slot : goal.returns-clause-slot
returns-clause-slot c = subst (λ (t : Table). IsNewSlot t (seen (inside-next c)) c.args.id c.next_slot-slot.result) c.self.view_is
    (last-named (seen c.self.inside) (seen (inside-next c)) (seen c.self.inside) c.args.parents.now c.args.id c.next_slot-slot.result
    (entries_in c.grow.new.nodes.items (kept_of c.self.inside)) (entry_of c.next_slot-slot.result.0 c.in_ok-node.node) (follows c)
    (entries-next c) refl (is-fresh c) c.args.id (new-entry c).id_is)

pub returns-clause-keeps : goal.returns-clause-keeps
returns-clause-keeps c = subst (λ (t : Table). KeepsSlots t (seen (inside-next c))) c.self.view_is
    (slots-kept (seen c.self.inside) (seen (inside-next c)) (seen c.self.inside) c.args.parents.now c.args.id c.next_slot-slot.result
    (entries_in c.grow.new.nodes.items (kept_of c.self.inside)) (entry_of c.next_slot-slot.result.0 c.in_ok-node.node) (follows c)
    (entries-next c) refl (is-fresh c))

pub returns-clause-kept : goal.returns-clause-kept
returns-clause-kept c =
    subst (λ (t : Table). (s : Slot) → IsTrue (is_kept_at t s) → IsTrue (is_kept_at (seen (inside-next c)) s)
    × (arrival_at (seen (inside-next c)) s ≡ arrival_at t s)) c.self.view_is
    (kept-stays (seen c.self.inside) (seen (inside-next c)) (seen c.self.inside) c.args.parents.now c.args.id c.next_slot-slot.result
    (entries_in c.grow.new.nodes.items (kept_of c.self.inside)) (entry_of c.next_slot-slot.result.0 c.in_ok-node.node) (follows c)
    (entries-next c) refl (is-fresh c) (invariant_of-self-2 c).in_order)

pub returns-clause-arrived : goal.returns-clause-arrived
returns-clause-arrived c =
    let h = last-arrives (seen c.self.inside) (seen (inside-next c)) (seen c.self.inside) c.args.parents.now c.args.id c.next_slot-slot.result
    (entries_in c.grow.new.nodes.items (kept_of c.self.inside)) (entry_of c.next_slot-slot.result.0 c.in_ok-node.node) (follows c)
    (entries-next c) refl (is-fresh c) (invariant_of-self-2 c).in_order in
    (h.0, h.1 ∙ (new-entry c).arrival_is)

pub returns-clause-newest : goal.returns-clause-newest
returns-clause-newest c =
    subst (λ (t : Table). (s : Slot) → IsTrue (is_kept_at t s) → arrival_at (seen (inside-next c)) s
    < arrival_at (seen (inside-next c)) c.next_slot-slot.result) c.self.view_is
    (arrives-last (seen c.self.inside) (seen (inside-next c)) (seen c.self.inside) c.args.parents.now c.args.id c.next_slot-slot.result
    (entries_in c.grow.new.nodes.items (kept_of c.self.inside)) (entry_of c.next_slot-slot.result.0 c.in_ok-node.node) (follows c)
    (entries-next c) refl (is-fresh c) c.self.inside.known ((new-entry c).arrival_is ∙ sym (ap (λ (t : Table). t.known) c.self.view_is))
    c.self.invariant.arrived)

pub returns-clause-others : goal.returns-clause-others
returns-clause-others c =
    subst (λ (t : Table). (s : Slot) → (s ≡ c.next_slot-slot.result → ⊥) → IsTrue (is_slot (seen (inside-next c)) s) → IsTrue (is_slot t s)) c.self.view_is
    (slot-was (seen c.self.inside) (seen (inside-next c)) (seen c.self.inside) c.args.parents.now c.args.id c.next_slot-slot.result
    (entries_in c.grow.new.nodes.items (kept_of c.self.inside)) (entry_of c.next_slot-slot.result.0 c.in_ok-node.node) (follows c)
    (entries-next c) refl (is-fresh c))

pub returns-clause-child : goal.returns-clause-child
returns-clause-child c =
    gives-child (seen c.self.inside) (seen (inside-next c)) (seen c.self.inside) c.args.parents.now c.args.id c.next_slot-slot.result
    (entries_in c.grow.new.nodes.items (kept_of c.self.inside)) (entry_of c.next_slot-slot.result.0 c.in_ok-node.node) (follows c)
    (entries-next c) refl (is-fresh c) c.args.self.now c.self.view_is (new-entry c).has_parents (new-entry c).no_stand_ins

-- a table that has grown by the state of a record
added-as : (old new : Table) (rs : List Record) (ks : List StateId) (r : Record) (parents : List Slot) → Stands old rs ks → MayBeAdded old rs ks r parents
    → (slot : Slot) (x : StateId) (e : Entry) → r.id ≡ x →
    (g : IsGrown old new x parents slot) → g.newest ≡ e → refusal_of old x parents (length e.path) ≡ None → AddedTo old new rs ks r (Ok slot)
added-as old new rs ks r parents stands may slot x e is =
    subst (λ (z : StateId). (g : IsGrown old new z parents slot) → g.newest ≡ e → refusal_of old z parents (length e.path) ≡ None →
    AddedTo old new rs ks r (Ok slot)) is
    (λ g newest none. added old new rs ks r parents stands may slot g
    (subst (λ (f : Entry). refusal_of old r.id parents (length f.path) ≡ None) (sym newest) none))

pub returns-clause-added : goal.returns-clause-added
returns-clause-added c = λ rs ks r stands is may.
    let a = c.self.inside in
    let n = c.in_ok-node.node in
    let old = c.args.self.now in
    let new = seen (inside-next c) in
    let parents = c.args.parents.now in
    let id = c.args.id in
    let slot : Slot = c.next_slot-slot.result in
    let i = id.site - 1 in
    let e = entry_of slot.0 n in
    let distinct = distinct-from_differ parents (parents-differ old new rs ks r parents stands may) in
    let counts =
    c.set_count.ensures.set
    ∙ ap (λ (z : ℕ). slice_set a.counts.items i z) c.requires.next
    ∙ ap (λ (t : Table). slice_set t.counts i (unwrap_or (slice_get old.counts i) 0 + 1)) c.self.view_is in
    let entry = new-entry c in
    let follow = subst (λ (t : Table). Follow (Became t parents id slot) t.entries (entries_in c.grow.new.nodes.items (kept_of a))) c.self.view_is
    (follows c) in
    let up = subst (λ (t : Table). list_all (λ (z : Entry). are_ascending_pairs z.path) t.entries ≡ true) c.self.view_is c.self.invariant.ascending in
    let fresh = subst (λ (t : Table). ◌≡◌ {A = Option Entry} (entry_at t slot) None) c.self.view_is (is-fresh c) in
    let g = table-grown old new id parents slot (entries_in c.grow.new.nodes.items (kept_of a)) e (ap (λ (t : Table). t.limits) c.self.view_is) counts
    (ap (λ (t : Table). t.known + 1) c.self.view_is)
    fresh (entries-next c) distinct up follow entry in
    let kept : a.kept ≡ length old.entries = sym (entries-long a c.self.invariant) ∙ ap (λ (t : Table). length t.entries) c.self.view_is in
    let room = ne_eqb (length old.entries) old.limits.max_kept (λ e.
    let equal : a.kept ≡ a.limits.max_kept = kept ∙ e ∙ sym (ap (λ (t : Table). t.limits.max_kept) c.self.view_is) in
    let has_room = room-left c.self.inside c.self.invariant c.args.self.now c.self.view_is c.in_ok-node.ensures.room in
    omega arith) in
    let told = nothing-told old parents n.id (length n.path.pairs) c.in_ok-node.ensures.short c.in_ok-node.ensures.own in
    let named = subst (λ (x : StateId). path_refusal old x parents (length n.path.pairs) ≡ None) entry.id_is told in
    added-as old new rs ks r parents stands may slot id e is g.0 g.1 (refused-alike old id parents (length n.path.pairs) None room named)

pub growth-requires : goal.growth-requires
growth-requires c = c.requires.slots

pub grow-requires-clause-paths : goal.grow-requires-clause-paths
grow-requires-clause-paths c = c.in_ok-make_state_room.ensures.paths

pub grow-requires-clause-children : goal.grow-requires-clause-children
grow-requires-clause-children c = c.in_ok-make_state_room.ensures.children

pub put_time-requires-clause-room : goal.put_time-requires-clause-room
put_time-requires-clause-room c = c.in_ok-make_state_room.ensures.time

pub keep-requires-clause-room : goal.keep-requires-clause-room
keep-requires-clause-room c = c.in_ok-make_state_room.ensures.slot

pub put_node-requires-clause-room : goal.put_node-requires-clause-room
put_node-requires-clause-room c =
    let room = c.in_ok-make_state_room.ensures.node in
    let long = c.grow.ensures.room in
    let capacity = c.grow.ensures.capacity in
    omega arith

pub push_reserved-requires : goal.push_reserved-requires
push_reserved-requires c =
    let room = c.in_ok-make_state_room.ensures.leaf in
    let long = c.drop_slots.ensures.len in
    let capacity = c.drop_slots.ensures.capacity in
    omega arith

pub set_count-requires-clause-last : goal.set_count-requires-clause-last
set_count-requires-clause-last c =
    let last = c.requires.last in
    let sites = c.self.invariant.sites in
    let most = ap (λ (t : Table). t.limits.sites) c.self.view_is in
    omega arith

pub returns-clause-limits : goal.returns-clause-limits
returns-clause-limits c = ap (λ (t : Table). t.limits) c.self.view_is

pub returns-in_err-make_state_room-clause-limits : goal.returns-in_err-make_state_room-clause-limits
returns-in_err-make_state_room-clause-limits c = ap (λ (t : Table). t.limits) c.self.view_is

pub returns-in_err-put-clause-limits : goal.returns-in_err-put-clause-limits
returns-in_err-put-clause-limits c = ap (λ (t : Table). t.limits) c.self.view_is
