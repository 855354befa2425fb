-- What the calls of a table answer.
use Rattle.std.specs.Prelude.{◌≡◌, ◌≤◌, ◌==◌, List, [], ◌∷◌, ◌++◌, map, Option, Some, None, Result, Ok, Err, IsTrue, IsFalse, slice_get, if◌then◌else◌}
use Rattle.std.specs.Option.{option_map}
use Rattle.tardis_base.specs.declared.ids.StateId.{StateId}
use Rattle.tardis_base.specs.declared.ids.Slot.{Slot}
use Rattle.tardis_base.specs.declared.records.Record.{Record}
use Rattle.tardis_base.specs.declared.faults.AddFault.{AddFault}
use Rattle.tardis_base.specs.declared.faults.AddFault.TheVariants.{Full, PathFull, NoMemory}
use Rattle.tardis_base.specs.declared.replies.Refusal.TheVariants.{Full as IsFull, PathFull as IsPathFull}
use Rattle.tardis_base.specs.Ids.{same_id, is_among}
use Rattle.plain_dag.specs.Dag.{IsNext}
use Rattle.plain_dag.specs.Growth.{growth_refusal}
use Rattle.state_dag.specs.Table.{Entry, Table, id_at, is_slot, parents_at, child_slots_at}
use Rattle.state_dag.specs.Grown.{is_slot_among, only_if, KeepsPlaces}
use Rattle.state_dag.specs.Nodes.{AreDistinct}
use Rattle.state_dag.specs.Detached.{passed_on}
use Rattle.state_dag.specs.Stands.{Stands}

-- the record may be added: it is the next, of one of the table's sites, with the states at these slots as parents, and no
-- parent is collected
pub record MayBeAdded (table : Table) (rs : List Record) (ks : List StateId) (r : Record) (parents : List Slot) : Type 0 where
  pub next : IsNext rs r
  pub site : r.id.site ≤ table.limits.sites
  pub slots : map (id_at table) parents ≡ map (λ p. Some p) r.parents
  pub kept : (p : StateId) → IsTrue (is_among p r.parents) → IsFalse (is_among p ks)

-- the record was added, or refused as the history refuses it, or there was no memory; where it wasn't added the table is
-- as before
abbrev pub AddedTo : Table → Table → List Record → List StateId → Record → Result Slot AddFault → Type 0
AddedTo old new rs ks r (Ok slot) = (growth_refusal old.limits ks rs r ≡ None) × Stands new (r ∷ rs) ks
AddedTo old new rs ks r (Err (Full kept)) = (growth_refusal old.limits ks rs r ≡ Some (IsFull kept)) × (new ≡ old)
AddedTo old new rs ks r (Err (PathFull x n)) = (growth_refusal old.limits ks rs r ≡ Some (IsPathFull x n)) × (new ≡ old)
AddedTo old new rs ks r (Err NoMemory) = new ≡ old

-- a new slot, which named no kept state and now names this one
abbrev pub IsNewSlot : Table → Table → StateId → Slot → Type 0
IsNewSlot old new x slot = (id_at old slot ≡ None) × (id_at new slot ≡ Some x)

-- every slot that named a kept state still names it
abbrev pub KeepsSlots : Table → Table → Type 0
KeepsSlots old new = (slot : Slot) (x : StateId) → id_at old slot ≡ Some x → id_at new slot ≡ Some x

-- the state at the new slot has those at these slots as its parents, and no child; each other keeps its parents, and its
-- children in their places; and where no parent is named twice, each has the new one as its last child, and no other state
-- has one more
pub record GivesChild (old new : Table) (parents : List Slot) (slot : Slot) : Type 0 where
  pub has_parents : option_map (map (λ p. Some p)) (parents_at new slot) ≡ Some (map (id_at old) parents)
  pub childless : child_slots_at new slot ≡ []
  pub parents_stay : (s : Slot) → IsTrue (is_slot old s) → parents_at new s ≡ parents_at old s
  pub places : (s : Slot) → KeepsPlaces (child_slots_at old s) (child_slots_at new s)
  pub last : AreDistinct parents → (s : Slot) → IsTrue (is_slot old s) → child_slots_at new s ≡ child_slots_at old s ++ only_if (is_slot_among s parents) slot

-- each state but the one that goes keeps its parents, and its children, of which those that stood where that one was stand
-- where the heir is
pub record LeavesChildren (old new : Table) (gone heir : Slot) : Type 0 where
  pub parents_stay : (s : Slot) → (s ≡ gone → ⊥) → parents_at new s ≡ parents_at old s
  pub children : (s : Slot) → (s ≡ gone → ⊥) → child_slots_at new s ≡ map (passed_on gone heir) (child_slots_at old s)

-- of these states the one behind the other, or the first where there is no other; none at the end
abbrev pub next_of : List StateId → Option StateId → Option StateId
next_of xs None = slice_get xs 0
next_of [] (Some x) = None
next_of (y ∷ ys) (Some x) =
    let later = next_of ys (Some x) in
    if same_id x y then slice_get ys 0 else later

-- the slot of the entry behind that at the slot, or of the first where none is given; none at the end
abbrev pub slot_after : List Entry → Option Slot → Option Slot
slot_after es None = option_map (λ e. e.slot) (slice_get es 0)
slot_after [] (Some slot) = None
slot_after (e ∷ es) (Some slot) =
    let later = slot_after es (Some slot) in
    if e.slot.0 == slot.0 then option_map (λ f. f.slot) (slice_get es 0) else later
