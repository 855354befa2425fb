-- A table has grown when its entries have.
use Rattle.std.proofs.Common.{◌≡◌, ℕ, ◌+◌, ◌-◌, true, false, cond, eqb, ltb, List, [], ◌∷◌, ◌++◌, length, Option, Some, None, Err, unwrap_or, slice_get}
use Rattle.std.proofs.Common.{slice_set, refl, ◌∙◌, ap}
use Rattle.std.specs.List.{list_all}
use Rattle.std.proofs.lemmas.Bool.{cond-false}
use Rattle.tardis_base.specs.declared.ids.StateId.{StateId}
use Rattle.tardis_base.specs.declared.ids.Slot.{Slot}
use Rattle.tardis_base.specs.declared.records.Record.{Record}
use Rattle.tardis_base.specs.declared.faults.AddFault.{AddFault}
use Rattle.tardis_base.specs.declared.faults.AddFault.TheVariants.{Full, PathFull, NoMemory}
use Rattle.tardis_base.specs.declared.replies.Refusal.{Refusal}
use Rattle.tardis_base.specs.declared.replies.Refusal.TheVariants.{Full as IsFull, PathFull as IsPathFull}
use Rattle.fork_path.specs.Pairs.{are_ascending_pairs}
use Rattle.state_dag.specs.Table.{Entry, Table, entry_at}
use Rattle.state_dag.specs.Stands.{Stands}
use Rattle.state_dag.specs.Answers.{MayBeAdded, AddedTo}
use Rattle.state_dag.specs.Grown.{too_long, refusal_of, IsNewPath, IsNewEntry, IsGrownEntry, IsGrown}
use Rattle.state_dag.specs.Nodes.{AreDistinct, first_refusal, path_refusal, TellsRefusal}
use Rattle.state_dag.proofs.Counting.{Differ}
use Rattle.state_dag.proofs.Added.{path-full}
use Rattle.state_dag.proofs.Following.{Follow}
use Rattle.state_dag.proofs.Became.{Became, follow-with, grown-entry, grown-each}

-- slots that differ are distinct
pub distinct-from_differ : (slots : List Slot) → Differ (λ (a b : Slot). eqb b.0 a.0) slots → AreDistinct slots
distinct-from_differ [] d = tt
distinct-from_differ (s ∷ slots) d = (d.0, distinct-from_differ slots d.1)

-- ===== Refusals

same-refusal : (table : Table) (x : StateId) (parents : List Slot) (pairs : ℕ) →
    refusal_of table x parents pairs ≡ cond (eqb (length table.entries) table.limits.max_kept) (Some (IsFull (length table.entries)))
    (path_refusal table x parents pairs)
same-refusal table x parents pairs =
    ap (λ z. cond (eqb (length table.entries) table.limits.max_kept) (Some (IsFull (length table.entries))) z) (go (too_long table parents))
  where
    go : (o : Option (StateId × ℕ)) →
        elim o [ Some long ↦ Some (IsPathFull long.0 long.1) | None ↦ cond (ltb table.limits.max_path pairs) (Some (IsPathFull x pairs)) None ]
        ≡ first_refusal x table.limits.max_path pairs o
    go None = refl
    go (Some long) = refl

pub refused-alike : (table : Table) (x : StateId) (parents : List Slot) (pairs : ℕ) (refusal : Option Refusal) →
    eqb (length table.entries) table.limits.max_kept ≡ false → path_refusal table x parents pairs ≡ refusal →
    refusal_of table x parents pairs ≡ refusal
refused-alike table x parents pairs refusal room is =
    same-refusal table x parents pairs ∙ cond-false (eqb (length table.entries) table.limits.max_kept) (Some (IsFull (length table.entries)))
    (path_refusal table x parents pairs) room ∙ is

-- the answer to a path that is too long, or to want of memory
pub fault-told : (old : Table) (rs : List Record) (ks : List StateId) (r : Record) (parents : List Slot) → Stands old rs ks →
    MayBeAdded old rs ks r parents → eqb (length old.entries) old.limits.max_kept ≡ false →
    (path : List (ℕ × ℕ)) → IsNewPath old parents path → (fault : AddFault) → TellsRefusal (path_refusal old r.id parents (length path)) (Err fault) →
    AddedTo old old rs ks r (Err fault)
fault-told old rs ks r parents stands may room path is (Full kept) told = absurd (told)
fault-told old rs ks r parents stands may room path is (PathFull x n) told =
    path-full old old rs ks r parents stands may path x n is (refused-alike old r.id parents (length path) (Some (IsPathFull x n)) room told) refl
fault-told old rs ks r parents stands may room path is NoMemory told = refl

-- ===== A table that has grown

pub table-grown : (old new : Table) (x : StateId) (parents : List Slot) (slot : Slot) (gs : List Entry) (e : Entry) → new.limits ≡ old.limits →
    new.counts ≡ slice_set old.counts (x.site - 1) (unwrap_or (slice_get old.counts (x.site - 1)) 0 + 1) → new.known ≡ old.known + 1 → entry_at old slot
    ≡ None → new.entries ≡ gs ++ e ∷ [] → AreDistinct parents →
    list_all (λ z. are_ascending_pairs z.path) old.entries ≡ true → Follow (Became old parents x slot) old.entries gs → IsNewEntry old parents x slot e →
    (g : IsGrown old new x parents slot) × (g.newest ≡ e)
table-grown old new x parents slot gs e limits counts known fresh after distinct up f is_new = (
  record {
    limits = limits;
    counts = counts;
    known = known;
    fresh = fresh;
    grown = gs;
    newest = e;
    entries = after;
    each = grown-each old parents x slot old.entries gs
        (follow-with (Became old parents x slot) (IsGrownEntry old parents x slot) (λ z. are_ascending_pairs z.path)
        (λ o n h t. grown-entry old parents x slot distinct o n h t) old.entries gs f up);
    is_new = is_new;
  },
  refl,
)
