-- Where a book's states stand while the table grows.
use Rattle.std.proofs.Common.{◌≡◌, true, false, ◌&&◌, List, ◌∷◌, Option, Some, None, is_some, IsTrue, IsFalse, not, refl, sym, ap, ◌∙◌}
use Rattle.std.specs.Option.{option_map}
use Rattle.std.proofs.lemmas.Bool.{and_parts, and_left, both_ways, not-true, cond-false}
use Rattle.std.proofs.lemmas.Option.{none-some}
use Rattle.tardis_base.specs.declared.ids.StateId.{StateId}
use Rattle.tardis_base.specs.declared.ids.Slot.{Slot}
use Rattle.tardis_base.specs.declared.records.Record.{Record}
use Rattle.tardis_base.specs.Ids.{root, is_among}
use Rattle.plain_dag.specs.States.{is_known}
use Rattle.plain_dag.specs.Collection.{is_kept, stand_in}
use Rattle.plain_dag.proofs.StandIns.{kept-stands-for-itself}
use Rattle.state_dag.specs.Table.{Entry, Table, entry_at, id_at, is_slot}
use Rattle.state_dag.specs.Stands.{Stands}
use Rattle.state_dag.specs.Answers.{KeepsSlots}
use Rattle.state_dag.proofs.Standing.{slot-is_kept}
use Rattle.ceiling_book.specs.declared.parts.Place.{Place}
use Rattle.ceiling_book.specs.Book.{Book}
use Rattle.ceiling_book.specs.Places.{AllPlaces, IsSlotOf, IsAt, HasStandIn, AreSlots, ArePlaced}

-- a slot that names a state is one of the table's
named-is_slot : (table : Table) (slot : Slot) (x : StateId) → id_at table slot ≡ Some x → IsTrue (is_slot table slot)
named-is_slot table slot x h = go (entry_at table slot) h
  where
    go : (o : Option Entry) → option_map (λ e. e.id) o ≡ Some x → is_some o ≡ true
    go None e = absurd (none-some x e)
    go (Some e) _ = refl

-- and one of the table's names a state
slot-names : (table : Table) (slot : Slot) → IsTrue (is_slot table slot) → (x : StateId) × (id_at table slot ≡ Some x)
slot-names table slot h = go (entry_at table slot) h
  where
    go : (o : Option Entry) → is_some o ≡ true → (x : StateId) × (option_map (λ (e : Entry). e.id) o ≡ Some x)
    go None e = absurd (both_ways false refl e)
    go (Some e) _ = (e.id, refl)

-- what is so of each place stays so where it follows
all-follow : (At Near At_then Near_then : Place → Type 0) (book : Book) → ((p : Place) → At p → At_then p) → ((p : Place) → Near p → Near_then p) →
    AllPlaces At Near book → AllPlaces At_then Near_then book
all-follow At Near At_then Near_then book at near all = record {
  of_root = near (record { state = root; slot = book.root }) all.of_root;
  ceilings = λ k d within. at _ (all.ceilings k d within);
  last_commits = λ k d within. near _ (all.last_commits k d within);
  of_floors = λ k d within. at _ (all.of_floors k d within);
}

-- where the states are placed, the slots are those of the table
pub placed-are_slots : (book : Book) (table : Table) (rs : List Record) (ks : List StateId) → ArePlaced book table rs ks → AreSlots book table
placed-are_slots book table rs ks =
    all-follow (IsAt table) (HasStandIn table rs ks) (IsSlotOf table) (IsSlotOf table) book
    (λ p named. named-is_slot table p.slot p.state named) (λ p named. named-is_slot table p.slot (stand_in rs ks p.state) named)

-- where each slot still names its state, the slots stay those of the table
pub slots-grow : (book : Book) (old new : Table) → KeepsSlots old new → AreSlots book old → AreSlots book new
slots-grow book old new keeps = all-follow (IsSlotOf old) (IsSlotOf old) (IsSlotOf new) (IsSlotOf new) book stays stays
  where
    stays : (p : Place) → IsSlotOf old p → IsSlotOf new p
    stays p slot =
        let w = slot-names old p.slot slot in
        named-is_slot new p.slot w.0 (keeps p.slot w.0 w.1)

-- a kept state isn't collected
pub kept-is_uncollected : (rs : List Record) (ks : List StateId) (x : StateId) → IsTrue (is_kept rs ks x) → IsFalse (is_among x ks)
kept-is_uncollected rs ks x kept = not-true (is_among x ks) (and_parts (is_known rs x) (not (is_among x ks)) kept).1

-- a kept state stands for itself
pub kept-is_stand_in : (rs : List Record) (ks : List StateId) (x : StateId) → IsTrue (is_kept rs ks x) → stand_in rs ks x ≡ x
kept-is_stand_in rs ks x kept = kept-stands-for-itself ks rs x (kept-is_uncollected rs ks x kept)

-- a state that is named stands for itself
pub named-is_stand_in : (table : Table) (rs : List Record) (ks : List StateId) (slot : Slot) (x : StateId) → Stands table rs ks → id_at table slot ≡ Some x
    → id_at table slot ≡ Some (stand_in rs ks x)
named-is_stand_in table rs ks slot x stands named = named ∙ ap (λ y. Some y) (sym (kept-is_stand_in rs ks x (slot-is_kept table rs ks stands slot x named)))

-- a stand-in that is kept stays when a state is added
stand_in-stays : (rs : List Record) (ks : List StateId) (r : Record) (x : StateId) → IsTrue (is_kept rs ks (stand_in rs ks x)) → stand_in (r ∷ rs) ks x
    ≡ stand_in rs ks x
stand_in-stays rs ks r x kept =
    let here = stand_in rs ks x in
    cond-false (is_among here ks && is_among here r.parents) r.id here
    (and_left (is_among here ks) (is_among here r.parents) (kept-is_uncollected rs ks here kept))

-- the places stay right when a state is added and each slot still names its state
pub placed-grow : (book : Book) (old new : Table) (rs : List Record) (ks : List StateId) (r : Record) → Stands old rs ks → KeepsSlots old new →
    ArePlaced book old rs ks → ArePlaced book new (r ∷ rs) ks
placed-grow book old new rs ks r stands keeps =
    all-follow (IsAt old) (HasStandIn old rs ks) (IsAt new) (HasStandIn new (r ∷ rs) ks) book
    (λ p named. keeps p.slot p.state named)
    (λ p named.
    keeps p.slot (stand_in rs ks p.state) named ∙ ap (λ y. Some y)
    (sym (stand_in-stays rs ks r p.state (slot-is_kept old rs ks stands p.slot (stand_in rs ks p.state) named))))
