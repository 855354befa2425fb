use Rattle.std.proofs.Common.{◌≡◌, ◌∙◌, ◌+◌, ◌-◌, ◌<◌, ◌&&◌, ℕ, List, IsTrue, inl, inr, length, take, get_or, Some, sym, ap, arith}
use Rattle.std.specs.List.{list_all}
use Rattle.std.specs.Option.{unwrap_or}
use Rattle.std.proofs.lemmas.List.{length-map}
use Rattle.std.proofs.lemmas.List.Folds.{list_all_at}
use Rattle.std.proofs.lemmas.Bool.{and_right, both_ways, cases_Bool}
use Rattle.tardis_base.specs.declared.ids.Slot.{Slot}
use Rattle.plain_dag.specs.Above.{is_above}
use Rattle.plain_dag.specs.Floors.{is_above_ceilings}
use Rattle.plain_dag.specs.Collection.{kept_states}
use Rattle.state_dag.specs.Table.{Entry, Table, id_at, is_slot}
use Rattle.ceiling_book.specs.Book.{sessions_of, own_floor}
use Rattle.ceiling_book.proofs.Newest.{fits, last_passing, last-passes, last-fails, newest-is_last, fitting-is_kept, placed-at}
use Rattle.ceiling_book.proofs.Late.{last-before}
use Rattle.ceiling_book.proofs.CeilingBook.automatic_floor.Goals as goal

pub loop-place-init : goal.loop-place-init
loop-place-init c = λ rs ks stands placed under.
    let now = c.args.self.now in
    let floor = (own_floor now).state in
    let p = fits rs floor (sessions_of now) in
    let kept = kept_states rs ks in
    newest-is_last p rs ks (fitting-is_kept rs stands.dag ks floor (sessions_of now) under)
    ∙ last-before p kept c.first_late-place.result (λ k d le lt.
    and_right (is_above rs floor (get_or kept k d)) (is_above_ceilings rs (sessions_of now) (get_or kept k d))
    (c.first_late-place.ensures.late rs ks stands placed k d le lt))

-- what stands at a place of kept slots is kept
kept-at : (table : Table) (ss : List Slot) (i : ℕ) (d : Slot) → IsTrue (list_all (is_slot table) ss) → i < length ss → IsTrue (is_slot table (get_or ss i d))
kept-at table ss i d all lt =
    elim (cases_Bool (is_slot table (get_or ss i d))) [
      | inl t ↦ t
      | inr f ↦ absurd (both_ways (list_all (is_slot table) ss) (list_all_at (is_slot table) ss i d lt f) all)
    ]

pub fits-requires-clause-slot : goal.fits-requires-clause-slot
fits-requires-clause-slot c =
    let table = c.args.dag.now in
    let more = c.loop-place-test.true in
    let many = ap length c.kept_slots-kept.ensures.is in
    let same = length-map table.entries (λ (e : Entry). e.slot) in
    kept-at table c.kept_slots-kept.result.now (c.loop-place.place - 1) (record { 0 = 0 }) c.kept_slots-kept.ensures.slots
    (let le = c.loop-place.auto.place in let within = c.first_late-place.ensures.within in omega arith)

pub returns-then-fits-clause-slot : goal.returns-then-fits-clause-slot
returns-then-fits-clause-slot c =
    let table = c.args.dag.now in
    let more = c.loop-place-test.true in
    let many = ap length c.kept_slots-kept.ensures.is in
    let same = length-map table.entries (λ (e : Entry). e.slot) in
    kept-at table c.kept_slots-kept.result.now (c.loop-place.place - 1) (record { 0 = 0 }) c.kept_slots-kept.ensures.slots
    (let le = c.loop-place.auto.place in let within = c.first_late-place.ensures.within in omega arith)

pub loop-place-preserved : goal.loop-place-preserved
loop-place-preserved c = λ rs ks stands placed under.
    let table = c.args.dag.now in
    let now = c.args.self.now in
    let p = fits rs (own_floor now).state (sessions_of now) in
    let kept = kept_states rs ks in
    let i = c.loop-place.place - 1 in
    let more = c.loop-place-test.true in
    let many = ap length c.kept_slots-kept.ensures.is in
    let same = length-map table.entries (λ (e : Entry). e.slot) in
    let n = placed-at (id_at table) c.kept_slots-kept.result.now kept i (record { 0 = 0 }) (c.kept_slots-kept.ensures.kept rs ks stands)
    (let le = c.loop-place.auto.place in let within = c.first_late-place.ensures.within in omega arith) in
    let place : c.loop-place.place ≡ i + 1 = omega arith in
    let told = c.fits.ensures rs ks stands placed (c.own_place-floor.ensures.floor table rs ks placed) n.state n.named in
    let fails = ap (λ y. is_above rs y n.state && is_above_ceilings rs (sessions_of now) n.state) (sym c.own_place-floor.ensures.state) ∙ sym told
    ∙ c.if-fits.false in
    c.loop-place.invariant rs ks stands placed under
    ∙ ap (λ k. last_passing p (take k kept)) place
    ∙ ap (last_passing p) n.front
    ∙ last-fails p (take i kept) n.state fails

pub returns-then-fits-clause-floor : goal.returns-then-fits-clause-floor
returns-then-fits-clause-floor c = λ rs ks stands placed under.
    let table = c.args.dag.now in
    let now = c.args.self.now in
    let floor = (own_floor now).state in
    let p = fits rs floor (sessions_of now) in
    let kept = kept_states rs ks in
    let i = c.loop-place.place - 1 in
    let more = c.loop-place-test.true in
    let many = ap length c.kept_slots-kept.ensures.is in
    let same = length-map table.entries (λ (e : Entry). e.slot) in
    let n = placed-at (id_at table) c.kept_slots-kept.result.now kept i (record { 0 = 0 }) (c.kept_slots-kept.ensures.kept rs ks stands)
    (let le = c.loop-place.auto.place in let within = c.first_late-place.ensures.within in omega arith) in
    let place : c.loop-place.place ≡ i + 1 = omega arith in
    let told = c.fits.ensures rs ks stands placed (c.own_place-floor.ensures.floor table rs ks placed) n.state n.named in
    let passes = ap (λ y. is_above rs y n.state && is_above_ceilings rs (sessions_of now) n.state) (sym c.own_place-floor.ensures.state) ∙ sym told
    ∙ c.if-fits.true in
    let found = c.loop-place.invariant rs ks stands placed under
    ∙ ap (λ k. last_passing p (take k kept)) place
    ∙ ap (last_passing p) n.front
    ∙ last-passes p (take i kept) n.state passes in
    n.named ∙ ap (λ o. Some (unwrap_or o floor)) (sym found)

pub returns-clause-floor : goal.returns-clause-floor
returns-clause-floor c = λ rs ks stands placed under.
    let table = c.args.dag.now in
    let now = c.args.self.now in
    let floor = (own_floor now).state in
    let p = fits rs floor (sessions_of now) in
    let kept = kept_states rs ks in
    let end = c.loop-place-test.false in
    let first : c.loop-place.place ≡ 0 = omega arith in
    let none = c.loop-place.invariant rs ks stands placed under ∙ ap (λ k. last_passing p (take k kept)) first in
    c.own_place-floor.ensures.floor table rs ks placed ∙ ap (λ y. Some y) c.own_place-floor.ensures.state
    ∙ ap (λ o. Some (unwrap_or o floor)) (sym none)
