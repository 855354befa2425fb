-- Wrong rows, and rows that arrive where they may not, break the laws; and the worked rows.
use Rattle.std.proofs.Common.{◌≡◌, ℕ, ◌+◌, ◌≤◌, true, false, List, [], ◌∷◌, length, None, IsTrue, IsFalse, inl, inr, refl, sym, ap, subst, arith}
use Rattle.std.proofs.lemmas.Bool.{and_from}
use Rattle.std.proofs.lemmas.Option.{none-some}
use Rattle.tardis_base.specs.declared.ids.StateId.{StateId}
use Rattle.tardis_base.specs.Ids.{root}
use Rattle.tardis_base.specs.Valid.{is_record}
use Rattle.plain_dag.specs.States.{is_known, count_of_site}
use Rattle.plain_dag.specs.Conflicts.{is_conflict_key}
use Rattle.plain_dag.specs.Floors.{is_closed, unpromised}
use Rattle.plain_dag.specs.Growth.{growth_refusal}
use Rattle.plain_dag.proofs.Ids.{not-both, among-cases}
use Rattle.plain_site.specs.Site.{Site, opening}
use Rattle.plain_site.specs.Commits.{with_record}
use Rattle.plain_site.specs.Sound.{IsSound}
use Rattle.plain_site.specs.RowWords.{program_limits, ◌·◌}
use Rattle.plain_site.proofs.SoundOpening.{opening-is-sound}
use Rattle.plain_site.proofs.SoundBooks.{book-keeps}
use Rattle.plain_site.proofs.SoundHistories.{count-fits}
use Rattle.plain_site.proofs.SoundArrivals.{arrival-keeps}
use Rattle.plain_site.proofs.SoundFloors.{floor-keeps}
use Rattle.plain_rows.specs.Rows.{with_row, fits_row}
use Rattle.plain_rows.specs.Laws.{RowsKeepSound, RowsKeepClosed, RowsLeavePromises, RowsTakeThePlace, RowsRaiseCounts, RowsChangeNoMore, RowsLeaveRest}
use Rattle.plain_rows.specs.Laws.{RowsFitAtFirst, EmptyRowsMoveFloors}
use Rattle.plain_rows.specs.WrongRows.{IsBroken, leaves_floors, collects_the_last, keeps_the_old_last, forgets_promises, forgets_sessions}
use Rattle.plain_rows.specs.WrongRows.{forgets_places, forgets_bits, takes_one, lets_none_in}
use Rattle.plain_rows.specs.Worked.{three_sites, bare, promised_by_one, opened_by_one, forked, TwoRowsArrive, BothRowsFit, OtherRowsDont, MostStatesFit}
use Rattle.plain_rows.specs.Worked.{EmptyRowMovesFloors}
use Rattle.plain_rows.proofs.LastArrived.{one-unsplit}
use Rattle.plain_rows.proofs.Fitting.{rows-raise-counts}

three-sound : IsSound three_sites
three-sound = opening-is-sound (program_limits 3) 2 refl refl

-- the root is collected, and is a floor
pub left-floors-break : IsBroken (RowsKeepSound leaves_floors fits_row)
left-floors-break law =
    let closed : false ≡ true = (law three_sites 1 1 three-sound refl).collected.closed root refl in
    absurd (cc)

-- 1.1 is collected, and is a floor
pub collected-last-breaks : IsBroken (RowsKeepSound collects_the_last fits_row)
collected-last-breaks law =
    let closed : false ≡ true = (law three_sites 1 1 three-sound refl).collected.closed (1 · 1) refl in
    absurd (cc)

-- the root and 1.1 are kept, where the root was
pub kept-last-breaks : IsBroken (RowsTakeThePlace keeps_the_old_last fits_row)
kept-last-breaks law =
    let more : ◌≡◌ {A = ℕ} 2 1 = ap length (law three_sites 1 1 three-sound (omega arith) refl).kept in
    absurd (cc)

-- one state arrives where two should
pub one-taken-breaks : IsBroken (RowsRaiseCounts takes_one)
one-taken-breaks law =
    let fewer : ◌≡◌ {A = ℕ} 2 3 = (law three_sites 1 2).of_all in
    absurd (cc)

-- at a site that opens a row of one state may arrive
pub none-let-in-breaks : IsBroken (RowsFitAtFirst lets_none_in)
none-let-in-breaks law =
    let none : false ≡ true = law (program_limits 3) 2 1 1 in
    absurd (cc)

-- the third floor has the number 1, and then 0
pub forgotten-promises-break : IsBroken (RowsLeavePromises with_row forgets_promises)
forgotten-promises-break law =
    let numbers : ◌≡◌ {A = List ℕ} (0 ∷ 0 ∷ 0 ∷ []) (0 ∷ 0 ∷ 1 ∷ []) = law promised_by_one 1 1 refl in
    absurd (cc)

opened-sound : IsSound opened_by_one
opened-sound =
    book-keeps three_sites opened_by_one.sessions [] three-sound
    (record {
      few = omega arith;
      numbers = refl;
      each_session = refl;
      txn_numbers = refl;
      each_txn = λ n t e. absurd (none-some t e);
      under_floor = refl;
    })

-- the own floor is at 1.1, and the ceiling of the open session at the root
pub forgotten-sessions-break : IsBroken (RowsKeepSound with_row forgets_sessions)
forgotten-sessions-break law =
    let under : false ≡ true = (law opened_by_one 1 1 opened-sound refl).under_floor in
    absurd (cc)

-- there are as many states of site 1 as numbers of 32 bits, and one of these is the root's
too-many : (count : ℕ) → count ≡ 4294967296 → RowsKeepSound with_row forgets_bits → ⊥
too-many count all law =
    let sound = law three_sites 1 count three-sound refl in
    let few = count-fits (with_row 1 count three_sites).dag sound.dag 1 in
    let many = (rows-raise-counts three_sites 1 count).of_the_site in
    omega arith

pub forgotten-bits-break : IsBroken (RowsKeepSound with_row forgets_bits)
forgotten-bits-break law = too-many 4294967296 refl law

-- ===== A floor that is beside the state that arrived last

-- a record without writes arrives below one state
arrives : (site : Site) (x p : StateId) → IsSound site → IsTrue (is_record (bare x p)) → IsFalse (is_known site.dag x) →
    x.sequence ≡ count_of_site site.dag x.site + 1 → x.site ≤ site.limits.sites → IsTrue (is_known site.dag p) →
    IsFalse (is_closed site.dag site.floors p) → growth_refusal site.limits site.collected site.dag (bare x p) ≡ None → IsSound (with_record (bare x p) site)
arrives site x p sound shape new in_sequence of_a_site known free grows =
    arrival-keeps site (bare x p) sound
    (record {
      shape = shape;
      new = new;
      in_sequence = in_sequence;
      parents = and_from (is_known site.dag p) true known refl;
      apart = refl;
      merges = λ k split. not-both (is_conflict_key site.dag (p ∷ []) k) split (one-unsplit site.dag k p);
    })
    of_a_site
    (λ q m. elim (among-cases q p [] m) [
      | inl is ↦ subst (λ z. IsFalse (is_closed site.dag site.floors z)) (sym is) free
      | inr none ↦ not-both true refl (sym none)
    ]) grows

abbrev lone : Site
lone = opening (program_limits 1) 1

abbrev first_made : Site
first_made = with_record (bare (1 · 1) (0 · 0)) lone

abbrev second_made : Site
second_made = with_record (bare (1 · 2) (1 · 1)) first_made

abbrev third_made : Site
third_made = with_record (bare (1 · 3) (0 · 0)) second_made

third-sound : IsSound third_made
third-sound =
    let opened = opening-is-sound (program_limits 1) 1 refl refl in
    let first : IsSound first_made = arrives lone (1 · 1) (0 · 0) opened refl refl refl (omega arith) refl refl refl in
    let second : IsSound second_made = arrives first_made (1 · 2) (1 · 1) first refl refl refl (omega arith) refl refl refl in
    arrives second_made (1 · 3) (0 · 0) second refl refl refl (omega arith) refl refl refl

forked-sound : IsSound forked
forked-sound =
    floor-keeps third_made 1 (unpromised (1 · 2)) third-sound (omega arith) (omega arith)
    (record { known = refl; stated = omega arith; number = refl }) refl (λ e. refl)

-- 1.1 is closed, and then it isn't: the last state is below 1.3
pub forgotten-places-break : IsBroken (RowsKeepClosed with_row forgets_places)
forgotten-places-break law =
    let closed : false ≡ true = law forked 1 1 forked-sound refl (1 · 1) refl in
    absurd (cc)

-- ===== At rest, and the worked rows

pub rows-change-no-more : RowsChangeNoMore with_row
rows-change-no-more site n count = refl

pub empty-rows-move-floors : EmptyRowsMoveFloors with_row
empty-rows-move-floors site n = refl

pub rows-leave-rest : RowsLeaveRest with_row
rows-leave-rest site n count = refl

pub two-rows-arrive : TwoRowsArrive
two-rows-arrive = (refl, refl, refl, refl)

pub both-rows-fit : BothRowsFit
both-rows-fit = refl

pub other-rows-dont : OtherRowsDont
other-rows-dont = refl

pub most-states-fit : MostStatesFit
most-states-fit = refl

pub empty-row-moves-floors : EmptyRowMovesFloors
empty-row-moves-floors = (refl, refl)
