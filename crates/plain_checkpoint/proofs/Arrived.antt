-- What is told well stays so where a record arrives that fits.
use Rattle.std.proofs.Common.{◌≡◌, ◌+◌, ◌≤◌, Bool, true, not, List, [], ◌∷◌, length, Option, Some, None, is_none, IsTrue, IsFalse, inl, inr}
use Rattle.std.proofs.Common.{refl, sym, ap, ◌∙◌, arith, length-append}
use Rattle.std.specs.Prelude.{◌==◌, ◌&&◌, nat_le}
use Rattle.std.specs.List.{list_all}
use Rattle.std.proofs.lemmas.Bool.{and_parts, and_from, cases_Bool, both_ways, false_from_ne_true, not-true, eqb-true, ltb-true}
use Rattle.tardis_base.specs.declared.ids.StateId.{StateId}
use Rattle.tardis_base.specs.declared.records.Record.{Record}
use Rattle.tardis_base.specs.declared.records.Limits.{Limits}
use Rattle.tardis_base.specs.Ids.{is_among}
use Rattle.tardis_base.specs.Valid.{is_within, is_record}
use Rattle.plain_dag.specs.States.{states, is_known, children, count_of_site}
use Rattle.plain_dag.specs.Above.{are_apart}
use Rattle.plain_dag.specs.Conflicts.{open_conflict}
use Rattle.plain_dag.specs.Dag.{IsNext}
use Rattle.plain_dag.specs.Collection.{is_kept}
use Rattle.plain_dag.specs.Growth.{growth_refusal}
use Rattle.plain_dag.specs.Laws.{AreCollected}
use Rattle.plain_dag.proofs.Ids.{not-both, all-at}
use Rattle.plain_dag.proofs.Histories.{known-stays, next-is-dag}
use Rattle.plain_dag.proofs.States.{children-of-parent, children-before}
use Rattle.plain_dag.proofs.StandIns.{absorbed-before}
use Rattle.plain_site.proofs.SoundEntries.{all-implies}
use Rattle.plain_site.proofs.SoundHistories.{next-is_new, kept-grows}
use Rattle.plain_site.proofs.SoundArrivals.{may-grow}
use Rattle.plain_site.proofs.SoundCommits.{conflicts-written}
use Rattle.plain_checkpoint.specs.Checkpoints.{Told, ToldState, with_part, takes_child, fits_state}
use Rattle.plain_checkpoint.specs.Laws.{IsToldWell}

-- what isn't there is none
pub none-from : {A : Type 0} (o : Option A) → IsTrue (is_none o) → o ≡ None
none-from None h = refl
none-from (Some a) h = not-both true refl (sym h)

-- the parts of the test of a record
pub record StateFits (limits : Limits) (t : Told) (r : Record) : Type 0 where
  pub shape : IsTrue (is_record r)
  pub site : IsTrue (is_within 1 limits.sites r.id.site)
  pub in_sequence : r.id.sequence ≡ count_of_site t.dag r.id.site + 1
  pub kept : IsTrue (list_all (is_kept t.dag t.collected) r.parents)
  pub apart : IsTrue (are_apart t.dag r.parents)
  pub room : IsTrue (list_all (takes_child limits t) r.parents)
  pub merges : open_conflict t.dag r.parents r.writes ≡ None
  pub grows : growth_refusal limits t.collected t.dag r ≡ None

module _ (limits : Limits) (t : Told) (r : Record) where
  abbrev shape : Bool
  shape = is_record r

  abbrev site : Bool
  site = is_within 1 limits.sites r.id.site

  abbrev sequence : Bool
  sequence = r.id.sequence == count_of_site t.dag r.id.site + 1

  abbrev kept : Bool
  kept = list_all (is_kept t.dag t.collected) r.parents

  abbrev apart : Bool
  apart = are_apart t.dag r.parents

  abbrev room : Bool
  room = list_all (takes_child limits t) r.parents

  abbrev merges : Bool
  merges = is_none (open_conflict t.dag r.parents r.writes)

  abbrev grows : Bool
  grows = is_none (growth_refusal limits t.collected t.dag r)

  pub state-parts : IsTrue (fits_state limits t r) → StateFits limits t r
  state-parts h =
      let eighth = and_parts (shape && site && sequence && kept && apart && room && merges) grows h in
      let seventh = and_parts (shape && site && sequence && kept && apart && room) merges eighth.0 in
      let sixth = and_parts (shape && site && sequence && kept && apart) room seventh.0 in
      let fifth = and_parts (shape && site && sequence && kept) apart sixth.0 in
      let fourth = and_parts (shape && site && sequence) kept fifth.0 in
      let third = and_parts (shape && site) sequence fourth.0 in
      let first = and_parts shape site third.0 in
      record {
        shape = first.0;
        site = first.1;
        in_sequence = eqb-true r.id.sequence (count_of_site t.dag r.id.site + 1) third.1;
        kept = fourth.1;
        apart = fifth.1;
        room = sixth.1;
        merges = none-from (open_conflict t.dag r.parents r.writes) seventh.1;
        grows = none-from (growth_refusal limits t.collected t.dag r) eighth.1;
      }

  pub state-from : IsTrue shape → IsTrue site → IsTrue sequence → IsTrue kept → IsTrue apart → IsTrue room → IsTrue merges → IsTrue grows →
      IsTrue (fits_state limits t r)
  state-from a b c d e f g h =
      and_from (shape && site && sequence && kept && apart && room && merges) grows
      (and_from (shape && site && sequence && kept && apart && room) merges
      (and_from (shape && site && sequence && kept && apart) room
      (and_from (shape && site && sequence && kept) apart
      (and_from (shape && site && sequence) kept (and_from (shape && site) sequence (and_from shape site a b) c) d) e) f) g) h

-- with no floors, all that is collected is rightly so
pub rightly : (limits : Limits) (t : Told) → IsToldWell limits t → AreCollected t.dag [] t.collected
rightly limits t well = record { known = well.known; closed = λ x m. refl; absorbed = well.absorbed }

module _ (limits : Limits) (t : Told) (r : Record) (well : IsToldWell limits t) (fits : StateFits limits t r) where
  abbrev rs : List Record
  rs = t.dag

  abbrev ks : List StateId
  ks = t.collected

  next : IsNext rs r
  next = record {
    shape = fits.shape;
    new = next-is_new rs well.dag r.id fits.in_sequence;
    in_sequence = fits.in_sequence;
    parents = all-implies (is_kept rs ks) (is_known rs) (λ x h. (and_parts (is_known rs x) (not (is_among x ks)) h).0) r.parents fits.kept;
    apart = fits.apart;
    merges = conflicts-written rs r.parents r.writes fits.merges;
  }

  -- a collected state gets no child
  childless : (x : StateId) → IsTrue (is_among x ks) → IsFalse (is_among x r.parents)
  childless x m = false_from_ne_true (is_among x r.parents) (λ h.
      both_ways (is_among x ks)
      (not-true (is_among x ks) (and_parts (is_known rs x) (not (is_among x ks)) (all-at (is_kept rs ks) r.parents x fits.kept h)).1) m)

  few : (x : StateId) → length (children (r ∷ rs) x) ≤ limits.max_kept
  few x = elim (cases_Bool (is_among x r.parents)) [
    | inl h ↦
        let room = ltb-true (length (children rs x)) limits.max_kept (all-at (takes_child limits t) r.parents x fits.room h) in
        let more : length (children (r ∷ rs) x) ≡ length (children rs x) + 1 =
        ap length (children-of-parent rs r x h) ∙ length-append (children rs x) (r.id ∷ []) in
        omega arith
    | inr f ↦
        let same : length (children (r ∷ rs) x) ≡ length (children rs x) = ap length (children-before rs r x f) in
        let old = well.few_children x in
        omega arith
  ]

  pub arrival-keeps-well : IsToldWell limits (with_part (ToldState r) t)
  arrival-keeps-well =
      let growth = may-grow limits ks rs r fits.grows in
      let full = growth.room in
      let old = well.few_kept in
      let more = kept-grows rs ks r in
      let most = (and_parts (nat_le 1 r.id.site) (nat_le r.id.site limits.sites) fits.site).1 in
      record {
        dag = next-is-dag rs r well.dag next;
        of_the_sites =
            and_from (nat_le r.id.site limits.sites) (list_all (λ (x : StateId). nat_le x.site limits.sites) (states rs)) most well.of_the_sites;
        few_kept = omega arith;
        short_paths = growth.short;
        few_children = few;
        known = λ x m. known-stays rs r x (well.known x m);
        absorbed = λ x m. absorbed-before rs r ks x (childless x m) (well.absorbed x m);
        once = well.once;
      }
