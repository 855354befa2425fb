-- What a sound site holds can be told: its floors, and what it may take back without a word of floors.
use Rattle.std.proofs.Common.{◌≡◌, ℕ, ◌+◌, ◌<◌, ◌≤◌, true, not, List, [], ◌∷◌, length, find, is_none, None, IsTrue, IsFalse, inl, inr, refl}
use Rattle.std.proofs.Common.{ap, arith}
use Rattle.std.specs.Prelude.{◌==◌, ◌&&◌, ◌||◌, nat_le, nat_lt}
use Rattle.std.specs.List.{list_all}
use Rattle.std.proofs.lemmas.Bool.{and_parts, and_from, or_cases, both_ways, false_from_ne_true, not-false, not_from_false, eq-eqb, leb-true, le-leb}
use Rattle.std.proofs.lemmas.Bool.{lt-ltb, ltb-false}
use Rattle.tardis_base.specs.declared.ids.StateId.{StateId}
use Rattle.tardis_base.specs.declared.records.Record.{Record}
use Rattle.tardis_base.specs.declared.replies.Refusal.TheVariants.{BadSite, OwnItem, ClosedParent, Comparable, OpenConflict}
use Rattle.tardis_base.specs.declared.replies.Reply.TheVariants.{Known, Early}
use Rattle.tardis_base.specs.Ids.{root, same_id, is_among}
use Rattle.tardis_base.specs.Valid.{is_u16, is_u32, is_record}
use Rattle.plain_dag.specs.States.{is_known, children, count_of_site}
use Rattle.plain_dag.specs.Above.{comparable_pair}
use Rattle.plain_dag.specs.Conflicts.{open_conflict}
use Rattle.plain_dag.specs.Floors.{Floor, is_closed}
use Rattle.plain_dag.specs.Collection.{is_kept, is_absorbed}
use Rattle.plain_dag.specs.Growth.{growth_refusal}
use Rattle.plain_dag.proofs.Ids.{not-both, all-at, all-from, any-witness}
use Rattle.plain_dag.proofs.Known.{record-parts}
use Rattle.plain_dag.proofs.States.{has_child_is_known, parent_is_above}
use Rattle.plain_dag.proofs.StandIns.{absorbed-parts}
use Rattle.plain_dag.proofs.Collected.{stays-kept}
use Rattle.plain_site.specs.Site.{Site}
use Rattle.plain_site.specs.Answers.{when, refuse, refuse_found}
use Rattle.plain_site.specs.Commits.{growth_refusals}
use Rattle.plain_site.specs.Exchange.{is_early, judgements}
use Rattle.plain_site.specs.Rest.{nameless}
use Rattle.plain_site.specs.Sound.{are_sound_floors, IsSound}
use Rattle.plain_site.proofs.SoundAnswers.{AreNone, when-none, found-none, none-parts, none-appended}
use Rattle.plain_site.proofs.SoundArrivals.{may-grow}
use Rattle.plain_site.proofs.SoundBooks.{floor-parts}
use Rattle.plain_site.proofs.SoundHistories.{children-are_kept, unfound-at, above-closed}
use Rattle.plain_checkpoint.specs.Checkpoints.{takes_child, fits_part, fits_floors}
use Rattle.plain_checkpoint.specs.Laws.{told_of, SoundSitesAreToldWell, FloorsOfSitesFit, ArrivalsFit, CollectionsFit}
use Rattle.plain_checkpoint.proofs.Arrived.{state-from}

pub sound-sites-are-told-well : SoundSitesAreToldWell
sound-sites-are-told-well site sound = record {
  dag = sound.dag;
  of_the_sites = sound.of_the_sites;
  few_kept = sound.few_kept;
  short_paths = sound.short_paths;
  few_children = sound.few_children;
  known = sound.collected.known;
  absorbed = sound.collected.absorbed;
  once = sound.collected_once;
}

-- ===== Floors

known-floors : (rs : List Record) (n : ℕ) (fs : List Floor) → IsTrue (are_sound_floors rs n fs) → IsTrue (list_all (λ f. is_known rs f.state) fs)
known-floors rs n [] h = refl
known-floors rs n (f ∷ fs) h =
    let parts = floor-parts rs n f fs h in
    and_from (is_known rs f.state) (list_all (λ g. is_known rs g.state) fs) parts.0.known (known-floors rs (n + 1) fs parts.1)

pub floors-of-sites-fit : FloorsOfSitesFit fits_floors
floors-of-sites-fit site sound =
    let rs = site.dag in
    let each = length site.floors == site.limits.sites in
    let sound_floors = are_sound_floors rs 1 site.floors in
    let kept = list_all (λ (f : Floor). is_kept rs site.collected f.state) site.floors in
    let closed = list_all (is_closed rs site.floors) site.collected in
    let stay = (stays-kept rs site.floors site.collected sound.dag sound.collected).floors_stay (known-floors rs 1 site.floors sound.each_floor) in (
      and_from (each && sound_floors && kept) closed
          (and_from (each && sound_floors) kept
          (and_from each sound_floors (eq-eqb (length site.floors) site.limits.sites sound.one_floor_each) sound.each_floor) stay)
          (all-from (is_closed rs site.floors) site.collected sound.collected.closed),
      refl,
    )

-- ===== Collections

pub collections-fit : CollectionsFit fits_part
collections-fit site x sound collectable =
    let rs = site.dag in
    let ks = site.collected in
    let out = not (is_among x ks) in
    let parts = and_parts (out && is_closed rs site.floors x) (is_absorbed rs ks x) collectable in
    let child = any-witness (λ c. true) (children rs x) (absorbed-parts rs ks x parts.1).2 in
    and_from (is_kept rs ks x) (is_absorbed rs ks x)
    (and_from (is_known rs x) out (has_child_is_known rs sound.dag x child.0 child.1) (and_parts out (is_closed rs site.floors x) parts.0).0) parts.1

-- ===== Arrivals

-- a record is of some site
some-site : (r : Record) → IsTrue (is_record r) → 1 ≤ r.id.site
some-site r valid =
    let whole = record-parts r valid in
    let named = nat_le 1 r.id.site && nat_le 1 r.id.sequence in
    let id = (and_parts (is_u16 r.id.site && is_u32 r.id.sequence) (same_id r.id root || named) whole.id).1 in
    elim (or_cases (same_id r.id root) named id) [
      | inl is ↦ not-both (same_id r.id root) is whole.isnt_root
      | inr h ↦ leb-true 1 r.id.site (and_parts (nat_le 1 r.id.site) (nat_le 1 r.id.sequence) h).0
    ]

-- what the judgements leave of a record, whatever the site's own number
record IsWelcome (site : Site) (r : Record) : Type 0 where
  of_a_site : r.id.site ≤ site.limits.sites
  sequence : IsTrue (r.id.sequence == count_of_site site.dag r.id.site + 1)
  known : IsTrue (list_all (is_known site.dag) r.parents)
  unclosed : find (is_closed site.dag site.floors) r.parents ≡ None
  apart : comparable_pair site.dag r.parents ≡ None
  merges : open_conflict site.dag r.parents r.writes ≡ None

welcome : (site : Site) (r : Record) → AreNone (judgements site r) → IsWelcome site r
welcome site r none =
    let rs = site.dag in
    let count = count_of_site rs r.id.site in
    let one = refuse (nat_lt site.limits.sites r.id.site) (BadSite r.id.site) in
    let two = when (nat_le r.id.sequence count) Known in
    let three = refuse (r.id.site == site.own) (OwnItem r.id.site r.id.sequence) in
    let four = when (is_early site r) (Early count) in
    let five = refuse_found ClosedParent (find (is_closed rs site.floors) r.parents) in
    let six = refuse_found (λ (pair : StateId × StateId). Comparable pair.0 pair.1) (comparable_pair rs r.parents) in
    let seven = refuse_found OpenConflict (open_conflict rs r.parents r.writes) in
    let first = none-parts one (two ∷ three ∷ four ∷ five ∷ six ∷ seven ∷ []) none in
    let second = none-parts two (three ∷ four ∷ five ∷ six ∷ seven ∷ []) first.1 in
    let third = none-parts three (four ∷ five ∷ six ∷ seven ∷ []) second.1 in
    let fourth = none-parts four (five ∷ six ∷ seven ∷ []) third.1 in
    let fifth = none-parts five (six ∷ seven ∷ []) fourth.1 in
    let sixth = none-parts six (seven ∷ []) fifth.1 in
    let in_time = not-false (r.id.sequence == count + 1 && list_all (is_known rs) r.parents) (when-none (is_early site r) _ fourth.0) in
    let parts = and_parts (r.id.sequence == count + 1) (list_all (is_known rs) r.parents) in_time in
    record {
      of_a_site = ltb-false site.limits.sites r.id.site (when-none (nat_lt site.limits.sites r.id.site) _ first.0);
      sequence = parts.0;
      known = parts.1;
      unclosed = found-none ClosedParent (find (is_closed rs site.floors) r.parents) fifth.0;
      apart = found-none (λ (pair : StateId × StateId). Comparable pair.0 pair.1) (comparable_pair rs r.parents) sixth.0;
      merges = found-none OpenConflict (open_conflict rs r.parents r.writes) (none-parts seven [] sixth.1).0;
    }

module _ (site : Site) (r : Record) (sound : IsSound site) (is_welcome : IsWelcome site r)
    (grows : growth_refusal site.limits site.collected site.dag r ≡ None) where
  abbrev rs : List Record
  rs = site.dag

  abbrev ks : List StateId
  ks = site.collected

  unclosed : (p : StateId) → IsTrue (is_among p r.parents) → IsFalse (is_closed rs site.floors p)
  unclosed p m = unfound-at (is_closed rs site.floors) r.parents p is_welcome.unclosed m

  kept-parent : (p : StateId) → IsTrue (is_among p r.parents) → IsTrue (is_kept rs ks p)
  kept-parent p m =
      and_from (is_known rs p) (not (is_among p ks)) (all-at (is_known rs) r.parents p is_welcome.known m)
      (not_from_false (is_among p ks) (false_from_ne_true (is_among p ks) (λ gone.
      both_ways (is_closed rs site.floors p) (unclosed p m) (sound.collected.closed p gone))))

  -- the children of a parent aren't closed, so they are kept
  room-below : (p : StateId) → IsTrue (is_among p r.parents) → IsTrue (takes_child site.limits (told_of site) p)
  room-below p m =
      let kept = children-are_kept rs ks p (λ c child. false_from_ne_true (is_among c ks) (λ gone.
      both_ways (is_closed rs site.floors p) (unclosed p m)
      (above-closed rs sound.dag site.floors p c (parent_is_above rs sound.dag p c child) (sound.collected.closed c gone)))) in
      let few = sound.few_kept in
      let full = (may-grow site.limits ks rs r grows).room in
      let less : length (children rs p) < site.limits.max_kept = omega arith in
      lt-ltb (length (children rs p)) site.limits.max_kept less

pub arrivals-fit : ArrivalsFit fits_part
arrivals-fit site r sound shape fits =
    let parts = none-appended (judgements (nameless site) r) (growth_refusals site r) fits in
    let grown = growth_refusal site.limits site.collected site.dag r in
    let grows : grown ≡ None = found-none (λ f. f) grown (none-parts (refuse_found (λ f. f) grown) [] parts.1).0 in
    let here = welcome (nameless site) r parts.0 in
    let is_welcome : IsWelcome site r =
    record { of_a_site = here.of_a_site; sequence = here.sequence; known = here.known; unclosed = here.unclosed; apart = here.apart; merges = here.merges } in
    state-from site.limits (told_of site) r shape
    (and_from (nat_le 1 r.id.site) (nat_le r.id.site site.limits.sites) (le-leb 1 r.id.site (some-site r shape))
    (le-leb r.id.site site.limits.sites here.of_a_site))
    here.sequence
    (all-from (is_kept site.dag site.collected) r.parents (kept-parent site r sound is_welcome grows))
    (ap is_none here.apart)
    (all-from (takes_child site.limits (told_of site)) r.parents (room-below site r sound is_welcome grows))
    (ap is_none here.merges) (ap is_none grows)
