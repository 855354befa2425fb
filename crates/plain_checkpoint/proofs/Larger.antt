-- What fits under some limits fits under larger ones.
use Rattle.std.proofs.Common.{◌≡◌, ℕ, ◌+◌, ◌<◌, ◌≤◌, Bool, not, List, [], ◌∷◌, length, find, Option, Some, None, is_none, IsTrue, IsFalse, refl, ap, subst, ◌∙◌, arith}
use Rattle.std.specs.Prelude.{◌==◌, ◌&&◌, ◌^◌, nat_le, nat_lt}
use Rattle.std.specs.List.{list_all}
use Rattle.std.specs.Option.{option_map}
use Rattle.std.proofs.lemmas.Bool.{and_parts, and_from, cond-false, false_from_ne_true, eqb-true, eq-eqb, ltb-true, lt-ltb}
use Rattle.tardis_base.specs.declared.ids.StateId.{StateId}
use Rattle.tardis_base.specs.declared.records.Record.{Record}
use Rattle.tardis_base.specs.declared.records.Limits.{Limits}
use Rattle.tardis_base.specs.declared.replies.Refusal.{Refusal}
use Rattle.tardis_base.specs.declared.replies.Refusal.TheVariants.{Full, PathFull}
use Rattle.tardis_base.specs.Ids.{is_among}
use Rattle.tardis_base.specs.Valid.{is_within, are_limits}
use Rattle.plain_dag.specs.States.{arrived, is_known, children, count_of_site}
use Rattle.plain_dag.specs.Floors.{Floor, is_closed}
use Rattle.plain_dag.specs.Collection.{is_kept, kept_states}
use Rattle.plain_dag.specs.Paths.{fork_path, long_path}
use Rattle.plain_dag.specs.Growth.{growth_refusal}
use Rattle.plain_dag.proofs.Ids.{among-first, among-later}
use Rattle.plain_dag.proofs.Known.{arrived-is_known}
use Rattle.plain_dag.proofs.Searches.{filtered-passes}
use Rattle.plain_site.specs.Sound.{are_sound_floors}
use Rattle.plain_site.proofs.SoundEntries.{all-implies}
use Rattle.plain_site.proofs.SoundArrivals.{may-grow}
use Rattle.plain_checkpoint.specs.Checkpoints.{Told, Part, ToldState, ToldLine, ToldGone, with_part, takes_child, fits_state, fits_part, fit_parts, fits_floors}
use Rattle.plain_checkpoint.specs.Laws.{IsToldWell, LargerLimitsFit, LargerLimitsFitAll, FloorsGoBySites}
use Rattle.plain_checkpoint.proofs.Arrived.{state-parts, state-from}
use Rattle.plain_checkpoint.proofs.Sites.{parts-keep-told-well}

-- where none of these passes none is found
unfound : (p : StateId → Bool) (xs : List StateId) → ((x : StateId) → IsTrue (is_among x xs) → IsFalse (p x)) → find p xs ≡ None
unfound p [] f = refl
unfound p (x ∷ xs) f = cond-false (p x) (Some x) (find p xs) (f x (among-first x xs)) ∙ unfound p xs (λ y m. f y (among-later y x xs m))

listed-is-kept : (rs : List Record) (ks : List StateId) (x : StateId) → IsTrue (is_among x (kept_states rs ks)) → IsTrue (is_kept rs ks x)
listed-is-kept rs ks x m =
    let passes = filtered-passes (λ (y : StateId). not (is_among y ks)) (arrived rs) x m in
    and_from (is_known rs x) (not (is_among x ks)) (arrived-is_known rs x passes.0) passes.1

-- with room, and short paths behind it, a history may grow
grows-within : (limits : Limits) (ks : List StateId) (rs : List Record) (r : Record) → length (kept_states rs ks) < limits.max_kept →
    ((x : StateId) → IsTrue (is_kept (r ∷ rs) ks x) → length (fork_path (r ∷ rs) ks x) ≤ limits.max_path) → growth_refusal limits ks rs r ≡ None
grows-within limits ks rs r room short =
    let kept = length (kept_states rs ks) in
    let is_long : StateId → Bool = λ x. nat_lt limits.max_path (length (fork_path (r ∷ rs) ks x)) in
    let too_long : Option Refusal = option_map (λ (p : StateId × ℕ). PathFull p.0 p.1) (long_path (r ∷ rs) ks limits.max_path) in
    let none : find is_long (kept_states (r ∷ rs) ks) ≡ None = unfound is_long (kept_states (r ∷ rs) ks) (λ x m. false_from_ne_true (is_long x) (λ t.
    let within = short x (listed-is-kept (r ∷ rs) ks x m) in
    let over = ltb-true limits.max_path (length (fork_path (r ∷ rs) ks x)) t in
    omega arith)) in
    let free : IsFalse (kept == limits.max_kept) = false_from_ne_true (kept == limits.max_kept) (λ t. let e = eqb-true kept limits.max_kept t in omega arith) in
    cond-false (kept == limits.max_kept) (Some (Full kept)) too_long free
    ∙ ap
    (λ (o : Option StateId).
    option_map (λ (p : StateId × ℕ). PathFull p.0 p.1) (option_map (λ (x : StateId). (x, length (fork_path (r ∷ rs) ks x))) o)) none

module _ (limits larger : Limits) (sites : limits.sites ≡ larger.sites) (more_kept : limits.max_kept ≤ larger.max_kept)
    (longer : limits.max_path ≤ larger.max_path) where
  state-fits-larger : (t : Told) (r : Record) → IsToldWell limits t → IsTrue (fits_state limits t r) → IsTrue (fits_state larger t r)
  state-fits-larger t r well fits =
      let parts = state-parts limits t r fits in
      let growth = may-grow limits t.collected t.dag r parts.grows in
      let few = well.few_kept in
      let full = growth.room in
      state-from larger t r parts.shape (subst (λ s. IsTrue (is_within 1 s r.id.site)) sites parts.site)
      (eq-eqb r.id.sequence (count_of_site t.dag r.id.site + 1) parts.in_sequence) parts.kept parts.apart
      (all-implies (takes_child limits t) (takes_child larger t)
      (λ x h.
      let room = ltb-true (length (children t.dag x)) limits.max_kept h in
      lt-ltb (length (children t.dag x)) larger.max_kept (omega arith)) r.parents parts.room) (ap is_none parts.merges)
      (ap is_none (grows-within larger t.collected t.dag r (omega arith) (λ x kept. let short = growth.short x kept in omega arith)))

  part-fits-larger : (t : Told) (p : Part) → IsToldWell limits t → IsTrue (fits_part limits t p) → IsTrue (fits_part larger t p)
  part-fits-larger t (ToldState r) well fits = state-fits-larger t r well fits
  part-fits-larger t (ToldLine n count) well fits =
      subst (λ s. IsTrue (is_within 1 s n && nat_le 1 count && nat_lt (count_of_site t.dag n + count) (2 ^ 32))) sites fits
  part-fits-larger t (ToldGone x) well fits = fits

  parts-fit-larger : (t : Told) (parts : List Part) → IsTrue (are_limits limits) → IsToldWell limits t → IsTrue (fit_parts limits t parts) →
      IsTrue (fit_parts larger t parts)
  parts-fit-larger t [] limited well fit = refl
  parts-fit-larger t (p ∷ later) limited well fit =
      let parts = and_parts (fits_part limits t p) (fit_parts limits (with_part p t) later) fit in
      and_from (fits_part larger t p) (fit_parts larger (with_part p t) later) (part-fits-larger t p well parts.0)
      (parts-fit-larger (with_part p t) later limited (parts-keep-told-well limits t p limited well parts.0) parts.1)

pub larger-limits-fit : LargerLimitsFit fits_part
larger-limits-fit limits larger t p sites more_kept longer well fits = part-fits-larger limits larger sites more_kept longer t p well fits

pub larger-limits-fit-all : LargerLimitsFitAll
larger-limits-fit-all limits larger t parts sites more_kept longer limited well fit =
    parts-fit-larger limits larger sites more_kept longer t parts limited well fit

pub floors-go-by-sites : FloorsGoBySites fits_floors
floors-go-by-sites limits others t floors sites =
    ap
    (λ s.
    length floors == s && are_sound_floors t.dag 1 floors && list_all (λ (f : Floor). is_kept t.dag t.collected f.state) floors
    && list_all (is_closed t.dag floors) t.collected) sites
