-- A sound site to which a row arrives is sound again, one state after another.
use Rattle.std.proofs.Common.{◌≡◌, ℕ, zero, suc, ◌+◌, ◌≤◌, true, not, List, [], ◌∷◌, ◌++◌, length, map, IsTrue, IsFalse, inl, inr, refl, sym, ap, subst}
use Rattle.std.proofs.Common.{◌∙◌, arith, length-append}
use Rattle.std.specs.Prelude.{◌==◌, ◌&&◌, nat_le}
use Rattle.std.specs.List.{list_all}
use Rattle.std.proofs.lemmas.Bool.{and_parts, and_from, cases_Bool, not-true, not_from_false, or_parts, le-leb}
use Rattle.std.proofs.lemmas.List.{length-map}
use Rattle.std.proofs.lemmas.Option.{none-some}
use Rattle.tardis_base.specs.declared.ids.StateId.{StateId}
use Rattle.tardis_base.specs.declared.records.Record.{Record}
use Rattle.tardis_base.specs.Ids.{same_id, is_among}
use Rattle.plain_dag.specs.States.{states, is_known, children, count_of_site}
use Rattle.plain_dag.specs.Above.{is_above, is_proper_ancestor}
use Rattle.plain_dag.specs.Dag.{IsNext, IsDag}
use Rattle.plain_dag.specs.Begin.{last_arrived}
use Rattle.plain_dag.specs.Entries.{entry_of}
use Rattle.plain_dag.specs.Floors.{Floor, Sessions, is_closed, is_above_ceilings, unpromised, is_unpromised_above, are_unpromised_above}
use Rattle.plain_dag.specs.Collection.{is_kept, is_absorbed, kept_states}
use Rattle.plain_dag.specs.Paths.{fork_path}
use Rattle.plain_dag.specs.Rows.{next_below}
use Rattle.plain_dag.specs.Laws.{AreCollected}
use Rattle.plain_dag.proofs.Ids.{same_id-true, among-cases}
use Rattle.plain_dag.proofs.Collected.{proper-parts, proper-above}
use Rattle.plain_dag.proofs.Histories.{known-stays, known-cases, newest-is-known, next-is-dag}
use Rattle.plain_dag.proofs.Order.{above-reflexive, ancestors-are-known}
use Rattle.plain_dag.proofs.States.{children-before}
use Rattle.plain_site.specs.Site.{Site, own_floor}
use Rattle.plain_site.specs.Sound.{are_sound_floors, are_distinct, is_sound_session, IsSound}
use Rattle.plain_site.proofs.SoundOpening.{limits-parts}
use Rattle.plain_site.proofs.SoundBooks.{TxnAt}
use Rattle.plain_rows.specs.Rows.{row_of, with_row, fits_row}
use Rattle.plain_rows.specs.Laws.{RowsKeepSound, RowsKeepClosed}
use Rattle.plain_rows.proofs.LastArrived.{last-known, next-is_next}
use Rattle.plain_rows.proofs.Kept.{last-kept}
use Rattle.plain_rows.proofs.OneMore.{parent-is, children-last, above-new, new-differs, last-out, last-absorbed, old-absorbed, kept-row, path-known}
use Rattle.plain_rows.proofs.OneMore.{path-newest}
use Rattle.plain_rows.proofs.Fitting.{RowFits, fits-parts, counts-own, all-free}
use Rattle.plain_rows.proofs.Joined.{one_more, longer}

-- ===== Floors

floors-at : (rs : List Record) (x : StateId) → IsTrue (is_known rs x) → (n : ℕ) (fs : List Floor) →
    IsTrue (are_sound_floors rs n (map (λ (f : Floor). unpromised x) fs))
floors-at rs x known n [] = refl
floors-at rs x known n (f ∷ fs) =
    let stated = nat_le 0 (count_of_site rs n) in
    let rest = are_sound_floors rs (n + 1) (map (λ (f : Floor). unpromised x) fs) in
    and_from (is_known rs x && stated && true) rest
    (and_from (is_known rs x && stated) true (and_from (is_known rs x) stated known (le-leb 0 (count_of_site rs n) (omega arith))) refl)
    (floors-at rs x known (n + 1) fs)

closed-at : (rs : List Record) (x y : StateId) → IsTrue (is_proper_ancestor rs y x) → (fs : List Floor) →
    IsTrue (is_closed rs (map (λ (f : Floor). unpromised x) fs) y)
closed-at rs x y proper [] = refl
closed-at rs x y proper (f ∷ fs) =
    and_from (is_proper_ancestor rs y x) (is_closed rs (map (λ (f : Floor). unpromised x) fs) y) proper (closed-at rs x y proper fs)

-- where each floor is at or above a state, what is closed is a proper ancestor of it
proper-last : (rs : List Record) → IsDag rs → (x y : StateId) → (fs : List Floor) → 1 ≤ length fs → IsTrue (is_closed rs fs y) →
    IsTrue (are_unpromised_above rs fs x) → IsTrue (is_proper_ancestor rs y x)
proper-last rs dag x y [] some closed free = absurd (omega arith)
proper-last rs dag x y (f ∷ fs) some closed free =
    let down = and_parts (f.number == 0) (is_above rs f.state x) (and_parts (is_unpromised_above rs x f) (are_unpromised_above rs fs x) free).0 in
    proper-above rs dag y f.state x (and_parts (is_proper_ancestor rs y f.state) (is_closed rs fs y) closed).0 down.1

-- ===== No state more

module _ (site : Site) (n count : ℕ) (sound : IsSound site) (fits : RowFits site n count) where
  -- what is closed is a proper ancestor of the state that arrived last
  pub closed-before : (y : StateId) → IsTrue (is_closed site.dag site.floors y) → IsTrue (is_proper_ancestor site.dag y (last_arrived site.dag))
  closed-before y closed =
      let all = sound.one_floor_each in
      let some = fits.some in
      let most = fits.most in
      proper-last site.dag sound.dag (last_arrived site.dag) y site.floors (omega arith) closed fits.floors

  -- so it is closed where all floors are there
  closed-moves : (y : StateId) → IsTrue (is_closed site.dag site.floors y) → IsTrue (is_closed site.dag (with_row n 0 site).floors y)
  closed-moves y closed = closed-at site.dag (last_arrived site.dag) y (closed-before y closed) site.floors

  moved-keeps : IsSound (with_row n 0 site)
  moved-keeps =
      let x = last_arrived site.dag in
      record {
        limits = sound.limits;
        own = sound.own;
        dag = sound.dag;
        of_the_sites = sound.of_the_sites;
        few_kept = sound.few_kept;
        short_paths = sound.short_paths;
        few_children = sound.few_children;
        few_sessions = sound.few_sessions;
        session_numbers = sound.session_numbers;
        each_session = sound.each_session;
        txn_numbers = sound.txn_numbers;
        each_txn = sound.each_txn;
        one_floor_each = length-map site.floors (λ (f : Floor). unpromised x) ∙ sound.one_floor_each;
        each_floor = floors-at site.dag x (last-known site.dag sound.dag) 1 site.floors;
        under_floor =
            subst (λ (ss : Sessions). IsTrue (is_above_ceilings site.dag ss (own_floor (with_row n 0 site)).state)) (sym fits.sessions) refl;
        collected = record {
          known = sound.collected.known;
          closed = λ y m. closed-moves y (sound.collected.closed y m);
          absorbed = sound.collected.absorbed;
        };
        collected_once = sound.collected_once;
        waiting = sound.waiting;
      }

-- ===== One state more

module _ (site : Site) (n : ℕ) (sound : IsSound site) (fits : RowFits site n 1) where
  abbrev rs : List Record
  rs = site.dag

  abbrev ks : List StateId
  ks = site.collected

  abbrev x : StateId
  x = last_arrived site.dag

  abbrev r : Record
  r = next_below site.dag n []

  pub next : IsNext rs r
  next =
      let few = (limits-parts site.limits sound.limits).sites in
      let most = fits.most in
      let bits = fits.bits in
      next-is_next rs n sound.dag fits.some (omega arith) (omega arith)

  known-last : IsTrue (is_known rs x)
  known-last = last-known rs sound.dag

  proper-new : (y : StateId) → IsTrue (is_known rs y) → IsTrue (is_above rs y x) → IsTrue (is_proper_ancestor (r ∷ rs) y r.id)
  proper-new y known above =
      and_from (is_above (r ∷ rs) y r.id) (not (same_id y r.id)) (above-new rs r sound.dag next refl y known ∙ above)
      (not_from_false (same_id y r.id) (new-differs rs r sound.dag next refl y known))

  -- so all that is collected is above the new state
  above-floors : (y : StateId) → IsTrue (is_among y (x ∷ ks)) → IsTrue (is_known rs y) × IsTrue (is_above rs y x)
  above-floors y m = elim (among-cases y x ks m) [
    | inl is ↦ subst (λ z. IsTrue (is_known rs z) × IsTrue (is_above rs z x)) (sym is) (known-last, above-reflexive rs x)
    | inr old ↦
        (sound.collected.known y old, (proper-parts rs y x (closed-before site n 1 sound fits y (sound.collected.closed y old))).0)
  ]

  collected-stay : AreCollected (r ∷ rs) (map (λ (f : Floor). unpromised r.id) site.floors) (x ∷ ks)
  collected-stay = record {
    known = λ y m. known-stays rs r y (above-floors y m).0;
    closed = λ y m. let there = above-floors y m in closed-at (r ∷ rs) r.id y (proper-new y there.0 there.1) site.floors;
    absorbed = λ y m. elim (among-cases y x ks m) [
      | inl is ↦
          subst (λ z. IsTrue (is_absorbed (r ∷ rs) (x ∷ ks) z)) (sym is) (last-absorbed rs r sound.dag next refl site.floors ks sound.collected)
      | inr old ↦ old-absorbed rs r sound.dag next refl site.floors ks sound.collected y old
    ];
  }

  out : IsFalse (is_among x ks)
  out = last-out rs r sound.dag next refl site.floors ks sound.collected

  pub before : (zs : List StateId) × (kept_states rs ks ≡ zs ++ x ∷ [])
  before = last-kept rs ks sound.dag out

  -- as many are kept as were
  as-many : length (kept_states (r ∷ rs) (x ∷ ks)) ≡ length (kept_states rs ks)
  as-many =
      let zs = before.0 in
      let new : length (kept_states (r ∷ rs) (x ∷ ks)) ≡ length zs + 1 =
      ap length (kept-row rs r sound.dag next refl site.floors ks sound.collected zs before.1) ∙ length-append zs (r.id ∷ []) in
      let old : length (kept_states rs ks) ≡ length zs + 1 = ap length before.1 ∙ length-append zs (x ∷ []) in
      omega arith

  short : (y : StateId) → IsTrue (is_kept (r ∷ rs) (x ∷ ks) y) → length (fork_path (r ∷ rs) (x ∷ ks) y) ≤ site.limits.max_path
  short y kept = elim (known-cases rs r y parts.0) [
    | inl is ↦
        let same : length (fork_path (r ∷ rs) (x ∷ ks) y) ≡ length (fork_path rs ks x) =
        ap (λ z. length (fork_path (r ∷ rs) (x ∷ ks) z)) is
        ∙ ap length (path-newest rs r sound.dag next refl site.floors ks sound.collected before.0 before.1) in
        let old = sound.short_paths x (and_from (is_known rs x) (not (is_among x ks)) known-last (not_from_false (is_among x ks) out)) in
        omega arith
    | inr known ↦
        let same : length (fork_path (r ∷ rs) (x ∷ ks) y) ≡ length (fork_path rs ks y) =
        ap length (path-known rs r sound.dag next refl site.floors ks sound.collected before.0 before.1 y known) in
        let here = (or_parts (same_id y x) (is_among y ks) (not-true (is_among y (x ∷ ks)) parts.1)).1 in
        let old = sound.short_paths y (and_from (is_known rs y) (not (is_among y ks)) known (not_from_false (is_among y ks) here)) in
        omega arith
  ]
    where
      parts : IsTrue (is_known (r ∷ rs) y) × IsTrue (not (is_among y (x ∷ ks)))
      parts = and_parts (is_known (r ∷ rs) y) (not (is_among y (x ∷ ks))) kept

  few : (y : StateId) → length (children (r ∷ rs) y) ≤ site.limits.max_kept
  few y = elim (cases_Bool (is_among y r.parents)) [
    | inl t ↦
        let is : y ≡ x = same_id-true y x (sym (parent-is rs r sound.dag next refl y) ∙ t) in
        let one : length (children (r ∷ rs) y) ≡ 1 =
        ap (λ z. length (children (r ∷ rs) z)) is ∙ ap length (children-last rs r sound.dag next refl) in
        let some = (limits-parts site.limits sound.limits).kept in
        omega arith
    | inr f ↦
        let same : length (children (r ∷ rs) y) ≡ length (children rs y) = ap length (children-before rs r y f) in
        let old = sound.few_children y in
        omega arith
  ]

  -- no session is open, so no transaction is
  no-txn : (m : ℕ) → TxnAt (r ∷ rs) site.sessions site.txns m
  no-txn m t e =
      let was = sound.each_txn m t e in
      absurd (none-some was.0 (sym (ap (λ (ss : Sessions). entry_of m ss) fits.sessions) ∙ was.1))

  -- what is closed is closed then
  pub closed-stays : (y : StateId) → IsTrue (is_closed rs site.floors y) →
      IsTrue (is_closed (r ∷ rs) (map (λ (f : Floor). unpromised r.id) site.floors) y)
  closed-stays y closed =
      let above = (proper-parts rs y x (closed-before site n 1 sound fits y closed)).0 in
      closed-at (r ∷ rs) r.id y (proper-new y (ancestors-are-known rs sound.dag y x known-last above) above) site.floors

  pub one-keeps : IsSound (one_more n site)
  one-keeps =
      let kept = as-many in
      let were = sound.few_kept in
      record {
        limits = sound.limits;
        own = sound.own;
        dag = next-is-dag rs r sound.dag next;
        of_the_sites =
            and_from (nat_le n site.limits.sites) (list_all (λ (y : StateId). nat_le y.site site.limits.sites) (states rs))
            (le-leb n site.limits.sites fits.most) sound.of_the_sites;
        few_kept = omega arith;
        short_paths = short;
        few_children = few;
        few_sessions = sound.few_sessions;
        session_numbers = sound.session_numbers;
        each_session = subst (λ (ss : Sessions). IsTrue (list_all (is_sound_session (r ∷ rs)) ss)) (sym fits.sessions) refl;
        txn_numbers = sound.txn_numbers;
        each_txn = no-txn;
        one_floor_each = length-map site.floors (λ (f : Floor). unpromised r.id) ∙ sound.one_floor_each;
        each_floor = floors-at (r ∷ rs) r.id (newest-is-known rs r) 1 site.floors;
        under_floor =
            subst (λ (ss : Sessions). IsTrue (is_above_ceilings (r ∷ rs) ss (own_floor (one_more n site)).state)) (sym fits.sessions) refl;
        collected = collected-stay;
        collected_once =
            and_from (not (is_among x ks)) (are_distinct ks) (not_from_false (is_among x ks) out) sound.collected_once;
        waiting = sound.waiting;
      }

-- ===== All of a row

-- one more fits behind a row that is shorter than one that fits
pub fits-behind : (site : Site) (n c : ℕ) → RowFits site n (suc (suc c)) → RowFits (with_row n (suc c) site) n 1
fits-behind site n c fits =
    let own = counts-own site.dag n (suc c) in
    let bits = fits.bits in
    record {
      some = fits.some;
      most = fits.most;
      bits = omega arith;
      sessions = fits.sessions;
      floors = all-free (row_of site.dag n (suc c)) site.floors;
    }

-- and so does a shorter row
pub fits-shorter : (site : Site) (n c : ℕ) → RowFits site n (suc (suc c)) → RowFits site n (suc c)
fits-shorter site n c fits =
    let bits = fits.bits in
    record { some = fits.some; most = fits.most; bits = omega arith; sessions = fits.sessions; floors = fits.floors }

-- what one state more keeps, a row keeps that has a state in it
pub row-by-row : (P : Site → Site → Type 0) → ((site : Site) (n : ℕ) → IsSound site → RowFits site n 1 → P site (one_more n site)) →
    ((a b c : Site) → P a b → P b c → P a c) → (c : ℕ) (site : Site) (n : ℕ) → IsSound site → RowFits site n (suc c) →
    IsSound (with_row n (suc c) site) × P site (with_row n (suc c) site)
row-by-row P one both zero site n sound fits = (one-keeps site n sound fits, one site n sound fits)
row-by-row P one both (suc c) site n sound fits =
    let older = row-by-row P one both c site n sound (fits-shorter site n c fits) in
    let before = with_row n (suc c) site in
    let behind = fits-behind site n c fits in (
      subst IsSound (longer site n (suc c)) (one-keeps before n older.0 behind),
      subst (P site) (longer site n (suc c)) (both site before (one_more n before) older.1 (one before n older.0 behind)),
    )

pub rows-keep-sound : RowsKeepSound with_row fits_row
rows-keep-sound site n zero sound may = moved-keeps site n 0 sound (fits-parts site n 0 may)
rows-keep-sound site n (suc c) sound may =
    (row-by-row (λ a b. Unit {0}) (λ s m h f. tt) (λ a b c p q. tt) c site n sound (fits-parts site n (suc c) may)).0

-- what was closed is closed
abbrev ClosedStay : Site → Site → Type 0
ClosedStay a b = (x : StateId) → IsTrue (is_closed a.dag a.floors x) → IsTrue (is_closed b.dag b.floors x)

pub rows-keep-closed : RowsKeepClosed with_row fits_row
rows-keep-closed site n zero sound may = closed-moves site n 0 sound (fits-parts site n 0 may)
rows-keep-closed site n (suc c) sound may =
    (row-by-row ClosedStay closed-stays (λ a b c first second x h. second x (first x h)) c site n sound (fits-parts site n (suc c) may)).1
