-- What is told well stays so where a line arrives that may, one state after another.
use Rattle.std.proofs.Common.{◌≡◌, ℕ, zero, suc, ◌+◌, ◌<◌, ◌≤◌, not, List, [], ◌∷◌, ◌++◌, length, IsTrue, IsFalse, inl, inr, refl, sym, ap, subst}
use Rattle.std.proofs.Common.{◌∙◌, arith, length-append}
use Rattle.std.specs.Prelude.{◌&&◌, ◌^◌, nat_le, nat_lt}
use Rattle.std.specs.List.{list_all}
use Rattle.std.proofs.lemmas.Bool.{and_parts, and_from, cases_Bool, not-true, not_from_false, or_parts, leb-true, le-leb, ltb-true}
use Rattle.tardis_base.specs.declared.ids.StateId.{StateId}
use Rattle.tardis_base.specs.declared.records.Record.{Record}
use Rattle.tardis_base.specs.declared.records.Limits.{Limits}
use Rattle.tardis_base.specs.Ids.{same_id, is_among}
use Rattle.tardis_base.specs.Valid.{is_within, are_limits}
use Rattle.plain_dag.specs.States.{states, is_known, children, count_of_site}
use Rattle.plain_dag.specs.Dag.{IsNext}
use Rattle.plain_dag.specs.Begin.{last_arrived}
use Rattle.plain_dag.specs.Collection.{is_kept, is_absorbed, kept_states}
use Rattle.plain_dag.specs.Paths.{fork_path}
use Rattle.plain_dag.specs.Rows.{next_below}
use Rattle.plain_dag.specs.Laws.{AreCollected}
use Rattle.plain_dag.proofs.Ids.{same_id-true, among-cases}
use Rattle.plain_dag.proofs.Histories.{known-stays, known-cases, next-is-dag}
use Rattle.plain_dag.proofs.States.{children-before}
use Rattle.plain_site.specs.Sound.{are_distinct}
use Rattle.plain_site.proofs.SoundOpening.{limits-parts}
use Rattle.plain_rows.proofs.LastArrived.{last-known, next-is_next}
use Rattle.plain_rows.proofs.Kept.{last-kept}
use Rattle.plain_rows.proofs.OneMore.{parent-is, children-last, last-out, last-absorbed, old-absorbed, kept-row, path-known, path-newest}
use Rattle.plain_rows.proofs.Fitting.{counts-own}
use Rattle.plain_checkpoint.specs.Checkpoints.{Told, ToldLine, with_part, fits_line}
use Rattle.plain_checkpoint.specs.Laws.{IsToldWell, LinesAreStates, LinesJoin}
use Rattle.plain_checkpoint.proofs.Arrived.{rightly}

-- what is told with one state more, the last of a line
abbrev one_more : ℕ → Told → Told
one_more n t = record { dag = next_below t.dag n [] ∷ t.dag; collected = last_arrived t.dag ∷ t.collected }

-- ===== One state

module _ (limits : Limits) (t : Told) (n : ℕ) (limited : IsTrue (are_limits limits)) (well : IsToldWell limits t) (some : 1 ≤ n)
    (most : n ≤ limits.sites) (bits : count_of_site t.dag n + 1 < 4294967296) where
  abbrev rs : List Record
  rs = t.dag

  abbrev ks : List StateId
  ks = t.collected

  abbrev x : StateId
  x = last_arrived t.dag

  abbrev r : Record
  r = next_below t.dag n []

  right : AreCollected rs [] ks
  right = rightly limits t well

  next : IsNext rs r
  next = let few = (limits-parts limits limited).sites in next-is_next rs n well.dag some (omega arith) bits

  known-last : IsTrue (is_known rs x)
  known-last = last-known rs well.dag

  out : IsFalse (is_among x ks)
  out = last-out rs r well.dag next refl [] ks right

  before : (zs : List StateId) × (kept_states rs ks ≡ zs ++ x ∷ [])
  before = last-kept rs ks well.dag out

  -- as many are kept as were
  as-many : length (kept_states (r ∷ rs) (x ∷ ks)) ≡ length (kept_states rs ks)
  as-many =
      let zs = before.0 in
      let new : length (kept_states (r ∷ rs) (x ∷ ks)) ≡ length zs + 1 =
      ap length (kept-row rs r well.dag next refl [] ks right zs before.1) ∙ length-append zs (r.id ∷ []) in
      let old : length (kept_states rs ks) ≡ length zs + 1 = ap length before.1 ∙ length-append zs (x ∷ []) in
      omega arith

  -- the new state has the fork path of the one before it
  short : (y : StateId) → IsTrue (is_kept (r ∷ rs) (x ∷ ks) y) → length (fork_path (r ∷ rs) (x ∷ ks) y) ≤ limits.max_path
  short y kept = elim (known-cases rs r y parts.0) [
    | inl is ↦
        let same : length (fork_path (r ∷ rs) (x ∷ ks) y) ≡ length (fork_path rs ks x) =
        ap (λ z. length (fork_path (r ∷ rs) (x ∷ ks) z)) is ∙ ap length (path-newest rs r well.dag next refl [] ks right before.0 before.1) in
        let old = well.short_paths x (and_from (is_known rs x) (not (is_among x ks)) known-last (not_from_false (is_among x ks) out)) in
        omega arith
    | inr known ↦
        let same : length (fork_path (r ∷ rs) (x ∷ ks) y) ≡ length (fork_path rs ks y) =
        ap length (path-known rs r well.dag next refl [] ks right before.0 before.1 y known) in
        let here = (or_parts (same_id y x) (is_among y ks) (not-true (is_among y (x ∷ ks)) parts.1)).1 in
        let old = well.short_paths y (and_from (is_known rs y) (not (is_among y ks)) known (not_from_false (is_among y ks) here)) in
        omega arith
  ]
    where
      parts : IsTrue (is_known (r ∷ rs) y) × IsTrue (not (is_among y (x ∷ ks)))
      parts = and_parts (is_known (r ∷ rs) y) (not (is_among y (x ∷ ks))) kept

  few : (y : StateId) → length (children (r ∷ rs) y) ≤ limits.max_kept
  few y = elim (cases_Bool (is_among y r.parents)) [
    | inl h ↦
        let is : y ≡ x = same_id-true y x (sym (parent-is rs r well.dag next refl y) ∙ h) in
        let one : length (children (r ∷ rs) y) ≡ 1 = ap (λ z. length (children (r ∷ rs) z)) is ∙ ap length (children-last rs r well.dag next refl) in
        let room = (limits-parts limits limited).kept in
        omega arith
    | inr f ↦
        let same : length (children (r ∷ rs) y) ≡ length (children rs y) = ap length (children-before rs r y f) in
        let old = well.few_children y in
        omega arith
  ]

  one-keeps-well : IsToldWell limits (one_more n t)
  one-keeps-well =
      let kept = as-many in
      let were = well.few_kept in
      record {
        dag = next-is-dag rs r well.dag next;
        of_the_sites =
            and_from (nat_le n limits.sites) (list_all (λ (y : StateId). nat_le y.site limits.sites) (states rs)) (le-leb n limits.sites most) well.of_the_sites;
        few_kept = omega arith;
        short_paths = short;
        few_children = few;
        known = λ y m. elim (among-cases y x ks m) [
          | inl is ↦ known-stays rs r y (subst (λ z. IsTrue (is_known rs z)) (sym is) known-last)
          | inr old ↦ known-stays rs r y (well.known y old)
        ];
        absorbed = λ y m. elim (among-cases y x ks m) [
          | inl is ↦ subst (λ z. IsTrue (is_absorbed (r ∷ rs) (x ∷ ks) z)) (sym is) (last-absorbed rs r well.dag next refl [] ks right)
          | inr old ↦ old-absorbed rs r well.dag next refl [] ks right y old
        ];
        once = and_from (not (is_among x ks)) (are_distinct ks) (not_from_false (is_among x ks) out) well.once;
      }

-- ===== All of a line

states-keep-well : (limits : Limits) (t : Told) (n count : ℕ) → IsTrue (are_limits limits) → IsToldWell limits t → 1 ≤ n → n ≤ limits.sites →
    count_of_site t.dag n + count < 4294967296 → IsToldWell limits (with_part (ToldLine n count) t)
states-keep-well limits t n zero limited well some most bits = well
states-keep-well limits t n (suc count) limited well some most bits =
    let shorter = states-keep-well limits t n count limited well some most (omega arith) in
    let own = counts-own t.dag n count in
    one-keeps-well limits (with_part (ToldLine n count) t) n limited shorter some most (omega arith)

pub line-keeps-well : (limits : Limits) (t : Told) (n count : ℕ) → IsTrue (are_limits limits) → IsToldWell limits t → IsTrue (fits_line limits t n count) →
    IsToldWell limits (with_part (ToldLine n count) t)
line-keeps-well limits t n count limited well fits =
    let named = is_within 1 limits.sites n in
    let last = and_parts (named && nat_le 1 count) (nat_lt (count_of_site t.dag n + count) (2 ^ 32)) fits in
    let first = and_parts named (nat_le 1 count) last.0 in
    let within = and_parts (nat_le 1 n) (nat_le n limits.sites) first.0 in
    states-keep-well limits t n count limited well (leb-true 1 n within.0) (leb-true n limits.sites within.1)
    (ltb-true (count_of_site t.dag n + count) (2 ^ 32) last.1)

-- ===== One state of a line, and lines that are joined

pub lines-are-states : LinesAreStates with_part
lines-are-states t n = refl

pub lines-join : LinesJoin with_part
lines-join t n a zero =
    let same : a ≡ a + 0 = omega arith in
    ap (λ k. with_part (ToldLine n k) t) same
lines-join t n a (suc b) =
    let same : suc (a + b) ≡ a + suc b = omega arith in
    ap (one_more n) (lines-join t n a b) ∙ ap (λ k. with_part (ToldLine n k) t) same
