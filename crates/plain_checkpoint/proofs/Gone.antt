-- What is told well stays so where a state joins the collected that may.
use Rattle.std.proofs.Common.{◌≡◌, ℕ, ◌≤◌, true, not, List, [], ◌∷◌, length, filter, IsTrue, refl, ap, arith}
use Rattle.std.specs.Prelude.{◌&&◌}
use Rattle.std.proofs.lemmas.Bool.{and_parts, and_from, or_parts, not-true, not_from_false}
use Rattle.tardis_base.specs.declared.ids.StateId.{StateId}
use Rattle.tardis_base.specs.declared.records.Record.{Record}
use Rattle.tardis_base.specs.declared.records.Limits.{Limits}
use Rattle.tardis_base.specs.Ids.{same_id, is_among}
use Rattle.plain_dag.specs.States.{is_known}
use Rattle.plain_dag.specs.Collection.{is_kept, kept_states, is_absorbed}
use Rattle.plain_dag.specs.Paths.{fork_path}
use Rattle.plain_dag.specs.Laws.{AreCollected, HandsOver}
use Rattle.plain_dag.proofs.StandIns.{absorbed-parts}
use Rattle.plain_dag.proofs.Joining.{hands-over, collected-join}
use Rattle.plain_site.specs.Sound.{are_distinct}
use Rattle.plain_site.proofs.SoundEntries.{filter-shortens}
use Rattle.plain_checkpoint.specs.Checkpoints.{Told, ToldGone, with_part, fits_gone}
use Rattle.plain_checkpoint.specs.Laws.{IsToldWell}
use Rattle.plain_checkpoint.proofs.Arrived.{rightly}

module _ (limits : Limits) (t : Told) (x : StateId) (well : IsToldWell limits t) (fits : IsTrue (fits_gone t x)) where
  abbrev rs : List Record
  rs = t.dag

  abbrev ks : List StateId
  ks = t.collected

  both : IsTrue (is_kept rs ks x) × IsTrue (is_absorbed rs ks x)
  both = and_parts (is_kept rs ks x) (is_absorbed rs ks x) fits

  out : IsTrue (not (is_among x ks))
  out = (and_parts (is_known rs x) (not (is_among x ks)) both.0).1

  joins : AreCollected rs [] (x ∷ ks)
  joins =
      collected-join rs [] ks x well.dag (rightly limits t well)
      (and_from (not (is_among x ks) && true) (is_absorbed rs ks x) (and_from (not (is_among x ks)) true out refl) both.1)

  hands : (s : StateId) × HandsOver rs ks x s
  hands =
      let was = absorbed-parts rs ks x both.1 in
      (was.0, hands-over rs ks well.dag x was.0 (not-true (is_among x ks) out) was.1)

  short : (y : StateId) → IsTrue (is_kept rs (x ∷ ks) y) → length (fork_path rs (x ∷ ks) y) ≤ limits.max_path
  short y kept =
      let parts = and_parts (is_known rs y) (not (is_among y (x ∷ ks))) kept in
      let still = (or_parts (same_id y x) (is_among y ks) (not-true (is_among y (x ∷ ks)) parts.1)).1 in
      let old = well.short_paths y (and_from (is_known rs y) (not (is_among y ks)) parts.0 (not_from_false (is_among y ks) still)) in
      let same : length (fork_path rs (x ∷ ks) y) ≡ length (filter (λ (b : StateId × ℕ). not (same_id b.0 x)) (fork_path rs ks y)) =
      ap length (hands.1.paths y) in
      let fewer = filter-shortens (λ (b : StateId × ℕ). not (same_id b.0 x)) (fork_path rs ks y) in
      omega arith

  pub gone-keeps-well : IsToldWell limits (with_part (ToldGone x) t)
  gone-keeps-well =
      let same : length (kept_states rs (x ∷ ks)) ≡ length (filter (λ (z : StateId). not (same_id z x)) (kept_states rs ks)) = ap length hands.1.kept in
      let fewer = filter-shortens (λ (z : StateId). not (same_id z x)) (kept_states rs ks) in
      let old = well.few_kept in
      record {
        dag = well.dag;
        of_the_sites = well.of_the_sites;
        few_kept = omega arith;
        short_paths = short;
        few_children = well.few_children;
        known = joins.known;
        absorbed = joins.absorbed;
        once = and_from (not (is_among x ks)) (are_distinct ks) out well.once;
      }
