-- The fork points of a merge's states are kept.
use Rattle.std.proofs.Common.{◌≡◌, ◌≤◌, ◌<◌, ℕ, zero, suc, ◌-◌, Bool, true, nat_le, List, [], ◌∷◌, length, slice_get, unwrap_or, Some, IsTrue, arith}
use Rattle.std.specs.List.{list_any, list_all}
use Rattle.std.proofs.lemmas.Bool.{and_parts, or_left, or_right, leb-true}
use Rattle.tardis_base.specs.declared.ids.StateId.{StateId}
use Rattle.plain_dag.specs.States.{is_known}
use Rattle.plain_dag.specs.Above.{is_above}
use Rattle.plain_dag.specs.Begin.{is_admitted}
use Rattle.plain_dag.specs.Collection.{is_kept}
use Rattle.plain_dag.specs.Entries.{entry_of}
use Rattle.plain_dag.specs.Floors.{Floor, Session, opening_floor}
use Rattle.plain_dag.specs.Forks.{is_fork_point}
use Rattle.plain_dag.specs.Laws.{IsUnderFloor}
use Rattle.plain_dag.proofs.Collected.{stays-kept}
use Rattle.plain_site.specs.Site.{Site, MergeTxn, Merge}
use Rattle.plain_site.specs.Sound.{IsSound}
use Rattle.plain_site.proofs.SoundBooks.{open-session}
use Rattle.plain_site.proofs.RepliesLengths.{parents-some}
use Rattle.plain_site.proofs.RepliesOfReads.{merge-states}

-- one of the floors passes
any-floor : (p : Floor → Bool) (fs : List Floor) (i : ℕ) → i < length fs → p (unwrap_or (slice_get fs i) opening_floor) ≡ true → list_any p fs ≡ true
any-floor p [] i l t = absurd (omega arith)
any-floor p (f ∷ fs) zero l t = or_left (p f) (list_any p fs) t
any-floor p (f ∷ fs) (suc i) l t = or_right (p f) (list_any p fs) (any-floor p fs i (omega arith) t)

module _ (site : Site) (n : ℕ) (sound : IsSound site) where
  -- an open session's ceiling is under the own floor
  under-floor : (s : Session) → entry_of n site.sessions ≡ Some s → IsUnderFloor site.dag site.floors s.ceiling
  under-floor s is =
      let within = and_parts (nat_le 1 site.own) (nat_le site.own site.limits.sites) sound.own in
      any-floor (λ f. is_above site.dag f.state s.ceiling) site.floors (site.own - 1)
      (omega (arith, sound.one_floor_each, leb-true 1 site.own within.0, leb-true site.own site.limits.sites within.1))
      (open-session site n s sound is).1

  -- the fork points of a merge's states are kept
  pub fork-points-kept : (t : MergeTxn) → entry_of n site.txns ≡ Some (Merge t) → (x : StateId) → IsTrue (is_known site.dag x) →
      IsTrue (is_fork_point site.dag t.states x) → IsTrue (is_kept site.dag site.collected x)
  fork-points-kept t found x here fork =
      let was = sound.each_txn n (Merge t) found in
      go t.states was.2.known was.2.admitted (parents-some t.states (merge-states t was.2.shape)) fork
    where
      go : (ys : List StateId) → IsTrue (list_all (is_known site.dag) ys) →
          IsTrue (list_all (is_admitted site.dag (sound.each_txn n (Merge t) found).0.ceiling) ys) → 1 ≤ length ys →
          IsTrue (is_fork_point site.dag ys x) → IsTrue (is_kept site.dag site.collected x)
      go [] known admitted some fork = absurd (omega arith)
      go (y ∷ ys) known admitted some fork =
          let was = sound.each_txn n (Merge t) found in
          let stays = stays-kept site.dag site.floors site.collected sound.dag sound.collected in
          stays.fork_points_stay x y was.0.ceiling ys (open-session site n was.0 sound was.1).0.ceiling (under-floor was.0 was.1) known admitted here fork
