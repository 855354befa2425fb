-- Each wrong step breaks a law.
use Rattle.std.proofs.Common.{◌≡◌, ℕ, true, false, List, [], ◌∷◌, ◌++◌, length, Some, None, IsTrue, IsFalse, inl, inr, refl, sym, ap, subst, ◌∙◌, ◌⊎◌, arith}
use Rattle.std.specs.Prelude.{codes}
use Rattle.std.proofs.lemmas.Bool.{and_parts}
use Rattle.std.proofs.lemmas.Option.{none-some, same_Some}
use Rattle.tardis_base.specs.declared.ids.StateId.{StateId}
use Rattle.tardis_base.specs.declared.records.Record.{Record}
use Rattle.tardis_base.specs.declared.records.Write.TheVariants.{Put}
use Rattle.tardis_base.specs.declared.requests.Begin.TheVariants.{At}
use Rattle.tardis_base.specs.declared.replies.Refusal.TheVariants.{NoTxn}
use Rattle.tardis_base.specs.declared.replies.Reply.{Reply}
use Rattle.tardis_base.specs.declared.replies.Reply.TheVariants.{Absent, Done, Committed, Merging, Refused}
use Rattle.tardis_base.specs.Ids.{is_among}
use Rattle.tardis_base.specs.Keys.{has_key}
use Rattle.plain_dag.proofs.Ids.{among-cases}
use Rattle.plain_dag.proofs.Growth.{writer-is-known}
use Rattle.plain_dag.specs.States.{writes_key}
use Rattle.plain_dag.specs.Above.{is_above, is_proper_ancestor}
use Rattle.plain_dag.specs.Writers.{is_writer, read}
use Rattle.plain_dag.specs.Floors.{Session}
use Rattle.plain_site.specs.RowWords.{Line, lone_site, ◌·◌, ◌asks◌=>◌, put, none, ser, si, commit, merge_leaves, value}
use Rattle.plain_site.specs.ClientRuns.{Service, IsRun, AreAnswered, Told, told, told_session, history, ReadsShow}
use Rattle.plain_site.specs.ClientLaws.{DoneCommit, as_line, HistoryIsTold, SettledAreKept, ReadsOneSnapshot, ReadsAtItsState, ReadersEndWhereTheyRead}
use Rattle.plain_site.specs.ClientLaws.{DeliveriesAreKept, SerializableReadsHold, BranchesAreSerial, SnapshotsOverwriteNothingUnseen, CommitsAreKept}
use Rattle.plain_site.specs.ClientLaws.{CommitsAreShown, OtherKeysAreJoined, CommitsJoinWhatTheyRead, OwnWritesAreRead, ParentReadsTheLastCommit}
use Rattle.plain_site.specs.ClientLaws.{AncestorReadsTheLastCommit, AnyReadsTheLastCommit, MergesShowEachSide, SessionsStayUnderCeilings, RefusalsHideNothing}
use Rattle.plain_site.specs.WrongSteps.{IsBrokenBy, forgets_reads, forgets_constraints, reads_newest, forgets_own_writes, forgets_collected, leaves_conflicts}
use Rattle.plain_site.specs.WrongSteps.{drops_sides, forgets_commits, shows_newest_side, stays_with_own, forked, other_branch_read, newest_missed}
use Rattle.plain_site.specs.WrongSteps.{other_side_shown, forgets_ceilings, ends_refused, followed, read_above, ends_at_newest, forgets_deliveries}
use Rattle.plain_site.specs.WrongSteps.{forgets_waiting, forgets_settled, came_early, settled_nothing, ended_elsewhere, begun_three, first_site}
use Rattle.plain_site.specs.WrongSteps.{of_second_site, delivered, delivered_again, raced, begun_both, both_wrote, stale_read, lost_update, unstable_read}
use Rattle.plain_site.specs.WrongSteps.{own_write_missed, own_commit_missed, refused_commit, commit_after_refusal, after_conflict, merging_both}
use Rattle.plain_site.specs.WrongSteps.{written_again, collected, name_given_twice}

-- lines of the only site that were answered are a run
run-of : (service : Service) (lines : List Line) → AreAnswered service lone_site lines → IsRun service lone_site lines
run-of service lines answered = record { limits = refl; own = refl; opens = refl; answered = answered }

-- a commit with these end constraints
abbrev done : ℕ → ℕ → StateId → List StateId → DoneCommit
done n bits x parents = record { actor = n; flags = record { 0 = bits }; k = 0; state = x; parents = parents }

same-parent : (p q : StateId) → ◌≡◌ {A = List StateId} (p ∷ []) (q ∷ []) → q ≡ p
same-parent p q e = cc

-- ===== Reads

-- session 1's transaction, as it knows it after 1.1
abbrev of_one : Told
of_one = record { merges = false; states = 0 · 0 ∷ []; reads = (codes "x", Absent) ∷ []; writes = (codes "y", Put (codes "1")) ∷ [] }

stale-run : IsRun forgets_reads lone_site stale_read
stale-run = run-of forgets_reads stale_read (
  refl,
  inl refl,
  (refl, inl refl, (refl, inl refl, (refl, inl refl, (refl, inl refl, (refl, inl refl, (refl, inl refl, (refl, inl refl, (refl, inl refl, tt)))))))),
)

pub forgotten-reads-break : IsBrokenBy SerializableReadsHold forgets_reads
forgotten-reads-break law =
    let h = law lone_site raced (done 1 ser (1 · 2) (1 · 1 ∷ [])) stale-run refl in
    let told-one : told 1 raced ≡ Some of_one = refl in
    let rs = history lone_site raced in
    let at : ReadsShow (λ key. read rs key (1 · 1)) h.0.reads = subst (λ p. ReadsShow (λ key. read rs key p) h.0.reads) (same-parent (1 · 1) h.1 h.3) h.4 in
    let shows = subst (λ (o : Told). ReadsShow (λ key. read rs key (1 · 1)) o.reads)
    (same_Some h.0 of_one (sym h.2 ∙ told-one)) at in
    let first : Absent ≡ value (1 · 1) "2" = shows.0 in
    absurd (cc)

pub forgotten-reads-break-branches : IsBrokenBy BranchesAreSerial forgets_reads
forgotten-reads-break-branches law =
    let below : Record = record { id = 1 · 1; parents = 0 · 0 ∷ []; writes = (codes "x", Put (codes "2")) ∷ [] } in
    let newest : Record = record { id = 1 · 2; parents = 1 · 1 ∷ []; writes = (codes "y", Put (codes "1")) ∷ [] } in
    let serial = law lone_site stale_read (newest ∷ below ∷ []) (1 · 2) stale-run (1 · 1, refl, refl, (0 · 0, refl, refl, refl)) in
    let reads = serial.0 (done 1 ser (1 · 2) (1 · 1 ∷ [])) of_one ([], raced, refl, refl) refl refl in
    let first : Absent ≡ value (1 · 1) "2" = reads.0 in
    absurd (cc)

unstable-run : IsRun reads_newest lone_site unstable_read
unstable-run = run-of reads_newest unstable_read (
  refl,
  inl refl,
  (refl, inl refl, (refl, inl refl, (refl, inl refl, (refl, inl refl, (refl, inl refl, (refl, inl refl, (refl, inl refl, (refl, inl refl, tt)))))))),
)

pub newest-reads-break-state : IsBrokenBy ReadsAtItsState reads_newest
newest-reads-break-state law =
    let t : Told = record of_one { reads = (codes "x", value (1 · 1) "2") ∷ (codes "x", Absent) ∷ [] } in
    let first : value (1 · 1) "2" ≡ Absent = (law lone_site unstable_read 1 t (0 · 0) unstable-run refl refl).0 in
    absurd (cc)

pub newest-reads-break : IsBrokenBy ReadsOneSnapshot reads_newest
newest-reads-break law =
    let t : Told = record of_one { reads = (codes "x", value (1 · 1) "2") ∷ (codes "x", Absent) ∷ [] } in
    let first : value (1 · 1) "2" ≡ Absent = (law lone_site unstable_read 1 t unstable-run refl).0 in
    absurd (cc)

own-missed-run : IsRun forgets_own_writes lone_site own_write_missed
own-missed-run = run-of forgets_own_writes own_write_missed (
  refl,
  inl refl,
  (refl, inl refl, (refl, inl refl, (refl, inl refl, (refl, inl refl, (refl, inl refl, (refl, inl refl, (refl, inl refl, (refl, inl refl, tt)))))))),
)

pub forgotten-own-writes-break : IsBrokenBy OwnWritesAreRead forgets_own_writes
forgotten-own-writes-break law =
    let own : Absent ≡ value (0 · 0) "1" = law lone_site raced 1 (codes "y") (Put (codes "1")) Absent of_one own-missed-run refl refl refl in
    absurd (cc)

ended-run : IsRun ends_at_newest lone_site ended_elsewhere
ended-run = run-of ends_at_newest ended_elsewhere (
  refl,
  inl refl,
  (
    refl,
    inl refl,
    (
      refl,
      inl refl,
      (
        refl,
        inl refl,
        (
          refl,
          inl refl,
          (refl, inl refl, (refl, inl refl, (refl, inl refl, (refl, inl refl, (refl, inl refl, (refl, inl refl, (refl, inl refl, tt))))))),
        ),
      ),
    ),
  ),
)

pub moved-ends-break : IsBrokenBy ReadersEndWhereTheyRead ends_at_newest
moved-ends-break law =
    let h = law lone_site begun_three 3 (record { 0 = ser }) 0 (1 · 1) ended-run in
    let t : Told = record { merges = false; states = 0 · 0 ∷ []; reads = (codes "x", Absent) ∷ []; writes = [] } in
    let it : told 3 begun_three ≡ Some t = refl in
    let at : 0 · 0 ≡ 1 · 1 = sym (same-parent (0 · 0) (1 · 1) (ap (λ (u : Told). u.states) (same_Some t h.0 (sym it ∙ h.1)) ∙ h.2)) in
    let none : ◌≡◌ {A = ℕ} 0 1 = ap (λ (x : StateId). x.site) at in
    absurd (omega arith)

-- ===== SI

lost-run : IsRun forgets_constraints lone_site lost_update
lost-run = run-of forgets_constraints lost_update (
  refl,
  inl refl,
  (
    refl,
    inl refl,
    (refl, inl refl, (refl, inl refl, (refl, inl refl, (refl, inl refl, (refl, inl refl, (refl, inl refl, (refl, inl refl, (refl, inl refl, tt)))))))),
  ),
)

pub forgotten-constraints-break : IsBrokenBy SnapshotsOverwriteNothingUnseen forgets_constraints
forgotten-constraints-break law =
    let h = law lone_site both_wrote (done 1 si (1 · 2) (1 · 1 ∷ [])) lost-run refl in
    let rs = history lone_site both_wrote in
    let t : Told = record {
      merges = false;
      states = 0 · 0 ∷ [];
      reads = (codes "x", Absent) ∷ [];
      writes = (codes "x", Put (codes "1"))
          ∷ (codes "y", Put (codes "1")) ∷ [];
    } in
    let it : told 1 both_wrote ≡ Some t = refl in
    let same : t ≡ h.0 = same_Some t h.0 (sym it ∙ h.3) in
    let at : h.2 ≡ 1 · 1 = same-parent (1 · 1) h.2 h.5 in
    let from : 0 · 0 ≡ h.1 = sym (same-parent (0 · 0) h.1 (ap (λ (u : Told). u.states) same ∙ h.4)) in
    let above : IsTrue (is_above rs (1 · 1) h.1) =
    h.7 (codes "x") (1 · 1) (subst (λ (u : Told). IsTrue (has_key (codes "x") u.writes)) same refl)
    (subst (λ p. IsTrue (is_writer rs (codes "x") p (1 · 1))) (sym at) refl) in
    let none_above : IsTrue false = subst (λ s. IsTrue (is_above rs (1 · 1) s)) (sym from) above in
    absurd (cc)

-- ===== What is kept

delivered-twice-run : IsRun forgets_deliveries first_site (delivered_again ∷ delivered ∷ [])
delivered-twice-run = record { limits = refl; own = refl; opens = refl; answered = (refl, inl refl, (refl, inl refl, tt)) }

pub forgotten-deliveries-break : IsBrokenBy DeliveriesAreKept forgets_deliveries
forgotten-deliveries-break law =
    let again : Record = record of_second_site { writes = (codes "x", Put (codes "1")) ∷ [] } in
    let same : again ≡ of_second_site = same_Some again of_second_site (law first_site (delivered_again ∷ []) [] 0 of_second_site delivered-twice-run) in
    let lengths : ◌≡◌ {A = ℕ} 1 0 = ap (λ (r : Record). length r.writes) same in
    absurd (omega arith)

came-early-run : IsRun forgets_waiting first_site (came_early ∷ [])
came-early-run = record { limits = refl; own = refl; opens = refl; answered = (refl, inl refl, tt) }

pub forgotten-waiting-breaks : IsBrokenBy HistoryIsTold forgets_waiting
forgotten-waiting-breaks law =
    let lengths : ◌≡◌ {A = ℕ} 0 1 = ap (λ (rs : List Record). length rs) (law first_site (came_early ∷ []) came-early-run).2 in
    absurd (omega arith)

settled-nothing-run : IsRun forgets_settled first_site (settled_nothing ∷ [])
settled-nothing-run = record { limits = refl; own = refl; opens = refl; answered = (refl, inl refl, tt) }

pub forgotten-settled-break : IsBrokenBy SettledAreKept forgets_settled
forgotten-settled-break law =
    let h = law first_site [] [] 0 settled-nothing-run in
    let none : None ≡ Some h.0 = h.1 in
    absurd (none-some h.0 none)

collecting-run : IsRun forgets_collected lone_site (collected ++ as_line (done 1 none (1 · 2) (1 · 1 ∷ [])) ∷ written_again)
collecting-run = run-of forgets_collected (collected ++ as_line (done 1 none (1 · 2) (1 · 1 ∷ [])) ∷ written_again) (
  refl,
  inl refl,
  (refl, inl refl, (refl, inl refl, (refl, inl refl, (refl, inl refl, (refl, inl refl, (refl, inl refl, (refl, inl refl, (refl, inl refl, tt)))))))),
)

pub forgotten-records-break-history : IsBrokenBy HistoryIsTold forgets_collected
forgotten-records-break-history law =
    let lengths : ◌≡◌ {A = ℕ} 2 3 =
    ap (λ (rs : List Record). length rs) (law lone_site (collected ++ as_line (done 1 none (1 · 2) (1 · 1 ∷ [])) ∷ written_again) collecting-run).0 in
    absurd (omega arith)

name-given-twice-run : IsRun forgets_collected lone_site (name_given_twice ++ as_line (done 1 none (1 · 2) (1 · 1 ∷ [])) ∷ written_again)
name-given-twice-run = run-of forgets_collected (name_given_twice ++ as_line (done 1 none (1 · 2) (1 · 1 ∷ [])) ∷ written_again) (
  refl,
  inl refl,
  (
    refl,
    inl refl,
    (
      refl,
      inl refl,
      (
        refl,
        inl refl,
        (
          refl,
          inl refl,
          (refl, inl refl, (refl, inl refl, (refl, inl refl, (refl, inl refl, (refl, inl refl, (refl, inl refl, (refl, inl refl, tt))))))),
        ),
      ),
    ),
  ),
)

pub forgotten-records-break : IsBrokenBy CommitsAreKept forgets_collected
forgotten-records-break law =
    let h = law lone_site name_given_twice written_again (done 1 none (1 · 2) (1 · 1 ∷ [])) name-given-twice-run in
    let second : Record = record { id = 1 · 2; parents = 1 · 2 ∷ []; writes = (codes "x", Put (codes "3")) ∷ [] } in
    let first : Record = record { id = 1 · 2; parents = 1 · 1 ∷ []; writes = h.0.writes } in
    let parents : ◌≡◌ {A = List StateId} (1 · 2 ∷ []) (1 · 1 ∷ []) = ap (λ (r : Record). r.parents) (same_Some second first h.2) in
    let numbers : ◌≡◌ {A = ℕ} 1 2 = ap (λ (x : StateId). x.sequence) (same-parent (1 · 2) (1 · 1) parents) in
    absurd (omega arith)

conflict-run : IsRun leaves_conflicts lone_site (after_conflict ++ as_line (done 2 none (1 · 1) (0 · 0 ∷ [])) ∷ begun_both)
conflict-run = run-of leaves_conflicts (after_conflict ++ as_line (done 2 none (1 · 1) (0 · 0 ∷ [])) ∷ begun_both) (
  refl,
  inl refl,
  (
    refl,
    inl refl,
    (
      refl,
      inl refl,
      (
        refl,
        inl refl,
        (
          refl,
          inl refl,
          (refl, inl refl, (refl, inl refl, (refl, inl refl, (refl, inl refl, (refl, inl refl, (refl, inl refl, (refl, inl refl, tt))))))),
        ),
      ),
    ),
  ),
)

pub open-conflicts-break-joins : IsBrokenBy OtherKeysAreJoined leaves_conflicts
open-conflicts-break-joins law =
    let older : List Line =
    1 asks merge_leaves => Merging (1 · 1 ∷ 1 · 2 ∷ []) ∷ 1 asks commit ser => Committed (1 · 2) (0 · 0 ∷ []) ∷ 1 asks put "x" "1" => Done ∷ raced in
    let t : Told = record { merges = true; states = 1 · 1 ∷ 1 · 2 ∷ []; reads = []; writes = [] } in
    let h = law lone_site [] older (done 1 none (1 · 3) (1 · 1 ∷ 1 · 2 ∷ [])) t conflict-run refl (codes "x") refl in
    let none : true ≡ false = h.0 in
    absurd (cc)

-- 1.1, 1.2 beside it, and 1.3 that joins them without x
abbrev conflicting : List Record
conflicting = history lone_site (after_conflict ++ as_line (done 2 none (1 · 1) (0 · 0 ∷ [])) ∷ begun_both)

-- no state below 1.1 writes x
none-below : (z : StateId) → IsTrue (is_proper_ancestor conflicting (1 · 1) z) → IsTrue (is_writer conflicting (codes "x") (1 · 3) z) → ⊥
none-below z proper writer =
    let writes = (and_parts (writes_key conflicting (codes "x") z) (is_above conflicting z (1 · 3)) writer).0 in
    let known : IsTrue (is_among z (1 · 3 ∷ 1 · 2 ∷ 1 · 1 ∷ 0 · 0 ∷ [])) = writer-is-known conflicting (codes "x") z writes in
    elim (among-cases z (1 · 3) (1 · 2 ∷ 1 · 1 ∷ 0 · 0 ∷ []) known) [
      | inl e ↦ let t : IsTrue false = subst (λ y. IsTrue (writes_key conflicting (codes "x") y)) e writes in absurd (cc)
      | inr second ↦ elim (among-cases z (1 · 2) (1 · 1 ∷ 0 · 0 ∷ []) second) [
        | inl e ↦ let t : IsTrue false = subst (λ y. IsTrue (is_proper_ancestor conflicting (1 · 1) y)) e proper in absurd (cc)
        | inr third ↦ elim (among-cases z (1 · 1) (0 · 0 ∷ []) third) [
          | inl e ↦ let t : IsTrue false = subst (λ y. IsTrue (is_proper_ancestor conflicting (1 · 1) y)) e proper in absurd (cc)
          | inr last ↦ elim (among-cases z (0 · 0) [] last) [
            | inl e ↦ let t : IsTrue false = subst (λ y. IsTrue (is_proper_ancestor conflicting (1 · 1) y)) e proper in absurd (cc)
            | inr more ↦ absurd (cc)
          ]
        ]
      ]
    ]

pub open-conflicts-break : IsBrokenBy CommitsAreShown leaves_conflicts
open-conflicts-break law =
    let t : Told = record { merges = false; states = 0 · 0 ∷ []; reads = []; writes = (codes "x", Put (codes "2")) ∷ [] } in
    let shown : read conflicting (codes "x") (1 · 3) ≡ Some (1 · 1, Put (codes "2")) =
    law lone_site after_conflict begun_both (done 2 none (1 · 1) (0 · 0 ∷ [])) t conflict-run refl (codes "x") (Put (codes "2"))
    (1 · 3) refl refl refl none-below in
    absurd (none-some (1 · 1, Put (codes "2")) shown)

side-run : IsRun shows_newest_side lone_site other_side_shown
side-run = run-of shows_newest_side other_side_shown (
  refl,
  inl refl,
  (
    refl,
    inl refl,
    (
      refl,
      inl refl,
      (
        refl,
        inl refl,
        (refl, inl refl, (refl, inl refl, (refl, inl refl, (refl, inl refl, (refl, inl refl, (refl, inl refl, (refl, inl refl, tt))))))),
      ),
    ),
  ),
)

pub newest-sides-break : IsBrokenBy MergesShowEachSide shows_newest_side
newest-sides-break law =
    let h = law lone_site merging_both 1 (codes "x") (1 · 1) Absent side-run refl in
    let shown : Absent ≡ value (1 · 1) "2" = h.4 in
    absurd (cc)

dropping-run : IsRun drops_sides lone_site (1 asks commit none => Committed (1 · 3) (1 · 1 ∷ []) ∷ merging_both)
dropping-run = run-of drops_sides (1 asks commit none => Committed (1 · 3) (1 · 1 ∷ []) ∷ merging_both) (
  refl,
  inl refl,
  (
    refl,
    inl refl,
    (
      refl,
      inl refl,
      (
        refl,
        inl refl,
        (refl, inl refl, (refl, inl refl, (refl, inl refl, (refl, inl refl, (refl, inl refl, (refl, inl refl, (refl, inl refl, tt))))))),
      ),
    ),
  ),
)

pub dropped-sides-break : IsBrokenBy CommitsJoinWhatTheyRead drops_sides
dropped-sides-break law =
    let t : Told = record { merges = true; states = 1 · 1 ∷ 1 · 2 ∷ []; reads = []; writes = [] } in
    let h = law lone_site [] merging_both (done 1 none (1 · 3) (1 · 1 ∷ [])) t dropping-run refl in
    let same : ◌≡◌ {A = List StateId} (1 · 1 ∷ []) (1 · 1 ∷ 1 · 2 ∷ []) = h.1 refl in
    absurd (cc)

-- ===== Sessions

missed-run : IsRun forgets_commits lone_site own_commit_missed
missed-run = run-of forgets_commits own_commit_missed (
  refl,
  inl refl,
  (refl, inl refl, (refl, inl refl, (refl, inl refl, (refl, inl refl, (refl, inl refl, (refl, inl refl, (refl, inl refl, (refl, inl refl, tt)))))))),
)

pub forgotten-commits-break : IsBrokenBy ParentReadsTheLastCommit forgets_commits
forgotten-commits-break law =
    let h = law lone_site raced 2 (0 · 0) missed-run in
    let made : Session = record { follow = false; ceiling = 0 · 0; last = 1 · 1 } in
    let it : told_session lone_site 2 raced ≡ Some made = refl in
    let at : 0 · 0 ≡ 1 · 1 = h.2 ∙ ap (λ (s : Session). s.last) (same_Some h.0 made (sym h.1 ∙ it)) in
    let none : ◌≡◌ {A = ℕ} 0 1 = ap (λ (x : StateId). x.site) at in
    absurd (omega arith)

-- session 2 after its commit of 1.1
abbrev of_two : Session
of_two = record { follow = false; ceiling = 0 · 0; last = 1 · 1 }

other-branch-run : IsRun forgets_commits lone_site other_branch_read
other-branch-run = run-of forgets_commits other_branch_read (
  refl,
  inl refl,
  (
    refl,
    inl refl,
    (refl, inl refl, (refl, inl refl, (refl, inl refl, (refl, inl refl, (refl, inl refl, (refl, inl refl, (refl, inl refl, (refl, inl refl, tt)))))))),
  ),
)

pub forgotten-commits-break-ancestor : IsBrokenBy AncestorReadsTheLastCommit forgets_commits
forgotten-commits-break-ancestor law =
    let h = law lone_site forked 2 (1 · 2) other-branch-run in
    let it : told_session lone_site 2 forked ≡ Some of_two = refl in
    let none : IsTrue false = subst (λ (s : Session). IsTrue (is_above (history lone_site forked) s.last (1 · 2))) (same_Some h.0 of_two (sym h.1 ∙ it)) h.2 in
    absurd (cc)

newest-missed-run : IsRun stays_with_own lone_site newest_missed
newest-missed-run = run-of stays_with_own newest_missed (
  refl,
  inl refl,
  (
    refl,
    inl refl,
    (refl, inl refl, (refl, inl refl, (refl, inl refl, (refl, inl refl, (refl, inl refl, (refl, inl refl, (refl, inl refl, (refl, inl refl, tt)))))))),
  ),
)

pub own-beginnings-break : IsBrokenBy AnyReadsTheLastCommit stays_with_own
own-beginnings-break law =
    let h = law lone_site forked 2 (1 · 1) newest-missed-run in
    let it : told_session lone_site 2 forked ≡ Some of_two = refl in
    let same = same_Some h.0 of_two (sym h.1 ∙ it) in
    let newest : IsTrue (is_above (history lone_site forked) h.0.last (1 · 2)) =
    h.2.0 (subst (λ (s : Session). IsTrue (is_above (history lone_site forked) s.last (1 · 1))) (sym same) refl) in
    let none : IsTrue false = subst (λ (s : Session). IsTrue (is_above (history lone_site forked) s.last (1 · 2))) same newest in
    absurd (cc)

above-run : IsRun forgets_ceilings lone_site read_above
above-run = run-of forgets_ceilings read_above (refl, inl refl, (refl, inl refl, (refl, inl refl, (refl, inl refl, (refl, inl refl, tt)))))

pub forgotten-ceilings-break : IsBrokenBy SessionsStayUnderCeilings forgets_ceilings
forgotten-ceilings-break law =
    let h = law lone_site followed 1 (At (0 · 0)) (0 · 0) above-run in
    let made : Session = record { follow = true; ceiling = 1 · 1; last = 1 · 1 } in
    let it : told_session lone_site 1 followed ≡ Some made = refl in
    let none : true ≡ false = subst (λ (s : Session). IsFalse (is_proper_ancestor (history lone_site followed) (0 · 0) s.ceiling))
    (same_Some h.0 made (sym h.1 ∙ it)) h.2 in
    absurd (cc)

-- ===== Refusals

refused-run : IsRun ends_refused lone_site (commit_after_refusal ∷ refused_commit ∷ raced)
refused-run = run-of ends_refused (commit_after_refusal ∷ refused_commit ∷ raced) (
  refl,
  inl refl,
  (
    refl,
    inl refl,
    (refl, inl refl, (refl, inl refl, (refl, inl refl, (refl, inl refl, (refl, inl refl, (refl, inl refl, (refl, inl refl, (refl, inl refl, tt)))))))),
  ),
)

wants-none : (reply : Reply) → (Refused NoTxn ≡ Committed (1 · 2) (1 · 1 ∷ [])) ⊎ IsTrue false → ⊥
wants-none reply (inl e) = absurd (cc)
wants-none reply (inr e) = absurd (cc)

pub ended-refused-break : IsBrokenBy RefusalsHideNothing ends_refused
ended-refused-break law =
    let h = law lone_site (commit_after_refusal ∷ []) raced refused_commit refl refused-run in
    wants-none (Refused NoTxn) h.0.answered.1
