-- A merge commits.
use Rattle.std.proofs.Common.{◌≡◌, ◌≢◌, ℕ, false, not, ◌==◌, List, [], ◌∷◌, Option, Some, None, Err, ◌∙◌}
use Rattle.std.proofs.lemmas.Bool.{and_parts}
use Rattle.tardis_base.specs.declared.requests.EndFlags.{EndFlags}
use Rattle.tardis_base.specs.declared.replies.Refusal.{Refusal}
use Rattle.tardis_base.specs.declared.replies.Refusal.TheVariants.{SeqEnd, WrongMode, OpenConflict}
use Rattle.tardis_base.specs.declared.replies.Reply.{Reply}
use Rattle.tardis_base.specs.declared.replies.Reply.TheVariants.{Refused as RefusedWith}
use Rattle.tardis_base.specs.Valid.{are_parents, are_writes}
use Rattle.plain_dag.specs.Begin.{is_admitted}
use Rattle.plain_dag.specs.Conflicts.{open_conflict}
use Rattle.plain_dag.specs.Entries.{entry_of}
use Rattle.plain_dag.proofs.Ids.{all-at}
use Rattle.record_store.specs.Answers.{MayArrive}
use Rattle.plain_site.specs.Site.{Site, MergeTxn, Merge, own_count, next_record}
use Rattle.plain_site.specs.Sound.{IsSound}
use Rattle.plain_site.specs.Answers.{refused, refuse, refuse_found}
use Rattle.plain_site.specs.Commits.{growth_refusals, committed, commit_below, commit_merge}
use Rattle.plain_site.proofs.SoundCommits.{MayJoin, admitted-isnt_closed, conflicts-written}
use Rattle.site_answers.specs.declared.stops.Stop.{Stop}
use Rattle.site_answers.specs.declared.stops.Stop.TheVariants.{Refused, NoMemory}
use Rattle.session_core.specs.Gives.{Stops}
use Rattle.session_core.specs.Merges.{MayMerge}
use Rattle.session_core.proofs.Answers.{skip, stop, skip-found, stop-found}
use Rattle.session_core.proofs.Committing.{joined-arrives}

-- where no conflict key is open, what a merge writes may join below all the states that it reads
module _ (site : Site) (sound : IsSound site) (n : ℕ) (t : MergeTxn) (found : entry_of n site.txns ≡ Some (Merge t))
    (written : open_conflict site.dag t.states t.writes ≡ None) where
  merge-joins : MayJoin site t.states t.writes
  merge-joins =
      let was = sound.each_txn n (Merge t) found in
      let shape = and_parts (are_parents t.states) (are_writes t.writes) was.2.shape in
      record {
        parents_valid = shape.0;
        writes_valid = shape.1;
        known = was.2.known;
        apart = was.2.apart;
        merges = conflicts-written site.dag t.states t.writes written;
        free = λ p m. admitted-isnt_closed site n was.0 p sound was.1 (all-at (is_admitted site.dag was.0.ceiling) t.states p was.2.admitted m);
      }

  pub merge-arrives : own_count site ≢ 4294967295 → MayArrive site.limits.sites site.dag site.collected (next_record site t.states t.writes)
  merge-arrives more = joined-arrives site sound t.states t.writes merge-joins more

-- a merge without end constraints, with no open conflict key, commits below the states that it reads
pub merges-below : (site : Site) (n : ℕ) (t : MergeTxn) (flags : EndFlags) → not (flags.0 == 0) ≡ false → open_conflict site.dag t.states t.writes ≡ None →
    commit_merge site n t flags ≡ commit_below site n t.states t.writes []
merges-below site n t flags e f =
    let r = next_record site t.states t.writes in
    let more : List (Option Reply) = refuse (own_count site == 4294967295) SeqEnd ∷ growth_refusals site r in
    let open_key = open_conflict site.dag t.states t.writes in
    skip site (RefusedWith WrongMode) (refuse_found OpenConflict open_key ∷ more) (committed site n r) (not (flags.0 == 0)) e
    ∙ skip-found site OpenConflict open_key more (committed site n r) f

-- why a merge doesn't
pub merge-stops : (site : Site) (n : ℕ) (t : MergeTxn) (flags : EndFlags) (what : Stop) → MayMerge site t.states t.writes flags (Err what) →
    (stands : Site → Type 0) → stands site → Stops stands (commit_merge site n t flags) site what
merge-stops site n t flags NoMemory may stands there = there
merge-stops site n t flags (Refused refusal) may stands there = (there, go refusal may)
  where
    more : List (Option Reply)
    more = refuse (own_count site == 4294967295) SeqEnd ∷ growth_refusals site (next_record site t.states t.writes)

    go : (r : Refusal) → MayMerge site t.states t.writes flags (Err (Refused r)) → commit_merge site n t flags ≡ refused site r
    go WrongMode e = stop site (RefusedWith WrongMode) (refuse_found OpenConflict (open_conflict site.dag t.states t.writes) ∷ more)
        (committed site n (next_record site t.states t.writes)) (not (flags.0 == 0)) e
    go (OpenConflict k) (e, f) =
        skip site (RefusedWith WrongMode) (refuse_found OpenConflict (open_conflict site.dag t.states t.writes) ∷ more)
        (committed site n (next_record site t.states t.writes)) (not (flags.0 == 0)) e
        ∙ stop-found site OpenConflict (open_conflict site.dag t.states t.writes) k more (committed site n (next_record site t.states t.writes)) f
    go r e = absurd e
