-- What requests of transactions do.
use Rattle.std.proofs.Common.{◌≡◌, ℕ, not, List, [], ◌∷◌, ◌++◌, length, Option, Some, None, IsTrue, IsFalse, inl, inr, refl, sym, ap, subst, ◌∙◌}
use Rattle.std.specs.Prelude.{◌==◌, ◌&&◌, nat_lt, find}
use Rattle.std.proofs.lemmas.Bool.{and_from, and_right, cond-true, cond-false, not_from_false, not_from_true}
use Rattle.std.specs.Option.{option_map}
use Rattle.tardis_base.specs.declared.ids.StateId.{StateId}
use Rattle.tardis_base.specs.declared.records.Record.{Record}
use Rattle.tardis_base.specs.declared.records.Write.{Write}
use Rattle.tardis_base.specs.declared.records.Write.TheVariants.{Put as Value, Delete as Deletion}
use Rattle.tardis_base.specs.declared.requests.Begin.{Begin}
use Rattle.tardis_base.specs.declared.requests.EndFlags.{EndFlags}
use Rattle.tardis_base.specs.declared.requests.MergeOf.{MergeOf}
use Rattle.tardis_base.specs.declared.requests.Request.{Request}
use Rattle.tardis_base.specs.declared.requests.Request.TheVariants.{Begin as BeginAt, Get, Commit, Abort, BeginMerge}
use Rattle.tardis_base.specs.declared.replies.Excess.TheVariants.{MergedStates}
use Rattle.tardis_base.specs.declared.replies.Refusal.TheVariants.{TooMany, ConflictKey, Unknown, Below, Comparable, WrongMode, OpenConflict, Branches, SeqEnd}
use Rattle.tardis_base.specs.declared.replies.Reply.{Reply}
use Rattle.tardis_base.specs.declared.replies.Reply.TheVariants.{Begun, Merging, Done, Committed, Ended}
use Rattle.tardis_base.specs.Ids.{root}
use Rattle.tardis_base.specs.Keys.{KeyWrite, is_key_among, with_key, keys_of, has_key, write_of, with_write}
use Rattle.plain_dag.specs.States.{is_known, children}
use Rattle.plain_dag.specs.Above.{comparable_pair}
use Rattle.plain_dag.specs.Begin.{is_admitted}
use Rattle.plain_dag.specs.Writers.{read}
use Rattle.plain_dag.specs.Conflicts.{is_conflict_key, value_over, open_conflict}
use Rattle.plain_dag.specs.Growth.{growth_refusal}
use Rattle.plain_dag.specs.Landing.{landing, guarded, broken}
use Rattle.plain_dag.specs.Entries.{entry_of, with_entry, changed, without_entry}
use Rattle.plain_dag.specs.Floors.{Session, after_commit}
use Rattle.plain_dag.proofs.Keys.{has-new-key}
use Rattle.plain_site.specs.Site.{Site, SingleTxn, Txn, Single, Merge, own_count, writes_of, read_states, with_txn_changed, next_record}
use Rattle.plain_site.specs.Answers.{Answer, refuse, refuse_found, shown, found}
use Rattle.plain_site.specs.Sessions.{begin_at}
use Rattle.plain_site.specs.Reads.{too_many_writes, too_many_reads, having_read, having_written, read_in, get, set_key}
use Rattle.plain_site.specs.Commits.{with_record, without_txn_of, abort, growth_refusals, committed, commit_below, commit_at, commit_writes, commit_single}
use Rattle.plain_site.specs.Commits.{commit}
use Rattle.plain_site.specs.Merges.{in_order, merge_at}
use Rattle.plain_site.specs.ClientRuns.{Told, begun, is_shown, having_got, having_put, retold, regrown, resession}
use Rattle.plain_site.proofs.RepliesFrame.{given-good}
use Rattle.plain_site.proofs.SoundEntries.{entry-changed, entry-changed_other, entry-with_entry, entry-with_entry_other, entry-without_entry}
use Rattle.plain_site.proofs.SoundEntries.{entry-without_entry_other}
use Rattle.client_laws.proofs.Dags.{value-over-one}
use Rattle.client_laws.proofs.Records.{write-has-key, no-write-no-key}
use Rattle.client_laws.proofs.Tellings.{KeepsReads, is_merge, IsTold, Tells, kept-more, tells-changed}
use Rattle.client_laws.proofs.Effects.{bare, Does, OnlyRefuse, refuse-only, found-only, both-only, unless-does}

-- ===== Reads that are told

shown-is-shown : (x : StateId) (w : Write) → IsTrue (is_shown (shown x w))
shown-is-shown x (Value v) = refl
shown-is-shown x Deletion = refl

found-is-shown : (o : Option (StateId × Write)) → IsTrue (is_shown (found o))
found-is-shown None = refl
found-is-shown (Some version) = shown-is-shown version.0 version.1

got-found : (k : List ℕ) (o : Option (StateId × Write)) (seen : Told) → IsFalse (has_key k seen.writes) → having_got k (found o) seen
    ≡ record seen { reads = (k, found o) ∷ seen.reads }
got-found k o seen lacks =
    cond-true (is_shown (found o) && not (has_key k seen.writes)) (record seen { reads = (k, found o) ∷ seen.reads }) seen
    (and_from (is_shown (found o)) (not (has_key k seen.writes)) (found-is-shown o) (not_from_false (has_key k seen.writes) lacks))

got-own : (k : List ℕ) (reply : Reply) (seen : Told) → IsTrue (has_key k seen.writes) → having_got k reply seen ≡ seen
got-own k reply seen has =
    cond-false (is_shown reply && not (has_key k seen.writes)) (record seen { reads = (k, reply) ∷ seen.reads }) seen
    (and_right (is_shown reply) (not (has_key k seen.writes)) (not_from_true (has_key k seen.writes) has))

put-told : (rs : List Record) (k : List ℕ) (w : Write) (t : Txn) (seen : Told) → IsTold rs t seen → IsTold rs (having_written k w t) (having_put k w seen)
put-told rs k w (Single t) seen h = record { merges = h.merges; states = h.states; writes = ap (with_write k w) h.writes; kept = h.kept; shown = h.shown }
put-told rs k w (Merge t) seen h = record { merges = h.merges; states = h.states; writes = ap (with_write k w) h.writes; kept = h.kept; shown = h.shown }

module _ (site : Site) (n : ℕ) where
  -- ===== Beginnings

  -- a transaction begins at these states
  begun-does : (q : Request) (t : Txn) (reply : Reply) (states : List StateId) →
      ((seen : Option Told) → retold q reply seen ≡ Some (begun (is_merge t) states)) → read_states t ≡ states →
      writes_of t ≡ [] → KeepsReads t [] → ((rs : List Record) (s : Option Session) → resession rs q reply s ≡ s) →
      ((seen : Option Told) (s : Site) → regrown q reply seen s ≡ s) →
      Does site n q (record site { txns = with_entry n t site.txns }, reply)
  begun-does q t reply states tells at none kept keeps records = record {
    grows = inl refl;
    shared = λ seen h. sym (records seen (bare site));
    other_txns = λ m differ. entry-with_entry_other n m t site.txns differ;
    other_sessions = λ m differ. refl;
    txn = λ seen h.
        let fresh : IsTold site.dag t (begun (is_merge t) states) = record { merges = refl; states = sym at; writes = sym none; kept = kept; shown = tt } in
        subst (Tells site.dag (entry_of n (with_entry n t site.txns))) (sym (tells seen))
        (subst (λ (o : Option Txn). Tells site.dag o (Some (begun (is_merge t) states))) (sym (entry-with_entry n t site.txns)) fresh);
    session = sym (keeps site.dag (entry_of n site.sessions));
  }

  pub begin-does : (b : Begin) (ceiling x : StateId) → Does site n (BeginAt b) (begin_at site n ceiling x)
  begin-does b ceiling x =
      let t = Single (record { state = x; reads = []; writes = [] }) in
      unless-does site n (BeginAt b) (refuse (not (is_known site.dag x)) (Unknown x) ∷ refuse (not (is_admitted site.dag ceiling x)) (Below x ceiling) ∷ [])
      (record site { txns = with_entry n t site.txns }, Begun x)
      (refuse-only (not (is_known site.dag x)) (Unknown x) (refuse (not (is_admitted site.dag ceiling x)) (Below x ceiling) ∷ [])
      (refuse-only (not (is_admitted site.dag ceiling x)) (Below x ceiling) [] tt))
      (begun-does (BeginAt b) t (Begun x) (x ∷ []) (λ seen. refl) refl refl tt (λ rs s. refl) (λ seen rs. refl))

  pub merge-does : (of : MergeOf) (ceiling : StateId) (xs : List StateId) → Does site n (BeginMerge of) (merge_at site n ceiling xs)
  merge-does of ceiling xs =
      let states = in_order xs in
      let t = Merge (record { states = states; writes = [] }) in
      let many = nat_lt 8 (length xs) in
      let unknown = find (λ x. not (is_known site.dag x)) xs in
      let below = find (λ x. not (is_admitted site.dag ceiling x)) xs in
      let pair = comparable_pair site.dag xs in
      let fourth : List (Option Reply) = refuse_found (λ (p : StateId × StateId). Comparable p.0 p.1) pair ∷ [] in
      let third : List (Option Reply) = refuse_found (λ (x : StateId). Below x ceiling) below ∷ fourth in
      let second : List (Option Reply) = refuse_found Unknown unknown ∷ third in
      unless-does site n (BeginMerge of) (refuse many (TooMany MergedStates (length xs)) ∷ second) (record site { txns = with_entry n t site.txns }, Merging states)
      (refuse-only many (TooMany MergedStates (length xs)) second
      (found-only Unknown unknown third
      (found-only (λ (x : StateId). Below x ceiling) below fourth (found-only (λ (p : StateId × StateId). Comparable p.0 p.1) pair [] tt))))
      (begun-does (BeginMerge of) t (Merging states) states (λ seen. refl) refl refl tt (λ rs s. refl) (λ seen rs. refl))

  -- ===== Reads and writes

  own-read-does : (t : Txn) (k : List ℕ) (w : Write) → entry_of n site.txns ≡ Some t → write_of k (writes_of t) ≡ Some w →
      Does site n (Get k) (site, shown root w)
  own-read-does t k w e own = record {
    grows = inl refl;
    shared = λ seen h. refl;
    other_txns = λ m differ. refl;
    other_sessions = λ m differ. refl;
    txn =
        tells-changed site.dag (entry_of n site.txns) (entry_of n site.txns) t t (having_got k (shown root w)) e e
        (λ seen h.
        subst (IsTold site.dag t)
        (sym (got-own k (shown root w) seen (subst (λ ws. IsTrue (has_key k ws)) (sym h.writes) (write-has-key k (writes_of t) w own)))) h);
    session = refl;
  }

  read-does : (t : Txn) (k : List ℕ) → entry_of n site.txns ≡ Some t → write_of k (writes_of t) ≡ None → Does site n (Get k) (read_in site n t k)
  read-does (Single t) k e none =
      let o = read site.dag k t.state in
      let more : Txn = Single (record t { reads = with_key k t.reads }) in
      unless-does site n (Get k) (refuse (length t.reads == 256 && not (is_key_among k t.reads)) too_many_reads ∷ [])
      (with_txn_changed n (having_read k) site, found o)
      (refuse-only (length t.reads == 256 && not (is_key_among k t.reads)) too_many_reads [] tt)
      (record {
        grows = inl refl;
        shared = λ seen h. refl;
        other_txns = λ m differ. entry-changed_other n m (having_read k) site.txns differ;
        other_sessions = λ m differ. refl;
        txn =
            tells-changed site.dag (entry_of n site.txns) (entry_of n (changed n (having_read k) site.txns)) (Single t) more (having_got k (found o)) e
            (entry-changed n (having_read k) site.txns ∙ ap (option_map (having_read k)) e)
            (λ seen h.
            let lacks = ap (has_key k) h.writes ∙ no-write-no-key k t.writes none in
            let next : IsTold site.dag more (record seen { reads = (k, found o) ∷ seen.reads }) =
            record {
              merges = h.merges;
              states = h.states;
              writes = h.writes;
              kept = (has-new-key k t.reads, kept-more k t.reads seen.reads h.kept);
              shown = (ap found (sym (value-over-one site.dag t.state k)), h.shown);
            } in
            subst (IsTold site.dag more) (sym (got-found k o seen lacks)) next);
        session = refl;
      })
  read-does (Merge t) k e none =
      let o = value_over site.dag t.states k in
      unless-does site n (Get k) (refuse (is_conflict_key site.dag t.states k) (ConflictKey k) ∷ []) (site, found o)
      (refuse-only (is_conflict_key site.dag t.states k) (ConflictKey k) [] tt)
      (record {
        grows = inl refl;
        shared = λ seen h. refl;
        other_txns = λ m differ. refl;
        other_sessions = λ m differ. refl;
        txn =
            tells-changed site.dag (entry_of n site.txns) (entry_of n site.txns) (Merge t) (Merge t) (having_got k (found o)) e e
            (λ seen h.
            let lacks = ap (has_key k) h.writes ∙ no-write-no-key k t.writes none in
            let next : IsTold site.dag (Merge t) (record seen { reads = (k, found o) ∷ seen.reads }) =
            record { merges = h.merges; states = h.states; writes = h.writes; kept = tt; shown = (refl, h.shown) } in
            subst (IsTold site.dag (Merge t)) (sym (got-found k o seen lacks)) next);
        session = refl;
      })

  pub get-does : (t : Txn) (k : List ℕ) → entry_of n site.txns ≡ Some t → Does site n (Get k) (get site n t k)
  get-does t k e =
      given-good (Does site n (Get k)) (write_of k (writes_of t)) (read_in site n t k) (λ w. (site, shown root w)) (read-does t k e)
      (λ w own. own-read-does t k w e own)

  pub set-does : (q : Request) (t : Txn) (k : List ℕ) (w : Write) → ((seen : Option Told) → retold q Done seen ≡ option_map (having_put k w) seen) →
      ((rs : List Record) (s : Option Session) → resession rs q Done s ≡ s) → ((seen : Option Told) (s : Site) → regrown q Done seen s ≡ s) →
      entry_of n site.txns ≡ Some t → Does site n q (set_key site n t k w)
  set-does q t k w tells keeps records e =
      let full = length (writes_of t) == 64 && not (has_key k (writes_of t)) in
      unless-does site n q (refuse full too_many_writes ∷ []) (with_txn_changed n (having_written k w) site, Done) (refuse-only full too_many_writes [] tt)
      (record {
        grows = inl refl;
        shared = λ seen h. sym (records seen (bare site));
        other_txns = λ m differ. entry-changed_other n m (having_written k w) site.txns differ;
        other_sessions = λ m differ. refl;
        txn = λ seen h.
            subst (Tells site.dag (entry_of n (changed n (having_written k w) site.txns))) (sym (tells seen))
            (tells-changed site.dag (entry_of n site.txns) (entry_of n (changed n (having_written k w) site.txns)) t (having_written k w t) (having_put k w) e
            (entry-changed n (having_written k w) site.txns ∙ ap (option_map (having_written k w)) e) (put-told site.dag k w t) seen h);
        session = sym (keeps site.dag (entry_of n site.sessions));
      })

  -- ===== Ends

  -- the actor's transaction is gone
  gone-is-told : (rs : List Record) → Tells rs (entry_of n (without_entry n site.txns)) None
  gone-is-told rs = subst (λ (o : Option Txn). Tells rs o None) (sym (entry-without_entry n site.txns)) tt

  ended-does : (q : Request) (reply : Reply) → ((seen : Option Told) → retold q reply seen ≡ None) →
      ((rs : List Record) (s : Option Session) → resession rs q reply s ≡ s) → ((seen : Option Told) (s : Site) → regrown q reply seen s ≡ s) →
      Does site n q (without_txn_of n site, reply)
  ended-does q reply tells keeps records = record {
    grows = inl refl;
    shared = λ seen h. sym (records seen (bare site));
    other_txns = λ m differ. entry-without_entry_other n m site.txns differ;
    other_sessions = λ m differ. refl;
    txn = λ seen h. subst (Tells site.dag (entry_of n (without_entry n site.txns))) (sym (tells seen)) (gone-is-told site.dag);
    session = sym (keeps site.dag (entry_of n site.sessions));
  }

  pub abort-does : Does site n Abort (abort site n)
  abort-does = ended-does Abort Done (λ seen. refl) (λ rs s. refl) (λ seen rs. refl)

  module _ (flags : EndFlags) (k : ℕ) where
    -- the record is as the actor's lines and the reply tell
    recorded : (t : Txn) → entry_of n site.txns ≡ Some t → (r : Record) → r.writes ≡ writes_of t → (seen : Option Told) →
        Tells site.dag (entry_of n site.txns) seen →
        with_record r (bare site) ≡ regrown (Commit flags k) (Committed r.id r.parents) seen (bare site)
    recorded t there r writes None h = absurd (subst (λ o. Tells site.dag o None) there h)
    recorded t there r writes (Some u) h =
        let its : IsTold site.dag t u = subst (λ o. Tells site.dag o (Some u)) there h in
        ap (λ (ws : List KeyWrite). with_record (record r { writes = ws }) (bare site)) (writes ∙ sym its.writes)

    committed-does : (t : Txn) → entry_of n site.txns ≡ Some t → (r : Record) → r.writes ≡ writes_of t → Does site n (Commit flags k) (committed site n r)
    committed-does t there r writes =
        let after : Session → Session = after_commit (r ∷ site.dag) r.id in
        record {
          grows = inr (r, refl);
          shared = recorded t there r writes;
          other_txns = λ m differ. entry-without_entry_other n m site.txns differ;
          other_sessions = λ m differ. entry-changed_other n m after site.sessions differ;
          txn = λ seen h. gone-is-told (r ∷ site.dag);
          session = entry-changed n after site.sessions;
        }

    commit_below-does : (t : Txn) → entry_of n site.txns ≡ Some t → (parents : List StateId) (refusals : List (Option Reply)) → OnlyRefuse refusals →
        Does site n (Commit flags k) (commit_below site n parents (writes_of t) refusals)
    commit_below-does t there parents refusals only =
        let r = next_record site parents (writes_of t) in
        let over = own_count site == 4294967295 in
        unless-does site n (Commit flags k) (refusals ++ refuse over SeqEnd ∷ growth_refusals site r) (committed site n r)
        (both-only refusals (refuse over SeqEnd ∷ growth_refusals site r) only
        (refuse-only over SeqEnd (growth_refusals site r)
        (found-only (λ f. f) (growth_refusal site.limits site.collected site.dag r) [] tt)))
        (committed-does t there r refl)

    commit_at-does : (t : SingleTxn) → entry_of n site.txns ≡ Some (Single t) → (x : StateId) → Does site n (Commit flags k) (commit_at site n t flags k x)
    commit_at-does t there x =
        let number_of_children = length (children site.dag x) in
        commit_below-does (Single t) there (x ∷ []) (refuse_found (λ (c : ℕ). Branches c x number_of_children) (broken flags k number_of_children) ∷ [])
        (found-only (λ (c : ℕ). Branches c x number_of_children) (broken flags k number_of_children) [] tt)

    single-does : (t : SingleTxn) → entry_of n site.txns ≡ Some (Single t) → Does site n (Commit flags k) (commit_single site n t flags k)
    single-does t there = go t.writes
      where
        go : (ws : List KeyWrite) → Does site n (Commit flags k)
            (elim ws as (λ v. Answer) [ [] ↦ (without_txn_of n site, Ended t.state) | w ∷ vs ↦ commit_writes site n t flags k ])
        go [] = ended-does (Commit flags k) (Ended t.state) (λ seen. refl) (λ rs s. refl) (λ seen rs. refl)
        go (w ∷ ws) = commit_at-does t there (landing site.dag (guarded flags t.reads (keys_of t.writes)) t.state)

    pub commit-does : (t : Txn) → entry_of n site.txns ≡ Some t → Does site n (Commit flags k) (commit site n t flags k)
    commit-does (Single t) there = single-does t there
    commit-does (Merge t) there =
        let flagged = not (flags.0 == 0) in
        let missing = open_conflict site.dag t.states t.writes in
        commit_below-does (Merge t) there t.states (refuse flagged WrongMode ∷ refuse_found OpenConflict missing ∷ [])
        (refuse-only flagged WrongMode (refuse_found OpenConflict missing ∷ []) (found-only OpenConflict missing [] tt))
