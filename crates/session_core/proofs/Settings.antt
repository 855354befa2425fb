-- No request changes the limits of a site, or its own number.
use Rattle.std.proofs.Common.{◌≡◌, ℕ, Bool, List, [], ◌∷◌, ◌++◌, Option, not, length, ◌==◌, refl, sym, ap₂, ◌∙◌}
use Rattle.std.specs.Prelude.{◌&&◌, is_some, nat_lt, find}
use Rattle.tardis_base.specs.Ids.{root, is_among}
use Rattle.tardis_base.specs.Keys.{KeyWrite, is_key_among, has_key, write_of, keys_of}
use Rattle.tardis_base.specs.declared.ids.StateId.{StateId}
use Rattle.tardis_base.specs.declared.records.Record.{Record}
use Rattle.tardis_base.specs.declared.records.Item.{Item}
use Rattle.tardis_base.specs.declared.records.Item.TheVariants.{State, Promise}
use Rattle.std.proofs.lemmas.Bool.{cond_both}
use Rattle.tardis_base.specs.declared.records.Write.{Write}
use Rattle.tardis_base.specs.declared.records.Write.TheVariants.{Put as Value, Delete as Deletion}
use Rattle.tardis_base.specs.declared.replies.Excess.TheVariants.{MergedStates}
use Rattle.tardis_base.specs.declared.replies.Refusal.TheVariants.{AlreadyOpen, SessionsFull, TooMany, ConflictKey, Unknown, Below, Collected, SeqEnd}
use Rattle.tardis_base.specs.declared.replies.Refusal.TheVariants.{WrongMode, OpenConflict, Branches, NotRead, Comparable, CeilingBack, FloorBack, Held}
use Rattle.tardis_base.specs.declared.replies.Refusal.TheVariants.{BadSite}
use Rattle.tardis_base.specs.declared.replies.Reply.{Reply}
use Rattle.tardis_base.specs.declared.replies.Reply.TheVariants.{Opened, Begun, Merging, Done, Shown, Ended, Applied, Batch as BatchIs}
use Rattle.tardis_base.specs.declared.requests.EndFlags.{EndFlags}
use Rattle.tardis_base.specs.declared.requests.Request.{Request}
use Rattle.tardis_base.specs.declared.requests.Request.TheVariants.{Open, Begin as BeginAt, Get, Put, Delete, Commit, Abort, BeginMerge, ForkPoints}
use Rattle.tardis_base.specs.declared.requests.Request.TheVariants.{Conflicts, GetFor, Ceiling, Raise, RaiseAuto, Tidy, Stat, Show, Leaves, Pull, Deliver}
use Rattle.tardis_base.specs.declared.requests.Request.TheVariants.{Settle, Close}
use Rattle.plain_dag.specs.Above.{is_above, comparable_pair}
use Rattle.plain_dag.specs.Begin.{is_admitted, begin_state}
use Rattle.plain_dag.specs.Conflicts.{is_conflict_key, value_over, open_conflict}
use Rattle.plain_dag.specs.Entries.{entry_of, with_entry, changed}
use Rattle.plain_dag.specs.Floors.{opening_session, with_ceiling, with_floor, holding_session, automatic_floor}
use Rattle.plain_dag.specs.Landing.{landing, guarded, broken}
use Rattle.plain_dag.specs.Paths.{fork_path}
use Rattle.plain_dag.specs.States.{is_known, arrival, children}
use Rattle.plain_dag.specs.Writers.{read}
use Rattle.plain_site.specs.Answers.{Answer, says_early, refuse, refuse_found, shown, found}
use Rattle.plain_site.specs.Commits.{abort, commit, commit_below, commit_writes, commit_single, committed, with_record, growth_refusals, without_txn_of}
use Rattle.plain_site.specs.Exchange.{judgements, take_record, with_held, consent_judgements, deliver, first_fit_record, with_settled, settle_record, settle}
use Rattle.plain_site.specs.Exchange.{batch_for}
use Rattle.plain_site.specs.Merges.{in_order, states_to_merge, merge_at, begin_merge, fork_points_of, conflicts_of}
use Rattle.plain_site.specs.Reads.{too_many_writes, too_many_reads, get, get_for, set_key, read_in, having_read, having_written}
use Rattle.plain_site.specs.Sessions.{open_session, close_session, begin, begin_at, set_ceiling}
use Rattle.plain_site.specs.FloorSteps.{raised, raise_to}
use Rattle.plain_site.specs.Site.{Site, SingleTxn, Txn, Single, Merge, opening, own_floor, own_count, next_id, writes_of, with_txn_changed}
use Rattle.plain_site.specs.Step.{step}
use Rattle.plain_site.proofs.SoundAnswers.{unless-keeps, given-keeps, session-keeps, txn-keeps, no_txn-keeps}
use Rattle.session_core.specs.Core.{Core}
use Rattle.session_core.specs.Stands.{CoreStands}
use Rattle.session_core.specs.Machine.{opened_with}

-- the limits and the own number are those of the other site
abbrev pub HasSettingsOf : Site → Site → Type 0
HasSettingsOf old new = (new.limits ≡ old.limits) × (new.own ≡ old.own)

module _ (site : Site) (n : ℕ) where
  abbrev P : Site → Type 0
  P = HasSettingsOf site

  old : P site
  old = (refl, refl)

  open-same : (follow : Bool) → P (open_session site n follow).0
  open-same follow =
      unless-keeps P site old
      (refuse (is_some (entry_of n site.sessions)) AlreadyOpen
      ∷ refuse (length site.sessions == site.limits.max_sessions) (SessionsFull (length site.sessions)) ∷ [])
      (record site { sessions = with_entry n (opening_session follow (own_floor site).state) site.sessions }, Opened (own_floor site).state)
      (λ none. (refl, refl))

  begin-same : (ceiling x : StateId) → P (begin_at site n ceiling x).0
  begin-same ceiling x =
      unless-keeps P site old (refuse (not (is_known site.dag x)) (Unknown x) ∷ refuse (not (is_admitted site.dag ceiling x)) (Below x ceiling) ∷ [])
      (record site { txns = with_entry n (Single (record { state = x; reads = []; writes = [] })) site.txns }, Begun x) (λ none. (refl, refl))

  read-same : (t : Txn) (k : List ℕ) → P (read_in site n t k).0
  read-same (Single t) k =
      unless-keeps P site old (refuse (length t.reads == 256 && not (is_key_among k t.reads)) too_many_reads ∷ [])
      (with_txn_changed n (having_read k) site, found (read site.dag k t.state)) (λ none. (refl, refl))
  read-same (Merge t) k =
      unless-keeps P site old (refuse (is_conflict_key site.dag t.states k) (ConflictKey k) ∷ []) (site, found (value_over site.dag t.states k))
      (λ none. (refl, refl))

  get-same : (t : Txn) (k : List ℕ) → P (get site n t k).0
  get-same t k = given-keeps P site old (write_of k (writes_of t)) (read_in site n t k) (λ w. (site, shown root w)) (λ none. read-same t k) (λ w e. old)

  set-same : (t : Txn) (k : List ℕ) (w : Write) → P (set_key site n t k w).0
  set-same t k w =
      unless-keeps P site old (refuse (length (writes_of t) == 64 && not (has_key k (writes_of t))) too_many_writes ∷ [])
      (with_txn_changed n (having_written k w) site, Done) (λ none. (refl, refl))

  below-same : (parents : List StateId) (writes : List KeyWrite) (refusals : List (Option Reply)) → P (commit_below site n parents writes refusals).0
  below-same parents writes refusals =
      let r : Record = record { id = next_id site; parents = parents; writes = writes } in
      unless-keeps P site old (refusals ++ refuse (own_count site == 4294967295) SeqEnd ∷ growth_refusals site r) (committed site n r) (λ none. (refl, refl))

  single-same : (t : SingleTxn) (flags : EndFlags) (k : ℕ) → P (commit_single site n t flags k).0
  single-same t flags k = go t.writes
    where
      go : (ws : List KeyWrite) → P (elim ws as (λ v. Answer) [ [] ↦ (without_txn_of n site, Ended t.state) | w ∷ more ↦ commit_writes site n t flags k ]).0
      go [] = (refl, refl)
      go (w ∷ more) =
          let x = landing site.dag (guarded flags t.reads (keys_of t.writes)) t.state in
          below-same (x ∷ []) t.writes (refuse_found (λ c. Branches c x (length (children site.dag x))) (broken flags k (length (children site.dag x))) ∷ [])

  commit-same : (t : Txn) (flags : EndFlags) (k : ℕ) → P (commit site n t flags k).0
  commit-same (Single t) flags k = single-same t flags k
  commit-same (Merge t) flags k = below-same t.states t.writes
      (refuse (not (flags.0 == 0)) WrongMode ∷ refuse_found OpenConflict (open_conflict site.dag t.states t.writes) ∷ [])

  merge-same : (ceiling : StateId) (xs : List StateId) → P (merge_at site n ceiling xs).0
  merge-same ceiling xs =
      unless-keeps P site old
      (refuse (nat_lt 8 (length xs)) (TooMany MergedStates (length xs))
      ∷ refuse_found Unknown (find (λ x. not (is_known site.dag x)) xs)
      ∷ refuse_found (λ x. Below x ceiling) (find (λ x. not (is_admitted site.dag ceiling x)) xs)
      ∷ refuse_found (λ pair. Comparable pair.0 pair.1) (comparable_pair site.dag xs)
      ∷ [])
      (record site { txns = with_entry n (Merge (record { states = in_order xs; writes = [] })) site.txns }, Merging (in_order xs)) (λ none. (refl, refl))

  fork_points-same : (t : Txn) → P (fork_points_of site t).0
  fork_points-same (Single t) = old
  fork_points-same (Merge t) = old

  conflicts-same : (t : Txn) (after : List ℕ) → P (conflicts_of site t after).0
  conflicts-same (Single t) after = old
  conflicts-same (Merge t) after = old

  get_for-same : (t : Txn) (k : List ℕ) (x : StateId) → P (get_for site t k x).0
  get_for-same (Single t) k x = old
  get_for-same (Merge t) k x = unless-keeps P site old (refuse (not (is_among x t.states)) (NotRead x) ∷ []) (site, found (read site.dag k x)) (λ none. old)

  raised-same : (x : StateId) (refusals : List (Option Reply)) → P (raise_to site x refusals).0
  raised-same x refusals = unless-keeps P site old (refusals ++ refuse ((own_floor site).number == 4294967295) SeqEnd ∷ []) (raised site x)
      (λ none. (refl, refl))

  deliver-same : (item : Item) → P (deliver site item).0
  deliver-same (State r) =
      let answer : Answer = take_record site r in
      let taken : P answer.0 = unless-keeps P site old (judgements site r ++ growth_refusals site r) (with_record r site, Applied) (λ none. (refl, refl)) in
      cond_both (says_early answer.1) (with_held r answer.0) answer.0 P (λ early. taken) (λ late. taken)
  deliver-same (Promise c) =
      unless-keeps P site old (consent_judgements site c)
      (record site { floors = with_floor site.floors c.site (record { state = c.floor; number = c.number; stated = c.count }) }, Applied) (λ none. (refl, refl))

  settle-same : P (settle site).0
  settle-same =
      given-keeps P site old (first_fit_record site) (site, Done) (settle_record site) (λ none. old)
      (λ found is. unless-keeps P site old (growth_refusals site found.1) (with_settled found site, Applied) (λ none. (refl, refl)))

  pub step-same : (q : Request) → P (step site n q).0
  step-same (Open follow) = open-same follow
  step-same (BeginAt b) =
      no_txn-keeps P site old n (λ s. begin site n s b) (λ s e none. begin-same s.ceiling (begin_state site.dag s.last b))
  step-same (Get k) = txn-keeps P site old n (λ s t. get site n t k) (λ s e t f. get-same t k)
  step-same (Put k v) = txn-keeps P site old n (λ s t. set_key site n t k (Value v)) (λ s e t f. set-same t k (Value v))
  step-same (Delete k) = txn-keeps P site old n (λ s t. set_key site n t k Deletion) (λ s e t f. set-same t k Deletion)
  step-same (Commit flags k) = txn-keeps P site old n (λ s t. commit site n t flags k) (λ s e t f. commit-same t flags k)
  step-same Abort = txn-keeps P site old n (λ s t. abort site n) (λ s e t f. (refl, refl))
  step-same (BeginMerge of) =
      no_txn-keeps P site old n (λ s. begin_merge site n s of) (λ s e none. merge-same s.ceiling (states_to_merge site of))
  step-same ForkPoints = txn-keeps P site old n (λ s t. fork_points_of site t) (λ s e t f. fork_points-same t)
  step-same (Conflicts after) = txn-keeps P site old n (λ s t. conflicts_of site t after) (λ s e t f. conflicts-same t after)
  step-same (GetFor k x) = txn-keeps P site old n (λ s t. get_for site t k x) (λ s e t f. get_for-same t k x)
  step-same (Ceiling x) =
      no_txn-keeps P site old n (λ s. set_ceiling site n s x)
      (λ s e none. unless-keeps P site old (refuse (not (is_known site.dag x)) (Unknown x)
      ∷ refuse (not (is_above site.dag s.ceiling x)) (CeilingBack s.ceiling) ∷ [])
      (record site { sessions = changed n (with_ceiling x) site.sessions }, Done) (λ none. (refl, refl)))
  step-same (Raise x) =
      raised-same x
      (refuse (not (is_known site.dag x)) (Unknown x)
      ∷ refuse (not (is_above site.dag (own_floor site).state x)) (FloorBack (own_floor site).state)
      ∷ refuse_found (λ s. Held s.0 s.1.ceiling) (holding_session site.dag site.sessions x)
      ∷ [])
  step-same RaiseAuto = raised-same (automatic_floor site.dag (own_floor site).state site.sessions) []
  step-same (Tidy count) = (refl, refl)
  step-same Stat = old
  step-same (Show x) =
      unless-keeps P site old (refuse (not (is_known site.dag x)) (Unknown x) ∷ refuse (is_among x site.collected) (Collected x) ∷ [])
      (site, Shown (arrival site.dag x) (children site.dag x) (fork_path site.dag site.collected x)) (λ none. old)
  step-same Leaves = old
  step-same (Pull counts) =
      unless-keeps P site old (refuse (not (length counts == site.limits.sites)) (BadSite (length counts)) ∷ []) (site, BatchIs (batch_for site counts))
      (λ none. old)
  step-same (Deliver item) = deliver-same item
  step-same Settle = settle-same
  step-same Close = session-keeps P site old n (λ s. close_session site n) (λ s e. (refl, refl))

-- what stands for sites of the same settings opened with the same
pub opened-same : (a b : Core) (old new : Site) → CoreStands a old → CoreStands b new → HasSettingsOf old new → opened_with b ≡ opened_with a
opened-same a b old new before after (limits, own) = ap₂ opening (after.limits ∙ limits ∙ sym before.limits) (after.own ∙ own ∙ sym before.own)
