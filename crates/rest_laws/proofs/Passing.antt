-- Requests that change no more than sessions and transactions, or nothing.
use Rattle.std.proofs.Common.{◌≡◌, ℕ, not, List, [], ◌∷◌, length, is_some, IsFalse, refl}
use Rattle.std.specs.Prelude.{◌==◌, ◌&&◌, nat_lt}
use Rattle.tardis_base.specs.declared.ids.StateId.{StateId}
use Rattle.tardis_base.specs.declared.records.Write.{Write}
use Rattle.tardis_base.specs.declared.records.Write.TheVariants.{Put as Value, Delete as Deletion}
use Rattle.tardis_base.specs.declared.requests.Request.{Request}
use Rattle.tardis_base.specs.declared.requests.Request.TheVariants.{Open, Begin as BeginAt, Get, Put, Delete, Commit, Abort, BeginMerge, ForkPoints}
use Rattle.tardis_base.specs.declared.requests.Request.TheVariants.{Conflicts, GetFor, Ceiling, Raise, RaiseAuto, Tidy, Stat, Show, Leaves, Pull, Deliver}
use Rattle.tardis_base.specs.declared.requests.Request.TheVariants.{Settle, Close}
use Rattle.tardis_base.specs.declared.replies.Excess.TheVariants.{MergedStates}
use Rattle.tardis_base.specs.Sizes.{most_parents, most_reads, most_writes}
use Rattle.tardis_base.specs.declared.replies.Refusal.TheVariants.{Unknown, Collected, NotRead, BadSite, CeilingBack, AlreadyOpen, SessionsFull, TooMany}
use Rattle.tardis_base.specs.declared.replies.Refusal.TheVariants.{Below, ConflictKey, Comparable}
use Rattle.tardis_base.specs.declared.replies.Reply.TheVariants.{Opened, Done, Shown, Batch as BatchIs}
use Rattle.tardis_base.specs.Ids.{is_among}
use Rattle.tardis_base.specs.Keys.{is_key_among, has_key, write_of}
use Rattle.plain_dag.specs.States.{is_known, arrival, children}
use Rattle.plain_dag.specs.Above.{is_above, comparable_pair}
use Rattle.plain_dag.specs.Begin.{is_admitted, begin_state, first_unknown, first_below}
use Rattle.plain_dag.specs.Conflicts.{is_conflict_key, value_over}
use Rattle.plain_dag.specs.Entries.{entry_of, with_entry, changed}
use Rattle.plain_dag.specs.Floors.{opening_session, with_ceiling}
use Rattle.plain_dag.specs.Paths.{fork_path}
use Rattle.plain_dag.specs.Writers.{read}
use Rattle.plain_site.specs.Site.{Site, Txn, Single, Merge, own_floor, writes_of, with_txn_changed}
use Rattle.plain_site.specs.Answers.{refuse, refuse_found, shown, found}
use Rattle.tardis_base.specs.Ids.{root}
use Rattle.plain_site.specs.Sessions.{close_session, begin, begin_at, begun, set_ceiling}
use Rattle.plain_site.specs.Reads.{too_many_reads, too_many_writes, having_read, having_written, read_in, get, set_key, get_for}
use Rattle.plain_site.specs.Commits.{abort}
use Rattle.plain_site.specs.Merges.{in_order, states_to_merge, merging, merge_at, begin_merge, fork_points_of, conflicts_of}
use Rattle.plain_site.specs.Exchange.{batch_for}
use Rattle.plain_site.specs.Step.{step}
use Rattle.plain_site.specs.Rest.{at_rest}
use Rattle.plain_site.proofs.SoundAnswers.{unless-keeps, given-keeps, session-keeps, txn-keeps, no_txn-keeps}
use Rattle.rest_laws.specs.Laws.{may_last}

module _ (site : Site) (n : ℕ) where
  -- the site is as this one at rest
  abbrev Rests : Site → Type 0
  Rests next = at_rest next ≡ at_rest site

  begin_at-rests : (ceiling x : StateId) → Rests (begin_at site n ceiling x).0
  begin_at-rests ceiling x =
      unless-keeps Rests site refl
      (refuse (not (is_known site.dag x)) (Unknown x) ∷ refuse (not (is_admitted site.dag ceiling x)) (Below x ceiling) ∷ []) (begun site n x) (λ none. refl)

  merge_at-rests : (ceiling : StateId) (xs : List StateId) → Rests (merge_at site n ceiling xs).0
  merge_at-rests ceiling xs =
      unless-keeps Rests site refl
      (refuse (nat_lt most_parents (length xs)) (TooMany MergedStates (length xs))
      ∷ refuse_found Unknown (first_unknown site.dag xs)
      ∷ refuse_found (λ x. Below x ceiling) (first_below site.dag ceiling xs)
      ∷ refuse_found (λ (pair : StateId × StateId). Comparable pair.0 pair.1) (comparable_pair site.dag xs)
      ∷ [])
      (merging site n (in_order xs)) (λ none. refl)

  read_in-rests : (t : Txn) (k : List ℕ) → Rests (read_in site n t k).0
  read_in-rests (Single t) k =
      unless-keeps Rests site refl (refuse (length t.reads == most_reads && not (is_key_among k t.reads)) too_many_reads ∷ [])
      (with_txn_changed n (having_read k) site, found (read site.dag k t.state)) (λ none. refl)
  read_in-rests (Merge t) k =
      unless-keeps Rests site refl (refuse (is_conflict_key site.dag t.states k) (ConflictKey k) ∷ []) (site, found (value_over site.dag t.states k)) (λ none. refl)

  get-rests : (t : Txn) (k : List ℕ) → Rests (get site n t k).0
  get-rests t k =
      given-keeps Rests site refl (write_of k (writes_of t)) (read_in site n t k) (λ w. (site, shown root w)) (λ none. read_in-rests t k) (λ w e. refl)

  set-rests : (t : Txn) (k : List ℕ) (w : Write) → Rests (set_key site n t k w).0
  set-rests t k w =
      unless-keeps Rests site refl (refuse (length (writes_of t) == most_writes && not (has_key k (writes_of t))) too_many_writes ∷ [])
      (with_txn_changed n (having_written k w) site, Done) (λ none. refl)

  fork-points-rest : (t : Txn) → Rests (fork_points_of site t).0
  fork-points-rest (Single t) = refl
  fork-points-rest (Merge t) = refl

  conflicts-rest : (t : Txn) (after : List ℕ) → Rests (conflicts_of site t after).0
  conflicts-rest (Single t) after = refl
  conflicts-rest (Merge t) after = refl

  get-for-rests : (t : Txn) (k : List ℕ) (x : StateId) → Rests (get_for site t k x).0
  get-for-rests (Single t) k x = refl
  get-for-rests (Merge t) k x =
      unless-keeps Rests site refl (refuse (not (is_among x t.states)) (NotRead x) ∷ []) (site, found (read site.dag k x)) (λ none. refl)

  pub passing-rests : (q : Request) → IsFalse (may_last q) → at_rest (step site n q).0 ≡ at_rest site
  passing-rests (Open follow) h =
      let number_open = length site.sessions in
      let ceiling = (own_floor site).state in
      unless-keeps Rests site refl
      (refuse (is_some (entry_of n site.sessions)) AlreadyOpen ∷ refuse (number_open == site.limits.max_sessions) (SessionsFull number_open) ∷ [])
      (record site { sessions = with_entry n (opening_session follow ceiling) site.sessions }, Opened ceiling) (λ none. refl)
  passing-rests (BeginAt b) h = no_txn-keeps Rests site refl n (λ s. begin site n s b) (λ s e none. begin_at-rests s.ceiling (begin_state site.dag s.last b))
  passing-rests (Get k) h = txn-keeps Rests site refl n (λ s t. get site n t k) (λ s e t f. get-rests t k)
  passing-rests (Put k v) h = txn-keeps Rests site refl n (λ s t. set_key site n t k (Value v)) (λ s e t f. set-rests t k (Value v))
  passing-rests (Delete k) h = txn-keeps Rests site refl n (λ s t. set_key site n t k Deletion) (λ s e t f. set-rests t k Deletion)
  passing-rests (Commit flags k) h = absurd (cc)
  passing-rests Abort h = txn-keeps Rests site refl n (λ s t. abort site n) (λ s e t f. refl)
  passing-rests (BeginMerge of) h =
      no_txn-keeps Rests site refl n (λ s. begin_merge site n s of) (λ s e none. merge_at-rests s.ceiling (states_to_merge site of))
  passing-rests ForkPoints h = txn-keeps Rests site refl n (λ s t. fork_points_of site t) (λ s e t f. fork-points-rest t)
  passing-rests (Conflicts after) h = txn-keeps Rests site refl n (λ s t. conflicts_of site t after) (λ s e t f. conflicts-rest t after)
  passing-rests (GetFor k x) h = txn-keeps Rests site refl n (λ s t. get_for site t k x) (λ s e t f. get-for-rests t k x)
  passing-rests (Ceiling x) h =
      no_txn-keeps Rests site refl n (λ s. set_ceiling site n s x)
      (λ s e none.
      unless-keeps Rests site refl
      (refuse (not (is_known site.dag x)) (Unknown x) ∷ refuse (not (is_above site.dag s.ceiling x)) (CeilingBack s.ceiling) ∷ [])
      (record site { sessions = changed n (with_ceiling x) site.sessions }, Done) (λ none. refl))
  passing-rests (Raise x) h = absurd (cc)
  passing-rests RaiseAuto h = absurd (cc)
  passing-rests (Tidy count) h = absurd (cc)
  passing-rests Stat h = refl
  passing-rests (Show x) h =
      unless-keeps Rests site refl (refuse (not (is_known site.dag x)) (Unknown x) ∷ refuse (is_among x site.collected) (Collected x) ∷ [])
      (site, Shown (arrival site.dag x) (children site.dag x) (fork_path site.dag site.collected x)) (λ none. refl)
  passing-rests Leaves h = refl
  passing-rests (Pull counts) h =
      unless-keeps Rests site refl (refuse (not (length counts == site.limits.sites)) (BadSite (length counts)) ∷ []) (site, BatchIs (batch_for site counts))
      (λ none. refl)
  passing-rests (Deliver item) h = absurd (cc)
  passing-rests Settle h = absurd (cc)
  passing-rests Close h = session-keeps Rests site refl n (λ s. close_session site n) (λ s e. refl)
