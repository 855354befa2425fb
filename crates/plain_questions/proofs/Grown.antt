-- A request adds one record to the history, or none.
use Rattle.std.proofs.Common.{inl, inr, ◌⊎◌, Bool, List, Option, [], is_some, length, not, refl, ℕ, ◌++◌, ◌∷◌, ◌≡◌}
use Rattle.std.proofs.lemmas.Bool.{cond_both}
use Rattle.std.specs.Prelude.{nat_lt, ◌&&◌, ◌==◌}
use Rattle.tardis_base.specs.Ids.{is_among, root}
use Rattle.tardis_base.specs.Keys.{KeyWrite, has_key, is_key_among, keys_of, write_of}
use Rattle.tardis_base.specs.declared.ids.StateId.{StateId}
use Rattle.tardis_base.specs.declared.records.Consent.{Consent}
use Rattle.tardis_base.specs.declared.records.Item.{Item}
use Rattle.tardis_base.specs.declared.records.Item.TheVariants.{Promise, State}
use Rattle.tardis_base.specs.declared.records.Record.{Record}
use Rattle.tardis_base.specs.declared.records.Write.{Write}
use Rattle.tardis_base.specs.declared.records.Write.TheVariants.{Delete as Deletion, Put as Value}
use Rattle.tardis_base.specs.declared.replies.Refusal.TheVariants.{AlreadyOpen, BadSite, Below, Branches, CeilingBack, Collected, Comparable, ConflictKey}
use Rattle.tardis_base.specs.declared.replies.Excess.TheVariants.{MergedStates}
use Rattle.tardis_base.specs.declared.replies.Refusal.TheVariants.{FloorBack, Held, NotRead, SeqEnd, SessionsFull, TooMany, Unknown}
use Rattle.tardis_base.specs.declared.replies.Reply.{Reply}
use Rattle.tardis_base.specs.declared.replies.Reply.TheVariants.{Applied, Batch as BatchIs, Done, Ended, Opened, Shown}
use Rattle.tardis_base.specs.declared.requests.EndFlags.{EndFlags}
use Rattle.tardis_base.specs.declared.requests.Request.{Request}
use Rattle.tardis_base.specs.declared.requests.Request.TheVariants.{Abort, Begin as BeginAt, BeginMerge, Ceiling, Close, Commit, Conflicts, Delete, Deliver}
use Rattle.tardis_base.specs.declared.requests.Request.TheVariants.{ForkPoints, Get, GetFor, Leaves, Open, Pull, Put, Raise, RaiseAuto, Settle, Show, Stat}
use Rattle.tardis_base.specs.declared.requests.Request.TheVariants.{Tidy}
use Rattle.plain_dag.specs.Above.{comparable_pair, is_above}
use Rattle.plain_dag.specs.Begin.{begin_state, is_admitted}
use Rattle.plain_dag.specs.Conflicts.{is_conflict_key, value_over}
use Rattle.plain_dag.specs.Entries.{changed, entry_of, with_entry}
use Rattle.plain_dag.specs.Floors.{Session, automatic_floor, holding_session, opening_session, with_ceiling, with_floor}
use Rattle.plain_dag.specs.Landing.{broken, guarded, landing}
use Rattle.plain_dag.specs.Paths.{fork_path}
use Rattle.plain_dag.specs.States.{arrival, children, is_known}
use Rattle.plain_dag.specs.Writers.{read}
use Rattle.plain_site.proofs.SoundAnswers.{given-keeps, no_txn-keeps, session-keeps, txn-keeps, unless-keeps}
use Rattle.plain_site.proofs.SoundCommits.{merge_refusals}
use Rattle.plain_site.specs.Answers.{Answer, found, refuse, refuse_found, says_early, shown}
use Rattle.plain_site.specs.Commits.{abort, commit, commit_below, commit_single, commit_writes, committed, growth_refusals, with_record, without_txn_of}
use Rattle.plain_site.specs.Exchange.{batch_for, consent_judgements, deliver, deliver_consent, deliver_record, first_fit_record, judgements, pull}
use Rattle.plain_site.specs.Exchange.{settle, settle_record, take_record, with_held, with_settled}
use Rattle.plain_site.specs.FloorSteps.{raise, raise_to, raised}
use Rattle.plain_site.specs.Merges.{begin_merge, conflicts_of, first_below, first_unknown, fork_points_of, in_order, merge_at, merging, states_to_merge}
use Rattle.plain_site.specs.Reads.{too_many_writes, too_many_reads, get, get_for, having_read, having_written, read_in, set_key}
use Rattle.plain_site.specs.Sessions.{begin, begin_at, begun, close_session, open_session, set_ceiling}
use Rattle.plain_site.specs.Shows.{show}
use Rattle.plain_site.specs.Site.{Merge, Single, SingleTxn, Site, Txn, next_record, own_count, own_floor, with_txn_changed, writes_of}
use Rattle.plain_site.specs.Step.{step}

-- the history is as it was, or has one record more
abbrev pub Grown : Site → Site → Type 0
Grown site new = (new.dag ≡ site.dag) ⊎ ((r : Record) × (new.dag ≡ r ∷ site.dag))

module _ (site : Site) (n : ℕ) where
  abbrev Stays : Site → Type 0
  Stays new = Grown site new

  stays : Stays site
  stays = inl refl

  -- ===== Requests that add no record

  open-stays : (follow : Bool) → Stays (open_session site n follow).0
  open-stays follow =
      let number_open = length site.sessions in
      let ceiling = (own_floor site).state in
      unless-keeps Stays site stays
      (refuse (is_some (entry_of n site.sessions)) AlreadyOpen ∷ refuse (number_open == site.limits.max_sessions) (SessionsFull number_open) ∷ [])
      (record site { sessions = with_entry n (opening_session follow ceiling) site.sessions }, Opened ceiling) (λ none. inl refl)

  begin-stays : (ceiling y : StateId) → Stays (begin_at site n ceiling y).0
  begin-stays ceiling y =
      unless-keeps Stays site stays (refuse (not (is_known site.dag y)) (Unknown y) ∷ refuse (not (is_admitted site.dag ceiling y)) (Below y ceiling) ∷ [])
      (begun site n y) (λ none. inl refl)

  set-stays : (s : Session) (y : StateId) → Stays (set_ceiling site n s y).0
  set-stays s y =
      unless-keeps Stays site stays (refuse (not (is_known site.dag y)) (Unknown y) ∷ refuse (not (is_above site.dag s.ceiling y)) (CeilingBack s.ceiling) ∷ [])
      (record site { sessions = changed n (with_ceiling y) site.sessions }, Done) (λ none. inl refl)

  read-stays : (t : Txn) (k : List ℕ) → Stays (read_in site n t k).0
  read-stays (Single t) k =
      unless-keeps Stays site stays (refuse (length t.reads == 256 && not (is_key_among k t.reads)) too_many_reads ∷ [])
      (with_txn_changed n (having_read k) site, found (read site.dag k t.state)) (λ none. inl refl)
  read-stays (Merge t) k =
      unless-keeps Stays site stays (refuse (is_conflict_key site.dag t.states k) (ConflictKey k) ∷ []) (site, found (value_over site.dag t.states k))
      (λ none. inl refl)

  get-stays : (t : Txn) (k : List ℕ) → Stays (get site n t k).0
  get-stays t k = given-keeps Stays site stays (write_of k (writes_of t)) (read_in site n t k) (λ w. (site, shown root w)) (λ none. read-stays t k) (λ w e. inl refl)

  write-stays : (t : Txn) (k : List ℕ) (w : Write) → Stays (set_key site n t k w).0
  write-stays t k w =
      unless-keeps Stays site stays (refuse (length (writes_of t) == 64 && not (has_key k (writes_of t))) too_many_writes ∷ [])
      (with_txn_changed n (having_written k w) site, Done) (λ none. inl refl)

  get_for-stays : (t : Txn) (k : List ℕ) (y : StateId) → Stays (get_for site t k y).0
  get_for-stays (Single t) k y = inl refl
  get_for-stays (Merge t) k y = unless-keeps Stays site stays (refuse (not (is_among y t.states)) (NotRead y) ∷ []) (site, found (read site.dag k y))
      (λ none. inl refl)

  forks-stay : (t : Txn) → Stays (fork_points_of site t).0
  forks-stay (Single t) = inl refl
  forks-stay (Merge t) = inl refl

  conflicts-stay : (t : Txn) (after : List ℕ) → Stays (conflicts_of site t after).0
  conflicts-stay (Single t) after = inl refl
  conflicts-stay (Merge t) after = inl refl

  show-stays : (y : StateId) → Stays (show site y).0
  show-stays y =
      unless-keeps Stays site stays (refuse (not (is_known site.dag y)) (Unknown y) ∷ refuse (is_among y site.collected) (Collected y) ∷ [])
      (site, Shown (arrival site.dag y) (children site.dag y) (fork_path site.dag site.collected y)) (λ none. inl refl)

  pull-stays : (counts : List ℕ) → Stays (pull site counts).0
  pull-stays counts = unless-keeps Stays site stays (refuse (not (length counts == site.limits.sites)) (BadSite (length counts)) ∷ [])
      (site, BatchIs (batch_for site counts)) (λ none. inl refl)

  raise-stays : (y : StateId) (refusals : List (Option Reply)) → Stays (raise_to site y refusals).0
  raise-stays y refusals = unless-keeps Stays site stays (refusals ++ refuse ((own_floor site).number == 4294967295) SeqEnd ∷ []) (raised site y) (λ none. inl refl)

  raise-any : (y : StateId) → Stays (raise site y).0
  raise-any y =
      let floor = (own_floor site).state in
      raise-stays y
      (refuse (not (is_known site.dag y)) (Unknown y)
      ∷ refuse (not (is_above site.dag floor y)) (FloorBack floor)
      ∷ refuse_found (λ (s : ℕ × Session). Held s.0 s.1.ceiling) (holding_session site.dag site.sessions y)
      ∷ [])

  merge-stays : (ceiling : StateId) (xs : List StateId) → Stays (merge_at site n ceiling xs).0
  merge-stays ceiling xs =
      unless-keeps Stays site stays
      (refuse (nat_lt 8 (length xs)) (TooMany MergedStates (length xs))
      ∷ refuse_found Unknown (first_unknown site.dag xs)
      ∷ refuse_found (λ (y : StateId). Below y ceiling) (first_below site.dag ceiling xs)
      ∷ refuse_found (λ (pair : StateId × StateId). Comparable pair.0 pair.1) (comparable_pair site.dag xs)
      ∷ [])
      (merging site n (in_order xs)) (λ none. inl refl)

  consent-stays : (c : Consent) → Stays (deliver_consent site c).0
  consent-stays c =
      unless-keeps Stays site stays (consent_judgements site c)
      (record site { floors = with_floor site.floors c.site (record { state = c.floor; number = c.number; stated = c.count }) }, Applied) (λ none. inl refl)

  -- ===== Records

  below-stays : (parents : List StateId) (writes : List KeyWrite) (refusals : List (Option Reply)) → Stays (commit_below site n parents writes refusals).0
  below-stays parents writes refusals =
      let r = next_record site parents writes in
      unless-keeps Stays site stays (refusals ++ refuse (own_count site == 4294967295) SeqEnd ∷ growth_refusals site r) (committed site n r)
      (λ none. inr (r, refl))

  single-stays : (t : SingleTxn) (flags : EndFlags) (k : ℕ) → Stays (commit_single site n t flags k).0
  single-stays t flags k = go t.writes
    where
      at : StateId
      at = landing site.dag (guarded flags t.reads (keys_of t.writes)) t.state

      number : ℕ
      number = length (children site.dag at)

      go : (ws : List KeyWrite) → Stays (elim ws as (λ v. Answer) [ [] ↦ (without_txn_of n site, Ended t.state) | w ∷ vs ↦ commit_writes site n t flags k ]).0
      go [] = inl refl
      go (w ∷ ws) = below-stays (at ∷ []) t.writes (refuse_found (λ c. Branches c at number) (broken flags k number) ∷ [])

  commit-stays : (t : Txn) (flags : EndFlags) (k : ℕ) → Stays (commit site n t flags k).0
  commit-stays (Single t) flags k = single-stays t flags k
  commit-stays (Merge t) flags k = below-stays t.states t.writes (merge_refusals site t flags)

  take-stays : (r : Record) → Stays (take_record site r).0
  take-stays r = unless-keeps Stays site stays (judgements site r ++ growth_refusals site r) (with_record r site, Applied) (λ none. inr (r, refl))

  record-stays : (r : Record) → Stays (deliver_record site r).0
  record-stays r =
      let answer : Answer = take_record site r in
      cond_both (says_early answer.1) (with_held r answer.0) answer.0 (λ (next : Site). Stays next) (λ early. take-stays r) (λ late. take-stays r)

  settle-stays : Stays (settle site).0
  settle-stays =
      given-keeps Stays site stays (first_fit_record site) (site, Done) (settle_record site) (λ none. stays)
      (λ found is. unless-keeps Stays site stays (growth_refusals site found.1) (with_settled found site, Applied) (λ none. inr (found.1, refl)))

  deliver-stays : (item : Item) → Stays (deliver site item).0
  deliver-stays (State r) = record-stays r
  deliver-stays (Promise c) = consent-stays c

  -- ===== Each request

  pub request-grows : (q : Request) → Stays (step site n q).0
  request-grows (Open follow) = open-stays follow
  request-grows (BeginAt b) = no_txn-keeps Stays site stays n (λ s. begin site n s b) (λ s e none. begin-stays s.ceiling (begin_state site.dag s.last b))
  request-grows (Get k) = txn-keeps Stays site stays n (λ s t. get site n t k) (λ s e t f. get-stays t k)
  request-grows (Put k v) = txn-keeps Stays site stays n (λ s t. set_key site n t k (Value v)) (λ s e t f. write-stays t k (Value v))
  request-grows (Delete k) = txn-keeps Stays site stays n (λ s t. set_key site n t k Deletion) (λ s e t f. write-stays t k Deletion)
  request-grows (Commit flags k) = txn-keeps Stays site stays n (λ s t. commit site n t flags k) (λ s e t f. commit-stays t flags k)
  request-grows Abort = txn-keeps Stays site stays n (λ s t. abort site n) (λ s e t f. inl refl)
  request-grows (BeginMerge of) = no_txn-keeps Stays site stays n (λ s. begin_merge site n s of)
      (λ s e none. merge-stays s.ceiling (states_to_merge site of))
  request-grows ForkPoints = txn-keeps Stays site stays n (λ s t. fork_points_of site t) (λ s e t f. forks-stay t)
  request-grows (Conflicts after) = txn-keeps Stays site stays n (λ s t. conflicts_of site t after) (λ s e t f. conflicts-stay t after)
  request-grows (GetFor k y) = txn-keeps Stays site stays n (λ s t. get_for site t k y) (λ s e t f. get_for-stays t k y)
  request-grows (Ceiling y) = no_txn-keeps Stays site stays n (λ s. set_ceiling site n s y) (λ s e none. set-stays s y)
  request-grows (Raise y) = raise-any y
  request-grows RaiseAuto = raise-stays (automatic_floor site.dag (own_floor site).state site.sessions) []
  request-grows (Tidy count) = inl refl
  request-grows Stat = inl refl
  request-grows (Show y) = show-stays y
  request-grows Leaves = inl refl
  request-grows (Pull counts) = pull-stays counts
  request-grows (Deliver item) = deliver-stays item
  request-grows Settle = settle-stays
  request-grows Close = session-keeps Stays site stays n (λ s. close_session site n) (λ s e. inl refl)
