-- A site is served the same whatever waits, but for deliveries of records and Settle.
use Rattle.std.proofs.Common.{◌≡◌, ℕ, Bool, true, false, not, List, [], ◌∷◌, ◌++◌, length, Option, Some, None, is_some, IsFalse, refl, sym, subst}
use Rattle.std.specs.Prelude.{◌==◌, ◌&&◌, nat_lt}
use Rattle.tardis_base.specs.declared.ids.StateId.{StateId}
use Rattle.tardis_base.specs.declared.records.Record.{Record}
use Rattle.tardis_base.specs.declared.records.Consent.{Consent}
use Rattle.tardis_base.specs.declared.records.Write.{Write}
use Rattle.tardis_base.specs.declared.records.Write.TheVariants.{Put as Value, Delete as Deletion}
use Rattle.tardis_base.specs.declared.records.Item.TheVariants.{State, Promise}
use Rattle.tardis_base.specs.declared.requests.EndFlags.{EndFlags}
use Rattle.tardis_base.specs.declared.requests.MergeOf.{MergeOf}
use Rattle.tardis_base.specs.declared.requests.MergeOf.TheVariants.{Leaves as AllLeaves, States as These}
use Rattle.tardis_base.specs.declared.requests.Request.{Request}
use Rattle.tardis_base.specs.declared.requests.Request.TheVariants.{Open, Begin as BeginAt, Get, Put, Delete, Commit, Abort, BeginMerge, ForkPoints}
use Rattle.tardis_base.specs.declared.requests.Request.TheVariants.{Conflicts, GetFor, Ceiling, Raise, RaiseAuto, Tidy, Stat, Show, Leaves, Pull}
use Rattle.tardis_base.specs.declared.requests.Request.TheVariants.{Deliver, Settle, Close}
use Rattle.tardis_base.specs.declared.replies.Excess.TheVariants.{MergedStates}
use Rattle.tardis_base.specs.Sizes.{most_parents, most_reads, most_writes}
use Rattle.tardis_base.specs.declared.replies.Refusal.TheVariants.{AlreadyOpen, SessionsFull, Unknown, Below, CeilingBack, WrongMode, NotRead}
use Rattle.tardis_base.specs.declared.replies.Refusal.TheVariants.{TooMany, ConflictKey, FloorBack, Held, SeqEnd, BadSite, Comparable}
use Rattle.tardis_base.specs.declared.replies.Refusal.TheVariants.{OpenConflict, Branches}
use Rattle.tardis_base.specs.declared.replies.Reply.{Reply}
use Rattle.tardis_base.specs.declared.replies.Reply.TheVariants.{Opened, Done, Applied, Batch as BatchIs}
use Rattle.tardis_base.specs.Ids.{root, is_among}
use Rattle.tardis_base.specs.Keys.{KeyWrite, is_key_among, keys_of, has_key, write_of}
use Rattle.plain_dag.specs.States.{is_known, children}
use Rattle.plain_dag.specs.Above.{is_above, comparable_pair}
use Rattle.plain_dag.specs.Begin.{is_admitted, begin_state, first_unknown, first_below}
use Rattle.plain_dag.specs.Writers.{read}
use Rattle.plain_dag.specs.Conflicts.{is_conflict_key, value_over, open_conflict}
use Rattle.plain_dag.specs.Forks.{leaves}
use Rattle.plain_dag.specs.Landing.{landing, guarded, broken}
use Rattle.plain_dag.specs.Entries.{entry_of, with_entry, changed}
use Rattle.plain_dag.specs.Floors.{Session, opening_session, with_ceiling, with_floor, holding_session, automatic_floor}
use Rattle.plain_site.specs.Site.{Site, SingleTxn, Txn, Single, Merge, own_floor, own_count, next_record, writes_of, with_txn_changed}
use Rattle.plain_site.specs.Answers.{Answer, refuse, refuse_found, unless, shown, found}
use Rattle.plain_site.specs.Sessions.{open_session, close_session, begun, begin_at, set_ceiling}
use Rattle.plain_site.specs.Reads.{too_many_reads, too_many_writes, having_read, having_written, read_in, get, set_key, get_for}
use Rattle.plain_site.specs.Commits.{with_record, growth_refusals, without_txn_of, committed, commit_below, commit_single, commit}
use Rattle.plain_site.specs.Merges.{states_to_merge, in_order, merging, merge_at, fork_points_of, conflicts_of}
use Rattle.plain_site.specs.FloorSteps.{raised, raise_to, raise}
use Rattle.plain_site.specs.Exchange.{judgements, take_record, consent_judgements, deliver_consent, pull}
use Rattle.plain_site.specs.Exchange.{batch_for}
use Rattle.plain_site.specs.Step.{step}
use Rattle.tardis_base.specs.declared.replies.Refusal.TheVariants.{NotOpen, NoTxn, TxnOpen, Collected}
use Rattle.tardis_base.specs.declared.replies.Reply.TheVariants.{Shown}
use Rattle.plain_dag.specs.States.{arrival}
use Rattle.plain_dag.specs.Paths.{fork_path}
use Rattle.plain_site.specs.Answers.{refused, unless, given, with_session, with_txn, without_txn}

-- the site in which nothing waits
abbrev pub dry : Site → Site
dry site = record site { waiting = [] }

-- the request meets what waits
abbrev pub meets_waiting : Request → Bool
meets_waiting (Deliver (State r)) = true
meets_waiting Settle = true
meets_waiting _ = false

-- the second answer is the first, but that nothing waits
abbrev pub SameDry : Answer → Answer → Type 0
SameDry x y = y ≡ (dry x.0, x.1)

unless-dry : (site : Site) (replies : List (Option Reply)) (x y : Answer) → SameDry x y → SameDry (unless site replies x) (unless (dry site) replies y)
unless-dry site [] x y h = h
unless-dry site (None ∷ more) x y h = unless-dry site more x y h
unless-dry site (Some reply ∷ more) x y h = refl

given-dry : {A : Type 0} (o : Option A) (x y : Answer) (f g : A → Answer) → SameDry x y → ((a : A) → SameDry (f a) (g a)) → SameDry (given o x f) (given o y g)
given-dry None x y f g h each = h
given-dry (Some a) x y f g h each = each a

module _ (site : Site) (n : ℕ) where
  by-session-dry : (f g : Session → Answer) → ((s : Session) → SameDry (f s) (g s)) → SameDry (with_session site n f) (with_session (dry site) n g)
  by-session-dry f g h = given-dry (entry_of n site.sessions) (refused site NotOpen) (refused (dry site) NotOpen) f g refl h

  by-txn-dry : (f g : Session → Txn → Answer) → ((s : Session) (t : Txn) → SameDry (f s t) (g s t)) → SameDry (with_txn site n f) (with_txn (dry site) n g)
  by-txn-dry f g h =
      by-session-dry (λ s. given (entry_of n site.txns) (refused site NoTxn) (f s)) (λ s. given (entry_of n site.txns) (refused (dry site) NoTxn) (g s))
      (λ s. given-dry (entry_of n site.txns) (refused site NoTxn) (refused (dry site) NoTxn) (f s) (g s) refl (h s))

  by-no-txn-dry : (f g : Session → Answer) → ((s : Session) → SameDry (f s) (g s)) → SameDry (without_txn site n f) (without_txn (dry site) n g)
  by-no-txn-dry f g h =
      by-session-dry (λ s. given (entry_of n site.txns) (f s) (λ t. refused site TxnOpen))
      (λ s. given (entry_of n site.txns) (g s) (λ t. refused (dry site) TxnOpen))
      (λ s. given-dry (entry_of n site.txns) (f s) (g s) (λ t. refused site TxnOpen) (λ t. refused (dry site) TxnOpen) (h s) (λ t. refl))

module _ (site : Site) where
  -- the site in which nothing waits
  abbrev there : Site
  there = dry site

  -- a reply behind refusals that look at nothing that waits
  refusing : (replies : List (Option Reply)) (x y : Answer) → y ≡ (dry x.0, x.1) → SameDry (unless site replies x) (unless there replies y)
  refusing replies x y e = unless-dry site replies x y e

  module _ (n : ℕ) where
    -- ===== Sessions and reads

    open-dry : (follow : Bool) → SameDry (open_session site n follow) (open_session there n follow)
    open-dry follow =
        let number_open = length site.sessions in
        let ceiling = (own_floor site).state in
        let opened = with_entry n (opening_session follow ceiling) site.sessions in
        refusing (refuse (is_some (entry_of n site.sessions)) AlreadyOpen ∷ refuse (number_open == site.limits.max_sessions) (SessionsFull number_open) ∷ [])
        (record site { sessions = opened }, Opened ceiling) (record there { sessions = opened }, Opened ceiling) refl

    begin-dry : (ceiling x : StateId) → SameDry (begin_at site n ceiling x) (begin_at there n ceiling x)
    begin-dry ceiling x =
        refusing (refuse (not (is_known site.dag x)) (Unknown x) ∷ refuse (not (is_admitted site.dag ceiling x)) (Below x ceiling) ∷ [])
        (begun site n x) (begun there n x) refl

    ceiling-dry : (s : Session) (x : StateId) → SameDry (set_ceiling site n s x) (set_ceiling there n s x)
    ceiling-dry s x =
        let sessions = changed n (with_ceiling x) site.sessions in
        refusing (refuse (not (is_known site.dag x)) (Unknown x) ∷ refuse (not (is_above site.dag s.ceiling x)) (CeilingBack s.ceiling) ∷ [])
        (record site { sessions = sessions }, Done) (record there { sessions = sessions }, Done) refl

    read-dry : (t : Txn) (k : List ℕ) → SameDry (read_in site n t k) (read_in there n t k)
    read-dry (Single t) k =
        refusing (refuse (length t.reads == most_reads && not (is_key_among k t.reads)) too_many_reads ∷ [])
        (with_txn_changed n (having_read k) site, found (read site.dag k t.state))
        (with_txn_changed n (having_read k) there, found (read site.dag k t.state)) refl
    read-dry (Merge t) k =
        refusing (refuse (is_conflict_key site.dag t.states k) (ConflictKey k) ∷ [])
        (site, found (value_over site.dag t.states k)) (there, found (value_over site.dag t.states k)) refl

    get-dry : (t : Txn) (k : List ℕ) → SameDry (get site n t k) (get there n t k)
    get-dry t k =
        given-dry (write_of k (writes_of t)) (read_in site n t k) (read_in there n t k) (λ w. (site, shown root w)) (λ w. (there, shown root w))
        (read-dry t k) (λ w. refl)

    set-dry : (t : Txn) (k : List ℕ) (w : Write) → SameDry (set_key site n t k w) (set_key there n t k w)
    set-dry t k w =
        refusing (refuse (length (writes_of t) == most_writes && not (has_key k (writes_of t))) too_many_writes ∷ [])
        (with_txn_changed n (having_written k w) site, Done) (with_txn_changed n (having_written k w) there, Done) refl

    get_for-dry : (t : Txn) (k : List ℕ) (x : StateId) → SameDry (get_for site t k x) (get_for there t k x)
    get_for-dry (Single t) k x = refl
    get_for-dry (Merge t) k x =
        refusing (refuse (not (is_among x t.states)) (NotRead x) ∷ []) (site, found (read site.dag k x)) (there, found (read site.dag k x)) refl

    -- ===== Merges

    merge-dry : (ceiling : StateId) (xs : List StateId) → SameDry (merge_at site n ceiling xs) (merge_at there n ceiling xs)
    merge-dry ceiling xs =
        refusing
        (refuse (nat_lt most_parents (length xs)) (TooMany MergedStates (length xs))
        ∷ refuse_found Unknown (first_unknown site.dag xs)
        ∷ refuse_found (λ (x : StateId). Below x ceiling) (first_below site.dag ceiling xs)
        ∷ refuse_found (λ (pair : StateId × StateId). Comparable pair.0 pair.1) (comparable_pair site.dag xs)
        ∷ [])
        (merging site n (in_order xs)) (merging there n (in_order xs)) refl

    merge-of-dry : (ceiling : StateId) (of : MergeOf) →
        SameDry (merge_at site n ceiling (states_to_merge site of)) (merge_at there n ceiling (states_to_merge there of))
    merge-of-dry ceiling AllLeaves = merge-dry ceiling (leaves site.dag)
    merge-of-dry ceiling (These xs) = merge-dry ceiling xs

    fork-points-dry : (t : Txn) → SameDry (fork_points_of site t) (fork_points_of there t)
    fork-points-dry (Single t) = refl
    fork-points-dry (Merge t) = refl

    conflicts-dry : (t : Txn) (after : List ℕ) → SameDry (conflicts_of site t after) (conflicts_of there t after)
    conflicts-dry (Single t) after = refl
    conflicts-dry (Merge t) after = refl

    -- ===== Commits

    below-dry : (parents : List StateId) (writes : List KeyWrite) (refusals : List (Option Reply)) →
        SameDry (commit_below site n parents writes refusals) (commit_below there n parents writes refusals)
    below-dry parents writes refusals =
        let r = next_record site parents writes in
        let over = refuse (own_count site == 4294967295) SeqEnd in
        refusing (refusals ++ over ∷ growth_refusals site r) (committed site n r) (committed there n r) refl

    single-dry : (t : SingleTxn) (writes : List KeyWrite) (flags : EndFlags) (k : ℕ) → t.writes ≡ writes →
        SameDry (commit_single site n t flags k) (commit_single there n t flags k)
    single-dry t [] flags k e =
        subst (λ (ws : List KeyWrite). SameDry (commit_single site n (record t { writes = ws }) flags k)
        (commit_single there n (record t { writes = ws }) flags k))
        (sym e) refl
    single-dry t (w ∷ ws) flags k e =
        let x = landing site.dag (guarded flags t.reads (keys_of (w ∷ ws))) t.state in
        let number_of_children = length (children site.dag x) in
        subst (λ (vs : List KeyWrite). SameDry (commit_single site n (record t { writes = vs }) flags k)
        (commit_single there n (record t { writes = vs }) flags k))
        (sym e)
        (below-dry (x ∷ []) (w ∷ ws) (refuse_found (λ (c : ℕ). Branches c x number_of_children) (broken flags k number_of_children) ∷ []))

    commit-dry : (t : Txn) (flags : EndFlags) (k : ℕ) → SameDry (commit site n t flags k) (commit there n t flags k)
    commit-dry (Single t) flags k = single-dry t t.writes flags k refl
    commit-dry (Merge t) flags k =
        below-dry t.states t.writes (refuse (not (flags.0 == 0)) WrongMode ∷ refuse_found OpenConflict (open_conflict site.dag t.states t.writes) ∷ [])

  -- ===== Floors

  raise_to-dry : (x : StateId) (refusals : List (Option Reply)) → SameDry (raise_to site x refusals) (raise_to there x refusals)
  raise_to-dry x refusals = refusing (refusals ++ refuse ((own_floor site).number == 4294967295) SeqEnd ∷ []) (raised site x) (raised there x) refl

  raise-dry : (x : StateId) → SameDry (raise site x) (raise there x)
  raise-dry x =
      let floor = (own_floor site).state in
      raise_to-dry x
      (refuse (not (is_known site.dag x)) (Unknown x)
      ∷ refuse (not (is_above site.dag floor x)) (FloorBack floor)
      ∷ refuse_found (λ (s : ℕ × Session). Held s.0 s.1.ceiling) (holding_session site.dag site.sessions x)
      ∷ [])

  -- ===== Exchange

  pull-dry : (counts : List ℕ) → SameDry (pull site counts) (pull there counts)
  pull-dry counts =
      refusing (refuse (not (length counts == site.limits.sites)) (BadSite (length counts)) ∷ [])
      (site, BatchIs (batch_for site counts)) (there, BatchIs (batch_for site counts)) refl

  pub take-dry : (r : Record) → SameDry (take_record site r) (take_record there r)
  take-dry r = refusing (judgements site r ++ growth_refusals site r) (with_record r site, Applied) (with_record r there, Applied) refl

  consent-dry : (c : Consent) → SameDry (deliver_consent site c) (deliver_consent there c)
  consent-dry c =
      let floors = with_floor site.floors c.site (record { state = c.floor; number = c.number; stated = c.count }) in
      refusing (consent_judgements site c) (record site { floors = floors }, Applied) (record there { floors = floors }, Applied) refl

  -- ===== The step

  module _ (n : ℕ) where
    pub step-dry : (q : Request) → IsFalse (meets_waiting q) → SameDry (step site n q) (step there n q)
    step-dry (Open follow) h = open-dry n follow
    step-dry (BeginAt b) h =
        by-no-txn-dry site n (λ s. begin_at site n s.ceiling (begin_state site.dag s.last b))
        (λ s. begin_at there n s.ceiling (begin_state site.dag s.last b))
        (λ s. begin-dry n s.ceiling (begin_state site.dag s.last b))
    step-dry (Get k) h = by-txn-dry site n (λ s t. get site n t k) (λ s t. get there n t k) (λ s t. get-dry n t k)
    step-dry (Put k v) h =
        by-txn-dry site n (λ s t. set_key site n t k (Value v)) (λ s t. set_key there n t k (Value v)) (λ s t. set-dry n t k (Value v))
    step-dry (Delete k) h =
        by-txn-dry site n (λ s t. set_key site n t k Deletion) (λ s t. set_key there n t k Deletion) (λ s t. set-dry n t k Deletion)
    step-dry (Commit flags k) h =
        by-txn-dry site n (λ s t. commit site n t flags k) (λ s t. commit there n t flags k) (λ s t. commit-dry n t flags k)
    step-dry Abort h = by-txn-dry site n (λ s t. (without_txn_of n site, Done)) (λ s t. (without_txn_of n there, Done)) (λ s t. refl)
    step-dry (BeginMerge of) h =
        by-no-txn-dry site n (λ s. merge_at site n s.ceiling (states_to_merge site of)) (λ s. merge_at there n s.ceiling (states_to_merge there of))
        (λ s. merge-of-dry n s.ceiling of)
    step-dry ForkPoints h = by-txn-dry site n (λ s t. fork_points_of site t) (λ s t. fork_points_of there t) (λ s t. fork-points-dry n t)
    step-dry (Conflicts after) h =
        by-txn-dry site n (λ s t. conflicts_of site t after) (λ s t. conflicts_of there t after) (λ s t. conflicts-dry n t after)
    step-dry (GetFor k x) h = by-txn-dry site n (λ s t. get_for site t k x) (λ s t. get_for there t k x) (λ s t. get_for-dry n t k x)
    step-dry (Ceiling x) h = by-no-txn-dry site n (λ s. set_ceiling site n s x) (λ s. set_ceiling there n s x) (λ s. ceiling-dry n s x)
    step-dry (Raise x) h = raise-dry x
    step-dry RaiseAuto h = raise_to-dry (automatic_floor site.dag (own_floor site).state site.sessions) []
    step-dry Leaves h = refl
    step-dry (Pull counts) h = pull-dry counts
    step-dry (Deliver (State r)) h = absurd (cc)
    step-dry (Deliver (Promise c)) h = consent-dry c
    step-dry Settle h = absurd (cc)
    step-dry Close h = by-session-dry site n (λ s. close_session site n) (λ s. close_session there n) (λ s. refl)
    step-dry (Tidy count) h = refl
    step-dry Stat h = refl
    step-dry (Show x) h =
        let reply = Shown (arrival site.dag x) (children site.dag x) (fork_path site.dag site.collected x) in
        refusing (refuse (not (is_known site.dag x)) (Unknown x) ∷ refuse (is_among x site.collected) (Collected x) ∷ []) (site, reply) (there, reply) refl
