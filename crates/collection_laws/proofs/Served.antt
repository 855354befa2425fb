-- What is collected is unseen, request by request.
use Rattle.std.proofs.Common.{◌≡◌, ℕ, Bool, true, false, not, List, [], ◌∷◌, ◌++◌, length, Option, is_some, IsFalse, refl, sym, ap, subst}
use Rattle.std.specs.Prelude.{◌==◌, ◌&&◌, nat_lt, if◌then◌else◌}
use Rattle.tardis_base.specs.declared.ids.StateId.{StateId}
use Rattle.tardis_base.specs.declared.records.Record.{Record}
use Rattle.tardis_base.specs.declared.records.Consent.{Consent}
use Rattle.tardis_base.specs.declared.records.Write.{Write}
use Rattle.tardis_base.specs.declared.records.Write.TheVariants.{Put as Value, Delete as Deletion}
use Rattle.tardis_base.specs.declared.records.Item.{Item}
use Rattle.tardis_base.specs.declared.records.Item.TheVariants.{State, Promise}
use Rattle.tardis_base.specs.declared.requests.EndFlags.{EndFlags}
use Rattle.tardis_base.specs.declared.requests.MergeOf.{MergeOf}
use Rattle.tardis_base.specs.declared.requests.MergeOf.TheVariants.{Leaves as AllLeaves, States as These}
use Rattle.tardis_base.specs.declared.requests.Request.{Request}
use Rattle.tardis_base.specs.declared.requests.Request.TheVariants.{Open, Begin as BeginAt, Get, Put, Delete, Commit, Abort, BeginMerge, ForkPoints}
use Rattle.tardis_base.specs.declared.requests.Request.TheVariants.{Conflicts, GetFor, Ceiling, Raise, RaiseAuto, Tidy, Stat, Show, Leaves, Pull}
use Rattle.tardis_base.specs.declared.requests.Request.TheVariants.{Deliver, Settle, Close}
use Rattle.tardis_base.specs.declared.replies.Refusal.TheVariants.{AlreadyOpen, SessionsFull, Unknown, Below, CeilingBack, WrongMode, NotRead}
use Rattle.tardis_base.specs.declared.replies.Excess.TheVariants.{MergedStates}
use Rattle.tardis_base.specs.declared.replies.Refusal.TheVariants.{TooMany, ConflictKey, FloorBack, Held, SeqEnd, BadSite, Comparable}
use Rattle.tardis_base.specs.declared.replies.Refusal.TheVariants.{OpenConflict, Branches}
use Rattle.tardis_base.specs.declared.replies.Reply.{Reply}
use Rattle.tardis_base.specs.declared.replies.Reply.TheVariants.{Opened, Done, Applied, Batch as BatchIs}
use Rattle.tardis_base.specs.Ids.{root, is_among}
use Rattle.tardis_base.specs.Keys.{KeyWrite, is_key_among, keys_of, has_key, write_of}
use Rattle.plain_dag.specs.States.{is_known, children}
use Rattle.plain_dag.specs.Above.{is_above, comparable_pair}
use Rattle.plain_dag.specs.Begin.{is_admitted, begin_state, first_unknown, first_below}
use Rattle.plain_dag.specs.Writers.{read}
use Rattle.plain_dag.specs.Conflicts.{is_conflict_key, value_over, open_conflict}
use Rattle.plain_dag.specs.Forks.{leaves}
use Rattle.plain_dag.specs.Landing.{landing, guarded, broken}
use Rattle.plain_dag.specs.Entries.{entry_of, with_entry, changed}
use Rattle.plain_dag.specs.Floors.{Session, opening_session, with_ceiling, with_floor, holding_session, automatic_floor}
use Rattle.plain_site.specs.Site.{Site, SingleTxn, Txn, Single, Merge, own_floor, own_count, next_record, writes_of, with_txn_changed}
use Rattle.plain_site.specs.Answers.{Answer, refuse, refuse_found, says_early, unless, shown, found}
use Rattle.plain_site.specs.Sessions.{open_session, close_session, begun, begin_at, set_ceiling}
use Rattle.plain_site.specs.Reads.{too_many_writes, too_many_reads, having_read, having_written, read_in, get, set_key, get_for}
use Rattle.plain_site.specs.Commits.{with_record, growth_refusals, without_txn_of, committed, commit_below, commit_single, commit}
use Rattle.plain_site.specs.Merges.{states_to_merge, in_order, merging, merge_at, fork_points_of, conflicts_of}
use Rattle.plain_site.specs.FloorSteps.{raised, raise_to, raise}
use Rattle.plain_site.specs.Exchange.{judgements, take_record, with_held, deliver_record, consent_judgements, deliver_consent, deliver, pull}
use Rattle.plain_site.specs.Exchange.{batch_for, first_fit_record, with_settled, settle_record, settle}
use Rattle.plain_site.specs.Step.{step}
use Rattle.collection_laws.specs.Laws.{asks_of_kept}
use Rattle.collection_laws.proofs.Unseen.{other, Unseen, GrowsToo, append-unseen, unless-unseen, growth-unseen, given-unseen, by-session, by-txn, by-no-txn}

module _ (ks : List StateId) (Seen : Reply → Type 0) (site : Site) (grows : (r : Record) → GrowsToo ks Seen site r) where
  -- the site that collected something else
  abbrev there : Site
  there = other ks site

  -- a reply behind refusals that look at nothing collected
  refusing : (replies : List (Option Reply)) (x y : Answer) → y ≡ (other ks x.0, x.1) → Unseen ks Seen (unless site replies x) (unless there replies y)
  refusing replies x y e = unless-unseen ks Seen site replies x y (λ f g. e)

  module _ (n : ℕ) where
    -- ===== Sessions and reads

    open-unseen : (follow : Bool) → Unseen ks Seen (open_session site n follow) (open_session there n follow)
    open-unseen follow =
        let number_open = length site.sessions in
        let ceiling = (own_floor site).state in
        let opened = with_entry n (opening_session follow ceiling) site.sessions in
        refusing (refuse (is_some (entry_of n site.sessions)) AlreadyOpen ∷ refuse (number_open == site.limits.max_sessions) (SessionsFull number_open) ∷ [])
        (record site { sessions = opened }, Opened ceiling) (record there { sessions = opened }, Opened ceiling) refl

    begin-unseen : (ceiling x : StateId) → Unseen ks Seen (begin_at site n ceiling x) (begin_at there n ceiling x)
    begin-unseen ceiling x =
        refusing (refuse (not (is_known site.dag x)) (Unknown x) ∷ refuse (not (is_admitted site.dag ceiling x)) (Below x ceiling) ∷ [])
        (begun site n x) (begun there n x) refl

    ceiling-unseen : (s : Session) (x : StateId) → Unseen ks Seen (set_ceiling site n s x) (set_ceiling there n s x)
    ceiling-unseen s x =
        let sessions = changed n (with_ceiling x) site.sessions in
        refusing (refuse (not (is_known site.dag x)) (Unknown x) ∷ refuse (not (is_above site.dag s.ceiling x)) (CeilingBack s.ceiling) ∷ [])
        (record site { sessions = sessions }, Done) (record there { sessions = sessions }, Done) refl

    read-unseen : (t : Txn) (k : List ℕ) → Unseen ks Seen (read_in site n t k) (read_in there n t k)
    read-unseen (Single t) k =
        refusing (refuse (length t.reads == 256 && not (is_key_among k t.reads)) too_many_reads ∷ [])
        (with_txn_changed n (having_read k) site, found (read site.dag k t.state))
        (with_txn_changed n (having_read k) there, found (read site.dag k t.state)) refl
    read-unseen (Merge t) k =
        refusing (refuse (is_conflict_key site.dag t.states k) (ConflictKey k) ∷ [])
        (site, found (value_over site.dag t.states k)) (there, found (value_over site.dag t.states k)) refl

    get-unseen : (t : Txn) (k : List ℕ) → Unseen ks Seen (get site n t k) (get there n t k)
    get-unseen t k =
        given-unseen ks Seen (write_of k (writes_of t)) (read_in site n t k) (read_in there n t k) (λ w. (site, shown root w)) (λ w. (there, shown root w))
        (read-unseen t k) (λ w f g. refl)

    set-unseen : (t : Txn) (k : List ℕ) (w : Write) → Unseen ks Seen (set_key site n t k w) (set_key there n t k w)
    set-unseen t k w =
        refusing (refuse (length (writes_of t) == 64 && not (has_key k (writes_of t))) too_many_writes ∷ [])
        (with_txn_changed n (having_written k w) site, Done) (with_txn_changed n (having_written k w) there, Done) refl

    get_for-unseen : (t : Txn) (k : List ℕ) (x : StateId) → Unseen ks Seen (get_for site t k x) (get_for there t k x)
    get_for-unseen (Single t) k x = λ f g. refl
    get_for-unseen (Merge t) k x =
        refusing (refuse (not (is_among x t.states)) (NotRead x) ∷ []) (site, found (read site.dag k x)) (there, found (read site.dag k x)) refl

    -- ===== Merges

    merge-unseen : (ceiling : StateId) (xs : List StateId) → Unseen ks Seen (merge_at site n ceiling xs) (merge_at there n ceiling xs)
    merge-unseen ceiling xs =
        refusing
        (refuse (nat_lt 8 (length xs)) (TooMany MergedStates (length xs))
        ∷ refuse_found Unknown (first_unknown site.dag xs)
        ∷ refuse_found (λ (x : StateId). Below x ceiling) (first_below site.dag ceiling xs)
        ∷ refuse_found (λ (pair : StateId × StateId). Comparable pair.0 pair.1) (comparable_pair site.dag xs)
        ∷ [])
        (merging site n (in_order xs)) (merging there n (in_order xs)) refl

    merge-of-unseen : (ceiling : StateId) (of : MergeOf) →
        Unseen ks Seen (merge_at site n ceiling (states_to_merge site of)) (merge_at there n ceiling (states_to_merge there of))
    merge-of-unseen ceiling AllLeaves = merge-unseen ceiling (leaves site.dag)
    merge-of-unseen ceiling (These xs) = merge-unseen ceiling xs

    fork-points-unseen : (t : Txn) → Unseen ks Seen (fork_points_of site t) (fork_points_of there t)
    fork-points-unseen (Single t) = λ f g. refl
    fork-points-unseen (Merge t) = λ f g. refl

    conflicts-unseen : (t : Txn) (after : List ℕ) → Unseen ks Seen (conflicts_of site t after) (conflicts_of there t after)
    conflicts-unseen (Single t) after = λ f g. refl
    conflicts-unseen (Merge t) after = λ f g. refl

    -- ===== Commits

    below-unseen : (parents : List StateId) (writes : List KeyWrite) (refusals : List (Option Reply)) →
        Unseen ks Seen (commit_below site n parents writes refusals) (commit_below there n parents writes refusals)
    below-unseen parents writes refusals =
        let r = next_record site parents writes in
        let over = refuse (own_count site == 4294967295) SeqEnd in
        append-unseen ks Seen site refusals (over ∷ growth_refusals site r) (over ∷ growth_refusals there r)
        (committed site n r) (committed there n r)
        (append-unseen ks Seen site (over ∷ []) (growth_refusals site r) (growth_refusals there r) (committed site n r) (committed there n r)
        (growth-unseen ks Seen site r (committed site n r) (committed there n r) (grows r) (λ f g. refl)))

    single-unseen : (t : SingleTxn) (writes : List KeyWrite) (flags : EndFlags) (k : ℕ) → t.writes ≡ writes →
        Unseen ks Seen (commit_single site n t flags k) (commit_single there n t flags k)
    single-unseen t [] flags k e =
        subst (λ (ws : List KeyWrite). Unseen ks Seen (commit_single site n (record t { writes = ws }) flags k)
        (commit_single there n (record t { writes = ws }) flags k))
        (sym e) (λ f g. refl)
    single-unseen t (w ∷ ws) flags k e =
        let x = landing site.dag (guarded flags t.reads (keys_of (w ∷ ws))) t.state in
        let number_of_children = length (children site.dag x) in
        subst (λ (vs : List KeyWrite). Unseen ks Seen (commit_single site n (record t { writes = vs }) flags k)
        (commit_single there n (record t { writes = vs }) flags k))
        (sym e)
        (below-unseen (x ∷ []) (w ∷ ws) (refuse_found (λ (c : ℕ). Branches c x number_of_children) (broken flags k number_of_children) ∷ []))

    commit-unseen : (t : Txn) (flags : EndFlags) (k : ℕ) → Unseen ks Seen (commit site n t flags k) (commit there n t flags k)
    commit-unseen (Single t) flags k = single-unseen t t.writes flags k refl
    commit-unseen (Merge t) flags k =
        below-unseen t.states t.writes (refuse (not (flags.0 == 0)) WrongMode ∷ refuse_found OpenConflict (open_conflict site.dag t.states t.writes) ∷ [])

  -- ===== Floors

  raise_to-unseen : (x : StateId) (refusals : List (Option Reply)) → Unseen ks Seen (raise_to site x refusals) (raise_to there x refusals)
  raise_to-unseen x refusals = refusing (refusals ++ refuse ((own_floor site).number == 4294967295) SeqEnd ∷ []) (raised site x) (raised there x) refl

  raise-unseen : (x : StateId) → Unseen ks Seen (raise site x) (raise there x)
  raise-unseen x =
      let floor = (own_floor site).state in
      raise_to-unseen x
      (refuse (not (is_known site.dag x)) (Unknown x)
      ∷ refuse (not (is_above site.dag floor x)) (FloorBack floor)
      ∷ refuse_found (λ (s : ℕ × Session). Held s.0 s.1.ceiling) (holding_session site.dag site.sessions x)
      ∷ [])

  -- ===== Exchange

  pull-unseen : (counts : List ℕ) → Unseen ks Seen (pull site counts) (pull there counts)
  pull-unseen counts =
      refusing (refuse (not (length counts == site.limits.sites)) (BadSite (length counts)) ∷ [])
      (site, BatchIs (batch_for site counts)) (there, BatchIs (batch_for site counts)) refl

  take-unseen : (r : Record) → Unseen ks Seen (take_record site r) (take_record there r)
  take-unseen r =
      append-unseen ks Seen site (judgements site r) (growth_refusals site r) (growth_refusals there r)
      (with_record r site, Applied) (with_record r there, Applied)
      (growth-unseen ks Seen site r (with_record r site, Applied) (with_record r there, Applied) (grows r) (λ f g. refl))

  held-there : (early : Bool) (r : Record) (s : Site) → (if early then with_held r (other ks s) else other ks s) ≡ other ks (if early then with_held r s else s)
  held-there true r s = refl
  held-there false r s = refl

  record-unseen : (r : Record) → Unseen ks Seen (deliver_record site r) (deliver_record there r)
  record-unseen r f g =
      let taken = take_record site r in
      subst (λ (answer : Answer). ◌≡◌ {A = Answer} (if says_early answer.1 then with_held r answer.0 else answer.0, answer.1)
      (other ks (if says_early taken.1 then with_held r taken.0 else taken.0), taken.1))
      (sym (take-unseen r f g)) (ap (λ (s : Site). (s, taken.1)) (held-there (says_early taken.1) r taken.0))

  consent-unseen : (c : Consent) → Unseen ks Seen (deliver_consent site c) (deliver_consent there c)
  consent-unseen c =
      let floors = with_floor site.floors c.site (record { state = c.floor; number = c.number; stated = c.count }) in
      refusing (consent_judgements site c) (record site { floors = floors }, Applied) (record there { floors = floors }, Applied) refl

  deliver-unseen : (item : Item) → Unseen ks Seen (deliver site item) (deliver there item)
  deliver-unseen (State r) = record-unseen r
  deliver-unseen (Promise c) = consent-unseen c

  settle-unseen : Unseen ks Seen (settle site) (settle there)
  settle-unseen =
      given-unseen ks Seen (first_fit_record site) (site, Done) (there, Done) (settle_record site) (settle_record there) (λ f g. refl)
      (λ place. growth-unseen ks Seen site place.1 (with_settled place site, Applied) (with_settled place there, Applied)
      (grows place.1) (λ f g. refl))

  -- ===== The step

  module _ (n : ℕ) where
    pub step-unseen : (q : Request) → IsFalse (asks_of_kept q) → Unseen ks Seen (step site n q) (step there n q)
    step-unseen (Open follow) h = open-unseen n follow
    step-unseen (BeginAt b) h =
        by-no-txn ks Seen site n (λ s. begin_at site n s.ceiling (begin_state site.dag s.last b))
        (λ s. begin_at there n s.ceiling (begin_state site.dag s.last b))
        (λ s. begin-unseen n s.ceiling (begin_state site.dag s.last b))
    step-unseen (Get k) h = by-txn ks Seen site n (λ s t. get site n t k) (λ s t. get there n t k) (λ s t. get-unseen n t k)
    step-unseen (Put k v) h =
        by-txn ks Seen site n (λ s t. set_key site n t k (Value v)) (λ s t. set_key there n t k (Value v)) (λ s t. set-unseen n t k (Value v))
    step-unseen (Delete k) h =
        by-txn ks Seen site n (λ s t. set_key site n t k Deletion) (λ s t. set_key there n t k Deletion) (λ s t. set-unseen n t k Deletion)
    step-unseen (Commit flags k) h =
        by-txn ks Seen site n (λ s t. commit site n t flags k) (λ s t. commit there n t flags k) (λ s t. commit-unseen n t flags k)
    step-unseen Abort h = by-txn ks Seen site n (λ s t. (without_txn_of n site, Done)) (λ s t. (without_txn_of n there, Done)) (λ s t f g. refl)
    step-unseen (BeginMerge of) h =
        by-no-txn ks Seen site n (λ s. merge_at site n s.ceiling (states_to_merge site of)) (λ s. merge_at there n s.ceiling (states_to_merge there of))
        (λ s. merge-of-unseen n s.ceiling of)
    step-unseen ForkPoints h = by-txn ks Seen site n (λ s t. fork_points_of site t) (λ s t. fork_points_of there t) (λ s t. fork-points-unseen n t)
    step-unseen (Conflicts after) h =
        by-txn ks Seen site n (λ s t. conflicts_of site t after) (λ s t. conflicts_of there t after) (λ s t. conflicts-unseen n t after)
    step-unseen (GetFor k x) h = by-txn ks Seen site n (λ s t. get_for site t k x) (λ s t. get_for there t k x) (λ s t. get_for-unseen n t k x)
    step-unseen (Ceiling x) h = by-no-txn ks Seen site n (λ s. set_ceiling site n s x) (λ s. set_ceiling there n s x) (λ s. ceiling-unseen n s x)
    step-unseen (Raise x) h = raise-unseen x
    step-unseen RaiseAuto h = raise_to-unseen (automatic_floor site.dag (own_floor site).state site.sessions) []
    step-unseen Leaves h = λ f g. refl
    step-unseen (Pull counts) h = pull-unseen counts
    step-unseen (Deliver item) h = deliver-unseen item
    step-unseen Settle h = settle-unseen
    step-unseen Close h = by-session ks Seen site n (λ s. close_session site n) (λ s. close_session there n) (λ s f g. refl)
    step-unseen (Tidy count) h = absurd (cc)
    step-unseen Stat h = absurd (cc)
    step-unseen (Show x) h = absurd (cc)
