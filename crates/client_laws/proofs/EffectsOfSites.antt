-- What the other requests do, and so what each request does.
use Rattle.std.proofs.Common.{◌≡◌, ℕ, Bool, true, not, List, [], ◌∷◌, ◌++◌, length, Option, Some, None, is_some, IsTrue, IsFalse, inl, inr, refl, sym, ap}
use Rattle.std.proofs.Common.{subst}
use Rattle.std.proofs.lemmas.Bool.{both_ways, cond_both}
use Rattle.std.specs.Prelude.{◌==◌, ◌||◌, nat_lt, nat_le, find}
use Rattle.tardis_base.specs.declared.ids.StateId.{StateId}
use Rattle.tardis_base.specs.declared.records.Record.{Record}
use Rattle.tardis_base.specs.declared.records.Consent.{Consent}
use Rattle.tardis_base.specs.declared.records.Item.{Item}
use Rattle.tardis_base.specs.declared.records.Item.TheVariants.{State, Promise}
use Rattle.tardis_base.specs.declared.records.Write.TheVariants.{Put as Value, Delete as Deletion}
use Rattle.tardis_base.specs.declared.requests.Request.{Request}
use Rattle.tardis_base.specs.declared.requests.Request.TheVariants.{Open, Begin, Get, Put, Delete, Commit, Abort, BeginMerge, ForkPoints, Conflicts, GetFor}
use Rattle.tardis_base.specs.declared.requests.Request.TheVariants.{Ceiling, Raise, RaiseAuto, Tidy, Stat, Show, Leaves, Pull, Deliver, Settle, Close}
use Rattle.tardis_base.specs.declared.replies.Refusal.TheVariants.{AlreadyOpen, SessionsFull, Unknown, CeilingBack, WrongMode, NotRead, FloorBack, Held}
use Rattle.tardis_base.specs.declared.replies.Refusal.TheVariants.{SeqEnd, Collected, BadSite, OwnItem, ClosedParent, Comparable, OpenConflict}
use Rattle.tardis_base.specs.declared.replies.Reply.{Reply}
use Rattle.tardis_base.specs.declared.replies.Reply.TheVariants.{Opened, Done, Applied, Known, Early, Shown, Batch as BatchIs}
use Rattle.tardis_base.specs.Ids.{is_among}
use Rattle.plain_dag.specs.States.{is_known, arrival, children, count_of_site}
use Rattle.plain_dag.specs.Above.{is_above, comparable_pair}
use Rattle.plain_dag.specs.Conflicts.{open_conflict}
use Rattle.plain_dag.specs.Growth.{growth_refusal}
use Rattle.plain_dag.specs.Paths.{fork_path}
use Rattle.plain_dag.specs.Writers.{read}
use Rattle.plain_dag.specs.Begin.{begin_state}
use Rattle.plain_dag.specs.Entries.{entry_of, with_entry, changed}
use Rattle.plain_dag.specs.Floors.{Session, floor_of, is_closed, with_floor, opening_session, with_ceiling, holding_session, automatic_floor}
use Rattle.plain_site.specs.Site.{Site, Txn, Single, Merge, own_floor}
use Rattle.plain_site.specs.Answers.{Answer, says_early, when, refuse, refuse_found, found}
use Rattle.plain_site.specs.Sessions.{open_session, close_session, begin, set_ceiling}
use Rattle.plain_site.specs.Reads.{get, set_key, get_for}
use Rattle.plain_site.specs.Commits.{with_record, growth_refusals, abort, commit}
use Rattle.plain_site.specs.Merges.{states_to_merge, begin_merge, fork_points_of, conflicts_of}
use Rattle.plain_site.specs.FloorSteps.{raised, raise_to, raise, tidy}
use Rattle.plain_site.specs.Shows.{show}
use Rattle.plain_site.specs.Exchange.{is_early, judgements, take_record, with_held, deliver_record, consent_judgements, deliver, pull, batch_for}
use Rattle.plain_site.specs.Exchange.{first_fit_record, with_settled, settle_record, settle}
use Rattle.plain_site.specs.Step.{step}
use Rattle.plain_site.specs.ClientRuns.{Told, having_settled, retold, regrown, resession}
use Rattle.plain_site.proofs.SoundDeliveries.{taken-stays}
use Rattle.plain_site.proofs.RepliesFrame.{given-good, by-session, by-txn, by-no-txn}
use Rattle.plain_site.proofs.SoundEntries.{entry-changed, entry-changed_other, entry-with_entry, entry-with_entry_other, entry-without_entry}
use Rattle.plain_site.proofs.SoundEntries.{entry-without_entry_other}
use Rattle.client_laws.proofs.Tellings.{Tells}
use Rattle.client_laws.proofs.Effects.{bare, Does, same-books, does-nothing, does-refused, refuses-does, OnlyRefuse, refuse-only, found-only, both-only}
use Rattle.client_laws.proofs.Effects.{unless-any, unless-does, AreNoTaking, when-no-taking, refuse-no-taking, found-no-taking, both-no-taking}
use Rattle.client_laws.proofs.Effects.{unless-no-taking}
use Rattle.client_laws.proofs.EffectsOfTxns.{begin-does, merge-does, get-does, set-does, abort-does, commit-does}

-- the judgements of a record take none
pub judged-no-taking : (site : Site) (r : Record) → AreNoTaking (judgements site r)
judged-no-taking site r =
    let count = count_of_site site.dag r.id.site in
    let conflict = open_conflict site.dag r.parents r.writes in
    let pair = comparable_pair site.dag r.parents in
    let closed = find (is_closed site.dag site.floors) r.parents in
    let seventh : List (Option Reply) = refuse_found OpenConflict conflict ∷ [] in
    let sixth : List (Option Reply) = refuse_found (λ (p : StateId × StateId). Comparable p.0 p.1) pair ∷ seventh in
    let fifth : List (Option Reply) = refuse_found ClosedParent closed ∷ sixth in
    let fourth : List (Option Reply) = when (is_early site r) (Early count) ∷ fifth in
    let third : List (Option Reply) = refuse (r.id.site == site.own) (OwnItem r.id.site r.id.sequence) ∷ fourth in
    let second : List (Option Reply) = when (nat_le r.id.sequence count) Known ∷ third in
    refuse-no-taking (nat_lt site.limits.sites r.id.site) (BadSite r.id.site) second
    (when-no-taking (nat_le r.id.sequence count) Known third (λ e. absurd (cc))
    (refuse-no-taking (r.id.site == site.own) (OwnItem r.id.site r.id.sequence) fourth
    (when-no-taking (is_early site r) (Early count) fifth (λ e. absurd (cc))
    (found-no-taking ClosedParent closed sixth
    (found-no-taking (λ (p : StateId × StateId). Comparable p.0 p.1) pair seventh (found-no-taking OpenConflict conflict [] tt))))))

module _ (site : Site) (n : ℕ) where
  -- ===== Sessions

  open-does : (follow : Bool) → Does site n (Open follow) (open_session site n follow)
  open-does follow =
      let number_open = length site.sessions in
      let ceiling = (own_floor site).state in
      let s = opening_session follow ceiling in
      let there = is_some (entry_of n site.sessions) in
      let full = number_open == site.limits.max_sessions in
      unless-does site n (Open follow) (refuse there AlreadyOpen ∷ refuse full (SessionsFull number_open) ∷ [])
      (record site { sessions = with_entry n s site.sessions }, Opened ceiling)
      (refuse-only there AlreadyOpen (refuse full (SessionsFull number_open) ∷ []) (refuse-only full (SessionsFull number_open) [] tt))
      (record {
        grows = inl refl;
        shared = λ seen h. refl;
        other_txns = λ m differ. refl;
        other_sessions = λ m differ. entry-with_entry_other n m s site.sessions differ;
        txn = λ seen h. h;
        session = entry-with_entry n s site.sessions;
      })

  close-does : Does site n Close (close_session site n)
  close-does = record {
    grows = inl refl;
    shared = λ seen h. refl;
    other_txns = λ m differ. entry-without_entry_other n m site.txns differ;
    other_sessions = λ m differ. entry-without_entry_other n m site.sessions differ;
    txn = λ seen h. subst (λ (o : Option Txn). Tells site.dag o None) (sym (entry-without_entry n site.txns)) tt;
    session = entry-without_entry n site.sessions;
  }

  ceiling-does : (s : Session) (x : StateId) → Does site n (Ceiling x) (set_ceiling site n s x)
  ceiling-does s x =
      let unknown = not (is_known site.dag x) in
      let back = not (is_above site.dag s.ceiling x) in
      unless-does site n (Ceiling x) (refuse unknown (Unknown x) ∷ refuse back (CeilingBack s.ceiling) ∷ [])
      (record site { sessions = changed n (with_ceiling x) site.sessions }, Done)
      (refuse-only unknown (Unknown x) (refuse back (CeilingBack s.ceiling) ∷ []) (refuse-only back (CeilingBack s.ceiling) [] tt))
      (record {
        grows = inl refl;
        shared = λ seen h. refl;
        other_txns = λ m differ. refl;
        other_sessions = λ m differ. entry-changed_other n m (with_ceiling x) site.sessions differ;
        txn = λ seen h. h;
        session = entry-changed n (with_ceiling x) site.sessions;
      })

  -- ===== Floors and collection

  raise_to-does : (q : Request) (x : StateId) (refusals : List (Option Reply)) → OnlyRefuse refusals →
      ((reply : Reply) (seen : Option Told) → retold q reply seen ≡ seen) →
      ((reply : Reply) (rs : List Record) (s : Option Session) → resession rs q reply s ≡ s) →
      ((seen : Option Told) → bare (raised site x).0 ≡ regrown q (raised site x).1 seen (bare site)) →
      Does site n q (raise_to site x refusals)
  raise_to-does q x refusals only tells keeps moves =
      let next = raised site x in
      let over = (own_floor site).number == 4294967295 in
      unless-does site n q (refusals ++ refuse over SeqEnd ∷ []) next (both-only refusals (refuse over SeqEnd ∷ []) only (refuse-only over SeqEnd [] tt))
      (same-books site n q next.0 next.1 (inl refl) moves refl refl (tells next.1) (keeps next.1))

  -- ===== Exchange

  -- a record isn't taken where the reply isn't Applied, and doesn't wait where it isn't Early
  untaken : (r : Record) (reply : Reply) → (reply ≡ Applied → ⊥) → IsFalse (says_early reply) → (seen : Option Told) (s : Site) →
      regrown (Deliver (State r)) reply seen s ≡ s
  untaken r Applied other late seen s = absurd (other refl)
  untaken r (Early have) other late seen s = absurd (both_ways true late refl)
  untaken r reply other late seen s = refl

  held : (r : Record) (reply : Reply) → IsTrue (says_early reply) → (seen : Option Told) (s : Site) → regrown (Deliver (State r)) reply seen s ≡ with_held r s
  held r (Early have) early seen s = refl
  held r reply early seen s = absurd (cc)

  tells-nothing : (r : Record) (reply : Reply) → (reply ≡ Applied → ⊥) → IsFalse (says_early reply) → Does site n (Deliver (State r)) (site, reply)
  tells-nothing r reply other late = does-nothing site n (Deliver (State r)) reply (λ seen. refl) (λ rs s. refl) (untaken r reply other late)

  -- a record that isn't early
  take-does : (r : Record) → IsFalse (says_early (take_record site r).1) → Does site n (Deliver (State r)) (take_record site r)
  take-does r late =
      unless-no-taking (λ answer. IsFalse (says_early answer.1) → Does site n (Deliver (State r)) answer) site
      (judgements site r ++ growth_refusals site r) (with_record r site, Applied)
      (both-no-taking (judgements site r) (growth_refusals site r) (judged-no-taking site r)
      (found-no-taking (λ f. f) (growth_refusal site.limits site.collected site.dag r) [] tt)) (tells-nothing r)
      (λ never. same-books site n (Deliver (State r)) (with_record r site) Applied (inr (r, refl)) (λ seen. refl) refl refl (λ seen. refl) (λ rs s. refl)) late

  record-does : (r : Record) → Does site n (Deliver (State r)) (deliver_record site r)
  record-does r =
      let answer : Answer = take_record site r in
      cond_both (says_early answer.1) (with_held r answer.0) answer.0 (λ (next : Site). Does site n (Deliver (State r)) (next, answer.1))
      (λ early.
      subst (λ (next : Site). Does site n (Deliver (State r)) (with_held r next, answer.1)) (sym (taken-stays site r early))
      (same-books site n (Deliver (State r)) (with_held r site) answer.1 (inl refl) (λ seen. sym (held r answer.1 early seen (bare site))) refl refl
      (λ seen. refl) (λ rs s. refl)))
      (λ late. take-does r late)

  -- a consent isn't taken where the reply isn't Applied
  untaken-consent : (c : Consent) (reply : Reply) → (reply ≡ Applied → ⊥) → (seen : Option Told) (s : Site) → regrown (Deliver (Promise c)) reply seen s ≡ s
  untaken-consent c Applied other seen s = absurd (other refl)
  untaken-consent c reply other seen s = refl

  consent-no-taking : (c : Consent) → AreNoTaking (consent_judgements site c)
  consent-no-taking c =
      let f = floor_of site.floors c.site in
      let count = count_of_site site.dag c.site in
      let ahead = nat_lt count c.count || not (is_known site.dag c.floor) in
      let back = not (is_above site.dag f.state c.floor) in
      let fifth : List (Option Reply) = refuse back (FloorBack f.state) ∷ [] in
      let fourth : List (Option Reply) = when ahead (Early count) ∷ fifth in
      let third : List (Option Reply) = refuse (c.site == site.own) (OwnItem c.site c.number) ∷ fourth in
      let second : List (Option Reply) = when (nat_le c.number f.number) Known ∷ third in
      refuse-no-taking (nat_lt site.limits.sites c.site) (BadSite c.site) second
      (when-no-taking (nat_le c.number f.number) Known third (λ e. absurd (cc))
      (refuse-no-taking (c.site == site.own) (OwnItem c.site c.number) fourth
      (when-no-taking ahead (Early count) fifth (λ e. absurd (cc)) (refuse-no-taking back (FloorBack f.state) [] tt))))

  deliver-does : (item : Item) → Does site n (Deliver item) (deliver site item)
  deliver-does (State r) = record-does r
  deliver-does (Promise c) =
      let next = record site { floors = with_floor site.floors c.site (record { state = c.floor; number = c.number; stated = c.count }) } in
      unless-no-taking (Does site n (Deliver (Promise c))) site (consent_judgements site c) (next, Applied) (consent-no-taking c)
      (λ reply other. does-nothing site n (Deliver (Promise c)) reply (λ seen. refl) (λ rs s. refl) (untaken-consent c reply other))
      (same-books site n (Deliver (Promise c)) next Applied (inl refl) (λ seen. refl) refl refl (λ seen. refl) (λ rs s. refl))

  -- what is found in the room is what lines tell of
  settled-told : (found : ℕ × Record) → first_fit_record site ≡ Some found → bare (with_settled found site) ≡ having_settled (bare site)
  settled-told found is = sym (ap (λ (o : Option (ℕ × Record)). elim o as (λ u. Site) [ None ↦ bare site | Some f ↦ with_settled f (bare site) ]) is)

  settle-does : Does site n Settle (settle site)
  settle-does =
      given-good (Does site n Settle) (first_fit_record site) (site, Done) (settle_record site)
      (λ none. does-nothing site n Settle Done (λ seen. refl) (λ rs s. refl) (λ seen s. refl))
      (λ found is.
      unless-does site n Settle (growth_refusals site found.1) (with_settled found site, Applied)
      (found-only (λ f. f) (growth_refusal site.limits site.collected site.dag found.1) [] tt)
      (same-books site n Settle (with_settled found site) Applied (inr (found.1, refl)) (λ seen. settled-told found is) refl refl (λ seen. refl)
      (λ rs s. refl)))

  -- ===== What only shows

  shows : (q : Request) (reply : Reply) → ((r : Reply) (seen : Option Told) → retold q r seen ≡ seen) →
      ((r : Reply) (rs : List Record) (s : Option Session) → resession rs q r s ≡ s) →
      ((r : Reply) (seen : Option Told) (s : Site) → regrown q r seen s ≡ s) → Does site n q (site, reply)
  shows q reply tells keeps records = does-nothing site n q reply (tells reply) (keeps reply) (records reply)

  fork-points-does : (t : Txn) → Does site n ForkPoints (fork_points_of site t)
  fork-points-does (Single t) = does-refused site n ForkPoints WrongMode
  fork-points-does (Merge t) = shows ForkPoints (fork_points_of site (Merge t)).1 (λ r seen. refl) (λ r rs s. refl) (λ r seen rs. refl)

  conflicts-does : (t : Txn) (after : List ℕ) → Does site n (Conflicts after) (conflicts_of site t after)
  conflicts-does (Single t) after = does-refused site n (Conflicts after) WrongMode
  conflicts-does (Merge t) after = shows (Conflicts after) (conflicts_of site (Merge t) after).1 (λ r seen. refl) (λ r rs s. refl) (λ r seen rs. refl)

  get-for-does : (t : Txn) (k : List ℕ) (x : StateId) → Does site n (GetFor k x) (get_for site t k x)
  get-for-does (Single t) k x = does-refused site n (GetFor k x) WrongMode
  get-for-does (Merge t) k x =
      let reply = found (read site.dag k x) in
      unless-any (Does site n (GetFor k x)) site (refuse (not (is_among x t.states)) (NotRead x) ∷ []) (site, reply)
      (λ r. shows (GetFor k x) r (λ q seen. refl) (λ q rs s. refl) (λ q seen rs. refl))
      (shows (GetFor k x) reply (λ q seen. refl) (λ q rs s. refl) (λ q seen rs. refl))

  show-does : (x : StateId) → Does site n (Show x) (show site x)
  show-does x =
      let reply = Shown (arrival site.dag x) (children site.dag x) (fork_path site.dag site.collected x) in
      unless-any (Does site n (Show x)) site (refuse (not (is_known site.dag x)) (Unknown x) ∷ refuse (is_among x site.collected) (Collected x) ∷ [])
      (site, reply)
      (λ r. shows (Show x) r (λ q seen. refl) (λ q rs s. refl) (λ q seen rs. refl)) (shows (Show x) reply (λ q seen. refl) (λ q rs s. refl) (λ q seen rs. refl))

  pull-does : (counts : List ℕ) → Does site n (Pull counts) (pull site counts)
  pull-does counts =
      let reply = BatchIs (batch_for site counts) in
      unless-any (Does site n (Pull counts)) site (refuse (not (length counts == site.limits.sites)) (BadSite (length counts)) ∷ []) (site, reply)
      (λ r. shows (Pull counts) r (λ q seen. refl) (λ q rs s. refl) (λ q seen rs. refl))
      (shows (Pull counts) reply (λ q seen. refl) (λ q rs s. refl) (λ q seen rs. refl))

  raise-does : (x : StateId) → Does site n (Raise x) (raise site x)
  raise-does x =
      let floor = (own_floor site).state in
      let unknown = not (is_known site.dag x) in
      let back = not (is_above site.dag floor x) in
      let holding = holding_session site.dag site.sessions x in
      let third : List (Option Reply) = refuse_found (λ (s : ℕ × Session). Held s.0 s.1.ceiling) holding ∷ [] in
      let second : List (Option Reply) = refuse back (FloorBack floor) ∷ third in
      raise_to-does (Raise x) x (refuse unknown (Unknown x) ∷ second)
      (refuse-only unknown (Unknown x) second (refuse-only back (FloorBack floor) third (found-only (λ (s : ℕ × Session). Held s.0 s.1.ceiling) holding [] tt)))
      (λ r seen. refl) (λ r rs s. refl) (λ seen. refl)

  -- ===== Each request

  pub step-does : (q : Request) → Does site n q (step site n q)
  step-does (Open follow) = open-does follow
  step-does (Begin b) = by-no-txn (refuses-does site n (Begin b)) n (λ s. begin site n s b)
      (λ s e. begin-does site n b s.ceiling (begin_state site.dag s.last b))
  step-does (Get k) = by-txn (refuses-does site n (Get k)) n (λ s t. get site n t k) (λ s t e d. get-does site n t k d)
  step-does (Put k v) =
      by-txn (refuses-does site n (Put k v)) n (λ s t. set_key site n t k (Value v))
      (λ s t e d. set-does site n (Put k v) t k (Value v) (λ seen. refl) (λ rs s. refl) (λ seen rs. refl) d)
  step-does (Delete k) =
      by-txn (refuses-does site n (Delete k)) n (λ s t. set_key site n t k Deletion)
      (λ s t e d. set-does site n (Delete k) t k Deletion (λ seen. refl) (λ rs s. refl) (λ seen rs. refl) d)
  step-does (Commit flags k) =
      by-txn (refuses-does site n (Commit flags k)) n (λ s t. commit site n t flags k) (λ s t e d. commit-does site n flags k t d)
  step-does Abort = by-txn (refuses-does site n Abort) n (λ s t. abort site n) (λ s t e d. abort-does site n)
  step-does (BeginMerge of) =
      by-no-txn (refuses-does site n (BeginMerge of)) n (λ s. begin_merge site n s of) (λ s e. merge-does site n of s.ceiling (states_to_merge site of))
  step-does ForkPoints = by-txn (refuses-does site n ForkPoints) n (λ s t. fork_points_of site t) (λ s t e d. fork-points-does t)
  step-does (Conflicts after) =
      by-txn (refuses-does site n (Conflicts after)) n (λ s t. conflicts_of site t after) (λ s t e d. conflicts-does t after)
  step-does (GetFor k x) = by-txn (refuses-does site n (GetFor k x)) n (λ s t. get_for site t k x) (λ s t e d. get-for-does t k x)
  step-does (Ceiling x) = by-no-txn (refuses-does site n (Ceiling x)) n (λ s. set_ceiling site n s x) (λ s e. ceiling-does s x)
  step-does (Raise x) = raise-does x
  step-does RaiseAuto =
      raise_to-does RaiseAuto (automatic_floor site.dag (own_floor site).state site.sessions) [] tt (λ r seen. refl) (λ r rs s. refl) (λ seen. refl)
  step-does (Tidy count) =
      let next = tidy site count in
      same-books site n (Tidy count) next.0 next.1 (inl refl) (λ seen. refl) refl refl (λ seen. refl) (λ rs s. refl)
  step-does Stat = shows Stat (step site n Stat).1 (λ r seen. refl) (λ r rs s. refl) (λ r seen rs. refl)
  step-does (Show x) = show-does x
  step-does Leaves = shows Leaves (step site n Leaves).1 (λ r seen. refl) (λ r rs s. refl) (λ r seen rs. refl)
  step-does (Pull counts) = pull-does counts
  step-does (Deliver item) = deliver-does item
  step-does Settle = settle-does
  step-does Close = by-session (refuses-does site n Close) n (λ s. close_session site n) (λ s e. close-does)
