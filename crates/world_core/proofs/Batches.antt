-- Only a Pull is answered by a batch, and it leaves the site.
use Rattle.std.proofs.Common.{◌≡◌, ℕ, Bool, true, false, not, ◌==◌, List, [], ◌∷◌, Option, Some, None, length, refl}
use Rattle.std.specs.Option.{option_map_or}
use Rattle.tardis_base.specs.declared.ids.StateId.{StateId}
use Rattle.tardis_base.specs.declared.records.Write.{Write}
use Rattle.tardis_base.specs.declared.records.Record.{Record}
use Rattle.tardis_base.specs.declared.records.Write.TheVariants.{Put as Value, Delete as Deletion}
use Rattle.tardis_base.specs.declared.records.Consent.{Consent}
use Rattle.tardis_base.specs.declared.records.Item.{Item}
use Rattle.tardis_base.specs.declared.records.Item.TheVariants.{State, Promise}
use Rattle.tardis_base.specs.declared.requests.Request.{Request}
use Rattle.tardis_base.specs.declared.requests.Request.TheVariants.{Open, Begin, Get, Put, Delete, Commit, Abort, BeginMerge, ForkPoints, Conflicts, GetFor}
use Rattle.tardis_base.specs.declared.requests.Request.TheVariants.{Ceiling, Raise, RaiseAuto, Tidy, Stat, Show, Leaves, Pull, Deliver, Settle, Close}
use Rattle.tardis_base.specs.declared.requests.EndFlags.{EndFlags}
use Rattle.tardis_base.specs.declared.replies.Refusal.{Refusal}
use Rattle.tardis_base.specs.declared.replies.Refusal.TheVariants.{Malformed, NotOpen, NoTxn, TxnOpen, WrongMode, BadSite}
use Rattle.tardis_base.specs.declared.replies.Reply.TheVariants.{Done, Ended, Batch as BatchIs, Applied, Refused}
use Rattle.tardis_base.specs.declared.replies.Reply.{Reply}
use Rattle.tardis_base.specs.Ids.{root}
use Rattle.tardis_base.specs.Keys.{KeyWrite, write_of}
use Rattle.wire_talk.specs.RequestReadings.{request_of}
use Rattle.plain_dag.specs.Floors.{with_floor}
use Rattle.plain_site.specs.Site.{Site, Txn, Single, Merge, writes_of}
use Rattle.plain_site.specs.Answers.{Answer, refused, refuse, unless, given, shown, found}
use Rattle.plain_site.specs.Sessions.{begin, set_ceiling, close_session}
use Rattle.plain_site.specs.Reads.{get, get_for, read_in, set_key}
use Rattle.plain_site.specs.Merges.{begin_merge, fork_points_of, conflicts_of}
use Rattle.plain_site.specs.Commits.{with_record, without_txn_of, growth_refusals, abort, commit, commit_single}
use Rattle.plain_site.specs.Exchange.{judgements, take_record, consent_judgements, deliver, first_fit_record, settle_record, settle, pull, batch_for}
use Rattle.plain_site.specs.Step.{step, step_over_bytes, is_sure}
use Rattle.world_core.specs.Gives.{is_batch_reply}
use Rattle.plain_site.proofs.RepliesFrame.{Replies, RefusesWell, good-reply, unless-good, unless-both-good, given-good, by-session, by-txn, by-no-txn}
use Rattle.plain_site.proofs.RepliesFrame.{good_replies}

-- the reply is none
pub record IsOther (reply : Reply) : Type 0 where
  pub no_batch : is_batch_reply reply ≡ false

says-other : (reply : Reply) → is_batch_reply reply ≡ false → IsOther reply
says-other reply e = record { no_batch = e }

refuses : (refusal : Refusal) → IsOther (Refused refusal)
refuses refusal = says-other (Refused refusal) refl

refuses-other : (site : Site) (refusal : Refusal) → Replies IsOther (refused site refusal)
refuses-other site refusal = record { reply = refuses refusal }

refuse-other : (site : Site) → RefusesWell site (Replies IsOther)
refuse-other site = record { not_open = refuses-other site NotOpen; no_txn = refuses-other site NoTxn; txn_open = refuses-other site TxnOpen }

-- ===== Each request but Pull

shown-other : (x : StateId) (w : Write) → is_batch_reply (shown x w) ≡ false
shown-other x (Value value) = refl
shown-other x Deletion = refl

found-other : (o : Option (StateId × Write)) → is_batch_reply (found o) ≡ false
found-other None = refl
found-other (Some version) = shown-other version.0 version.1

ruleset others = (good_replies, refuses, says-other, shown-other, found-other)

other-read : (site : Site) (n : ℕ) (t : Txn) (k : List ℕ) → Replies IsOther (read_in site n t k)
other-read site n (Single t) k = search others
other-read site n (Merge t) k = search others

other-get : (site : Site) (n : ℕ) (t : Txn) (k : List ℕ) → Replies IsOther (get site n t k)
other-get site n t k =
    given-good (Replies IsOther) (write_of k (writes_of t)) (read_in site n t k) (λ w. (site, shown root w)) (λ e. other-read site n t k)
    (λ w e. good-reply site (shown root w) (says-other (shown root w) (shown-other root w)))

other-get-for : (site : Site) (t : Txn) (k : List ℕ) (x : StateId) → Replies IsOther (get_for site t k x)
other-get-for site (Single t) k x = refuses-other site WrongMode
other-get-for site (Merge t) k x = search others

other-fork-points : (site : Site) (t : Txn) → Replies IsOther (fork_points_of site t)
other-fork-points site (Single t) = refuses-other site WrongMode
other-fork-points site (Merge t) = search others

other-conflicts : (site : Site) (t : Txn) (after : List ℕ) → Replies IsOther (conflicts_of site t after)
other-conflicts site (Single t) after = refuses-other site WrongMode
other-conflicts site (Merge t) after = search others

other-commit-of : (site : Site) (n : ℕ) (ws : List KeyWrite) (reads : List (List ℕ)) (x : StateId) (flags : EndFlags) (k : ℕ) →
    Replies IsOther (commit_single site n (record { state = x; reads = reads; writes = ws }) flags k)
other-commit-of site n [] reads x flags k = good-reply (without_txn_of n site) (Ended x) (says-other (Ended x) refl)
other-commit-of site n (w ∷ ws) reads x flags k = search others

other-commit : (site : Site) (n : ℕ) (t : Txn) (flags : EndFlags) (k : ℕ) → Replies IsOther (commit site n t flags k)
other-commit site n (Single t) flags k = other-commit-of site n t.writes t.reads t.state flags k
other-commit site n (Merge t) flags k = search others depth 10

-- the site with the consent
abbrev taken : Site → Consent → Site
taken site c = record site { floors = with_floor site.floors c.site (record { state = c.floor; number = c.number; stated = c.count }) }

other-take : (site : Site) (r : Record) → Replies IsOther (take_record site r)
other-take site r =
    unless-both-good site (judgements site r) (growth_refusals site r) (with_record r site, Applied) (search others depth 16) (λ none.
    search others)

other-deliver : (site : Site) (item : Item) → Replies IsOther (deliver site item)
other-deliver site (State r) = record { reply = (other-take site r).reply }
other-deliver site (Promise c) =
    unless-good site (consent_judgements site c) (taken site c, Applied) (search others depth 12)
    (λ none. good-reply (taken site c) Applied (says-other Applied refl))

other-settle : (site : Site) → Replies IsOther (settle site)
other-settle site =
    given-good (Replies IsOther) (first_fit_record site) (site, Done) (settle_record site) (λ e. good-reply site Done (says-other Done refl))
    (λ found e. search others)

-- ===== Each request

-- an answer by a batch leaves the site, and the answer to a request that memory can't fail is none
pub record IsJudged (site : Site) (sure : Bool) (answer : Answer) : Type 0 where
  pub leaves : is_batch_reply answer.1 ≡ true → answer.0 ≡ site
  pub other : sure ≡ true → is_batch_reply answer.1 ≡ false

other : (site : Site) (sure : Bool) (answer : Answer) → Replies IsOther answer → IsJudged site sure answer
other site sure answer h = let o = h.reply.no_batch in record { leaves = λ e. absurd (cc); other = λ e. o }

refused-is : (site : Site) (sure : Bool) (refusal : Refusal) → IsJudged site sure (refused site refusal)
refused-is site sure refusal = record { leaves = λ e. refl; other = λ e. refl }

pull-is : (site : Site) (counts : List ℕ) → IsJudged site false (pull site counts)
pull-is site counts = by-test (not (length counts == site.limits.sites))
  where
    by-test : (test : Bool) → IsJudged site false (unless site (refuse test (BadSite (length counts)) ∷ []) (site, BatchIs (batch_for site counts)))
    by-test true = refused-is site false (BadSite (length counts))
    by-test false = record { leaves = λ e. refl; other = λ e. absurd (cc) }

judged-step : (site : Site) (n : ℕ) (q : Request) → IsJudged site (is_sure q) (step site n q)
judged-step site n (Open follow) = other site (is_sure (Open follow)) (step site n (Open follow)) (search others)
judged-step site n (Begin b) = other site (is_sure (Begin b)) (step site n (Begin b))
    (by-no-txn (refuse-other site) n (λ s. begin site n s b) (λ s e. search others))
judged-step site n (Get k) = other site (is_sure (Get k)) (step site n (Get k))
    (by-txn (refuse-other site) n (λ s t. get site n t k) (λ s t e d. other-get site n t k))
judged-step site n (Put k v) = other site (is_sure (Put k v)) (step site n (Put k v))
    (by-txn (refuse-other site) n (λ s t. set_key site n t k (Value v)) (λ s t e d. search others))
judged-step site n (Delete k) = other site (is_sure (Delete k)) (step site n (Delete k))
    (by-txn (refuse-other site) n (λ s t. set_key site n t k Deletion) (λ s t e d. search others))
judged-step site n (Commit flags k) = other site (is_sure (Commit flags k)) (step site n (Commit flags k))
    (by-txn (refuse-other site) n (λ s t. commit site n t flags k) (λ s t e d. other-commit site n t flags k))
judged-step site n Abort = other site (is_sure Abort) (step site n Abort) (by-txn (refuse-other site) n (λ s t. abort site n) (λ s t e d. search others))
judged-step site n (BeginMerge of) = other site (is_sure (BeginMerge of)) (step site n (BeginMerge of))
    (by-no-txn (refuse-other site) n (λ s. begin_merge site n s of) (λ s e. search others depth 10))
judged-step site n ForkPoints = other site (is_sure ForkPoints) (step site n ForkPoints)
    (by-txn (refuse-other site) n (λ s t. fork_points_of site t) (λ s t e d. other-fork-points site t))
judged-step site n (Conflicts after) = other site (is_sure (Conflicts after)) (step site n (Conflicts after))
    (by-txn (refuse-other site) n (λ s t. conflicts_of site t after) (λ s t e d. other-conflicts site t after))
judged-step site n (GetFor k x) = other site (is_sure (GetFor k x)) (step site n (GetFor k x))
    (by-txn (refuse-other site) n (λ s t. get_for site t k x) (λ s t e d. other-get-for site t k x))
judged-step site n (Ceiling x) = other site (is_sure (Ceiling x)) (step site n (Ceiling x))
    (by-no-txn (refuse-other site) n (λ s. set_ceiling site n s x) (λ s e. search others))
judged-step site n (Raise x) = other site (is_sure (Raise x)) (step site n (Raise x)) (search others depth 10)
judged-step site n RaiseAuto = other site (is_sure RaiseAuto) (step site n RaiseAuto) (search others)
judged-step site n (Tidy count) = other site (is_sure (Tidy count)) (step site n (Tidy count)) (search others)
judged-step site n Stat = other site (is_sure Stat) (step site n Stat) (search others)
judged-step site n (Show x) = other site (is_sure (Show x)) (step site n (Show x)) (search others)
judged-step site n Leaves = other site (is_sure Leaves) (step site n Leaves) (search others)
judged-step site n (Deliver item) = other site (is_sure (Deliver item)) (step site n (Deliver item)) (other-deliver site item)
judged-step site n Settle = other site (is_sure Settle) (step site n Settle) (other-settle site)
judged-step site n Close = other site (is_sure Close) (step site n Close) (by-session (refuse-other site) n (λ s. close_session site n) (λ s e. search others))
judged-step site n (Pull counts) = pull-is site counts

judged-given : (site : Site) (n : ℕ) (o : Option Request) → IsJudged site (option_map_or is_sure o false) (given o (refused site Malformed) (step site n))
judged-given site n None = refused-is site false Malformed
judged-given site n (Some q) = judged-step site n q

-- what is answered by a batch leaves the site, over bytes
pub judged : (site : Site) (n : ℕ) (bytes : List ℕ) → IsJudged site (option_map_or is_sure (request_of bytes) false) (step_over_bytes site (n, bytes))
judged site n bytes = judged-given site n (request_of bytes)
