-- A reply that is a batch is the site's own, as it is.
use Rattle.std.proofs.Common.{◌≡◌, ℕ, Bool, true, false, ◌==◌, List, [], ◌∷◌, length, Option, Some, None, refl, sym, ap}
use Rattle.tardis_base.specs.declared.ids.StateId.{StateId}
use Rattle.tardis_base.specs.declared.records.Write.{Write}
use Rattle.tardis_base.specs.declared.records.Record.{Record}
use Rattle.tardis_base.specs.declared.records.Write.TheVariants.{Put as Value, Delete as Deletion}
use Rattle.tardis_base.specs.declared.records.Consent.{Consent}
use Rattle.tardis_base.specs.declared.records.Item.{Item}
use Rattle.tardis_base.specs.declared.records.Item.TheVariants.{State, Promise}
use Rattle.tardis_base.specs.declared.requests.Request.{Request}
use Rattle.tardis_base.specs.declared.requests.Request.TheVariants.{Open, Begin, Get, Put, Delete, Commit, Abort, BeginMerge, ForkPoints, Conflicts, GetFor}
use Rattle.tardis_base.specs.declared.requests.Request.TheVariants.{Ceiling, Raise, RaiseAuto, Tidy, Stat, Show, Leaves, Pull, Deliver, Settle, Close}
use Rattle.tardis_base.specs.declared.requests.EndFlags.{EndFlags}
use Rattle.tardis_base.specs.declared.replies.Refusal.{Refusal}
use Rattle.tardis_base.specs.declared.replies.Refusal.TheVariants.{NotOpen, NoTxn, TxnOpen, WrongMode}
use Rattle.tardis_base.specs.declared.replies.Reply.TheVariants.{Done, Ended, Batch as BatchIs, Applied, Refused}
use Rattle.tardis_base.specs.declared.replies.Reply.{Reply}
use Rattle.tardis_base.specs.Ids.{root}
use Rattle.tardis_base.specs.Keys.{KeyWrite, write_of}
use Rattle.plain_dag.specs.Floors.{with_floor}
use Rattle.plain_dag.specs.Growth.{growth_refusal}
use Rattle.plain_site.specs.Site.{Site, Txn, Single, Merge, writes_of}
use Rattle.plain_site.specs.Answers.{refused, shown, found}
use Rattle.plain_site.specs.Sessions.{begin, set_ceiling, close_session}
use Rattle.plain_site.specs.Reads.{get, get_for, read_in, set_key}
use Rattle.plain_site.specs.Merges.{begin_merge, fork_points_of, conflicts_of}
use Rattle.plain_site.specs.Commits.{with_record, without_txn_of, growth_refusals, abort, commit, commit_single}
use Rattle.plain_site.specs.Exchange.{judgements, take_record, consent_judgements, deliver, first_fit_record, settle_record, settle}
use Rattle.plain_site.specs.Step.{step}
use Rattle.plain_site.proofs.RepliesFrame.{AllGood, Replies, RefusesWell, good-none, good-found, good-reply, unless-good, unless-both-good, given-good}
use Rattle.plain_site.proofs.RepliesFrame.{by-session, by-txn, by-no-txn, good_replies}
use Rattle.tardis_base.specs.declared.records.Batch.{Batch}
use Rattle.tardis_base.specs.declared.replies.Refusal.TheVariants.{BadSite}
use Rattle.std.specs.Prelude.{not}
use Rattle.plain_site.specs.Answers.{refuse}
use Rattle.plain_site.specs.Exchange.{batch_for}
use Rattle.plain_site.proofs.RepliesFrame.{good-when}

-- the batch is one that the site gives for some counts
abbrev pub IsBatchOf : Site → Batch → Type 0
IsBatchOf site b = (counts : List ℕ) × (b ≡ batch_for site counts)

-- if the reply is a batch, it is the site's own
pub record Gives (site : Site) (reply : Reply) : Type 0 where
  pub own : (b : Batch) → reply ≡ BatchIs b → IsBatchOf site b

abbrev says_batch : Reply → Bool
says_batch (BatchIs b) = true
says_batch _ = false

says-other : (site : Site) (reply : Reply) → says_batch reply ≡ false → Gives site reply
says-other site reply e = record { own = λ b is. let t : says_batch reply ≡ true = ap says_batch is in absurd (cc) }

same-batch : (a b : Batch) → BatchIs a ≡ BatchIs b → a ≡ b
same-batch a b e = ap (λ reply. batch_in a reply) e
  where
    batch_in : Batch → Reply → Batch
    batch_in c (BatchIs b) = b
    batch_in c _ = c

refuses-none : (site : Site) (refusal : Refusal) → Replies (Gives site) (refused site refusal)
refuses-none site refusal = record { reply = says-other site (Refused refusal) refl }

refuse-none : (site : Site) → RefusesWell site (Replies (Gives site))
refuse-none site = record { not_open = refuses-none site NotOpen; no_txn = refuses-none site NoTxn; txn_open = refuses-none site TxnOpen }

growth-none : (site : Site) (r : Record) → AllGood (Gives site) (growth_refusals site r)
growth-none site r =
    good-found (λ f. f) (growth_refusal site.limits site.collected site.dag r) [] (λ f e. says-other site (Refused f) refl) good-none

-- ===== Each request

shown-other : (x : StateId) (w : Write) → says_batch (shown x w) ≡ false
shown-other x (Value value) = refl
shown-other x Deletion = refl

found-other : (o : Option (StateId × Write)) → says_batch (found o) ≡ false
found-other None = refl
found-other (Some version) = shown-other version.0 version.1

ruleset giving = (growth-none, good_replies, says-other, shown-other, found-other)

none-read : (site : Site) (n : ℕ) (t : Txn) (k : List ℕ) → Replies (Gives site) (read_in site n t k)
none-read site n (Single t) k = search giving
none-read site n (Merge t) k = search giving

none-get : (site : Site) (n : ℕ) (t : Txn) (k : List ℕ) → Replies (Gives site) (get site n t k)
none-get site n t k =
    given-good (Replies (Gives site)) (write_of k (writes_of t)) (read_in site n t k) (λ w. (site, shown root w)) (λ e. none-read site n t k)
    (λ w e. good-reply site (shown root w) (says-other site (shown root w) (shown-other root w)))

none-get-for : (site : Site) (t : Txn) (k : List ℕ) (x : StateId) → Replies (Gives site) (get_for site t k x)
none-get-for site (Single t) k x = refuses-none site WrongMode
none-get-for site (Merge t) k x = search giving

none-fork-points : (site : Site) (t : Txn) → Replies (Gives site) (fork_points_of site t)
none-fork-points site (Single t) = refuses-none site WrongMode
none-fork-points site (Merge t) = search giving

none-conflicts : (site : Site) (t : Txn) (after : List ℕ) → Replies (Gives site) (conflicts_of site t after)
none-conflicts site (Single t) after = refuses-none site WrongMode
none-conflicts site (Merge t) after = search giving

none-commit-of : (site : Site) (n : ℕ) (ws : List KeyWrite) (reads : List (List ℕ)) (x : StateId) (flags : EndFlags) (k : ℕ) →
    Replies (Gives site) (commit_single site n (record { state = x; reads = reads; writes = ws }) flags k)
none-commit-of site n [] reads x flags k = good-reply (without_txn_of n site) (Ended x) (says-other site (Ended x) refl)
none-commit-of site n (w ∷ ws) reads x flags k = search giving

none-commit : (site : Site) (n : ℕ) (t : Txn) (flags : EndFlags) (k : ℕ) → Replies (Gives site) (commit site n t flags k)
none-commit site n (Single t) flags k = none-commit-of site n t.writes t.reads t.state flags k
none-commit site n (Merge t) flags k = search giving depth 10

-- the site with the consent
abbrev taken : Site → Consent → Site
taken site c = record site { floors = with_floor site.floors c.site (record { state = c.floor; number = c.number; stated = c.count }) }

none-take : (site : Site) (r : Record) → Replies (Gives site) (take_record site r)
none-take site r =
    unless-both-good site (judgements site r) (growth_refusals site r) (with_record r site, Applied) (search giving depth 16) (λ none.
    search giving)

none-deliver : (site : Site) (item : Item) → Replies (Gives site) (deliver site item)
none-deliver site (State r) = record { reply = (none-take site r).reply }
none-deliver site (Promise c) =
    unless-good site (consent_judgements site c) (taken site c, Applied) (search giving depth 12)
    (λ none. good-reply (taken site c) Applied (says-other site Applied refl))

none-settle : (site : Site) → Replies (Gives site) (settle site)
none-settle site =
    given-good (Replies (Gives site)) (first_fit_record site) (site, Done) (settle_record site) (λ e. good-reply site Done (says-other site Done refl))
    (λ found e. search giving)

pub gives-own-batch : (site : Site) (n : ℕ) (q : Request) → Replies (Gives site) (step site n q)
gives-own-batch site n (Open follow) = search giving
gives-own-batch site n (Begin b) = by-no-txn (refuse-none site) n (λ s. begin site n s b) (λ s e. search giving)
gives-own-batch site n (Get k) = by-txn (refuse-none site) n (λ s t. get site n t k) (λ s t e d. none-get site n t k)
gives-own-batch site n (Put k v) = by-txn (refuse-none site) n (λ s t. set_key site n t k (Value v)) (λ s t e d. search giving)
gives-own-batch site n (Delete k) = by-txn (refuse-none site) n (λ s t. set_key site n t k Deletion) (λ s t e d. search giving)
gives-own-batch site n (Commit flags k) = by-txn (refuse-none site) n (λ s t. commit site n t flags k) (λ s t e d. none-commit site n t flags k)
gives-own-batch site n Abort = by-txn (refuse-none site) n (λ s t. abort site n) (λ s t e d. search giving)
gives-own-batch site n (BeginMerge of) = by-no-txn (refuse-none site) n (λ s. begin_merge site n s of) (λ s e. search giving depth 10)
gives-own-batch site n ForkPoints = by-txn (refuse-none site) n (λ s t. fork_points_of site t) (λ s t e d. none-fork-points site t)
gives-own-batch site n (Conflicts after) = by-txn (refuse-none site) n (λ s t. conflicts_of site t after) (λ s t e d. none-conflicts site t after)
gives-own-batch site n (GetFor k x) = by-txn (refuse-none site) n (λ s t. get_for site t k x) (λ s t e d. none-get-for site t k x)
gives-own-batch site n (Ceiling x) = by-no-txn (refuse-none site) n (λ s. set_ceiling site n s x) (λ s e. search giving)
gives-own-batch site n (Raise x) = search giving depth 10
gives-own-batch site n RaiseAuto = search giving
gives-own-batch site n (Tidy count) = search giving
gives-own-batch site n Stat = search giving
gives-own-batch site n (Show x) = search giving
gives-own-batch site n Leaves = search giving
gives-own-batch site n (Pull counts) =
    unless-good site (refuse (not (length counts == site.limits.sites)) (BadSite (length counts)) ∷ []) (site, BatchIs (batch_for site counts))
    (good-when (not (length counts == site.limits.sites)) (Refused (BadSite (length counts))) [] (says-other site (Refused (BadSite (length counts))) refl)
    good-none)
    (λ none. record { reply = record { own = λ b e. (counts, sym (same-batch (batch_for site counts) b e)) } })
gives-own-batch site n (Deliver item) = none-deliver site item
gives-own-batch site n Settle = none-settle site
gives-own-batch site n Close = by-session (refuse-none site) n (λ s. close_session site n) (λ s e. search giving)
