-- No reply says that memory is wanting, and none is a refusal of a program around the site.
use Rattle.std.proofs.Common.{◌≡◌, ℕ, Bool, true, false, ◌==◌, List, [], ◌∷◌, length, Option, Some, None, IsFalse, refl, sym, ap, ◌∙◌, ◌≢◌, get_or, arith}
use Rattle.std.proofs.Common.{if◌then◌else◌}
use Rattle.std.specs.Option.{option_map, option_map_or}
use Rattle.tardis_base.specs.declared.ids.StateId.{StateId}
use Rattle.tardis_base.specs.declared.records.Write.{Write}
use Rattle.tardis_base.specs.declared.records.Record.{Record}
use Rattle.tardis_base.specs.declared.records.Write.TheVariants.{Put as Value, Delete as Deletion}
use Rattle.tardis_base.specs.declared.records.Consent.{Consent}
use Rattle.tardis_base.specs.declared.records.Item.{Item}
use Rattle.tardis_base.specs.declared.records.Item.TheVariants.{State, Promise}
use Rattle.tardis_base.specs.declared.requests.Request.{Request}
use Rattle.tardis_base.specs.declared.requests.Request.TheVariants.{Open, Begin, Get, Put, Delete, Commit, Abort, BeginMerge, ForkPoints, Conflicts, GetFor}
use Rattle.tardis_base.specs.declared.requests.Request.TheVariants.{Ceiling, Raise, RaiseAuto, Tidy, Stat, Show, Leaves, Pull, Deliver, Settle, Close}
use Rattle.tardis_base.specs.declared.requests.EndFlags.{EndFlags}
use Rattle.tardis_base.specs.declared.replies.Refusal.{Refusal}
use Rattle.tardis_base.specs.declared.replies.Refusal.TheVariants.{Malformed, NotOpen, NoTxn, TxnOpen, WrongMode, Full, PathFull}
use Rattle.tardis_base.specs.declared.replies.Reply.TheVariants.{Opened, Begun, Merging, Value as ValueIs, Deleted, Absent, Done, Committed, Ended, States}
use Rattle.tardis_base.specs.declared.replies.Reply.TheVariants.{Keys, Raised, Tidied, Stat as Statistics, Shown, Batch as BatchIs, Applied, Known, Early}
use Rattle.tardis_base.specs.declared.replies.Reply.TheVariants.{Closed, Refused, NoMemory}
use Rattle.tardis_base.specs.declared.replies.Reply.{Reply}
use Rattle.tardis_base.specs.Ids.{root}
use Rattle.tardis_base.specs.Keys.{KeyWrite, write_of}
use Rattle.tardis_base.specs.Plain.{no_memory}
use Rattle.wire_talk.specs.Spellings.{reply_spelling}
use Rattle.wire_talk.specs.RequestReadings.{request_of}
use Rattle.plain_dag.specs.Collection.{kept_states}
use Rattle.plain_dag.specs.Floors.{with_floor}
use Rattle.plain_dag.specs.Growth.{growth_refusal}
use Rattle.plain_dag.specs.Paths.{long_path}
use Rattle.plain_site.specs.Site.{Site, Txn, Single, Merge, writes_of}
use Rattle.plain_site.specs.Answers.{refused, shown, found}
use Rattle.plain_site.specs.Sessions.{begin, set_ceiling, close_session}
use Rattle.plain_site.specs.Reads.{get, get_for, read_in, set_key}
use Rattle.plain_site.specs.Merges.{begin_merge, fork_points_of, conflicts_of}
use Rattle.plain_site.specs.Commits.{with_record, without_txn_of, growth_refusals, abort, commit, commit_single}
use Rattle.plain_site.specs.Exchange.{judgements, take_record, consent_judgements, deliver, first_fit_record, settle_record, settle}
use Rattle.plain_site.specs.Step.{step, step_over_bytes}
use Rattle.plain_site.specs.Laws.{NeverWantsMemory, RefusesAsASite, is_of_programs}
use Rattle.plain_site.proofs.RepliesFrame.{AllGood, Replies, RefusesWell, good-none, good-found, good-reply, unless-good, unless-both-good, given-good}
use Rattle.plain_site.proofs.RepliesFrame.{by-session, by-txn, by-no-txn, good_replies}

-- the reply isn't that memory is wanting, and no refusal of a program around the site
pub record IsSure (reply : Reply) : Type 0 where
  pub not_wanting : reply ≢ NoMemory
  pub of_a_site : (refusal : Refusal) → reply ≡ Refused refusal → IsFalse (is_of_programs refusal)

-- the reply is one of the two
abbrev is_others : Reply → Bool
is_others NoMemory = true
is_others (Refused refusal) = is_of_programs refusal
is_others _ = false

says-other : (reply : Reply) → is_others reply ≡ false → IsSure reply
says-other reply e = record {
  not_wanting = λ is. let t : is_others reply ≡ true = ap is_others is in absurd (cc);
  of_a_site = λ refusal is. sym (ap is_others is) ∙ e;
}

refuses-surely : (site : Site) (refusal : Refusal) → IsFalse (is_of_programs refusal) → Replies IsSure (refused site refusal)
refuses-surely site refusal e = record { reply = says-other (Refused refusal) e }

refuse-surely : (site : Site) → RefusesWell site (Replies IsSure)
refuse-surely site = record {
  not_open = refuses-surely site NotOpen refl;
  no_txn = refuses-surely site NoTxn refl;
  txn_open =
      refuses-surely site TxnOpen refl;
}

-- why a site doesn't grow is its own
growth-is-own : (full : Bool) (kept : ℕ) (path : Option (StateId × ℕ)) (refusal : Refusal) →
    (if full then Some (Full kept) else option_map (λ (p : StateId × ℕ). PathFull p.0 p.1) path) ≡ Some refusal → IsFalse (is_of_programs refusal)
growth-is-own true kept path refusal e = sym (ap (λ (o : Option Refusal). option_map_or is_of_programs o false) e)
growth-is-own false kept None refusal e = sym (ap (λ (o : Option Refusal). option_map_or is_of_programs o false) e)
growth-is-own false kept (Some p) refusal e = sym (ap (λ (o : Option Refusal). option_map_or is_of_programs o false) e)

growth-surely : (site : Site) (r : Record) → AllGood IsSure (growth_refusals site r)
growth-surely site r =
    let kept = length (kept_states site.dag site.collected) in
    good-found (λ f. f) (growth_refusal site.limits site.collected site.dag r) []
    (λ f e. says-other (Refused f) (growth-is-own (kept == site.limits.max_kept) kept (long_path (r ∷ site.dag) site.collected site.limits.max_path) f e))
    good-none

-- ===== Each request

shown-other : (x : StateId) (w : Write) → is_others (shown x w) ≡ false
shown-other x (Value value) = refl
shown-other x Deletion = refl

found-other : (o : Option (StateId × Write)) → is_others (found o) ≡ false
found-other None = refl
found-other (Some version) = shown-other version.0 version.1

ruleset surely = (growth-surely, good_replies, says-other, shown-other, found-other)

surely-read : (site : Site) (n : ℕ) (t : Txn) (k : List ℕ) → Replies IsSure (read_in site n t k)
surely-read site n (Single t) k = search surely
surely-read site n (Merge t) k = search surely

surely-get : (site : Site) (n : ℕ) (t : Txn) (k : List ℕ) → Replies IsSure (get site n t k)
surely-get site n t k =
    given-good (Replies IsSure) (write_of k (writes_of t)) (read_in site n t k) (λ w. (site, shown root w)) (λ e. surely-read site n t k)
    (λ w e. good-reply site (shown root w) (says-other (shown root w) (shown-other root w)))

surely-get-for : (site : Site) (t : Txn) (k : List ℕ) (x : StateId) → Replies IsSure (get_for site t k x)
surely-get-for site (Single t) k x = refuses-surely site WrongMode refl
surely-get-for site (Merge t) k x = search surely

surely-fork-points : (site : Site) (t : Txn) → Replies IsSure (fork_points_of site t)
surely-fork-points site (Single t) = refuses-surely site WrongMode refl
surely-fork-points site (Merge t) = search surely

surely-conflicts : (site : Site) (t : Txn) (after : List ℕ) → Replies IsSure (conflicts_of site t after)
surely-conflicts site (Single t) after = refuses-surely site WrongMode refl
surely-conflicts site (Merge t) after = search surely

surely-commit-of : (site : Site) (n : ℕ) (ws : List KeyWrite) (reads : List (List ℕ)) (x : StateId) (flags : EndFlags) (k : ℕ) →
    Replies IsSure (commit_single site n (record { state = x; reads = reads; writes = ws }) flags k)
surely-commit-of site n [] reads x flags k = good-reply (without_txn_of n site) (Ended x) (says-other (Ended x) refl)
surely-commit-of site n (w ∷ ws) reads x flags k = search surely

surely-commit : (site : Site) (n : ℕ) (t : Txn) (flags : EndFlags) (k : ℕ) → Replies IsSure (commit site n t flags k)
surely-commit site n (Single t) flags k = surely-commit-of site n t.writes t.reads t.state flags k
surely-commit site n (Merge t) flags k = search surely depth 10

-- the site with the consent
abbrev taken : Site → Consent → Site
taken site c = record site { floors = with_floor site.floors c.site (record { state = c.floor; number = c.number; stated = c.count }) }

surely-take : (site : Site) (r : Record) → Replies IsSure (take_record site r)
surely-take site r =
    unless-both-good site (judgements site r) (growth_refusals site r) (with_record r site, Applied) (search surely depth 16) (λ none.
    search surely)

surely-deliver : (site : Site) (item : Item) → Replies IsSure (deliver site item)
surely-deliver site (State r) = record { reply = (surely-take site r).reply }
surely-deliver site (Promise c) =
    unless-good site (consent_judgements site c) (taken site c, Applied) (search surely depth 12)
    (λ none. good-reply (taken site c) Applied (says-other Applied refl))

surely-settle : (site : Site) → Replies IsSure (settle site)
surely-settle site =
    given-good (Replies IsSure) (first_fit_record site) (site, Done) (settle_record site) (λ e. good-reply site Done (says-other Done refl))
    (λ found e. search surely)

surely-step : (site : Site) (n : ℕ) (q : Request) → Replies IsSure (step site n q)
surely-step site n (Open follow) = search surely
surely-step site n (Begin b) = by-no-txn (refuse-surely site) n (λ s. begin site n s b) (λ s e. search surely)
surely-step site n (Get k) = by-txn (refuse-surely site) n (λ s t. get site n t k) (λ s t e d. surely-get site n t k)
surely-step site n (Put k v) = by-txn (refuse-surely site) n (λ s t. set_key site n t k (Value v)) (λ s t e d. search surely)
surely-step site n (Delete k) = by-txn (refuse-surely site) n (λ s t. set_key site n t k Deletion) (λ s t e d. search surely)
surely-step site n (Commit flags k) = by-txn (refuse-surely site) n (λ s t. commit site n t flags k) (λ s t e d. surely-commit site n t flags k)
surely-step site n Abort = by-txn (refuse-surely site) n (λ s t. abort site n) (λ s t e d. search surely)
surely-step site n (BeginMerge of) = by-no-txn (refuse-surely site) n (λ s. begin_merge site n s of) (λ s e. search surely depth 10)
surely-step site n ForkPoints = by-txn (refuse-surely site) n (λ s t. fork_points_of site t) (λ s t e d. surely-fork-points site t)
surely-step site n (Conflicts after) = by-txn (refuse-surely site) n (λ s t. conflicts_of site t after) (λ s t e d. surely-conflicts site t after)
surely-step site n (GetFor k x) = by-txn (refuse-surely site) n (λ s t. get_for site t k x) (λ s t e d. surely-get-for site t k x)
surely-step site n (Ceiling x) = by-no-txn (refuse-surely site) n (λ s. set_ceiling site n s x) (λ s e. search surely)
surely-step site n (Raise x) = search surely depth 10
surely-step site n RaiseAuto = search surely
surely-step site n (Tidy count) = search surely
surely-step site n Stat = search surely
surely-step site n (Show x) = search surely
surely-step site n Leaves = search surely
surely-step site n (Pull counts) = search surely
surely-step site n (Deliver item) = surely-deliver site item
surely-step site n Settle = surely-settle site
surely-step site n Close = by-session (refuse-surely site) n (λ s. close_session site n) (λ s e. search surely)

surely-bytes : (site : Site) (n : ℕ) (bytes : List ℕ) → Replies IsSure (step_over_bytes site (n, bytes))
surely-bytes site n bytes =
    given-good (Replies IsSure) (request_of bytes) (refused site Malformed) (step site n) (λ e. refuses-surely site Malformed refl)
    (λ q e. surely-step site n q)

-- ===== Spellings

-- bytes that begin with another code are others
differs : {P : Type 0} {bytes more : List ℕ} → bytes ≡ more → get_or bytes 0 0 ≢ get_or more 0 0 → P
differs e n = absurd (n (ap (λ bs. get_or bs 0 0) e))

-- only that reply is spelled so
spelled-other : (reply : Reply) → reply ≢ NoMemory → reply_spelling reply ≢ no_memory
spelled-other (Opened ceiling) n e = differs e (omega arith)
spelled-other (Begun state) n e = differs e (omega arith)
spelled-other (Merging states) n e = differs e (omega arith)
spelled-other (ValueIs writer value) n e = differs e (omega arith)
spelled-other (Deleted writer) n e = differs e (omega arith)
spelled-other Absent n e = differs e (omega arith)
spelled-other Done n e = differs e (omega arith)
spelled-other (Committed id parents) n e = differs e (omega arith)
spelled-other (Ended state) n e = differs e (omega arith)
spelled-other (States total first) n e = differs e (omega arith)
spelled-other (Keys total first) n e = differs e (omega arith)
spelled-other (Raised floor number) n e = differs e (omega arith)
spelled-other (Tidied collected) n e = differs e (omega arith)
spelled-other (Statistics known kept leaves sessions sites) n e = differs e (omega arith)
spelled-other (Shown arrival children path) n e = differs e (omega arith)
spelled-other (BatchIs batch) n e = differs e (omega arith)
spelled-other Applied n e = differs e (omega arith)
spelled-other Known n e = differs e (omega arith)
spelled-other (Early have) n e = differs e (omega arith)
spelled-other Closed n e = differs e (omega arith)
spelled-other (Refused refusal) n e = differs e (omega arith)
spelled-other NoMemory n e = n refl

pub never-wants-memory : NeverWantsMemory
never-wants-memory = record {
  reply = λ site n q. (surely-step site n q).reply.not_wanting;
  spelled = λ site event. spelled-other (step_over_bytes site event).1 (surely-bytes site event.0 event.1).reply.not_wanting;
}

pub refuses-as-a-site : RefusesAsASite
refuses-as-a-site = record {
  requests = λ site n q. (surely-step site n q).reply.of_a_site;
  bytes = λ site event. (surely-bytes site event.0 event.1).reply.of_a_site;
}
