-- A refusal, Known and a consent's Early leave the site as it was; a record's Early changes the waiting room alone.
use Rattle.std.proofs.Common.{◌≡◌, ℕ, Bool, true, false, List, [], ◌∷◌, ◌++◌, Option, Some, None, IsTrue, refl, sym, ap, subst, ◌∙◌}
use Rattle.std.specs.Option.{option_map_or}
use Rattle.std.proofs.lemmas.Bool.{both_ways, cond_both, cond-true}
use Rattle.tardis_base.specs.declared.ids.StateId.{StateId}
use Rattle.tardis_base.specs.declared.records.Record.{Record}
use Rattle.tardis_base.specs.declared.records.Write.{Write}
use Rattle.tardis_base.specs.declared.records.Write.TheVariants.{Put as Value, Delete as Deletion}
use Rattle.tardis_base.specs.declared.records.Item.{Item}
use Rattle.tardis_base.specs.declared.records.Item.TheVariants.{State, Promise}
use Rattle.tardis_base.specs.declared.requests.Request.{Request}
use Rattle.tardis_base.specs.declared.requests.Request.TheVariants.{Open, Begin, Get, Put, Delete, Commit, Abort, BeginMerge, ForkPoints, Conflicts, GetFor}
use Rattle.tardis_base.specs.declared.requests.Request.TheVariants.{Ceiling, Raise, RaiseAuto, Tidy, Stat, Show, Leaves, Pull, Deliver, Settle, Close}
use Rattle.tardis_base.specs.declared.requests.EndFlags.{EndFlags}
use Rattle.tardis_base.specs.declared.replies.Refusal.TheVariants.{Malformed, NotOpen, NoTxn, TxnOpen, WrongMode}
use Rattle.tardis_base.specs.declared.replies.Reply.TheVariants.{Opened, Begun, Merging, Value as ValueIs, Deleted, Absent, Done, Committed, Ended, States}
use Rattle.tardis_base.specs.declared.replies.Reply.TheVariants.{Keys, Raised, Tidied, Stat as Statistics, Shown, Batch as BatchIs, Applied, Known, Early}
use Rattle.tardis_base.specs.declared.replies.Reply.TheVariants.{Closed, Refused, NoMemory}
use Rattle.tardis_base.specs.declared.replies.Reply.{Reply}
use Rattle.tardis_base.specs.Ids.{root}
use Rattle.tardis_base.specs.Keys.{KeyWrite, write_of}
use Rattle.wire_talk.specs.RequestReadings.{request_of}
use Rattle.plain_site.specs.Site.{Site, Txn, Single, Merge, writes_of}
use Rattle.plain_site.specs.Answers.{Answer, refused, unless, given, shown, found, says_early, delivers_record, says_unchanged}
use Rattle.plain_site.specs.Sessions.{begin, set_ceiling, close_session}
use Rattle.plain_site.specs.Reads.{get, get_for, read_in, set_key}
use Rattle.plain_site.specs.Merges.{begin_merge, fork_points_of, conflicts_of}
use Rattle.plain_site.specs.Commits.{with_record, growth_refusals, without_txn_of, abort, commit, commit_single}
use Rattle.plain_site.specs.WaitingRoom.{hold}
use Rattle.plain_site.specs.Exchange.{judgements, take_record, with_held, deliver_record, deliver, first_fit_record, settle_record, settle}
use Rattle.plain_site.specs.Step.{step, step_over_bytes}
use Rattle.plain_site.specs.Laws.{RefusalsLeaveSite, bytes_deliver_record, RefusedBytesLeaveSite, EarlyRecordsWait, EarlyBytesWait}
use Rattle.plain_site.proofs.SoundDeliveries.{taken-stays}
use Rattle.plain_site.proofs.RepliesFrame.{RefusesWell, given-good, by-session, by-txn, by-no-txn}

-- where the reply says so, the site is as it was
pub record KeepsSite (of_record : Bool) (site : Site) (answer : Answer) : Type 0 where
  pub where_said : IsTrue (says_unchanged of_record answer.1) → answer.0 ≡ site

-- the site is the same, whatever is replied
same_site : {of_record : Bool} (site : Site) (reply : Reply) → KeepsSite of_record site (site, reply)
same_site site reply = record { where_said = λ said. refl }

-- the reply says something else
says_else : {of_record : Bool} (site next : Site) (reply : Reply) → says_unchanged of_record reply ≡ false → KeepsSite of_record site (next, reply)
says_else site next reply e = record { where_said = λ said. absurd (cc) }

keeps-unless : {of_record : Bool} (site : Site) (replies : List (Option Reply)) (answer : Answer) → KeepsSite of_record site answer →
    KeepsSite of_record site (unless site replies answer)
keeps-unless site [] answer h = h
keeps-unless site (None ∷ more) answer h = keeps-unless site more answer h
keeps-unless site (Some reply ∷ more) answer h = same_site site reply

refuses-keep : (site : Site) → RefusesWell site (KeepsSite false site)
refuses-keep site = record { not_open = same_site site (Refused NotOpen); no_txn = same_site site (Refused NoTxn); txn_open = same_site site (Refused TxnOpen) }

shown-says-else : (x : StateId) (w : Write) → says_unchanged false (shown x w) ≡ false
shown-says-else x (Value value) = refl
shown-says-else x Deletion = refl

found-says-else : (o : Option (StateId × Write)) → says_unchanged false (found o) ≡ false
found-says-else None = refl
found-says-else (Some version) = shown-says-else version.0 version.1

keeps-read : (site : Site) (n : ℕ) (t : Txn) (k : List ℕ) → KeepsSite false site (read_in site n t k)
keeps-read site n (Single t) k = search (keeps-unless, says_else, found-says-else)
keeps-read site n (Merge t) k = search (keeps-unless, same_site)

keeps-get : (site : Site) (n : ℕ) (t : Txn) (k : List ℕ) → KeepsSite false site (get site n t k)
keeps-get site n t k = given-good (KeepsSite false site) (write_of k (writes_of t)) (read_in site n t k) (λ w. (site, shown root w))
    (λ e. keeps-read site n t k) (λ w e. same_site site (shown root w))

keeps-get-for : (site : Site) (t : Txn) (k : List ℕ) (x : StateId) → KeepsSite false site (get_for site t k x)
keeps-get-for site (Single t) k x = same_site site (Refused WrongMode)
keeps-get-for site (Merge t) k x = search (keeps-unless, same_site)

keeps-fork-points : (site : Site) (t : Txn) → KeepsSite false site (fork_points_of site t)
keeps-fork-points site (Single t) = same_site site (Refused WrongMode)
keeps-fork-points site (Merge t) = search same_site

keeps-conflicts : (site : Site) (t : Txn) (after : List ℕ) → KeepsSite false site (conflicts_of site t after)
keeps-conflicts site (Single t) after = same_site site (Refused WrongMode)
keeps-conflicts site (Merge t) after = search same_site

keeps-commit-of : (site : Site) (n : ℕ) (ws : List KeyWrite) (reads : List (List ℕ)) (x : StateId) (flags : EndFlags) (k : ℕ) →
    KeepsSite false site (commit_single site n (record { state = x; reads = reads; writes = ws }) flags k)
keeps-commit-of site n [] reads x flags k = says_else site (without_txn_of n site) (Ended x) refl
keeps-commit-of site n (w ∷ ws) reads x flags k = search (keeps-unless, says_else)

keeps-commit : (site : Site) (n : ℕ) (t : Txn) (flags : EndFlags) (k : ℕ) → KeepsSite false site (commit site n t flags k)
keeps-commit site n (Single t) flags k = keeps-commit-of site n t.writes t.reads t.state flags k
keeps-commit site n (Merge t) flags k = search (keeps-unless, says_else)

keeps-settle : (site : Site) → KeepsSite false site (settle site)
keeps-settle site =
    given-good (KeepsSite false site) (first_fit_record site) (site, Done) (settle_record site) (λ e. same_site site Done)
    (λ found e. search (keeps-unless, says_else))

keeps-take : {of_record : Bool} (site : Site) (r : Record) → KeepsSite of_record site (take_record site r)
keeps-take site r = keeps-unless site (judgements site r ++ growth_refusals site r) (with_record r site, Applied)
    (says_else site (with_record r site) Applied refl)

-- what says that a record changed nothing isn't Early
not-early : (reply : Reply) → IsTrue (says_unchanged true reply) → IsTrue (says_early reply) → ⊥
not-early (Early have) said early = both_ways true (sym said) refl
not-early (Refused refusal) said early = both_ways true (sym early) refl
not-early Known said early = both_ways true (sym early) refl
not-early (Opened ceiling) said early = both_ways true (sym early) refl
not-early (Begun state) said early = both_ways true (sym early) refl
not-early (Merging states) said early = both_ways true (sym early) refl
not-early (ValueIs writer value) said early = both_ways true (sym early) refl
not-early (Deleted writer) said early = both_ways true (sym early) refl
not-early Absent said early = both_ways true (sym early) refl
not-early Done said early = both_ways true (sym early) refl
not-early (Committed id parents) said early = both_ways true (sym early) refl
not-early (Ended state) said early = both_ways true (sym early) refl
not-early (States total first) said early = both_ways true (sym early) refl
not-early (Keys total first) said early = both_ways true (sym early) refl
not-early (Raised floor number) said early = both_ways true (sym early) refl
not-early (Tidied collected) said early = both_ways true (sym early) refl
not-early (Statistics known kept leaves sessions sites) said early = both_ways true (sym early) refl
not-early (Shown arrival children path) said early = both_ways true (sym early) refl
not-early (BatchIs batch) said early = both_ways true (sym early) refl
not-early Applied said early = both_ways true (sym early) refl
not-early Closed said early = both_ways true (sym early) refl
not-early NoMemory said early = both_ways true (sym early) refl

keeps-deliver : (site : Site) (item : Item) → KeepsSite (delivers_record (Deliver item)) site (deliver site item)
keeps-deliver site (State r) =
    let answer : Answer = take_record site r in
    record {
      where_said = λ said.
          cond_both (says_early answer.1) (with_held r answer.0) answer.0 (λ (next : Site). next ≡ site) (λ early. absurd (not-early answer.1 said early))
          (λ late. (keeps-take {of_record = true} site r).where_said said);
    }
keeps-deliver site (Promise c) = search (keeps-unless, says_else)

keeps-step : (site : Site) (n : ℕ) (q : Request) → KeepsSite (delivers_record q) site (step site n q)
keeps-step site n (Open follow) = search (keeps-unless, says_else)
keeps-step site n (Begin b) = by-no-txn (refuses-keep site) n (λ s. begin site n s b) (λ s e. search (keeps-unless, says_else))
keeps-step site n (Get k) = by-txn (refuses-keep site) n (λ s t. get site n t k) (λ s t e d. keeps-get site n t k)
keeps-step site n (Put k v) = by-txn (refuses-keep site) n (λ s t. set_key site n t k (Value v)) (λ s t e d. search (keeps-unless, says_else))
keeps-step site n (Delete k) = by-txn (refuses-keep site) n (λ s t. set_key site n t k Deletion) (λ s t e d. search (keeps-unless, says_else))
keeps-step site n (Commit flags k) = by-txn (refuses-keep site) n (λ s t. commit site n t flags k) (λ s t e d. keeps-commit site n t flags k)
keeps-step site n Abort = by-txn (refuses-keep site) n (λ s t. abort site n) (λ s t e d. search says_else)
keeps-step site n (BeginMerge of) = by-no-txn (refuses-keep site) n (λ s. begin_merge site n s of) (λ s e. search (keeps-unless, says_else))
keeps-step site n ForkPoints = by-txn (refuses-keep site) n (λ s t. fork_points_of site t) (λ s t e d. keeps-fork-points site t)
keeps-step site n (Conflicts after) = by-txn (refuses-keep site) n (λ s t. conflicts_of site t after) (λ s t e d. keeps-conflicts site t after)
keeps-step site n (GetFor k x) = by-txn (refuses-keep site) n (λ s t. get_for site t k x) (λ s t e d. keeps-get-for site t k x)
keeps-step site n (Ceiling x) = by-no-txn (refuses-keep site) n (λ s. set_ceiling site n s x) (λ s e. search (keeps-unless, says_else))
keeps-step site n (Raise x) = search (keeps-unless, says_else)
keeps-step site n RaiseAuto = search (keeps-unless, says_else)
keeps-step site n (Tidy count) = search says_else
keeps-step site n Stat = search same_site
keeps-step site n (Show x) = search (keeps-unless, same_site)
keeps-step site n Leaves = search same_site
keeps-step site n (Pull counts) = search (keeps-unless, same_site)
keeps-step site n (Deliver item) = keeps-deliver site item
keeps-step site n Settle = keeps-settle site
keeps-step site n Close = by-session (refuses-keep site) n (λ s. close_session site n) (λ s e. search says_else)

keeps-bytes : (site : Site) (n : ℕ) (bytes : List ℕ) → KeepsSite (bytes_deliver_record bytes) site (step_over_bytes site (n, bytes))
keeps-bytes site n bytes =
    given-good (KeepsSite of_record site) (request_of bytes) (refused site Malformed) (step site n) (λ e. same_site site (Refused Malformed)) asked
  where
    of_record : Bool
    of_record = bytes_deliver_record bytes

    asked : (q : Request) → request_of bytes ≡ Some q → KeepsSite of_record site (step site n q)
    asked q e =
        subst (λ (b : Bool). KeepsSite b site (step site n q)) (sym (ap (λ (o : Option Request). option_map_or delivers_record o false) e))
        (keeps-step site n q)

-- a refusal, Known and a consent's Early leave the site as it was
pub refusals-leave-site : RefusalsLeaveSite
refusals-leave-site site n q = (keeps-step site n q).where_said

-- the same over bytes
pub refused-bytes-leave-site : RefusedBytesLeaveSite
refused-bytes-leave-site site event = (keeps-bytes site event.0 event.1).where_said

-- ===== A record's Early

held-where-early : (site : Site) (r : Record) (have : ℕ) → (deliver_record site r).1 ≡ Early have → (deliver_record site r).0 ≡ with_held r site
held-where-early site r have e =
    let answer : Answer = take_record site r in
    let early : IsTrue (says_early answer.1) = ap says_early e in
    cond-true (says_early answer.1) (with_held r answer.0) answer.0 early ∙ ap (with_held r) (taken-stays site r early)

-- a record's Early changes the waiting room alone
pub early-records-wait : EarlyRecordsWait
early-records-wait site n r have e = held-where-early site r have e

given-some : {A : Type 0} (o : Option A) (answer : Answer) (use_of : A → Answer) (a : A) → o ≡ Some a → given o answer use_of ≡ use_of a
given-some {A} o answer use_of a e = ap (λ (p : Option A). given p answer use_of) e

-- the same over bytes
early-bytes : (site : Site) (n : ℕ) (bytes : List ℕ) (r : Record) (have : ℕ) → request_of bytes ≡ Some (Deliver (State r)) →
    (step_over_bytes site (n, bytes)).1 ≡ Early have → (step_over_bytes site (n, bytes)).0 ≡ record site { waiting = hold r site.waiting }
early-bytes site n bytes r have is e =
    let stepped = given-some (request_of bytes) (refused site Malformed) (step site n) (Deliver (State r)) is in
    ap (λ (answer : Answer). answer.0) stepped ∙ early-records-wait site n r have (sym (ap (λ (answer : Answer). answer.1) stepped) ∙ e)

pub early-bytes-wait : EarlyBytesWait
early-bytes-wait site event r have is e = early-bytes site event.0 event.1 r have is e
