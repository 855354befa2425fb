-- Each reply of a sound site is one that can be spelled, and fits a frame.
use Rattle.std.proofs.Common.{ℕ, IsTrue, refl}
use Rattle.tardis_base.specs.declared.records.Write.TheVariants.{Put as Value, Delete as Deletion}
use Rattle.tardis_base.specs.declared.requests.Request.{Request}
use Rattle.tardis_base.specs.declared.requests.Request.TheVariants.{Open, Begin as BeginAt, Get, Put, Delete, Commit, Abort, BeginMerge, ForkPoints}
use Rattle.tardis_base.specs.declared.requests.Request.TheVariants.{Conflicts, GetFor, Ceiling, Raise, RaiseAuto, Tidy, Stat, Show, Leaves, Pull, Deliver}
use Rattle.tardis_base.specs.declared.requests.Request.TheVariants.{Settle, Close}
use Rattle.tardis_base.specs.declared.replies.Reply.TheVariants.{Done}
use Rattle.tardis_base.specs.Valid.{is_id, is_key}
use Rattle.wire_talk.specs.Valid.{is_request}
use Rattle.plain_site.specs.Site.{Site}
use Rattle.plain_site.specs.Sessions.{begin, set_ceiling, close_session}
use Rattle.plain_site.specs.Reads.{get, set_key, get_for}
use Rattle.plain_site.specs.Commits.{without_txn_of, abort, commit}
use Rattle.plain_site.specs.Merges.{begin_merge, fork_points_of, conflicts_of}
use Rattle.plain_site.specs.Sound.{IsSound}
use Rattle.plain_site.specs.Step.{step}
use Rattle.plain_site.specs.Laws.{RepliesFit}
use Rattle.plain_site.proofs.RepliesLists.{second}
use Rattle.plain_site.proofs.RepliesLengths.{Fits, refuses-fit, reply-fits}
use Rattle.plain_site.proofs.RepliesFrame.{Replies, good-reply, by-session, by-txn, by-no-txn}
use Rattle.plain_site.proofs.RepliesSound.{IsRanged, sound-ranged}
use Rattle.plain_site.proofs.RepliesOfSessions.{open-fits, begin-fits, ceiling-fits, close-fits}
use Rattle.plain_site.proofs.RepliesOfReads.{txn-at, get-fits, set-fits, get-for-fits}
use Rattle.plain_site.proofs.RepliesOfCommits.{commit-fits}
use Rattle.plain_site.proofs.RepliesOfShows.{stat-fits, show-fits, leaves-fit}
use Rattle.plain_site.proofs.RepliesOfFloors.{raise-fits, raise-auto-fits, tidy-fits}
use Rattle.plain_site.proofs.RepliesOfMerges.{begin-merge-fits, fork-points-fit, conflicts-fit}
use Rattle.plain_site.proofs.RepliesOfExchange.{pull-fits, deliver-fits, settle-fits}

ranged-fits : (site : Site) (n : ℕ) (q : Request) → IsTrue (is_request q) → IsSound site → IsRanged site → Replies Fits (step site n q)
ranged-fits site n (Open follow) h sound ranged = open-fits site n follow ranged
ranged-fits site n (BeginAt at) h sound ranged = by-no-txn (refuses-fit site) n (λ s. begin site n s at)
    (λ s e. begin-fits site n s at ranged (ranged.sessions n s e) h)
ranged-fits site n (Get k) h sound ranged =
    by-txn (refuses-fit site) n (λ s t. get site n t k) (λ s t e d. get-fits site n t k ranged.stored (txn-at site n s t sound e d).shape h)
ranged-fits site n (Put k v) h sound ranged = by-txn (refuses-fit site) n (λ s t. set_key site n t k (Value v)) (λ s t e d. set-fits site n t k (Value v))
ranged-fits site n (Delete k) h sound ranged = by-txn (refuses-fit site) n (λ s t. set_key site n t k Deletion) (λ s t e d. set-fits site n t k Deletion)
ranged-fits site n (Commit flags k) h sound ranged =
    by-txn (refuses-fit site) n (λ s t. commit site n t flags k)
    (λ s t e d. commit-fits site n s.ceiling t flags k sound.dag ranged (txn-at site n s t sound e d))
ranged-fits site n Abort h sound ranged = by-txn (refuses-fit site) n (λ s t. abort site n)
    (λ s t e d. good-reply (without_txn_of n site) Done (reply-fits Done refl refl))
ranged-fits site n (BeginMerge of) h sound ranged =
    by-no-txn (refuses-fit site) n (λ s. begin_merge site n s of) (λ s e. begin-merge-fits site n s of sound ranged (ranged.sessions n s e) h)
ranged-fits site n ForkPoints h sound ranged =
    by-txn (refuses-fit site) n (λ s t. fork_points_of site t) (λ s t e d. fork-points-fit site n s t sound ranged e (txn-at site n s t sound e d))
ranged-fits site n (Conflicts after) h sound ranged = by-txn (refuses-fit site) n (λ s t. conflicts_of site t after)
    (λ s t e d. conflicts-fit site t after ranged)
ranged-fits site n (GetFor k x) h sound ranged =
    by-txn (refuses-fit site) n (λ s t. get_for site t k x) (λ s t e d. get-for-fits site t k x ranged.stored (second (is_key k) (is_id x) h))
ranged-fits site n (Ceiling x) h sound ranged = by-no-txn (refuses-fit site) n (λ s. set_ceiling site n s x)
    (λ s e. ceiling-fits site n s x (ranged.sessions n s e) h)
ranged-fits site n (Raise x) h sound ranged = raise-fits site x sound ranged h
ranged-fits site n RaiseAuto h sound ranged = raise-auto-fits site ranged
ranged-fits site n (Tidy count) h sound ranged = tidy-fits site count h
ranged-fits site n Stat h sound ranged = stat-fits site sound ranged
ranged-fits site n (Show x) h sound ranged = show-fits site x sound ranged h
ranged-fits site n Leaves h sound ranged = leaves-fit site sound ranged
ranged-fits site n (Pull counts) h sound ranged = pull-fits site counts sound.dag ranged sound.one_floor_each h
ranged-fits site n (Deliver item) h sound ranged = deliver-fits site item ranged h
ranged-fits site n Settle h sound ranged = settle-fits site sound ranged
ranged-fits site n Close h sound ranged = by-session (refuses-fit site) n (λ s. close_session site n) (λ s e. close-fits site n)

pub step-fits : (site : Site) (n : ℕ) (q : Request) → IsTrue (is_request q) → IsSound site → Replies Fits (step site n q)
step-fits site n q h sound = ranged-fits site n q h sound (sound-ranged site sound)

-- each reply of a sound site fits
pub replies-fit : RepliesFit
replies-fit = record {
  valid = λ site n q h sound. (step-fits site n q h sound).reply.valid;
  short = λ site n q h sound. (step-fits site n q h sound).reply.short;
}
