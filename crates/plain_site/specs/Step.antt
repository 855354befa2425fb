-- The plain step: what each request does, over things and over bytes.
use Rattle.std.specs.Prelude.{ℕ, Bool, true, false}
use Rattle.std.specs.Option.{option_map_or}
use Rattle.tardis_base.specs.declared.records.Write.TheVariants.{Put as Value, Delete as Deletion}
use Rattle.tardis_base.specs.declared.requests.Request.{Request}
use Rattle.tardis_base.specs.declared.requests.Request.TheVariants.{Open, Begin, Get, Put, Delete, Commit, Abort, BeginMerge, ForkPoints, Conflicts, GetFor}
use Rattle.tardis_base.specs.declared.requests.Request.TheVariants.{Ceiling, Raise, RaiseAuto, Tidy, Stat, Show, Leaves, Pull, Deliver, Settle, Close}
use Rattle.tardis_base.specs.declared.replies.Refusal.TheVariants.{Malformed}
use Rattle.tardis_base.specs.Plain.{Event, PlainMachine}
use Rattle.wire_talk.specs.Spellings.{reply_spelling}
use Rattle.wire_talk.specs.RequestReadings.{request_of}
use Rattle.plain_site.specs.Site.{Site}
use Rattle.plain_site.specs.Answers.{Answer, refused, given, with_session, with_txn, without_txn}
use Rattle.plain_site.specs.Sessions.{open_session, close_session, begin, set_ceiling}
use Rattle.plain_site.specs.Reads.{get, set_key, get_for}
use Rattle.plain_site.specs.Commits.{abort, commit}
use Rattle.plain_site.specs.Merges.{begin_merge, fork_points_of, conflicts_of}
use Rattle.plain_site.specs.FloorSteps.{raise, raise_auto, tidy}
use Rattle.plain_site.specs.Shows.{stat, show, show_leaves}
use Rattle.plain_site.specs.Exchange.{pull, deliver, settle}

-- the plain step: what a request of the actor does
abbrev pub step : Site → ℕ → Request → Answer
step site n (Open follow) = open_session site n follow
step site n (Begin b) = without_txn site n (λ s. begin site n s b)
step site n (Get k) = with_txn site n (λ s t. get site n t k)
step site n (Put k v) = with_txn site n (λ s t. set_key site n t k (Value v))
step site n (Delete k) = with_txn site n (λ s t. set_key site n t k Deletion)
step site n (Commit flags k) = with_txn site n (λ s t. commit site n t flags k)
step site n Abort = with_txn site n (λ s t. abort site n)
step site n (BeginMerge of) = without_txn site n (λ s. begin_merge site n s of)
step site n ForkPoints = with_txn site n (λ s t. fork_points_of site t)
step site n (Conflicts after) = with_txn site n (λ s t. conflicts_of site t after)
step site n (GetFor k x) = with_txn site n (λ s t. get_for site t k x)
step site n (Ceiling x) = without_txn site n (λ s. set_ceiling site n s x)
step site n (Raise x) = raise site x
step site n RaiseAuto = raise_auto site
step site n (Tidy count) = tidy site count
step site n Stat = stat site
step site n (Show x) = show site x
step site n Leaves = show_leaves site
step site n (Pull counts) = pull site counts
step site n (Deliver item) = deliver site item
step site n Settle = settle site
step site n Close = with_session site n (λ s. close_session site n)

-- the plain step over bytes: those that spell no request are malformed
abbrev pub step_over_bytes : Site → Event → Answer
step_over_bytes site (n, bytes) = given (request_of bytes) (refused site Malformed) (step site n)

-- the requests that memory can't fail
abbrev pub is_sure : Request → Bool
is_sure Abort = true
is_sure Close = true
is_sure (Ceiling x) = true
is_sure (Raise x) = true
is_sure RaiseAuto = true
is_sure (Tidy n) = true
is_sure Stat = true
is_sure _ = false

-- the site as a machine over bytes
abbrev pub site_machine : PlainMachine Site
site_machine =
    record {
      step = λ site event. (step_over_bytes site event).0;
      reply = λ site event. reply_spelling (step_over_bytes site event).1;
      is_sure = λ event. option_map_or is_sure (request_of event.1) false;
    }
