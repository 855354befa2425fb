-- Each request keeps a sound site sound.
use Rattle.std.proofs.Common.{ℕ, Bool, not, List, [], ◌∷◌, length, refl}
use Rattle.std.specs.Prelude.{◌==◌}
use Rattle.std.proofs.lemmas.Bool.{and_parts}
use Rattle.tardis_base.specs.declared.records.Write.TheVariants.{Put as Value, Delete as Deletion}
use Rattle.tardis_base.specs.declared.requests.Begin.{Begin}
use Rattle.tardis_base.specs.declared.requests.EndFlags.{EndFlags}
use Rattle.tardis_base.specs.declared.requests.MergeOf.{MergeOf}
use Rattle.tardis_base.specs.declared.records.Item.{Item}
use Rattle.tardis_base.specs.declared.requests.Request.{Request}
use Rattle.tardis_base.specs.declared.requests.Request.TheVariants.{Open, Begin as BeginAt, Get, Put, Delete, Commit, Abort, BeginMerge, ForkPoints}
use Rattle.tardis_base.specs.declared.requests.Request.TheVariants.{Conflicts, GetFor, Ceiling, Raise, RaiseAuto, Tidy, Stat, Show, Leaves, Pull, Deliver}
use Rattle.tardis_base.specs.declared.requests.Request.TheVariants.{Settle, Close}
use Rattle.tardis_base.specs.declared.ids.StateId.{StateId}
use Rattle.tardis_base.specs.Ids.{is_among}
use Rattle.tardis_base.specs.Valid.{is_key, is_value}
use Rattle.tardis_base.specs.declared.replies.Refusal.TheVariants.{Unknown, Collected, NotRead, BadSite}
use Rattle.plain_site.specs.Site.{Site, Txn, Single, Merge}
use Rattle.plain_site.specs.Answers.{refuse, found}
use Rattle.plain_site.specs.Exchange.{batch_for}
use Rattle.plain_dag.specs.Writers.{read}
use Rattle.plain_dag.specs.States.{is_known, arrival, children}
use Rattle.plain_dag.specs.Paths.{fork_path}
use Rattle.tardis_base.specs.declared.replies.Reply.TheVariants.{Shown, Batch as BatchIs}
use Rattle.plain_site.specs.Sessions.{close_session, begin, set_ceiling}
use Rattle.plain_site.specs.Reads.{get, set_key, get_for}
use Rattle.plain_site.specs.Commits.{abort, commit}
use Rattle.plain_site.specs.Merges.{begin_merge, fork_points_of, conflicts_of}
use Rattle.plain_site.specs.Sound.{IsSound}
use Rattle.plain_site.specs.Laws.{KeepsSound}
use Rattle.plain_site.proofs.SoundAnswers.{unless-keeps, session-keeps, txn-keeps, no_txn-keeps}
use Rattle.plain_site.proofs.SoundHistories.{root-is-known}
use Rattle.plain_site.proofs.SoundSessions.{opening-keeps, closing-keeps, begin-keeps, abort-keeps, set-keeps, get-keeps}
use Rattle.plain_site.proofs.SoundCommits.{commit-keeps}
use Rattle.plain_site.proofs.SoundMerges.{begin_merge-keeps}
use Rattle.plain_site.proofs.SoundFloors.{ceiling-keeps, raise-keeps, raise_auto-keeps}
use Rattle.plain_site.proofs.SoundTidies.{tidy-keeps}
use Rattle.plain_site.proofs.SoundDeliveries.{deliver-keeps, settle-keeps}

open-keeps-sound : (follow : Bool) → KeepsSound (Open follow)
open-keeps-sound follow site n small valid sound =
    opening-keeps site n follow small (root-is-known site.dag sound.dag) sound

close-keeps-sound : KeepsSound Close
close-keeps-sound site n small valid sound =
    session-keeps IsSound site sound n (λ s. close_session site n) (λ s e. closing-keeps site n sound)

begin-keeps-sound : (b : Begin) → KeepsSound (BeginAt b)
begin-keeps-sound b site n small valid sound =
    no_txn-keeps IsSound site sound n (λ s. begin site n s b) (λ s e none. begin-keeps site n s b e sound)

abort-keeps-sound : KeepsSound Abort
abort-keeps-sound site n small valid sound =
    txn-keeps IsSound site sound n (λ s t. abort site n) (λ s e t f. abort-keeps site n sound)

get-keeps-sound : (k : List ℕ) → KeepsSound (Get k)
get-keeps-sound k site n small valid sound =
    txn-keeps IsSound site sound n (λ s t. get site n t k) (λ s e t f. get-keeps site n t k f valid sound)

put-keeps-sound : (k v : List ℕ) → KeepsSound (Put k v)
put-keeps-sound k v site n small valid sound =
    let parts = and_parts (is_key k) (is_value v) valid in
    txn-keeps IsSound site sound n (λ s t. set_key site n t k (Value v))
    (λ s e t f. set-keeps site n t k (Value v) f parts.0 parts.1 sound)

delete-keeps-sound : (k : List ℕ) → KeepsSound (Delete k)
delete-keeps-sound k site n small valid sound =
    txn-keeps IsSound site sound n (λ s t. set_key site n t k Deletion)
    (λ s e t f. set-keeps site n t k Deletion f valid refl sound)

commit-keeps-sound : (flags : EndFlags) (k : ℕ) → KeepsSound (Commit flags k)
commit-keeps-sound flags k site n small valid sound =
    txn-keeps IsSound site sound n (λ s t. commit site n t flags k)
    (λ s e t f. commit-keeps site n t flags k f sound)

-- ===== Requests that only show

fork-points-keep : (site : Site) (t : Txn) → IsSound site → IsSound (fork_points_of site t).0
fork-points-keep site (Single t) sound = sound
fork-points-keep site (Merge t) sound = sound

fork-points-keep-sound : KeepsSound ForkPoints
fork-points-keep-sound site n small valid sound =
    txn-keeps IsSound site sound n (λ s t. fork_points_of site t) (λ s e t f. fork-points-keep site t sound)

conflicts-keep : (site : Site) (t : Txn) (after : List ℕ) → IsSound site → IsSound (conflicts_of site t after).0
conflicts-keep site (Single t) after sound = sound
conflicts-keep site (Merge t) after sound = sound

conflicts-keep-sound : (after : List ℕ) → KeepsSound (Conflicts after)
conflicts-keep-sound after site n small valid sound =
    txn-keeps IsSound site sound n (λ s t. conflicts_of site t after) (λ s e t f. conflicts-keep site t after sound)

get-for-keeps : (site : Site) (t : Txn) (k : List ℕ) (x : StateId) → IsSound site → IsSound (get_for site t k x).0
get-for-keeps site (Single t) k x sound = sound
get-for-keeps site (Merge t) k x sound =
    unless-keeps IsSound site sound (refuse (not (is_among x t.states)) (NotRead x) ∷ []) (site, found (read site.dag k x)) (λ none. sound)

get-for-keeps-sound : (k : List ℕ) (x : StateId) → KeepsSound (GetFor k x)
get-for-keeps-sound k x site n small valid sound =
    txn-keeps IsSound site sound n (λ s t. get_for site t k x) (λ s e t f. get-for-keeps site t k x sound)

stat-keeps-sound : KeepsSound Stat
stat-keeps-sound site n small valid sound = sound

show-keeps-sound : (x : StateId) → KeepsSound (Show x)
show-keeps-sound x site n small valid sound =
    unless-keeps IsSound site sound (refuse (not (is_known site.dag x)) (Unknown x) ∷ refuse (is_among x site.collected) (Collected x) ∷ [])
    (site, Shown (arrival site.dag x) (children site.dag x) (fork_path site.dag site.collected x)) (λ none. sound)

leaves-keep-sound : KeepsSound Leaves
leaves-keep-sound site n small valid sound = sound

pull-keeps-sound : (counts : List ℕ) → KeepsSound (Pull counts)
pull-keeps-sound counts site n small valid sound =
    unless-keeps IsSound site sound (refuse (not (length counts == site.limits.sites)) (BadSite (length counts)) ∷ [])
    (site, BatchIs (batch_for site counts)) (λ none. sound)

-- ===== Merges, ceilings, floors, collection, exchange

begin-merge-keeps-sound : (of : MergeOf) → KeepsSound (BeginMerge of)
begin-merge-keeps-sound of site n small valid sound =
    no_txn-keeps IsSound site sound n (λ s. begin_merge site n s of) (λ s e none. begin_merge-keeps site n s of e valid sound)

ceiling-keeps-sound : (x : StateId) → KeepsSound (Ceiling x)
ceiling-keeps-sound x site n small valid sound =
    no_txn-keeps IsSound site sound n (λ s. set_ceiling site n s x) (λ s e none. ceiling-keeps site n s x e none sound)

raise-keeps-sound : (x : StateId) → KeepsSound (Raise x)
raise-keeps-sound x site n small valid sound = raise-keeps site x sound

raise-auto-keeps-sound : KeepsSound RaiseAuto
raise-auto-keeps-sound site n small valid sound = raise_auto-keeps site sound

tidy-keeps-sound : (count : ℕ) → KeepsSound (Tidy count)
tidy-keeps-sound count site n small valid sound = tidy-keeps site count sound

deliver-keeps-sound : (item : Item) → KeepsSound (Deliver item)
deliver-keeps-sound item site n small valid sound =
    deliver-keeps site item valid sound

settle-keeps-sound : KeepsSound Settle
settle-keeps-sound site n small valid sound = settle-keeps site sound

-- ===== Each request

pub request-keeps-sound : (q : Request) → KeepsSound q
request-keeps-sound (Open follow) = open-keeps-sound follow
request-keeps-sound (BeginAt b) = begin-keeps-sound b
request-keeps-sound (Get k) = get-keeps-sound k
request-keeps-sound (Put k v) = put-keeps-sound k v
request-keeps-sound (Delete k) = delete-keeps-sound k
request-keeps-sound (Commit flags k) = commit-keeps-sound flags k
request-keeps-sound Abort = abort-keeps-sound
request-keeps-sound (BeginMerge of) = begin-merge-keeps-sound of
request-keeps-sound ForkPoints = fork-points-keep-sound
request-keeps-sound (Conflicts after) = conflicts-keep-sound after
request-keeps-sound (GetFor k x) = get-for-keeps-sound k x
request-keeps-sound (Ceiling x) = ceiling-keeps-sound x
request-keeps-sound (Raise x) = raise-keeps-sound x
request-keeps-sound RaiseAuto = raise-auto-keeps-sound
request-keeps-sound (Tidy count) = tidy-keeps-sound count
request-keeps-sound Stat = stat-keeps-sound
request-keeps-sound (Show x) = show-keeps-sound x
request-keeps-sound Leaves = leaves-keep-sound
request-keeps-sound (Pull counts) = pull-keeps-sound counts
request-keeps-sound (Deliver item) = deliver-keeps-sound item
request-keeps-sound Settle = settle-keeps-sound
request-keeps-sound Close = close-keeps-sound
