-- All plain sites of one running site give one reply.
use Rattle.std.proofs.Common.{◌≡◌, ℕ, Some, IsTrue, refl, ap}
use Rattle.tardis_base.specs.declared.requests.Request.{Request}
use Rattle.tardis_base.specs.declared.requests.Request.TheVariants.{Open, Begin, Get, Put, Delete, Commit, Abort, BeginMerge, ForkPoints, Conflicts, GetFor}
use Rattle.tardis_base.specs.declared.requests.Request.TheVariants.{Ceiling, Raise, RaiseAuto, Tidy, Stat, Show, Leaves, Pull, Deliver, Settle, Close}
use Rattle.tardis_base.specs.declared.records.Write.TheVariants.{Put as Value, Delete as Deletion}
use Rattle.plain_dag.specs.Entries.{entry_of}
use Rattle.plain_dag.specs.Floors.{Session}
use Rattle.plain_site.specs.Answers.{Answer, with_session, with_txn, without_txn}
use Rattle.plain_site.specs.Commits.{abort, commit}
use Rattle.plain_site.specs.Merges.{begin_merge, fork_points_of, conflicts_of}
use Rattle.plain_site.specs.Reads.{get, set_key, get_for}
use Rattle.plain_site.specs.Sessions.{begin, set_ceiling, close_session}
use Rattle.plain_site.specs.Site.{Site, Txn}
use Rattle.plain_site.specs.Step.{step}
use Rattle.session_core.specs.Core.{Core}
use Rattle.session_core.specs.Machine.{SiteStands}
use Rattle.session_laws.specs.Laws.{can_be_asked, GivesOneReply}
use Rattle.session_laws.proofs.Answers.{ReplyAlike, session-alike, txn-alike, no-txn-alike}
use Rattle.session_laws.proofs.Sites.{sessions-alike, txns-alike}
use Rattle.session_laws.proofs.Requests.{open-alike, begin-alike, get-alike, set-alike, get-for-alike, begin-merge-alike}
use Rattle.session_laws.proofs.Shows.{fork-points-alike, conflicts-alike, stat-alike, show-alike, leaves-shown-alike}
use Rattle.session_laws.proofs.Commits.{commit-alike}
use Rattle.session_laws.proofs.Floors.{ceiling-alike, raise-alike, raise-auto-alike}
use Rattle.session_laws.proofs.Tidies.{tidy-alike}
use Rattle.session_laws.proofs.Deliveries.{deliver-alike, settle-alike}
use Rattle.session_laws.proofs.Pulls.{pull-alike}

module _ (core : Core) (a b : Site) (on_a : SiteStands core a) (on_b : SiteStands core b) (n : ℕ) where
  sessions : entry_of n a.sessions ≡ entry_of n b.sessions
  sessions = ap (entry_of n) (sessions-alike core a b on_a on_b)

  for-session : (f g : Session → Answer) → ((s : Session) → entry_of n a.sessions ≡ Some s → ReplyAlike (f s) (g s)) →
      ReplyAlike (with_session a n f) (with_session b n g)
  for-session f g each = session-alike a b n sessions f g each

  for-txn : (f g : Session → Txn → Answer) → ((s : Session) (t : Txn) → entry_of n a.sessions ≡ Some s → entry_of n a.txns ≡ Some t →
      ReplyAlike (f s t) (g s t)) → ReplyAlike (with_txn a n f) (with_txn b n g)
  for-txn f g each = txn-alike a b n sessions f g (txns-alike core a b on_a on_b n) each

  for-none : (f g : Session → Answer) → ((s : Session) → entry_of n a.sessions ≡ Some s → ReplyAlike (f s) (g s)) →
      ReplyAlike (without_txn a n f) (without_txn b n g)
  for-none f g each = no-txn-alike a b n sessions f g (txns-alike core a b on_a on_b n) each

  one-reply : (q : Request) → IsTrue (can_be_asked q) → (step a n q).1 ≡ (step b n q).1
  one-reply (Open follow) valid = open-alike core a b on_a on_b n follow
  one-reply (Begin at) valid =
      for-none (λ s. begin a n s at) (λ s. begin b n s at) (λ s e. begin-alike core a b on_a on_b n s e at)
  one-reply (Get k) valid = for-txn (λ s t. get a n t k) (λ s t. get b n t k) (λ s t e d. get-alike core a b on_a on_b n t d k)
  one-reply (Put k v) valid =
      for-txn (λ s t. set_key a n t k (Value v)) (λ s t. set_key b n t k (Value v)) (λ s t e d. set-alike core a b on_a on_b n t k (Value v))
  one-reply (Delete k) valid =
      for-txn (λ s t. set_key a n t k Deletion) (λ s t. set_key b n t k Deletion) (λ s t e d. set-alike core a b on_a on_b n t k Deletion)
  one-reply (Commit flags k) valid =
      for-txn (λ s t. commit a n t flags k) (λ s t. commit b n t flags k) (λ s t e d. commit-alike core a b on_a on_b n t d flags k)
  one-reply Abort valid = for-txn (λ s t. abort a n) (λ s t. abort b n) (λ s t e d. refl)
  one-reply (BeginMerge of) valid =
      for-none (λ s. begin_merge a n s of) (λ s. begin_merge b n s of) (λ s e. begin-merge-alike core a b on_a on_b n s e of)
  one-reply ForkPoints valid =
      for-txn (λ s t. fork_points_of a t) (λ s t. fork_points_of b t) (λ s t e d. fork-points-alike core a b on_a on_b n t d)
  one-reply (Conflicts after) valid =
      for-txn (λ s t. conflicts_of a t after) (λ s t. conflicts_of b t after) (λ s t e d. conflicts-alike core a b on_a on_b n t d after)
  one-reply (GetFor k x) valid =
      for-txn (λ s t. get_for a t k x) (λ s t. get_for b t k x) (λ s t e d. get-for-alike core a b on_a on_b n t d k x)
  one-reply (Ceiling x) valid =
      for-none (λ s. set_ceiling a n s x) (λ s. set_ceiling b n s x) (λ s e. ceiling-alike core a b on_a on_b n s e x)
  one-reply (Raise x) valid = raise-alike core a b on_a on_b x
  one-reply RaiseAuto valid = raise-auto-alike core a b on_a on_b
  one-reply (Tidy count) valid = tidy-alike core a b on_a on_b count
  one-reply Stat valid = stat-alike core a b on_a on_b n
  one-reply (Show x) valid = show-alike core a b on_a on_b n x
  one-reply Leaves valid = leaves-shown-alike core a b on_a on_b n
  one-reply (Pull counts) valid = pull-alike core a b on_a on_b counts
  one-reply (Deliver item) valid = deliver-alike core a b on_a on_b item valid
  one-reply Settle valid = settle-alike core a b on_a on_b
  one-reply Close valid = for-session (λ s. close_session a n) (λ s. close_session b n) (λ s e. refl)

pub gives-one-reply : (core : Core) → GivesOneReply core
gives-one-reply core a b on_a on_b n q valid = one-reply core a b on_a on_b n q valid
