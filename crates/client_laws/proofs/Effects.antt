-- What one request does to the history, the transactions and the sessions, and what its reply tells of that.
use Rattle.std.proofs.Common.{◌≡◌, ℕ, Bool, true, false, List, [], ◌∷◌, ◌++◌, Option, Some, None, ◌⊎◌, inl, refl, sym, ap, subst, ◌∙◌}
use Rattle.tardis_base.specs.declared.records.Record.{Record}
use Rattle.tardis_base.specs.declared.records.Item.TheVariants.{State, Promise}
use Rattle.tardis_base.specs.declared.requests.Request.{Request}
use Rattle.tardis_base.specs.declared.requests.Request.TheVariants.{Get, Deliver}
use Rattle.tardis_base.specs.declared.replies.Refusal.{Refusal}
use Rattle.tardis_base.specs.declared.replies.Refusal.TheVariants.{NotOpen, TxnOpen, NoTxn}
use Rattle.tardis_base.specs.declared.replies.Reply.{Reply}
use Rattle.tardis_base.specs.declared.replies.Reply.TheVariants.{Applied, Refused, NoMemory}
use Rattle.plain_dag.specs.Entries.{entry_of}
use Rattle.plain_dag.specs.Floors.{Session}
use Rattle.plain_site.specs.Site.{Site}
use Rattle.plain_site.specs.Answers.{Answer, when, refuse, refuse_found, unless}
use Rattle.plain_site.specs.ClientRuns.{Told, retold, regrown, resession}
use Rattle.plain_site.proofs.RepliesFrame.{RefusesWell}
use Rattle.client_laws.proofs.Tellings.{Tells}

-- the site without its sessions, their transactions, and what is collected: what lines tell of it beside these
abbrev pub bare : Site → Site
bare site = record site { collected = []; sessions = []; txns = [] }

-- the history stays or has one record more; history, floors and waiting room are as the request and its reply tell; the other actors' transactions and
-- sessions stay; the actor's session is as the request and its reply tell; and if its transaction was as its lines told, it is as these and the request
-- with its reply tell
pub record Does (site : Site) (n : ℕ) (q : Request) (answer : Answer) : Type 0 where
  pub grows : (answer.0.dag ≡ site.dag) ⊎ ((r : Record) × (answer.0.dag ≡ r ∷ site.dag))
  pub shared : (seen : Option Told) → Tells site.dag (entry_of n site.txns) seen → bare answer.0 ≡ regrown q answer.1 seen (bare site)
  pub other_txns : (m : ℕ) → (m ≡ n → ⊥) → entry_of m answer.0.txns ≡ entry_of m site.txns
  pub other_sessions : (m : ℕ) → (m ≡ n → ⊥) → entry_of m answer.0.sessions ≡ entry_of m site.sessions
  pub txn : (seen : Option Told) → Tells answer.0.dag (entry_of n site.txns) seen → Tells answer.0.dag (entry_of n answer.0.txns) (retold q answer.1 seen)
  pub session : entry_of n answer.0.sessions ≡ resession answer.0.dag q answer.1 (entry_of n site.sessions)

-- ===== Replies that tell nothing

got-refused : (k : List ℕ) (refusal : Refusal) (seen : Option Told) → retold (Get k) (Refused refusal) seen ≡ seen
got-refused k refusal None = refl
got-refused k refusal (Some seen) = refl

pub refused-tells-nothing : (q : Request) (refusal : Refusal) (seen : Option Told) → retold q (Refused refusal) seen ≡ seen
refused-tells-nothing (Get k) refusal seen = got-refused k refusal seen
refused-tells-nothing q refusal seen = refl

pub refused-leaves-session : (q : Request) (refusal : Refusal) (rs : List Record) (s : Option Session) → resession rs q (Refused refusal) s ≡ s
refused-leaves-session (Get k) refusal rs s = refl
refused-leaves-session q refusal rs s = refl

got-none : (k : List ℕ) (seen : Option Told) → retold (Get k) NoMemory seen ≡ seen
got-none k None = refl
got-none k (Some seen) = refl

pub wanting-tells-nothing : (q : Request) (seen : Option Told) → retold q NoMemory seen ≡ seen
wanting-tells-nothing (Get k) seen = got-none k seen
wanting-tells-nothing q seen = refl

pub wanting-leaves-session : (q : Request) (rs : List Record) (s : Option Session) → resession rs q NoMemory s ≡ s
wanting-leaves-session (Get k) rs s = refl
wanting-leaves-session q rs s = refl

pub refused-records-nothing : (q : Request) (refusal : Refusal) (seen : Option Told) (s : Site) → regrown q (Refused refusal) seen s ≡ s
refused-records-nothing (Deliver (State r)) refusal seen rs = refl
refused-records-nothing (Deliver (Promise c)) refusal seen rs = refl
refused-records-nothing (Get k) refusal seen rs = refl
refused-records-nothing q refusal seen rs = refl

pub wanting-records-nothing : (q : Request) (seen : Option Told) (s : Site) → regrown q NoMemory seen s ≡ s
wanting-records-nothing (Deliver (State r)) seen rs = refl
wanting-records-nothing (Deliver (Promise c)) seen rs = refl
wanting-records-nothing (Get k) seen rs = refl
wanting-records-nothing q seen rs = refl

-- ===== Answers that leave transactions and sessions

pub same-books : (site : Site) (n : ℕ) (q : Request) (next : Site) (reply : Reply) → (next.dag ≡ site.dag) ⊎ ((r : Record) × (next.dag ≡ r ∷ site.dag)) →
    ((seen : Option Told) → bare next ≡ regrown q reply seen (bare site)) → next.txns ≡ site.txns → next.sessions ≡ site.sessions →
    ((seen : Option Told) → retold q reply seen ≡ seen) → ((rs : List Record) (s : Option Session) → resession rs q reply s ≡ s) →
    Does site n q (next, reply)
same-books site n q next reply grows records txns sessions tells keeps = record {
  grows = grows;
  shared = λ seen h. records seen;
  other_txns = λ m differ. ap (entry_of m) txns;
  other_sessions = λ m differ. ap (entry_of m) sessions;
  txn = λ seen h. subst (λ ts. Tells next.dag (entry_of n ts) (retold q reply seen)) (sym txns)
      (subst (Tells next.dag (entry_of n site.txns)) (sym (tells seen)) h);
  session = ap (entry_of n) sessions ∙ sym (keeps next.dag (entry_of n site.sessions));
}

-- nothing is done, and the reply tells nothing
pub does-nothing : (site : Site) (n : ℕ) (q : Request) (reply : Reply) → ((seen : Option Told) → retold q reply seen ≡ seen) →
    ((rs : List Record) (s : Option Session) → resession rs q reply s ≡ s) →
    ((seen : Option Told) (s : Site) → regrown q reply seen s ≡ s) → Does site n q (site, reply)
does-nothing site n q reply tells keeps records = same-books site n q site reply (inl refl) (λ seen. sym (records seen (bare site))) refl refl tells keeps

pub does-refused : (site : Site) (n : ℕ) (q : Request) (refusal : Refusal) → Does site n q (site, Refused refusal)
does-refused site n q refusal =
    does-nothing site n q (Refused refusal) (refused-tells-nothing q refusal) (refused-leaves-session q refusal) (refused-records-nothing q refusal)

pub refuses-does : (site : Site) (n : ℕ) (q : Request) → RefusesWell site (Does site n q)
refuses-does site n q = record { not_open = does-refused site n q NotOpen; no_txn = does-refused site n q NoTxn; txn_open = does-refused site n q TxnOpen }

-- ===== Refusals before an answer

-- each of these, if it is a reply, refuses
abbrev pub OnlyRefuse : List (Option Reply) → Type 0
OnlyRefuse [] = Unit {0}
OnlyRefuse (None ∷ more) = OnlyRefuse more
OnlyRefuse (Some reply ∷ more) = ((refusal : Refusal) × (reply ≡ Refused refusal)) × OnlyRefuse more

pub refuse-only : (test : Bool) (refusal : Refusal) (more : List (Option Reply)) → OnlyRefuse more → OnlyRefuse (refuse test refusal ∷ more)
refuse-only true refusal more h = ((refusal, refl), h)
refuse-only false refusal more h = h

pub found-only : {A : Type 0} (refusal : A → Refusal) (o : Option A) (more : List (Option Reply)) → OnlyRefuse more → OnlyRefuse (refuse_found refusal o ∷ more)
found-only refusal None more h = h
found-only refusal (Some a) more h = ((refusal a, refl), h)

pub both-only : (first more : List (Option Reply)) → OnlyRefuse first → OnlyRefuse more → OnlyRefuse (first ++ more)
both-only [] more h k = k
both-only (None ∷ first) more h k = both-only first more h k
both-only (Some reply ∷ first) more h k = (h.0, both-only first more h.1 k)

-- what holds of each refusal and of the answer holds of the answer behind refusals
pub unless-refused : (P : Answer → Type 0) (site : Site) (refusals : List (Option Reply)) (answer : Answer) → OnlyRefuse refusals →
    ((refusal : Refusal) → P (site, Refused refusal)) → P answer → P (unless site refusals answer)
unless-refused P site [] answer only refused h = h
unless-refused P site (None ∷ more) answer only refused h = unless-refused P site more answer only refused h
unless-refused P site (Some reply ∷ more) answer only refused h = subst (λ r. P (site, r)) (sym only.0.1) (refused only.0.0)

-- what holds of each reply that leaves the site
pub unless-any : (P : Answer → Type 0) (site : Site) (replies : List (Option Reply)) (answer : Answer) → ((reply : Reply) → P (site, reply)) → P answer →
    P (unless site replies answer)
unless-any P site [] answer same h = h
unless-any P site (None ∷ more) answer same h = unless-any P site more answer same h
unless-any P site (Some reply ∷ more) answer same h = same reply

pub unless-does : (site : Site) (n : ℕ) (q : Request) (refusals : List (Option Reply)) (answer : Answer) → OnlyRefuse refusals → Does site n q answer →
    Does site n q (unless site refusals answer)
unless-does site n q refusals answer only h = unless-refused (Does site n q) site refusals answer only (does-refused site n q) h

-- ===== Replies that take no record

-- each of these, if it is a reply, isn't Applied
abbrev pub AreNoTaking : List (Option Reply) → Type 0
AreNoTaking [] = Unit {0}
AreNoTaking (None ∷ more) = AreNoTaking more
AreNoTaking (Some reply ∷ more) = (reply ≡ Applied → ⊥) × AreNoTaking more

pub when-no-taking : (test : Bool) (reply : Reply) (more : List (Option Reply)) → (reply ≡ Applied → ⊥) → AreNoTaking more →
    AreNoTaking (when test reply ∷ more)
when-no-taking true reply more h m = (h, m)
when-no-taking false reply more h m = m

pub refuse-no-taking : (test : Bool) (refusal : Refusal) (more : List (Option Reply)) → AreNoTaking more → AreNoTaking (refuse test refusal ∷ more)
refuse-no-taking test refusal more m = when-no-taking test (Refused refusal) more (λ e. absurd (cc)) m

pub found-no-taking : {A : Type 0} (refusal : A → Refusal) (o : Option A) (more : List (Option Reply)) → AreNoTaking more →
    AreNoTaking (refuse_found refusal o ∷ more)
found-no-taking refusal None more m = m
found-no-taking refusal (Some a) more m = (λ e. absurd (cc), m)

pub both-no-taking : (first more : List (Option Reply)) → AreNoTaking first → AreNoTaking more → AreNoTaking (first ++ more)
both-no-taking [] more h k = k
both-no-taking (None ∷ first) more h k = both-no-taking first more h k
both-no-taking (Some reply ∷ first) more h k = (h.0, both-no-taking first more h.1 k)

-- what holds of each reply that takes no record
pub unless-no-taking : (P : Answer → Type 0) (site : Site) (replies : List (Option Reply)) (answer : Answer) → AreNoTaking replies →
    ((reply : Reply) → (reply ≡ Applied → ⊥) → P (site, reply)) → P answer → P (unless site replies answer)
unless-no-taking P site [] answer none same h = h
unless-no-taking P site (None ∷ more) answer none same h = unless-no-taking P site more answer none same h
unless-no-taking P site (Some reply ∷ more) answer none same h = same reply none.0
