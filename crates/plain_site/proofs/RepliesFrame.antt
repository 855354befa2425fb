-- Answers through the words of the step: what is true of each reply that may be given is true of the answer's.
use Rattle.std.proofs.Common.{◌≡◌, ℕ, Bool, true, false, List, [], ◌∷◌, ◌++◌, Option, Some, None, IsFalse, refl}
use Rattle.tardis_base.specs.declared.replies.Refusal.{Refusal}
use Rattle.tardis_base.specs.declared.replies.Refusal.TheVariants.{NotOpen, TxnOpen, NoTxn}
use Rattle.tardis_base.specs.declared.replies.Reply.{Reply}
use Rattle.tardis_base.specs.declared.replies.Reply.TheVariants.{Refused}
use Rattle.plain_dag.specs.Entries.{entry_of}
use Rattle.plain_dag.specs.Floors.{Session}
use Rattle.plain_site.specs.Site.{Site, Txn}
use Rattle.plain_site.specs.Answers.{Answer, refused, when, refuse_found, unless, given, with_session, with_txn, without_txn}

-- ===== Several replies, of which the first is given

-- each of these is nothing
abbrev pub AllNone : List (Option Reply) → Type 0
AllNone [] = Unit {0}
AllNone (None ∷ more) = AllNone more
AllNone (Some reply ∷ more) = ⊥

pub none-when : (test : Bool) (reply : Reply) (more : List (Option Reply)) → AllNone (when test reply ∷ more) → IsFalse test × AllNone more
none-when true reply more h = absurd (h)
none-when false reply more h = (refl, h)

pub none-found : {A : Type 0} (refusal : A → Refusal) (o : Option A) (more : List (Option Reply)) → AllNone (refuse_found refusal o ∷ more) → (o ≡ None)
    × AllNone more
none-found refusal None more h = (refl, h)
none-found refusal (Some a) more h = absurd (h)

-- each of these is good: so is what is replied, if the answer's reply is where none of them is given
pub record AllGood (Good : Reply → Type 0) (replies : List (Option Reply)) : Type 0 where
  pub each : (site : Site) (answer : Answer) → (AllNone replies → Good answer.1) → Good (unless site replies answer).1

pub good-none : {Good : Reply → Type 0} → AllGood Good []
good-none = record { each = λ site answer h. h tt }

pub good-when : {Good : Reply → Type 0} (test : Bool) (reply : Reply) (more : List (Option Reply)) → Good reply → AllGood Good more →
    AllGood Good (when test reply ∷ more)
good-when true reply more h m = record { each = λ site answer i. h }
good-when false reply more h m = record { each = m.each }

pub good-found : {Good : Reply → Type 0} {A : Type 0} (refusal : A → Refusal) (o : Option A) (more : List (Option Reply)) →
    ((a : A) → o ≡ Some a → Good (Refused (refusal a))) → AllGood Good more
    → AllGood Good (refuse_found refusal o ∷ more)
good-found refusal None more h m = record { each = m.each }
good-found refusal (Some a) more h m = record { each = λ site answer i. h a refl }

-- ===== Answers

-- the answer's reply is good
pub record Replies (Good : Reply → Type 0) (answer : Answer) : Type 0 where
  pub reply : Good answer.1

pub good-reply : {Good : Reply → Type 0} (site : Site) (reply : Reply) → Good reply → Replies Good (site, reply)
good-reply site reply h = record { reply = h }

pub unless-good : {Good : Reply → Type 0} (site : Site) (replies : List (Option Reply)) (answer : Answer) → AllGood Good replies →
    (AllNone replies → Replies Good answer) → Replies Good (unless site replies answer)
unless-good site replies answer m h = record { reply = m.each site answer (λ none. (h none).reply) }

unless-append : (site : Site) (replies more : List (Option Reply)) (answer : Answer) → unless site (replies ++ more) answer
    ≡ unless site replies (unless site more answer)
unless-append site [] more answer = refl
unless-append site (None ∷ replies) more answer = unless-append site replies more answer
unless-append site (Some reply ∷ replies) more answer = refl

pub unless-both-good : {Good : Reply → Type 0} (site : Site) (replies more : List (Option Reply)) (answer : Answer) → AllGood Good replies →
    (AllNone replies → Replies Good (unless site more answer))
    → Replies Good (unless site (replies ++ more) answer)
unless-both-good site replies more answer m h = rw (unless-append site replies more answer) (unless-good site replies (unless site more answer) m h)

pub ruleset good_replies = (unless-good, good-none, good-when, good-found, good-reply)

-- ===== Sessions and transactions

pub given-good : (Good : Answer → Type 0) {A : Type 0} (o : Option A) (answer : Answer) (use_of : A → Answer) → (o ≡ None → Good answer) →
    ((a : A) → o ≡ Some a → Good (use_of a)) → Good (given o answer use_of)
given-good Good None answer use_of h f = h refl
given-good Good (Some a) answer use_of h f = f a refl

-- the refusals of a request that finds no session, no transaction, or one that it doesn't want, are good
pub record RefusesWell (site : Site) (Good : Answer → Type 0) : Type 0 where
  pub not_open : Good (refused site NotOpen)
  pub no_txn : Good (refused site NoTxn)
  pub txn_open : Good (refused site TxnOpen)

pub by-session : {site : Site} {Good : Answer → Type 0} → RefusesWell site Good → (n : ℕ) (go : Session → Answer) →
    ((s : Session) → entry_of n site.sessions ≡ Some s → Good (go s)) → Good (with_session site n go)
by-session {site} {Good} well n go f = given-good Good (entry_of n site.sessions) (refused site NotOpen) go (λ e. well.not_open) f

pub by-txn : {site : Site} {Good : Answer → Type 0} → RefusesWell site Good → (n : ℕ) (go : Session → Txn → Answer)
    → ((s : Session) (t : Txn) → entry_of n site.sessions ≡ Some s → entry_of n site.txns ≡ Some t → Good (go s t)) → Good (with_txn site n go)
by-txn {site} {Good} well n go f =
    by-session well n (λ s. given (entry_of n site.txns) (refused site NoTxn) (go s))
    (λ s e. given-good Good (entry_of n site.txns) (refused site NoTxn) (go s) (λ d. well.no_txn) (λ t d. f s t e d))

pub by-no-txn : {site : Site} {Good : Answer → Type 0} → RefusesWell site Good → (n : ℕ) (go : Session → Answer) →
    ((s : Session) → entry_of n site.sessions ≡ Some s → Good (go s)) → Good (without_txn site n go)
by-no-txn {site} {Good} well n go f =
    by-session well n (λ s. given (entry_of n site.txns) (go s) (λ t. refused site TxnOpen))
    (λ s e. given-good Good (entry_of n site.txns) (go s) (λ t. refused site TxnOpen) (λ d. f s e) (λ t d. well.txn_open))
