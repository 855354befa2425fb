-- Answers with the same reply.
use Rattle.std.proofs.Common.{◌≡◌, ℕ, Bool, true, false, not, List, [], ◌∷◌, ◌++◌, Option, Some, None, is_none, IsTrue, IsFalse, refl, ap, subst}
use Rattle.std.specs.List.{list_all}
use Rattle.std.proofs.lemmas.Bool.{and_from}
use Rattle.tardis_base.specs.declared.replies.Refusal.{Refusal}
use Rattle.tardis_base.specs.declared.replies.Refusal.TheVariants.{NotOpen, TxnOpen, NoTxn}
use Rattle.tardis_base.specs.declared.replies.Reply.{Reply}
use Rattle.plain_dag.specs.Entries.{entry_of}
use Rattle.plain_dag.specs.Floors.{Session}
use Rattle.plain_site.specs.Site.{Site, Txn}
use Rattle.plain_site.specs.Answers.{Answer, refused, refuse, refuse_found, unless, given, with_session, with_txn, without_txn}
use Rattle.plain_site.proofs.SoundAnswers.{AreNone}

-- both answers have this reply
abbrev pub ReplyAlike : Answer → Answer → Type 0
ReplyAlike x y = x.1 ≡ y.1

-- where nothing is refused, the test doesn't hold
pub unrefused : (test : Bool) (refusal : Refusal) → ◌≡◌ {A = Option Reply} (refuse test refusal) None → IsFalse test
unrefused true refusal e = cc
unrefused false refusal e = refl

-- where nothing is refused for want of it, the test holds
pub passed : (test : Bool) (refusal : Refusal) → ◌≡◌ {A = Option Reply} (refuse (not test) refusal) None → IsTrue test
passed true refusal e = refl
passed false refusal e = cc

-- and what is refused isn't found
pub unfound : {A : Type 0} (refusal : A → Refusal) (o : Option A) → ◌≡◌ {A = Option Reply} (refuse_found refusal o) None → o ≡ None
unfound refusal None e = refl
unfound refusal (Some v) e = cc

module _ (a b : Site) where
  -- it is as behind what refuses nothing
  same-first : (o : Option Reply) (more others : List (Option Reply)) (x y : Answer) → (o ≡ None → ReplyAlike (unless a more x) (unless b others y)) →
      ReplyAlike (unless a (o ∷ more) x) (unless b (o ∷ others) y)
  same-first None more others x y rest = rest refl
  same-first (Some reply) more others x y rest = refl

  -- the same is refused first, or nothing, and then it is as behind it
  pub first-alike : (o p : Option Reply) (more others : List (Option Reply)) (x y : Answer) → o ≡ p →
      (o ≡ None → ReplyAlike (unless a more x) (unless b others y)) → ReplyAlike (unless a (o ∷ more) x) (unless b (p ∷ others) y)
  first-alike o p more others x y same rest = subst (λ q. ReplyAlike (unless a (o ∷ more) x) (unless b (q ∷ others) y)) same (same-first o more others x y rest)

  -- the same is refused by several, or nothing
  pub several-alike : (ps more others : List (Option Reply)) (x y : Answer) → (AreNone ps → ReplyAlike (unless a more x) (unless b others y)) →
      ReplyAlike (unless a (ps ++ more) x) (unless b (ps ++ others) y)
  several-alike [] more others x y rest = rest refl
  several-alike (p ∷ ps) more others x y rest =
      same-first p (ps ++ more) (ps ++ others) x y
      (λ e. several-alike ps more others x y (λ none. rest (and_from (is_none p) (list_all is_none ps) (ap is_none e) none)))

  given-here : {A : Type 0} (o : Option A) (x y : Answer) (f g : A → Answer) → (o ≡ None → ReplyAlike x y) →
      ((v : A) → o ≡ Some v → ReplyAlike (f v) (g v)) → ReplyAlike (given o x f) (given o y g)
  given-here None x y f g none some = none refl
  given-here (Some v) x y f g none some = some v refl

  -- what is there is the same, and is used alike
  pub given-alike : {A : Type 0} (o p : Option A) (x y : Answer) (f g : A → Answer) → o ≡ p → ReplyAlike x y →
      ((v : A) → o ≡ Some v → ReplyAlike (f v) (g v)) → ReplyAlike (given o x f) (given p y g)
  given-alike o p x y f g same none some = subst (λ q. ReplyAlike (given o x f) (given q y g)) same (given-here o x y f g (λ e. none) some)

  module _ (n : ℕ) (sessions : entry_of n a.sessions ≡ entry_of n b.sessions) where
    -- the same is done for an open session
    pub session-alike : (f g : Session → Answer) → ((s : Session) → entry_of n a.sessions ≡ Some s → ReplyAlike (f s) (g s)) →
        ReplyAlike (with_session a n f) (with_session b n g)
    session-alike f g each = given-alike (entry_of n a.sessions) (entry_of n b.sessions) (refused a NotOpen) (refused b NotOpen) f g sessions refl each

    -- and for its transaction
    pub txn-alike : (f g : Session → Txn → Answer) → entry_of n a.txns ≡ entry_of n b.txns →
        ((s : Session) (t : Txn) → entry_of n a.sessions ≡ Some s → entry_of n a.txns ≡ Some t → ReplyAlike (f s t) (g s t)) →
        ReplyAlike (with_txn a n f) (with_txn b n g)
    txn-alike f g txns each =
        session-alike (λ s. given (entry_of n a.txns) (refused a NoTxn) (f s)) (λ s. given (entry_of n b.txns) (refused b NoTxn) (g s))
        (λ s e. given-alike (entry_of n a.txns) (entry_of n b.txns) (refused a NoTxn) (refused b NoTxn) (f s) (g s) txns refl (λ t d. each s t e d))

    -- and for one without a transaction
    pub no-txn-alike : (f g : Session → Answer) → entry_of n a.txns ≡ entry_of n b.txns →
        ((s : Session) → entry_of n a.sessions ≡ Some s → ReplyAlike (f s) (g s)) → ReplyAlike (without_txn a n f) (without_txn b n g)
    no-txn-alike f g txns each =
        session-alike (λ s. given (entry_of n a.txns) (f s) (λ t. refused a TxnOpen)) (λ s. given (entry_of n b.txns) (g s) (λ t. refused b TxnOpen))
        (λ s e. given-alike (entry_of n a.txns) (entry_of n b.txns) (f s) (g s) (λ t. refused a TxnOpen) (λ t. refused b TxnOpen) txns (each s e) (λ t d. refl))
