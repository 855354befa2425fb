-- What a refusal, or none, says of the site after a step.
use Rattle.std.proofs.Common.{◌≡◌, ℕ, Bool, true, false, List, [], ◌∷◌, ◌++◌, Option, Some, None, is_none, IsTrue, IsFalse, refl, sym, ◌∙◌}
use Rattle.std.specs.List.{list_all}
use Rattle.std.proofs.lemmas.Bool.{and_parts}
use Rattle.std.proofs.lemmas.List.Folds.{list_all-append}
use Rattle.tardis_base.specs.declared.replies.Refusal.{Refusal}
use Rattle.tardis_base.specs.declared.replies.Refusal.TheVariants.{NotOpen, TxnOpen, NoTxn}
use Rattle.tardis_base.specs.declared.replies.Reply.{Reply}
use Rattle.plain_dag.proofs.Ids.{not-both}
use Rattle.plain_dag.specs.Entries.{entry_of}
use Rattle.plain_dag.specs.Floors.{Session}
use Rattle.plain_site.specs.Site.{Site, Txn}
use Rattle.plain_site.specs.Answers.{Answer, refused, when, refuse_found, unless, given, with_session, with_txn, without_txn}

-- none of these refuses
abbrev pub AreNone : List (Option Reply) → Type 0
AreNone refusals = IsTrue (list_all is_none refusals)

pub when-none : (test : Bool) (reply : Reply) → IsTrue (is_none (when test reply)) → IsFalse test
when-none true reply h = not-both true refl (sym h)
when-none false reply h = refl

pub found-none : {A : Type 0} (refusal : A → Refusal) (found : Option A) → IsTrue (is_none (refuse_found refusal found)) → found ≡ None
found-none refusal None h = refl
found-none refusal (Some a) h = not-both true refl (sym h)

-- the first of these, and the others
pub none-parts : (first : Option Reply) (others : List (Option Reply)) → AreNone (first ∷ others) → IsTrue (is_none first) × AreNone others
none-parts first others h = and_parts (is_none first) (list_all is_none others) h

pub none-appended : (refusals others : List (Option Reply)) → AreNone (refusals ++ others) → AreNone refusals × AreNone others
none-appended refusals others h =
    and_parts (list_all is_none refusals) (list_all is_none others) (sym (list_all-append is_none refusals others) ∙ h)

module _ (P : Site → Type 0) (site : Site) (old : P site) where
  -- the site is as before, or as without refusals
  pub unless-keeps : (refusals : List (Option Reply)) (answer : Answer) → (AreNone refusals → P answer.0) → P (unless site refusals answer).0
  unless-keeps [] answer new = new refl
  unless-keeps (None ∷ more) answer new = unless-keeps more answer new
  unless-keeps (Some reply ∷ more) answer new = old

  pub given-keeps : {A : Type 0} (o : Option A) (answer : Answer) (use_of : A → Answer) → (o ≡ None → P answer.0) → ((a : A) → o ≡ Some a → P (use_of a).0)
      → P (given o answer use_of).0
  given-keeps None answer use_of none some = none refl
  given-keeps (Some a) answer use_of none some = some a refl

  pub session-keeps : (n : ℕ) (go : Session → Answer) → ((s : Session) → entry_of n site.sessions ≡ Some s → P (go s).0) → P (with_session site n go).0
  session-keeps n go new = given-keeps (entry_of n site.sessions) (refused site NotOpen) go (λ e. old) new

  pub txn-keeps : (n : ℕ) (go : Session → Txn → Answer) →
      ((s : Session) → entry_of n site.sessions ≡ Some s → (t : Txn) → entry_of n site.txns ≡ Some t → P (go s t).0) → P (with_txn site n go).0
  txn-keeps n go new =
      session-keeps n (λ s. given (entry_of n site.txns) (refused site NoTxn) (go s))
      (λ s e. given-keeps (entry_of n site.txns) (refused site NoTxn) (go s) (λ f. old) (new s e))

  pub no_txn-keeps : (n : ℕ) (go : Session → Answer) →
      ((s : Session) → entry_of n site.sessions ≡ Some s → entry_of n site.txns ≡ None → P (go s).0) → P (without_txn site n go).0
  no_txn-keeps n go new =
      session-keeps n (λ s. given (entry_of n site.txns) (go s) (λ t. refused site TxnOpen))
      (λ s e. given-keeps (entry_of n site.txns) (go s) (λ t. refused site TxnOpen) (new s e) (λ t f. old))
