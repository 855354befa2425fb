-- What stands for a site, and its transactions.
use Rattle.std.proofs.Common.{◌≡◌, ℕ, true, false, List, is_some, Option, Some, None, refl, sym, ap, subst, ◌∙◌}
use Rattle.std.specs.Option.{option_map}
use Rattle.plain_dag.specs.Entries.{entry_of, with_entry, without_entry, changed}
use Rattle.plain_dag.specs.Floors.{Session}
use Rattle.state_dag.specs.Table.{Table}
use Rattle.tardis_base.specs.declared.replies.Refusal.{Refusal}
use Rattle.tardis_base.specs.declared.replies.Refusal.TheVariants.{NotOpen, TxnOpen, NoTxn}
use Rattle.merge_txn.specs.declared.Txn.{Txn as Kept}
use Rattle.ceiling_book.specs.Book.{is_open}
use Rattle.plain_site.specs.Site.{Site, Txn}
use Rattle.plain_site.specs.Sound.{IsSound}
use Rattle.plain_site.specs.Answers.{Answer, refused, given, with_session, with_txn, without_txn}
use Rattle.plain_site.proofs.SoundEntries.{entry-changed, entry-changed_other, entry-with_entry, entry-with_entry_other, entry-without_entry}
use Rattle.plain_site.proofs.SoundEntries.{entry-without_entry_other}
use Rattle.plain_site.proofs.SoundBooks.{at-each}
use Rattle.session_core.specs.Core.{Core}
use Rattle.session_core.specs.Guards.{HasTxn, RefusesAll, RefusesTxns, RefusesBegins}
use Rattle.session_core.specs.Stands.{CoreStands, txn_of}
use Rattle.session_core.specs.Txns.{IsNamed}
use Rattle.session_core.proofs.Entries.{each-with, each-without, each-changed}

-- ===== Options

-- what is there
pub record IsThere {A : Type 0} (o : Option A) : Type 0 where
  pub value : A
  pub is : o ≡ Some value

pub there : {A : Type 0} (o : Option A) → is_some o ≡ true → IsThere o
there None e = (cc)
there (Some a) e = record { value = a; is = refl }

pub absent : {A : Type 0} (o : Option A) → is_some o ≡ false → o ≡ None
absent None e = refl
absent (Some a) e = (cc)

-- ===== The words of the step

module _ (site : Site) (n : ℕ) where
  pub session-answer : (go : Session → Answer) (s : Session) → entry_of n site.sessions ≡ Some s → with_session site n go ≡ go s
  session-answer go s e = ap (λ o. given o (refused site NotOpen) go) e

  pub session-missing : (go : Session → Answer) → entry_of n site.sessions ≡ None → with_session site n go ≡ refused site NotOpen
  session-missing go e = ap (λ o. given o (refused site NotOpen) go) e

  pub txn-answer : (go : Session → Txn → Answer) (s : Session) (t : Txn) → entry_of n site.sessions ≡ Some s → entry_of n site.txns ≡ Some t →
      with_txn site n go ≡ go s t
  txn-answer go s t e f = session-answer (λ r. given (entry_of n site.txns) (refused site NoTxn) (go r)) s e ∙ ap (λ o. given o (refused site NoTxn) (go s)) f

  pub txn-missing : (go : Session → Txn → Answer) (s : Session) → entry_of n site.sessions ≡ Some s → entry_of n site.txns ≡ None → with_txn site n go
      ≡ refused site NoTxn
  txn-missing go s e f = session-answer (λ r. given (entry_of n site.txns) (refused site NoTxn) (go r)) s e ∙ ap (λ o. given o (refused site NoTxn) (go s)) f

  pub no-txn-answer : (go : Session → Answer) (s : Session) → entry_of n site.sessions ≡ Some s → entry_of n site.txns ≡ None → without_txn site n go ≡ go s
  no-txn-answer go s e f = session-answer (λ r. given (entry_of n site.txns) (go r) (λ t. refused site TxnOpen)) s e
      ∙ ap (λ o. given o (go s) (λ t. refused site TxnOpen)) f

  pub txn-in-the-way : (go : Session → Answer) (s : Session) (t : Txn) → entry_of n site.sessions ≡ Some s → entry_of n site.txns ≡ Some t →
      without_txn site n go ≡ refused site TxnOpen
  txn-in-the-way go s t e f = session-answer (λ r. given (entry_of n site.txns) (go r) (λ u. refused site TxnOpen)) s e
      ∙ ap (λ o. given o (go s) (λ u. refused site TxnOpen)) f

-- ===== Sessions and transactions that stand

module _ (core : Core) (site : Site) (stands : CoreStands core site) (n : ℕ) where
  pub open-session : is_open core.book n ≡ true → IsThere (entry_of n site.sessions)
  open-session e = there (entry_of n site.sessions) (sym (ap (λ ss. is_some (entry_of n ss)) stands.sessions) ∙ e)

  -- the plain transaction for one that is kept
  pub kept-for : (t : Kept) → entry_of n core.txns ≡ Some t → entry_of n site.txns ≡ Some (txn_of t)
  kept-for t e = sym (stands.txns n) ∙ ap (option_map txn_of) e

  pub none-kept : entry_of n core.txns ≡ None → entry_of n site.txns ≡ None
  none-kept e = sym (stands.txns n) ∙ ap (option_map txn_of) e

  -- a session with a transaction
  pub has-txn : IsSound site → (t : Kept) → entry_of n core.txns ≡ Some t → HasTxn core.store.table site n t
  has-txn sound t e =
      let found = kept-for t e in
      let was = sound.each_txn n (txn_of t) found in
      record { session = was.0; opened = was.1; found = found; named = stands.slots n t e }

  pub txn-open : (t : Kept) → HasTxn core.store.table site n t → is_open core.book n ≡ true
  txn-open t has = ap (λ ss. is_some (entry_of n ss)) stands.sessions ∙ ap is_some has.opened

  -- refusals before a request is looked at
  pub refuses-not_open : is_open core.book n ≡ false → RefusesAll site n NotOpen
  refuses-not_open closed go = session-missing site n go (absent (entry_of n site.sessions) (sym (ap (λ ss. is_some (entry_of n ss)) stands.sessions) ∙ closed))

  pub refuses-no_txn : is_open core.book n ≡ true → entry_of n core.txns ≡ None → RefusesTxns site n NoTxn
  refuses-no_txn opened none go =
      let s = open-session opened in
      txn-missing site n go s.value s.is (none-kept none)

  pub refuses-txn_open : is_open core.book n ≡ true → is_some (entry_of n core.txns) ≡ true → RefusesBegins site n TxnOpen
  refuses-txn_open opened some go =
      let s = open-session opened in
      let t = there (entry_of n core.txns) some in
      txn-in-the-way site n go s.value (txn_of t.value) s.is (kept-for t.value t.is)

module _ (site : Site) (n : ℕ) (refusal : Refusal) (refuses : RefusesAll site n refusal) where
  pub all-txns : RefusesTxns site n refusal
  all-txns go = refuses (λ s. given (entry_of n site.txns) (refused site NoTxn) (go s))

  pub all-begins : RefusesBegins site n refusal
  all-begins go = refuses (λ s. given (entry_of n site.txns) (go s) (λ t. refused site TxnOpen))

-- the answer for the transaction that is kept, whatever the session
pub has-answer : (table : Table) (site : Site) (n : ℕ) (t : Kept) → HasTxn table site n t → (go : Txn → Answer) → with_txn site n (λ s u. go u) ≡ go (txn_of t)
has-answer table site n t has go = txn-answer site n (λ s u. go u) has.session (txn_of t) has.opened has.found

-- ===== Changes of the transactions

both-changed : (f : Txn → Txn) (g : Kept → Kept) (o : Option Kept) → ((h : Kept) → txn_of (g h) ≡ f (txn_of h)) → option_map txn_of (option_map g o)
    ≡ option_map f (option_map txn_of o)
both-changed f g None both = refl
both-changed f g (Some h) both = ap (λ u. Some u) (both h)

module _ (core : Core) (site : Site) (stands : CoreStands core site) (n : ℕ) where
  -- other transactions
  with-txns : (es : List (ℕ × Kept)) (ts : List (ℕ × Txn)) → ((m : ℕ) → option_map txn_of (entry_of m es) ≡ entry_of m ts) →
      ((m : ℕ) (h : Kept) → entry_of m es ≡ Some h → IsNamed core.store.table h) →
      CoreStands (record core { txns = es }) (record site { txns = ts })
  with-txns es ts txns slots = record {
    store = stands.store;
    limits = stands.limits;
    own = stands.own;
    max_sessions = stands.max_sessions;
    sessions = stands.sessions;
    floors = stands.floors;
    placed = stands.placed;
    txns = txns;
    slots = slots;
    waiting = stands.waiting;
  }

  -- a transaction ends
  pub txn-ended : (es : List (ℕ × Kept)) → es ≡ without_entry n core.txns →
      CoreStands (record core { txns = es }) (record site { txns = without_entry n site.txns })
  txn-ended es e =
      subst (λ z. CoreStands (record core { txns = z }) (record site { txns = without_entry n site.txns })) (sym e)
      (with-txns (without_entry n core.txns) (without_entry n site.txns)
      (at-each (λ m. option_map txn_of (entry_of m (without_entry n core.txns)) ≡ entry_of m (without_entry n site.txns)) n
      (ap (option_map txn_of) (entry-without_entry n core.txns) ∙ sym (entry-without_entry n site.txns))
      (λ m differ. ap (option_map txn_of) (entry-without_entry_other n m core.txns differ) ∙ stands.txns m
      ∙ sym (entry-without_entry_other n m site.txns differ)))
      (each-without (IsNamed core.store.table) n core.txns stands.slots))

  -- a transaction changes, and still reads the same states
  pub txn-changed : (f : Txn → Txn) (g : Kept → Kept) (es : List (ℕ × Kept)) → es ≡ changed n g core.txns → ((h : Kept) → txn_of (g h) ≡ f (txn_of h)) →
      ((h : Kept) → IsNamed core.store.table h → IsNamed core.store.table (g h)) →
      CoreStands (record core { txns = es }) (record site { txns = changed n f site.txns })
  txn-changed f g es e both same =
      subst (λ z. CoreStands (record core { txns = z }) (record site { txns = changed n f site.txns })) (sym e)
      (with-txns (changed n g core.txns) (changed n f site.txns)
      (at-each (λ m. option_map txn_of (entry_of m (changed n g core.txns)) ≡ entry_of m (changed n f site.txns)) n
      (ap (option_map txn_of) (entry-changed n g core.txns) ∙ both-changed f g (entry_of n core.txns) both ∙ ap (option_map f) (stands.txns n)
      ∙ sym (entry-changed n f site.txns))
      (λ m differ. ap (option_map txn_of) (entry-changed_other n m g core.txns differ) ∙ stands.txns m ∙ sym (entry-changed_other n m f site.txns differ)))
      (each-changed (IsNamed core.store.table) n g core.txns same stands.slots))

  -- a transaction begins
  pub txn-begun : (h : Kept) (es : List (ℕ × Kept)) → es ≡ with_entry n h core.txns → IsNamed core.store.table h →
      CoreStands (record core { txns = es }) (record site { txns = with_entry n (txn_of h) site.txns })
  txn-begun h es e named =
      subst (λ z. CoreStands (record core { txns = z }) (record site { txns = with_entry n (txn_of h) site.txns })) (sym e)
      (with-txns (with_entry n h core.txns) (with_entry n (txn_of h) site.txns)
      (at-each (λ m. option_map txn_of (entry_of m (with_entry n h core.txns)) ≡ entry_of m (with_entry n (txn_of h) site.txns)) n
      (ap (option_map txn_of) (entry-with_entry n h core.txns) ∙ sym (entry-with_entry n (txn_of h) site.txns))
      (λ m differ. ap (option_map txn_of) (entry-with_entry_other n m h core.txns differ) ∙ stands.txns m
      ∙ sym (entry-with_entry_other n m (txn_of h) site.txns differ)))
      (each-with (IsNamed core.store.table) n h core.txns stands.slots named))

  -- the transactions are as before
  pub same-txns : (es : List (ℕ × Kept)) → es ≡ core.txns → CoreStands (record core { txns = es }) site
  same-txns es e = subst (λ z. CoreStands (record core { txns = z }) site) (sym e) stands
