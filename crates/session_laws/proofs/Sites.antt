-- What two plain sites of one running site have in common.
use Rattle.std.proofs.Common.{◌≡◌, ℕ, ◌+◌, ◌≤◌, not, List, [], ◌∷◌, Option, Some, None, IsTrue, refl, sym, ap, ap₂, subst, ◌∙◌}
use Rattle.std.specs.Option.{option_map}
use Rattle.std.proofs.lemmas.Bool.{and_from, both_ways, not-true, not_from_false, false_from_ne_true}
use Rattle.std.proofs.lemmas.Option.{none-some, same_Some}
use Rattle.tardis_base.specs.declared.ids.StateId.{StateId}
use Rattle.tardis_base.specs.Ids.{is_among}
use Rattle.plain_dag.specs.States.{is_known, count_of_site}
use Rattle.plain_dag.specs.Above.{is_proper_ancestor}
use Rattle.plain_dag.specs.Writers.{read}
use Rattle.plain_dag.specs.Begin.{is_admitted}
use Rattle.plain_dag.specs.Entries.{entry_of}
use Rattle.plain_dag.proofs.Ids.{among-first}
use Rattle.plain_dag.specs.Floors.{Session}
use Rattle.plain_dag.specs.Collection.{is_kept, stand_in}
use Rattle.state_dag.proofs.Standing.{slot-is_kept}
use Rattle.ceiling_book.specs.declared.parts.OpenSession.{OpenSession}
use Rattle.ceiling_book.specs.Book.{Book, session_of, sessions_of}
use Rattle.ceiling_book.specs.Places.{IsAt, HasStandIn}
use Rattle.ceiling_book.proofs.Entries.{looked-up, entry-mapped}
use Rattle.ceiling_book.proofs.Keeping.{found-ceiling, found-last}
use Rattle.merge_txn.specs.declared.Txn.{Txn as Kept}
use Rattle.merge_txn.specs.declared.Txn.TheVariants.{Single as KeptSingle, Merge as KeptMerge}
use Rattle.conflict_keys.proofs.Walks.{named-are_kept}
use Rattle.plain_site.specs.Site.{Site, SingleTxn, MergeTxn, Txn, Single, Merge, own_count, next_id, read_states}
use Rattle.plain_site.proofs.SoundBooks.{own-is_site}
use Rattle.session_core.specs.Core.{Core}
use Rattle.session_core.specs.Stands.{CoreStands, txn_of}
use Rattle.session_core.specs.Txns.{IsNamed}
use Rattle.session_core.specs.Machine.{SiteStands}
use Rattle.session_core.proofs.Beginning.{collected-above}
use Rattle.session_laws.proofs.Alike.{AreAlike}
use Rattle.session_laws.proofs.Tables.{tables-alike, known-alike, count-alike, admitted-alike}
use Rattle.session_laws.proofs.Stores.{read-alike}

-- ===== Transactions

-- the states that an open transaction reads are kept
read-is_kept : (core : Core) (site : Site) → CoreStands core site → (n : ℕ) (t : Txn) → entry_of n site.txns ≡ Some t → (x : StateId) →
    IsTrue (is_among x (read_states t)) → IsTrue (is_kept site.dag site.collected x)
read-is_kept core site stands n t found x m = go (entry_of n core.txns) refl
  where
    of-kept : (h : Kept) → IsNamed core.store.table h → IsTrue (is_among x (read_states (txn_of h))) → IsTrue (is_kept site.dag site.collected x)
    of-kept (KeptSingle h) named among = named-are_kept core.store.table site.dag site.collected stands.store.table (h.slot ∷ []) (h.state ∷ [])
        (ap (λ o. o ∷ []) named) x among
    of-kept (KeptMerge h) named among = named-are_kept core.store.table site.dag site.collected stands.store.table h.slots h.states named x among

    go : (o : Option Kept) → entry_of n core.txns ≡ o → IsTrue (is_kept site.dag site.collected x)
    go None e = absurd (none-some t (sym (ap (option_map txn_of) e) ∙ (stands.txns n ∙ found)))
    go (Some h) e =
        let same : txn_of h ≡ t = same_Some (txn_of h) t (sym (ap (option_map txn_of) e) ∙ (stands.txns n ∙ found)) in
        of-kept h (stands.slots n h e) (subst (λ u. IsTrue (is_among x (read_states u))) (sym same) m)

-- ===== Sessions

-- the open session that is kept so
record IsOpenFor (book : Book) (n : ℕ) (s : Session) : Type 0 where
  kept : OpenSession
  found : entry_of n book.sessions ≡ Some kept
  same : session_of kept ≡ s

open-for : (book : Book) (n : ℕ) (s : Session) → entry_of n (sessions_of book) ≡ Some s → IsOpenFor book n s
open-for book n s e = go (entry_of n book.sessions) refl
  where
    go : (o : Option OpenSession) → entry_of n book.sessions ≡ o → IsOpenFor book n s
    go None f = absurd (none-some s (sym (entry-mapped session_of n book.sessions ∙ ap (option_map session_of) f) ∙ e))
    go (Some k) f = record {
      kept = k;
      found = f;
      same = same_Some (session_of k) s
          (sym (entry-mapped session_of n book.sessions ∙ ap (option_map session_of) f) ∙ e);
    }

-- a session's ceiling is kept
pub ceiling-is_kept : (core : Core) (site : Site) → CoreStands core site → (n : ℕ) (s : Session) → entry_of n site.sessions ≡ Some s →
    IsTrue (is_kept site.dag site.collected s.ceiling)
ceiling-is_kept core site stands n s e =
    let table = core.store.table in
    let o = open-for core.book n s (ap (entry_of n) stands.sessions ∙ e) in
    let at = found-ceiling (IsAt table) (HasStandIn table site.dag site.collected) core.book n o.kept stands.placed
    (looked-up n core.book.sessions ∙ o.found) in
    subst (λ (t : Session). IsTrue (is_kept site.dag site.collected t.ceiling)) o.same
    (slot-is_kept table site.dag site.collected stands.store.table o.kept.ceiling.slot o.kept.ceiling.state at)

module _ (core : Core) (a b : Site) (on_a : SiteStands core a) (on_b : SiteStands core b) where
  -- sessions, floors, limits, the own number and the transactions are the same
  pub sessions-alike : a.sessions ≡ b.sessions
  sessions-alike = sym on_a.0.sessions ∙ on_b.0.sessions

  pub floors-alike : a.floors ≡ b.floors
  floors-alike = sym on_a.0.floors ∙ on_b.0.floors

  pub limits-alike : a.limits ≡ b.limits
  limits-alike = sym on_a.0.limits ∙ on_b.0.limits

  pub own-alike : a.own ≡ b.own
  own-alike = sym on_a.0.own ∙ on_b.0.own

  pub txns-alike : (n : ℕ) → entry_of n a.txns ≡ entry_of n b.txns
  txns-alike n = sym (on_a.0.txns n) ∙ on_b.0.txns n

  -- the same state stands in for a last commit
  pub last-held : (n : ℕ) (s : Session) → entry_of n a.sessions ≡ Some s → stand_in a.dag a.collected s.last ≡ stand_in b.dag b.collected s.last
  last-held n s e =
      let table = core.store.table in
      let o = open-for core.book n s (ap (entry_of n) on_a.0.sessions ∙ e) in
      let found = looked-up n core.book.sessions ∙ o.found in
      let at_a = found-last (IsAt table) (HasStandIn table a.dag a.collected) core.book n o.kept on_a.0.placed found in
      let at_b = found-last (IsAt table) (HasStandIn table b.dag b.collected) core.book n o.kept on_b.0.placed found in
      let last = o.kept.last.state in
      subst (λ (t : Session). stand_in a.dag a.collected t.last ≡ stand_in b.dag b.collected t.last) o.same
      (same_Some (stand_in a.dag a.collected last) (stand_in b.dag b.collected last) (sym at_a ∙ at_b))

  -- ===== The next id

  pub own-count-alike : own_count a ≡ own_count b
  own-count-alike =
      let within = own-is_site a on_a.1 in
      count-alike core.store.table a.dag a.collected b.dag b.collected on_a.0.store.table on_b.0.store.table a.own within.0
      (subst (λ l. a.own ≤ l.sites) (sym on_a.0.limits) within.1)
      ∙ ap (count_of_site b.dag) own-alike

  pub next-id-alike : next_id a ≡ next_id b
  next-id-alike =
      let id : ℕ → ℕ → StateId = λ site count. record { site = site; sequence = count + 1 } in
      ap₂ id own-alike own-count-alike

  -- ===== What is kept

  -- the histories are alike in what is kept
  pub sites-alike : AreAlike a.dag a.collected b.dag b.collected
  sites-alike = tables-alike core.store.table a.dag a.collected b.dag b.collected on_a.0.store.table on_b.0.store.table

  -- the same states are known
  pub known-same : (x : StateId) → is_known a.dag x ≡ is_known b.dag x
  known-same x = known-alike core.store.table a.dag a.collected b.dag b.collected on_a.0.store.table on_b.0.store.table x

  -- and a kept one reads the same
  pub read-same : (k : List ℕ) (x : StateId) → IsTrue (is_kept a.dag a.collected x) → read a.dag k x ≡ read b.dag k x
  read-same k x kept = read-alike core.store a.dag a.collected b.dag b.collected on_a.0.store on_b.0.store k x kept

  module _ (n : ℕ) where
    -- a known state is admitted under a session's ceiling in both or in neither
    pub admitted-same : (s : Session) → entry_of n a.sessions ≡ Some s → (x : StateId) → IsTrue (is_known a.dag x) → is_admitted a.dag s.ceiling x
        ≡ is_admitted b.dag s.ceiling x
    admitted-same s e x known =
        let there : entry_of n b.sessions ≡ Some s = ap (entry_of n) (sym sessions-alike) ∙ e in
        admitted-alike core.store.table a.dag a.collected b.dag b.collected on_a.0.store.table on_b.0.store.table s.ceiling x
        (ceiling-is_kept core a on_a.0 n s e) known
        (collected-above a n s on_a.1 e) (collected-above b n s on_b.1 there)

    -- what is admitted under a session's ceiling is kept
    pub admitted-is_kept : (s : Session) → entry_of n a.sessions ≡ Some s → (x : StateId) → IsTrue (is_known a.dag x) →
        IsTrue (is_admitted a.dag s.ceiling x) → IsTrue (is_kept a.dag a.collected x)
    admitted-is_kept s e x known admitted =
        and_from (is_known a.dag x) (not (is_among x a.collected)) known
        (not_from_false (is_among x a.collected) (false_from_ne_true (is_among x a.collected) (λ gone.
        both_ways (is_proper_ancestor a.dag x s.ceiling) (not-true (is_proper_ancestor a.dag x s.ceiling) admitted) (collected-above a n s on_a.1 e x gone))))

    -- so are the states that a transaction reads
    pub one-kept : (t : SingleTxn) → entry_of n a.txns ≡ Some (Single t) → IsTrue (is_kept a.dag a.collected t.state)
    one-kept t d = read-is_kept core a on_a.0 n (Single t) d t.state (among-first t.state [])

    pub all-kept : (t : MergeTxn) → entry_of n a.txns ≡ Some (Merge t) → (x : StateId) → IsTrue (is_among x t.states) → IsTrue (is_kept a.dag a.collected x)
    all-kept t d x m = read-is_kept core a on_a.0 n (Merge t) d x m
