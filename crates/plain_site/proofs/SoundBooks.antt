-- Sessions, transactions and floors of a sound site, and what a change of sessions and transactions alone leaves of it.
use Rattle.std.proofs.Common.{◌≡◌, ℕ, zero, suc, ◌+◌, ◌-◌, ◌<◌, ◌≤◌, List, [], ◌∷◌, length, Some, None, IsTrue, inl, inr, sym, ap, subst, ◌∙◌, arith, get_or}
use Rattle.std.specs.Prelude.{◌&&◌, nat_le}
use Rattle.std.specs.List.{list_all}
use Rattle.std.specs.Option.{option_map}
use Rattle.std.proofs.lemmas.Bool.{and_parts, and_from, cases_eq, leb-true}
use Rattle.std.proofs.lemmas.Option.{none-some, same_Some, unwrap_or-slice_get}
use Rattle.tardis_base.specs.declared.ids.StateId.{StateId}
use Rattle.tardis_base.specs.declared.records.Record.{Record}
use Rattle.tardis_base.specs.Valid.{is_u16, is_u32}
use Rattle.plain_dag.specs.States.{is_known, count_of_site}
use Rattle.plain_dag.specs.Above.{is_above}
use Rattle.plain_dag.specs.Entries.{entry_of, with_entry, changed, without_entry, have_ascending_numbers}
use Rattle.plain_dag.specs.Floors.{Session, Sessions, Floor, opening_floor, floor_of, is_above_ceilings}
use Rattle.plain_site.specs.Site.{Site, Txn, own_floor}
use Rattle.plain_site.specs.Sound.{IsSoundTxn, is_sound_session, are_sound_floors, IsSound}
use Rattle.plain_site.proofs.SoundEntries.{entry-changed, entry-changed_other, entry-with_entry, entry-with_entry_other, entry-without_entry}
use Rattle.plain_site.proofs.SoundEntries.{entry-without_entry_other, entry-passes}

-- ===== Transactions

-- the transaction of this number is a sound one of an open session
abbrev pub TxnAt : List Record → Sessions → List (ℕ × Txn) → ℕ → Type 0
TxnAt rs sessions txns n = (t : Txn) → entry_of n txns ≡ Some t → (s : Session) × (entry_of n sessions ≡ Some s) × IsSoundTxn rs s.ceiling t

-- at this number and at each other one
pub at-each : (P : ℕ → Type 0) (n : ℕ) → P n → ((m : ℕ) → (m ≡ n → ⊥) → P m) → (m : ℕ) → P m
at-each P n here there m = elim (cases_eq m n) [ inl same ↦ subst P (sym same) here | inr differ ↦ there m differ ]

module _ (rs : List Record) (sessions : Sessions) (txns : List (ℕ × Txn)) (n : ℕ) (old : (m : ℕ) → TxnAt rs sessions txns m) where
  pub each-without_txn : (m : ℕ) → TxnAt rs sessions (without_entry n txns) m
  each-without_txn =
      at-each (TxnAt rs sessions (without_entry n txns)) n (λ t e. absurd (none-some t (sym (entry-without_entry n txns) ∙ e)))
      (λ m differ t e. old m t (sym (entry-without_entry_other n m txns differ) ∙ e))

  pub each-with_txn : (s : Session) (t : Txn) → entry_of n sessions ≡ Some s → IsSoundTxn rs s.ceiling t → (m : ℕ) → TxnAt rs sessions (with_entry n t txns) m
  each-with_txn s t opened sound =
      at-each (TxnAt rs sessions (with_entry n t txns)) n
      (λ u e. (s, opened, subst (λ v. IsSoundTxn rs s.ceiling v) (same_Some t u (sym (entry-with_entry n t txns) ∙ e)) sound))
      (λ m differ u e. old m u (sym (entry-with_entry_other n m t txns differ) ∙ e))

  pub each-txn_changed : (f : Txn → Txn) (t : Txn) → entry_of n txns ≡ Some t →
      ((s : Session) → IsSoundTxn rs s.ceiling t → IsSoundTxn rs s.ceiling (f t)) → (m : ℕ) → TxnAt rs sessions (changed n f txns) m
  each-txn_changed f t has keeps =
      at-each (TxnAt rs sessions (changed n f txns)) n
      (λ u e.
      let was = old n t has in
      let same = same_Some (f t) u (sym (entry-changed n f txns ∙ ap (option_map f) has) ∙ e) in
      (was.0, was.1, subst (λ v. IsSoundTxn rs was.0.ceiling v) same (keeps was.0 was.2)))
      (λ m differ u e. old m u (sym (entry-changed_other n m f txns differ) ∙ e))

  pub each-with_session : (s : Session) → entry_of n sessions ≡ None → (m : ℕ) → TxnAt rs (with_entry n s sessions) txns m
  each-with_session s none =
      at-each (TxnAt rs (with_entry n s sessions) txns) n
      (λ t e. let was = old n t e in absurd (none-some was.0 (sym none ∙ was.1)))
      (λ m differ t e. let was = old m t e in (was.0, entry-with_entry_other n m s sessions differ ∙ was.1, was.2))

  pub each-session_changed : (f : Session → Session) → entry_of n txns ≡ None → (m : ℕ) → TxnAt rs (changed n f sessions) txns m
  each-session_changed f none =
      at-each (TxnAt rs (changed n f sessions) txns) n
      (λ t e. absurd (none-some t (sym none ∙ e)))
      (λ m differ t e. let was = old m t e in (was.0, entry-changed_other n m f sessions differ ∙ was.1, was.2))

  pub each-without_session : entry_of n txns ≡ None → (m : ℕ) → TxnAt rs (without_entry n sessions) txns m
  each-without_session none =
      at-each (TxnAt rs (without_entry n sessions) txns) n
      (λ t e. absurd (none-some t (sym none ∙ e)))
      (λ m differ t e. let was = old m t e in (was.0, entry-without_entry_other n m sessions differ ∙ was.1, was.2))

-- ===== Sessions and transactions of a sound site

pub record IsSoundBook (rs : List Record) (most : ℕ) (floor : StateId) (sessions : Sessions) (txns : List (ℕ × Txn)) : Type 0 where
  pub few : length sessions ≤ most
  pub numbers : IsTrue (have_ascending_numbers sessions)
  pub each_session : IsTrue (list_all (is_sound_session rs) sessions)
  pub txn_numbers : IsTrue (have_ascending_numbers txns)
  pub each_txn : (n : ℕ) → TxnAt rs sessions txns n
  pub under_floor : IsTrue (is_above_ceilings rs sessions floor)

-- the book of the site
abbrev pub BookOf : Site → Sessions → List (ℕ × Txn) → Type 0
BookOf site sessions txns = IsSoundBook site.dag site.limits.max_sessions (own_floor site).state sessions txns

pub sound-book : (site : Site) → IsSound site → BookOf site site.sessions site.txns
sound-book site sound = record {
  few = sound.few_sessions;
  numbers = sound.session_numbers;
  each_session = sound.each_session;
  txn_numbers = sound.txn_numbers;
  each_txn = sound.each_txn;
  under_floor = sound.under_floor;
}

-- a site with another sound book is sound
pub book-keeps : (site : Site) (sessions : Sessions) (txns : List (ℕ × Txn)) → IsSound site → BookOf site sessions txns →
    IsSound (record site { sessions = sessions; txns = txns })
book-keeps site sessions txns sound book = record {
  limits = sound.limits;
  own = sound.own;
  dag = sound.dag;
  of_the_sites = sound.of_the_sites;
  few_kept = sound.few_kept;
  short_paths = sound.short_paths;
  few_children = sound.few_children;
  few_sessions = book.few;
  session_numbers = book.numbers;
  each_session = book.each_session;
  txn_numbers = book.txn_numbers;
  each_txn = book.each_txn;
  one_floor_each = sound.one_floor_each;
  each_floor = sound.each_floor;
  under_floor = book.under_floor;
  collected = sound.collected;
  collected_once = sound.collected_once;
  waiting = sound.waiting;
}

-- the same, where the transactions alone are others
pub txns-keep : (site : Site) (txns : List (ℕ × Txn)) → IsSound site → IsTrue (have_ascending_numbers txns) →
    ((m : ℕ) → TxnAt site.dag site.sessions txns m) → IsSound (record site { txns = txns })
txns-keep site txns sound numbers each =
    book-keeps site site.sessions txns sound
    (record {
      few = sound.few_sessions;
      numbers = sound.session_numbers;
      each_session = sound.each_session;
      txn_numbers = numbers;
      each_txn = each;
      under_floor = sound.under_floor;
    })

-- ===== One session

pub record IsSoundSession (rs : List Record) (n : ℕ) (s : Session) : Type 0 where
  pub number : IsTrue (is_u16 n)
  pub ceiling : IsTrue (is_known rs s.ceiling)
  pub last : IsTrue (is_known rs s.last)

pub session-parts : (rs : List Record) (s : ℕ × Session) → IsTrue (is_sound_session rs s) → IsSoundSession rs s.0 s.1
session-parts rs s h =
    let parts = and_parts (is_u16 s.0 && is_known rs s.1.ceiling) (is_known rs s.1.last) h in
    let first = and_parts (is_u16 s.0) (is_known rs s.1.ceiling) parts.0 in
    record { number = first.0; ceiling = first.1; last = parts.1 }

pub session-from : (rs : List Record) (s : ℕ × Session) → IsSoundSession rs s.0 s.1 → IsTrue (is_sound_session rs s)
session-from rs s h =
    and_from (is_u16 s.0 && is_known rs s.1.ceiling) (is_known rs s.1.last) (and_from (is_u16 s.0) (is_known rs s.1.ceiling) h.number h.ceiling) h.last

-- an open session, under the own floor
pub open-session : (site : Site) (n : ℕ) (s : Session) → IsSound site → entry_of n site.sessions ≡ Some s →
    IsSoundSession site.dag n s × IsTrue (is_above site.dag (own_floor site).state s.ceiling)
open-session site n s sound e = (
  session-parts site.dag (n, s) (entry-passes (is_sound_session site.dag) n s site.sessions sound.each_session e),
  entry-passes (λ (d : ℕ × Session). is_above site.dag (own_floor site).state d.1.ceiling) n s site.sessions sound.under_floor e,
)

-- ===== Floors

pub record IsSoundFloor (rs : List Record) (n : ℕ) (f : Floor) : Type 0 where
  pub known : IsTrue (is_known rs f.state)
  pub stated : f.stated ≤ count_of_site rs n
  pub number : IsTrue (is_u32 f.number)

pub floor-parts : (rs : List Record) (n : ℕ) (f : Floor) (fs : List Floor) → IsTrue (are_sound_floors rs n (f ∷ fs)) → IsSoundFloor rs n f
    × IsTrue (are_sound_floors rs (n + 1) fs)
floor-parts rs n f fs h =
    let known = is_known rs f.state in
    let stated = nat_le f.stated (count_of_site rs n) in
    let parts = and_parts (known && stated && is_u32 f.number) (are_sound_floors rs (n + 1) fs) h in
    let first = and_parts (known && stated) (is_u32 f.number) parts.0 in
    let both = and_parts known stated first.0 in
    (record { known = both.0; stated = leb-true f.stated (count_of_site rs n) both.1; number = first.1 }, parts.1)

floor-at : (rs : List Record) (n : ℕ) (fs : List Floor) → IsTrue (are_sound_floors rs n fs) → (i : ℕ) → i < length fs → (d : Floor) →
    IsSoundFloor rs (n + i) (get_or fs i d)
floor-at rs n [] h i l d = absurd (omega arith)
floor-at rs n (f ∷ fs) h zero l d =
    let same : n + 0 ≡ n = omega arith in
    subst (λ k. IsSoundFloor rs k f) (sym same) (floor-parts rs n f fs h).0
floor-at rs n (f ∷ fs) h (suc i) l d =
    let same : n + suc i ≡ n + 1 + i = omega arith in
    subst (λ k. IsSoundFloor rs k (get_or fs i d)) (sym same) (floor-at rs (n + 1) fs (floor-parts rs n f fs h).1 i (omega arith) d)

-- the floor of each site
pub sound-floor : (site : Site) → IsSound site → (n : ℕ) → 1 ≤ n → n ≤ site.limits.sites → IsSoundFloor site.dag n (floor_of site.floors n)
sound-floor site sound n least most =
    let all = sound.one_floor_each in
    let l : n - 1 < length site.floors = omega arith in
    let same : 1 + (n - 1) ≡ n = omega arith in
    subst (λ f. IsSoundFloor site.dag n f) (sym (unwrap_or-slice_get site.floors (n - 1) opening_floor))
    (subst (λ k. IsSoundFloor site.dag k (get_or site.floors (n - 1) opening_floor)) same
    (floor-at site.dag 1 site.floors sound.each_floor (n - 1) l opening_floor))

-- the own number is that of a site
pub own-is_site : (site : Site) → IsSound site → (1 ≤ site.own) × (site.own ≤ site.limits.sites)
own-is_site site sound =
    let parts = and_parts (nat_le 1 site.own) (nat_le site.own site.limits.sites) sound.own in
    (leb-true 1 site.own parts.0, leb-true site.own site.limits.sites parts.1)

pub sound-own_floor : (site : Site) → IsSound site → IsSoundFloor site.dag site.own (own_floor site)
sound-own_floor site sound = let own = own-is_site site sound in sound-floor site sound site.own own.0 own.1
