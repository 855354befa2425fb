-- A transaction is written over.
use Rattle.std.proofs.Common.{◌≡◌, ℕ, Bool, true, false, ◌==◌, if◌then◌else◌, List, [], ◌∷◌, Option, Some, None, Result, Ok, Err, refl, sym, ap, ◌∙◌}
use Rattle.std.specs.Ordering.{nat_cmp}
use Rattle.std.specs.Map.{lookup, set_value, keys_of}
use Rattle.std.specs.BTreeMap.{is_at}
use Rattle.std.specs.List.Sorted.{IsStrictlySortedBy}
use Rattle.std.specs.Borrow.{MutBor}
use Rattle.std.specs.Option.{option_map, option_copied_mut, OnSome, IfSome, IfNone}
use Rattle.std.proofs.lemmas.Map.Keys.{IsDistinct-from_sorted}
use Rattle.tardis_base.specs.declared.records.Write.{Write}
use Rattle.plain_dag.specs.Entries.{entry_of, with_entry, changed, without_entry}
use Rattle.merge_txn.specs.declared.Txn.{Txn}
use Rattle.merge_txn.specs.declared.Txn.TheVariants.{Single as KeptSingle}
use Rattle.merge_txn.specs.declared.SingleTxn.{SingleTxn as OneKept}
use Rattle.merge_txn.specs.declared.TxnFault.{TxnFault}
use Rattle.merge_txn.specs.Txns.{writes_of, reads_of, has_no_place_to_write, has_no_place_to_read, too_many_writes, too_many_reads}
use Rattle.tardis_base.specs.Keys.{write_of}
use Rattle.txn_book.specs.Places.{open_of}
use Rattle.txn_book.specs.Txns.{ChangedAs, NotedAs, PutAs, noting, putting, slot_read, slot_unless}
use Rattle.txn_book.specs.Changes.{ChangedAtPlace, NotedAtPlace, PutAtPlace}
use Rattle.txn_book.specs.Lending.{Leaves}
use Rattle.txn_book.proofs.Entries.{is-written, without-none}
use Rattle.txn_book.proofs.Places.{found-none, found-empty, found-full, open-changed, open-emptied, open-filled}

-- nothing is there
pub nothing-there : (n : ℕ) (es : List (ℕ × Option Txn)) (now : List (ℕ × Txn)) → open_of es ≡ now →
    ◌≡◌ {A = Option (Option Txn)} (lookup (is_at (nat_cmp n)) es) None →
    ◌≡◌ {A = Option Txn} (entry_of n now) None
nothing-there n es now is none = ap (entry_of n) (sym is) ∙ found-none n es none

-- its place is empty
pub nothing-left : (n : ℕ) (es : List (ℕ × Option Txn)) (now : List (ℕ × Txn)) → open_of es ≡ now → IsStrictlySortedBy nat_cmp (keys_of es) →
    lookup (is_at (nat_cmp n)) es ≡ Some None →
    ◌≡◌ {A = Option Txn} (entry_of n now) None
nothing-left n es now is ordered empty = ap (entry_of n) (sym is) ∙ found-empty n es (IsDistinct-from_sorted nat_cmp (keys_of es) ordered) empty

-- what has no place ends, and all is as before
pub nothing-ends : (n : ℕ) (es : List (ℕ × Option Txn)) (now : List (ℕ × Txn)) → open_of es ≡ now →
    ◌≡◌ {A = Option (Option Txn)} (lookup (is_at (nat_cmp n)) es) None → open_of es ≡ without_entry n now
nothing-ends n es now is none = is ∙ without-none n now (nothing-there n es now is none)

-- it is there
pub is-there : (n : ℕ) (es : List (ℕ × Option Txn)) (now : List (ℕ × Txn)) (v : Txn) → open_of es ≡ now →
    lookup (is_at (nat_cmp n)) es ≡ Some (Some v) → entry_of n now ≡ Some v
is-there n es now v is found = ap (entry_of n) (sym is) ∙ found-full n v es found

-- what a place holds is the session's
place-holds : (n : ℕ) (es : List (ℕ × Option Txn)) (now : List (ℕ × Txn)) → open_of es ≡ now → IsStrictlySortedBy nat_cmp (keys_of es) →
    (v : Option Txn) → lookup (is_at (nat_cmp n)) es ≡ Some v → v ≡ entry_of n now
place-holds n es now is ordered None found = sym (nothing-left n es now is ordered found)
place-holds n es now is ordered (Some t) found = sym (is-there n es now t is found)

unchanged-entry : {A : Type 0} (b : Bool) (e : ℕ × A) → (if b then (e.0, e.1) else e) ≡ e
unchanged-entry true e = refl
unchanged-entry false e = refl

unchanged : {A : Type 0} (n : ℕ) (es : List (ℕ × A)) → changed n (λ (t : A). t) es ≡ es
unchanged n [] = refl
unchanged {A} n (e ∷ es) = ap (λ d. d ∷ changed n (λ (t : A). t) es) (unchanged-entry (n == e.0) e) ∙ ap (λ (ds : List (ℕ × A)). e ∷ ds) (unchanged n es)

module _ (n : ℕ) (es after : List (ℕ × Option Txn)) (now : List (ℕ × Txn)) (v w : Option Txn) (is : open_of es ≡ now)
    (put : after ≡ set_value (is_at (nat_cmp n)) es w) (ordered : IsStrictlySortedBy nat_cmp (keys_of es))
    (found : lookup (is_at (nat_cmp n)) es ≡ Some v) where
  there : (t : Txn) → v ≡ Some t → entry_of n now ≡ Some t
  there t e = is-there n es now t is (found ∙ ap Some e)

  gone : v ≡ None → ◌≡◌ {A = Option Txn} (entry_of n now) None
  gone e = nothing-left n es now is ordered (found ∙ ap Some e)

  written-as : (g : Option Txn → Option Txn) → w ≡ g v → open_of after ≡ open_of (changed n g es)
  written-as g same = ap open_of (put ∙ ap (set_value (is_at (nat_cmp n)) es) same ∙ is-written n g es v ordered found)

  after-changed : (f : Txn → Txn) (t : Txn) → v ≡ Some t → w ≡ Some (f t) → open_of after ≡ changed n f now
  after-changed f t was same = written-as (option_map f) (same ∙ sym (ap (option_map f) was)) ∙ open-changed n f es ∙ ap (changed n f) is

  after-same : w ≡ v → open_of after ≡ now
  after-same same = written-as (λ (o : Option Txn). o) same ∙ ap open_of (unchanged n es) ∙ is

  -- it is emptied
  pub after-ended : w ≡ None → open_of after ≡ without_entry n now
  after-ended empty = written-as (λ (o : Option Txn). None) empty ∙ open-emptied n es ∙ ap (without_entry n) is

  after-begun : (t : Txn) → w ≡ Some t → open_of after ≡ with_entry n t now
  after-begun t same = ap open_of (put ∙ ap (set_value (is_at (nat_cmp n)) es) same) ∙ open-filled n t v es ordered found ∙ ap (with_entry n t) is

  holds : v ≡ entry_of n now
  holds = place-holds n es now is ordered v found

  -- what is left in it
  pub is-left : Leaves now (open_of after) n w
  is-left = record {
    same = λ e. after-same (e ∙ sym holds);
    ended = after-ended;
    begun = λ t none e. after-begun t e;
    changed_by = λ t f was e. after-changed f t (holds ∙ was) e;
  }

  module _ (f : Txn → Txn) (full : Txn → Bool) (too_many : TxnFault) where
    -- a change
    pub is-changed : (r : Result (Unit {0}) TxnFault) → ChangedAtPlace v w f full too_many (Some r) →
        (t : Txn) × (entry_of n now ≡ Some t) × ChangedAs now (open_of after) n f (full t) too_many r
    is-changed (Ok u) (t, was, room, same) = (t, there t was, (room, after-changed f t was same))
    is-changed (Err e) (t, was, fault, same) = (t, there t was, (fault, after-same (same ∙ sym was)))

    pub isnt-changed : ChangedAtPlace v w f full too_many None → (◌≡◌ {A = Option Txn} (entry_of n now) None) × (open_of after ≡ now)
    isnt-changed (none, same) = (gone none, after-same (same ∙ sym none))

  pub is-put : (k : List ℕ) (write : Write) (r : Option (Result (Unit {0}) TxnFault)) → PutAtPlace v w k write r → PutAs now (open_of after) n k write r
  is-put k write (Some r) h = is-changed (putting k write) (λ t. has_no_place_to_write k (writes_of t)) too_many_writes r h
  is-put k write None h = isnt-changed (putting k write) (λ t. has_no_place_to_write k (writes_of t)) too_many_writes h

  pub is-noted : (k : List ℕ) (r : Option (Result (Unit {0}) TxnFault)) → NotedAtPlace v w k r → NotedAs now (open_of after) n k r
  is-noted k (Some r) h = is-changed (noting k) (λ t. has_no_place_to_read k (reads_of t)) too_many_reads r h
  is-noted k None h = isnt-changed (noting k) (λ t. has_no_place_to_read k (reads_of t)) too_many_reads h

-- a place that is lent
module _ (n : ℕ) (es : List (ℕ × Option Txn)) (now : List (ℕ × Txn)) (is : open_of es ≡ now) (ordered : IsStrictlySortedBy nat_cmp (keys_of es)) where
  pub lent-left : (r : Option (MutBor (Option Txn))) → option_copied_mut r ≡ lookup (is_at (nat_cmp n)) es →
      (after : List (ℕ × Option Txn)) (w : Option Txn) → after ≡ set_value (is_at (nat_cmp n)) es w → OnSome r (Leaves now (open_of after) n w)
  lent-left (Some place) found after w put = is-left n es after now place.now w is put ordered (sym found)
  lent-left None found after w put = tt

  pub lent-there : (r : Option (MutBor (Option Txn))) → option_copied_mut r ≡ lookup (is_at (nat_cmp n)) es → IfSome r (λ place. place.now ≡ entry_of n now)
  lent-there (Some place) found = place-holds n es now is ordered place.now (sym found)
  lent-there None found = tt

  pub lent-none : (r : Option (MutBor (Option Txn))) → option_copied_mut r ≡ lookup (is_at (nat_cmp n)) es →
      IfNone r (◌≡◌ {A = Option Txn} (entry_of n now) None)
  lent-none (Some place) found = tt
  lent-none None found = nothing-there n es now is (sym found)

-- no read is noted of a key that the transaction has written
pub own-isnt_noted : {w : Write} (k : List ℕ) (one : OneKept) (t : Txn) → t ≡ KeptSingle one → Some w ≡ write_of k one.writes → None ≡ slot_read k t
own-isnt_noted k one t is has = sym (ap (slot_read k) is ∙ ap (λ o. slot_unless o one.slot) (sym has))
