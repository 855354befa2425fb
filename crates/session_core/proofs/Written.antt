-- A transaction is read, or committed, in its place.
use Rattle.std.proofs.Common.{◌≡◌, ℕ, List, Option, Some, None, Result, Ok, Err, sym, ap, refl, subst, ◌∙◌}
use Rattle.std.proofs.lemmas.Option.{none-some, same_Some}
use Rattle.std.specs.Borrow.{MutBor}
use Rattle.std.specs.Option.{IfSome, IfNone, OnSome}
use Rattle.plain_dag.specs.Entries.{entry_of}
use Rattle.merge_txn.specs.declared.Txn.{Txn}
use Rattle.txn_book.specs.Lending.{Leaves}
use Rattle.txn_book.specs.Txns.{noting, slot_read}
use Rattle.record_store.specs.Store.{Store}
use Rattle.session_core.specs.declared.transactions.NotedRead.{NotedRead}
use Rattle.session_core.specs.declared.transactions.NotedRead.TheVariants.{Found, Fault, Other}
use Rattle.session_core.specs.NotedReads.{TxnReads, ReadsIn}
use Rattle.session_core.specs.PlacesRead.{ReadsAtPlace}
use Rattle.session_core.specs.Adds.{CommitsAtPlace, CommitsIn}
use Rattle.tardis_base.specs.declared.ids.StateId.{StateId}
use Rattle.tardis_base.specs.declared.ids.Slot.{Slot}
use Rattle.tardis_base.specs.declared.faults.AddFault.{AddFault}

-- what is said of a place, of one that is there
pub of-place : (P : MutBor (Option Txn) → Type 0) (r : Option (MutBor (Option Txn))) (place : MutBor (Option Txn)) → r ≡ Some place → IfSome r P → P place
of-place P r place is h = subst (λ z. IfSome z P) is h

pub of-lent : (P : Type 0) (r : Option (MutBor (Option Txn))) (place : MutBor (Option Txn)) → r ≡ Some place → OnSome r P → P
of-lent P r place is h = subst (λ z. OnSome z P) is h

pub of-none : (P : Type 0) (r : Option (MutBor (Option Txn))) → ◌≡◌ {A = Option (MutBor (Option Txn))} r None → IfNone r P → P
of-none P r is h = subst (λ z. IfNone z P) is h

-- where there is no transaction, no read is noted
pub none-read : (store : Store) (n : ℕ) (k key : List ℕ) (now after : List (ℕ × Txn)) → ◌≡◌ {A = Option Txn} (entry_of n now) None → after ≡ now → key ≡ k
    → ReadsIn store now after n k (Other key)
none-read store n k key now after none same key_is = ((λ t e. absurd (none-some t (sym none ∙ e))), key_is, same)

module _ (n : ℕ) (now after : List (ℕ × Txn)) (v w : Option Txn) (is : v ≡ entry_of n now) (left : Leaves now after n w) where
  there : (t : Txn) → v ≡ Some t → entry_of n now ≡ Some t
  there t e = sym is ∙ e

  gone : v ≡ None → ◌≡◌ {A = Option Txn} (entry_of n now) None
  gone e = sym is ∙ e

  after-same : w ≡ v → after ≡ now
  after-same same = left.same (same ∙ is)

  -- a read
  pub is-read : (store : Store) (k : List ℕ) (r : NotedRead) → ReadsAtPlace store v w k r → ReadsIn store now after n k r
  is-read store k r h = go w refl h
    where
      reads : (t u : Txn) (r : NotedRead) → v ≡ Some t → w ≡ Some u → TxnReads store t u k r → ReadsIn store now after n k r
      reads t u (Found what) was is_now (slot, at, finds, room, changes) =
          (t, there t was, slot, at, finds, room, left.changed_by t (noting k) (there t was) (is_now ∙ ap Some changes))
      reads t u (Fault fault) was is_now (slot, at, fault_is, same) =
          (t, there t was, slot, at, fault_is, after-same (is_now ∙ ap Some same ∙ sym was))
      reads t u (Other key) was is_now (none, key_is, same) = (
        (λ x e. subst (λ y. slot_read k y ≡ None) (same_Some t x (sym (there t was) ∙ e)) none),
        key_is,
        after-same (is_now ∙ ap Some same ∙ sym was),
      )

      go : (o : Option Txn) → w ≡ o → ReadsAtPlace store v o k r → ReadsIn store now after n k r
      go (Some u) is_now (t, was, h) = reads t u r was is_now h
      go None is_now (none, read_is) =
          subst (ReadsIn store now after n k) (sym read_is) (none-read store n k k now after (gone none) (after-same (is_now ∙ sym none)) refl)

  -- a commit
  pub is-committed : (old new : Store) (id : StateId) (below : List Slot) (r : Option (Result Slot AddFault)) → CommitsAtPlace old new v w id below r →
      CommitsIn old new now after n id below r
  is-committed old new id below (Some (Ok slot)) (t, was, adds, empty) = (t, there t was, adds, left.ended empty)
  is-committed old new id below (Some (Err fault)) (t, was, adds, same) = (t, there t was, adds, after-same same)
  is-committed old new id below None (none, empty, same) = (gone none, after-same (empty ∙ sym none), same)
