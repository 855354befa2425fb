-- What holds of the memory at all times is kept.
use Rattle.std.proofs.Common.{◌≡◌, ℕ, Bool, List, length, map, Option, Some, None, Result, Ok, Err, IsTrue, sym, ap, subst, ◌∙◌}
use Rattle.plain_dag.specs.Entries.{entry_of, with_entry, without_entry, changed}
use Rattle.ceiling_book.specs.Book.{Book, known_floor}
use Rattle.ceiling_book.specs.Places.{AreSlots}
use Rattle.ceiling_book.specs.Answers.{KeepsRest}
use Rattle.session_core.specs.declared.Parts.TheInside.{Inside}
use Rattle.merge_txn.specs.declared.Txn.{Txn}
use Rattle.merge_txn.specs.declared.TxnFault.{TxnFault}
use Rattle.merge_txn.specs.Txns.{writes_of, reads_of, has_no_place_to_write, has_no_place_to_read, too_many_writes, too_many_reads}
use Rattle.tardis_base.specs.declared.records.Write.{Write}
use Rattle.txn_book.specs.Txns.{ChangedAs, PutAs, NotedAs, putting, noting}
use Rattle.session_core.specs.Txns.{has_slots}
use Rattle.session_core.proofs.Reading.{noted-slots}
use Rattle.session_core.proofs.Writing.{put-slots}
use Rattle.record_store.specs.Store.{Store}
use Rattle.session_core.specs.declared.transactions.NotedRead.{NotedRead}
use Rattle.session_core.specs.declared.transactions.NotedRead.TheVariants.{Found, Fault, Other}
use Rattle.session_core.specs.NotedReads.{ReadsIn}
use Rattle.session_core.specs.Held.{IsHeld}
use Rattle.session_core.proofs.Entries.{each-with, each-without, each-changed}

module _ (a : Inside) (held : IsHeld a) where
  with-txns : (es : List (ℕ × Txn)) → ((m : ℕ) (h : Txn) → entry_of m es ≡ Some h → IsTrue (has_slots a.store.table h)) → IsHeld (record a { txns = es })
  with-txns es slots = record { places = held.places; slots = slots; floors = held.floors; room = held.room }

  -- a transaction ends
  pub ended-held : (n : ℕ) (es : List (ℕ × Txn)) → es ≡ without_entry n a.txns → IsHeld (record a { txns = es })
  ended-held n es e =
      subst (λ z. IsHeld (record a { txns = z })) (sym e) (with-txns (without_entry n a.txns)
      (each-without (λ (h : Txn). IsTrue (has_slots a.store.table h)) n a.txns held.slots))

  -- a transaction changes, but for its slots
  pub changed-held : (n : ℕ) (g : Txn → Txn) (es : List (ℕ × Txn)) → ((h : Txn) → has_slots a.store.table (g h) ≡ has_slots a.store.table h) →
      es ≡ changed n g a.txns → IsHeld (record a { txns = es })
  changed-held n g es same e =
      subst (λ z. IsHeld (record a { txns = z })) (sym e)
      (with-txns (changed n g a.txns)
      (each-changed (λ (h : Txn). IsTrue (has_slots a.store.table h)) n g a.txns (λ h p. same h ∙ p) held.slots))

  -- a transaction begins
  pub begun-held : (n : ℕ) (h : Txn) (es : List (ℕ × Txn)) → IsTrue (has_slots a.store.table h) → es ≡ with_entry n h a.txns → IsHeld (record a { txns = es })
  begun-held n h es p e =
      subst (λ z. IsHeld (record a { txns = z })) (sym e)
      (with-txns (with_entry n h a.txns) (each-with (λ (k : Txn). IsTrue (has_slots a.store.table k)) n h a.txns held.slots p))

  -- the transactions are as before
  pub same-held : (es : List (ℕ × Txn)) → es ≡ a.txns → IsHeld (record a { txns = es })
  same-held es e = subst (λ z. IsHeld (record a { txns = z })) (sym e) held

  -- the sessions change
  pub sessions-held : (book : Book) → KeepsRest a.book book → (AreSlots a.book a.store.table → AreSlots book a.store.table) → IsHeld (record a { book = book })
  sessions-held book rest slots = record {
    places = slots held.places;
    slots = held.slots;
    floors = ap (λ fs. length (map known_floor fs)) rest.floors
        ∙ held.floors;
    room = held.room;
  }

  as-held : (n : ℕ) (g : Txn → Txn) (full : Bool) (too_many : TxnFault) (es : List (ℕ × Txn)) (r : Result (Unit {0}) TxnFault) →
      ((h : Txn) → has_slots a.store.table (g h) ≡ has_slots a.store.table h) →
      ChangedAs a.txns es n g full too_many r → IsHeld (record a { txns = es })
  as-held n g full too_many es (Ok u) same (f, e) = changed-held n g es same e
  as-held n g full too_many es (Err fault) same (f, e) = same-held es e

  -- a write is taken, or not
  pub put-held : (n : ℕ) (k : List ℕ) (w : Write) (es : List (ℕ × Txn)) (r : Option (Result (Unit {0}) TxnFault)) → PutAs a.txns es n k w r →
      IsHeld (record a { txns = es })
  put-held n k w es None (none, e) = same-held es e
  put-held n k w es (Some r) (t, at, changes) = as-held n (putting k w) (has_no_place_to_write k (writes_of t)) too_many_writes es r
      (put-slots a.store.table k w) changes

  -- a read is noted, or not
  pub note-held : (n : ℕ) (k : List ℕ) (es : List (ℕ × Txn)) (r : Option (Result (Unit {0}) TxnFault)) → NotedAs a.txns es n k r →
      IsHeld (record a { txns = es })
  note-held n k es None (none, e) = same-held es e
  note-held n k es (Some r) (t, at, changes) = as-held n (noting k) (has_no_place_to_read k (reads_of t)) too_many_reads es r (noted-slots a.store.table k)
      changes

  -- a read by one look-up is noted, or not
  pub read-held : (store : Store) (n : ℕ) (k : List ℕ) (es : List (ℕ × Txn)) (r : NotedRead) → ReadsIn store a.txns es n k r → IsHeld (record a { txns = es })
  read-held store n k es (Found what) (t, at, slot, by, finds, room, e) = changed-held n (noting k) es (noted-slots a.store.table k) e
  read-held store n k es (Fault fault) (t, at, slot, by, is, e) = same-held es e
  read-held store n k es (Other key) (none, is, e) = same-held es e
