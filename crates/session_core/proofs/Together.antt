-- A site at rest stands on its store and its book.
use Rattle.std.proofs.Common.{◌≡◌, ℕ, List, [], length, Result, Ok, Err, sym, ap, subst, ◌∙◌}
use Rattle.std.specs.Prelude.{IfOk}
use Rattle.std.specs.Option.{option_map}
use Rattle.tardis_base.specs.declared.faults.NoMemory.{NoMemory as OutOfMemory}
use Rattle.tardis_base.specs.declared.records.Record.{Record}
use Rattle.plain_dag.specs.Entries.{entry_of}
use Rattle.record_store.specs.Store.{Store}
use Rattle.ceiling_book.specs.Book.{Book, sessions_of, floors_of}
use Rattle.ceiling_book.specs.Places.{AreSlots}
use Rattle.merge_txn.specs.declared.Txn.{Txn as Kept}
use Rattle.plain_site.specs.Site.{Site}
use Rattle.session_core.specs.Txns.{IsNamed}
use Rattle.session_core.specs.Core.{Core}
use Rattle.session_core.specs.Stands.{CoreStands, txn_of}
use Rattle.session_core.specs.Together.{RestTogether}
use Rattle.ceiling_book.proofs.Growth.{placed-are_slots}
use Rattle.session_core.proofs.Opening.{none-held, none-kept}

module _ (store : Store) (book : Book) where
  -- each place is one of the table's
  pub together-slots : (site : Site) → RestTogether store book site → AreSlots book store.table
  together-slots site t = placed-are_slots book store.table site.dag site.collected t.placed

  -- there is a floor for each site
  pub together-floors : (site : Site) → RestTogether store book site → length (floors_of book) ≡ store.table.limits.sites
  together-floors site t = ap length t.floors ∙ t.sound.one_floor_each ∙ sym (ap (λ l. l.sites) t.limits)

  -- what stands at each site that they stand for does so at one of them
  pub stands-at : (made : Result Core OutOfMemory) (site : Site) → IfOk made (λ core. (other : Site) → RestTogether store book other → CoreStands core other)
      → RestTogether store book site → IfOk made (λ core. CoreStands core site)
  stands-at (Ok core) site stands t = stands site t
  stands-at (Err fault) site stands t = stands

  -- with no transaction and nothing that waits they stand for the site
  pub together-stand : (site : Site) → RestTogether store book site → (txns : List (ℕ × Kept)) (waiting : List Record) → txns ≡ [] → waiting ≡ [] →
      CoreStands (record { store = store; book = book; txns = txns; waiting = waiting }) site
  together-stand site t txns waiting none quiet = record {
    store = t.history;
    limits = t.limits;
    own = t.own;
    max_sessions = t.max_sessions;
    sessions = subst (λ (s : Site). sessions_of book ≡ s.sessions) t.rests t.sessions;
    floors = t.floors;
    placed = t.placed;
    txns = λ n. subst (λ (s : Site). option_map txn_of (entry_of n txns) ≡ entry_of n s.txns) t.rests (none-kept txns none n);
    slots = none-held (λ n held. IsNamed store.table held) txns none;
    waiting = subst (λ (s : Site). waiting ≡ s.waiting) t.rests quiet;
  }
