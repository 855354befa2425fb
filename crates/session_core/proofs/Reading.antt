-- A transaction reads.
use Rattle.std.proofs.Common.{◌≡◌, ℕ, Bool, true, false, List, [], Option, Some, None, is_some, IsTrue, Result, Ok, Err, refl, sym, ap, subst, ◌∙◌}
use Rattle.std.proofs.lemmas.Option.{same_Some, none-some}
use Rattle.tardis_base.specs.declared.ids.StateId.{StateId}
use Rattle.tardis_base.specs.declared.records.Write.{Write}
use Rattle.tardis_base.specs.declared.readings.Found.{Found as FoundAt}
use Rattle.tardis_base.specs.declared.readings.Over.TheVariants.{Found, Conflict}
use Rattle.tardis_base.specs.declared.replies.Refusal.TheVariants.{ConflictKey}
use Rattle.tardis_base.specs.declared.replies.Reply.{Reply}
use Rattle.tardis_base.specs.declared.replies.Reply.TheVariants.{Refused}
use Rattle.std.specs.Result.{IsErrAnd}
use Rattle.tardis_base.specs.Ids.{root}
use Rattle.tardis_base.specs.Keys.{write_of}
use Rattle.plain_dag.specs.Entries.{entry_of}
use Rattle.plain_dag.specs.Writers.{read}
use Rattle.plain_dag.specs.Conflicts.{is_conflict_key, value_over}
use Rattle.state_dag.specs.Table.{Table, id_at}
use Rattle.version_list.specs.Reads.{found as found_write}
use Rattle.merge_txn.specs.declared.Txn.{Txn as Kept}
use Rattle.merge_txn.specs.declared.Txn.TheVariants.{Single as KeptSingle, Merge as KeptMerge}
use Rattle.merge_txn.specs.declared.SingleTxn.{SingleTxn as OneKept}
use Rattle.merge_txn.specs.declared.MergeTxn.{MergeTxn as MergeKept}
use Rattle.merge_txn.specs.declared.TxnFault.{TxnFault}
use Rattle.merge_txn.specs.Txns.{reads_of, has_no_place_to_read, read_fault}
use Rattle.plain_site.specs.Site.{Site, SingleTxn, MergeTxn, Single, Merge, with_txn_changed}
use Rattle.plain_site.specs.Sound.{IsSound}
use Rattle.tardis_base.specs.declared.ids.Slot.{Slot}
use Rattle.plain_site.specs.Answers.{refused, given, found, shown}
use Rattle.plain_site.specs.Reads.{too_many_reads, get, read_in, having_read}
use Rattle.session_core.specs.Core.{Core}
use Rattle.session_core.specs.Stands.{CoreStands, txn_of}
use Rattle.session_core.specs.Guards.{HasTxn}
use Rattle.session_core.specs.Machine.{reading, NotesOrStops}
use Rattle.session_core.specs.Reads.{ReadsAs}
use Rattle.session_core.specs.Gives.{IsGiven, Stops, GivesOrStops}
use Rattle.site_answers.specs.declared.stops.Stop.{Stop}
use Rattle.site_answers.specs.Stops.{txn_stop}
use Rattle.session_core.specs.declared.transactions.NotedRead.TheVariants.{Found as At, Fault}
use Rattle.session_core.specs.NotedReads.{ReadsIn}
use Rattle.txn_book.specs.Txns.{noting, NotedAs, slot_read, slot_unless}
use Rattle.session_core.specs.Txns.{IsNamed, has_slots}
use Rattle.session_core.proofs.Answers.{skip, stop, as-given, stopped}
use Rattle.session_core.proofs.Standing.{has-txn, txn-answer, txn-changed, same-txns}

-- ===== Notes of reads

pub noted-txn : (k : List ℕ) (t : Kept) → txn_of (noting k t) ≡ having_read k (txn_of t)
noted-txn k (KeptSingle t) = refl
noted-txn k (KeptMerge t) = refl

pub noted-slots : (table : Table) (k : List ℕ) (t : Kept) → has_slots table (noting k t) ≡ has_slots table t
noted-slots table k (KeptSingle t) = refl
noted-slots table k (KeptMerge t) = refl

noted-names : (table : Table) (k : List ℕ) (t : Kept) → IsNamed table t → IsNamed table (noting k t)
noted-names table k (KeptSingle t) named = named
noted-names table k (KeptMerge t) named = named

-- ===== What is read

module _ (table : Table) (site : Site) (n : ℕ) (k : List ℕ) where
  is-get : (t : Kept) → HasTxn table site n t → reading site n k ≡ get site n (txn_of t) k
  is-get t has = txn-answer site n (λ s u. get site n u k) has.session (txn_of t) has.opened has.found

  module _ (t : OneKept) (has : HasTxn table site n (KeptSingle t)) where
    abbrev one : SingleTxn
    one = record { state = t.state; reads = t.reads; writes = t.writes }

    -- an own write
    pub single-own : (w : Write) → write_of k t.writes ≡ Some w → reading site n k ≡ (site, shown root w)
    single-own w e = is-get (KeptSingle t) has ∙ ap (λ o. given o (read_in site n (Single one) k) (λ v. (site, shown root v))) e

    module _ (none : ◌≡◌ {A = Option Write} (write_of k t.writes) None) where
      single-none : reading site n k ≡ read_in site n (Single one) k
      single-none = is-get (KeptSingle t) has ∙ ap (λ o. given o (read_in site n (Single one) k) (λ v. (site, shown root v))) none

      -- a read that is noted
      pub single-noted : has_no_place_to_read k t.reads ≡ false → reading site n k ≡ (with_txn_changed n (having_read k) site, found (read site.dag k t.state))
      single-noted f = single-none ∙ skip site (Refused too_many_reads) [] (with_txn_changed n (having_read k) site, found (read site.dag k t.state))
          (has_no_place_to_read k t.reads) f

      -- there would be too many keys
      pub single-full : has_no_place_to_read k t.reads ≡ true → reading site n k ≡ refused site too_many_reads
      single-full e = single-none ∙ stop site (Refused too_many_reads) [] (with_txn_changed n (having_read k) site, found (read site.dag k t.state))
          (has_no_place_to_read k t.reads) e

  module _ (t : MergeKept) (has : HasTxn table site n (KeptMerge t)) where
    abbrev over : MergeTxn
    over = record { states = t.states; writes = t.writes }

    by-own : (o : Option Write) → write_of k t.writes ≡ o → reading site n k ≡ given o (read_in site n (Merge over) k) (λ w. (site, shown root w))
    by-own o e = is-get (KeptMerge t) has ∙ ap (λ p. given p (read_in site n (Merge over) k) (λ w. (site, shown root w))) e

    pub merge-found : (what : FoundAt) → ReadsAs site.dag t.states k (write_of k t.writes) (Found what) → reading site n k ≡ (site, found (found_write what))
    merge-found what reads = go (write_of k t.writes) refl reads
      where
        go : (o : Option Write) → write_of k t.writes ≡ o → ReadsAs site.dag t.states k o (Found what) → reading site n k ≡ (site, found (found_write what))
        go (Some w) e is = by-own (Some w) e ∙ ap (λ v. (site, found v)) (sym is)
        go None e (free, is) =
            by-own None e
            ∙ skip site (Refused (ConflictKey k)) [] (site, found (value_over site.dag t.states k)) (is_conflict_key site.dag t.states k) free
            ∙ ap (λ v. (site, found v)) (sym is)

    pub merge-conflict : ReadsAs site.dag t.states k (write_of k t.writes) Conflict → reading site n k ≡ refused site (ConflictKey k)
    merge-conflict reads = go (write_of k t.writes) refl reads
      where
        go : (o : Option Write) → write_of k t.writes ≡ o → ReadsAs site.dag t.states k o Conflict → reading site n k ≡ refused site (ConflictKey k)
        go (Some w) e is = absurd is
        go None e split = by-own None e ∙ stop site (Refused (ConflictKey k)) [] (site, found (value_over site.dag t.states k))
            (is_conflict_key site.dag t.states k) split

-- ===== What noting gives

-- where there is a transaction something becomes of the read
pub noted-some : (old new : List (ℕ × Kept)) (n : ℕ) (k : List ℕ) (r : Option (Result (Unit {0}) TxnFault)) → NotedAs old new n k r →
    IsTrue (is_some (entry_of n old)) → IsTrue (is_some r)
noted-some old new n k None (missing, same) there = subst (λ (o : Option Kept). IsTrue (is_some o)) missing there
noted-some old new n k (Some noted) is there = refl

module _ (core : Core) (site : Site) (stands : CoreStands core site) (n : ℕ) (k : List ℕ) (t : OneKept) (at : entry_of n core.txns ≡ Some (KeptSingle t))
    (has : HasTxn core.store.table site n (KeptSingle t)) (none : ◌≡◌ {A = Option Write} (write_of k t.writes) None) (es : List (ℕ × Kept)) where
  same-one : (u : Kept) → entry_of n core.txns ≡ Some u → u ≡ KeptSingle t
  same-one u e = same_Some u (KeptSingle t) (sym e ∙ at)

  -- the read is noted: what is answered, and what stands
  pub note-done : (u : Unit {0}) → NotedAs core.txns es n k (Some (Ok u)) →
      (reading site n k ≡ (with_txn_changed n (having_read k) site, found (read site.dag k t.state)))
      × CoreStands (record core { txns = es }) (with_txn_changed n (having_read k) site)
  note-done u (v, e, (full, e_is)) = (
    single-noted core.store.table site n k t has none (sym (ap (λ z. has_no_place_to_read k (reads_of z)) (same-one v e)) ∙ full),
    txn-changed core site stands n (having_read k) (noting k) es e_is (noted-txn k) (noted-names core.store.table k),
  )

  -- it isn't
  pub note-stops : (fault : TxnFault) → NotedAs core.txns es n k (Some (Err fault)) →
      Stops (CoreStands (record core { txns = es })) (reading site n k) site (txn_stop fault)
  note-stops fault (v, e, (is, e_is)) =
      let there = same-txns core site stands n es e_is in
      let fault_is : fault ≡ read_fault k t.reads = is ∙ ap (λ z. read_fault k (reads_of z)) (same-one v e) in
      subst (λ f. Stops (CoreStands (record core { txns = es })) (reading site n k) site (txn_stop f)) (sym fault_is)
      (go (has_no_place_to_read k t.reads) refl there)
    where
      go : (b : Bool) → has_no_place_to_read k t.reads ≡ b → CoreStands (record core { txns = es }) site →
          Stops (CoreStands (record core { txns = es })) (reading site n k) site (txn_stop (read_fault k t.reads))
      go true f there = rw f (there, single-full core.store.table site n k t has none f)
      go false f there = rw f there

-- ===== A read by one look-up

-- a single transaction that hasn't written to the key, and reads at the slot
record ReadBy (k : List ℕ) (t : Kept) (slot : Slot) : Type 0 where
  one : OneKept
  is : t ≡ KeptSingle one
  none : ◌≡◌ {A = Option Write} (write_of k one.writes) None
  at : slot ≡ one.slot

read-by : (k : List ℕ) (t : Kept) (slot : Slot) → slot_read k t ≡ Some slot → ReadBy k t slot
read-by k (KeptSingle one) slot by = go (write_of k one.writes) refl by
  where
    go : (o : Option Write) → write_of k one.writes ≡ o → slot_unless o one.slot ≡ Some slot → ReadBy k (KeptSingle one) slot
    go None e is = record { one = one; is = refl; none = e; at = same_Some slot one.slot (sym is) }
    go (Some w) e is = absurd (none-some slot is)
read-by k (KeptMerge m) slot by = absurd (none-some slot by)

-- a single transaction that doesn't note the read has written to the key
pub unnoted : (k : List ℕ) (one : OneKept) → slot_read k (KeptSingle one) ≡ None → ◌≡◌ {A = Option Write} (write_of k one.writes) None → ⊥
unnoted k one by none = absurd (none-some one.slot (sym by ∙ ap (λ o. slot_unless o one.slot) none))

module _ (core : Core) (site : Site) (stands : CoreStands core site) (sound : IsSound site) (n : ℕ) (k : List ℕ) (es : List (ℕ × Kept)) where
  -- what was found is the answer, and the read is noted
  pub read-found : (what : FoundAt) → ReadsIn core.store core.txns es n k (At what) →
      (reading site n k ≡ (with_txn_changed n (having_read k) site, found (found_write what)))
      × CoreStands (record core { txns = es }) (with_txn_changed n (having_read k) site)
  read-found what (t, at, slot, by, finds, room, e) =
      let r = read-by k t slot by in
      let one = r.one in
      let here : entry_of n core.txns ≡ Some (KeptSingle one) = at ∙ ap (λ u. Some u) r.is in
      let has = has-txn core site stands n sound (KeptSingle one) here in
      let noted = note-done core site stands n k one here has r.none es tt (t, at, (room, e)) in
      let named : id_at core.store.table slot ≡ Some one.state = ap (id_at core.store.table) r.at ∙ has.named in
      let is = finds site.dag site.collected stands.store one.state named in
      (noted.0 ∙ ap (λ v. (with_txn_changed n (having_read k) site, found v)) (sym is), noted.1)

  pub read-fault : (fault : TxnFault) → ReadsIn core.store core.txns es n k (Fault fault) →
      Stops (CoreStands (record core { txns = es })) (reading site n k) site (txn_stop fault)
  read-fault fault (t, at, slot, by, is, e) =
      let r = read-by k t slot by in
      let here : entry_of n core.txns ≡ Some (KeptSingle r.one) = at ∙ ap (λ u. Some u) r.is in
      note-stops core site stands n k r.one here (has-txn core site stands n sound (KeptSingle r.one) here) r.none es fault (t, at, (is, e))

-- ===== What is answered after a note

module _ (stands : Site → Type 0) (site : Site) (n : ℕ) (k : List ℕ) (x : StateId) where
  pub note-given : (u : Unit {0}) (reply : Reply) → NotesOrStops stands site n k x (Ok u) → reply ≡ found (read site.dag k x) →
      IsGiven stands (reading site n k) reply
  note-given u reply (e, there) is = as-given stands (reading site n k) (with_txn_changed n (having_read k) site, found (read site.dag k x)) reply e (there, is)

  pub note-stopped : (what : Stop) (r : Result Reply Stop) → NotesOrStops stands site n k x (Err what) → IsErrAnd r (λ stop. stop ≡ what) →
      GivesOrStops stands (reading site n k) site r
  note-stopped what r stops is = stopped stands (reading site n k) site what r is stops
