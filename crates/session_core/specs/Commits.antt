-- What the parts of a commit answer.
use Rattle.std.specs.Prelude.{◌≡◌, ◌≢◌, ℕ, List, [], ◌∷◌, map, Some, Result, IsTrue, IsFalse}
use Rattle.tardis_base.specs.declared.ids.StateId.{StateId}
use Rattle.tardis_base.specs.declared.ids.Slot.{Slot}
use Rattle.tardis_base.specs.declared.requests.EndFlags.{EndFlags}
use Rattle.tardis_base.specs.Ids.{is_among}
use Rattle.tardis_base.specs.Keys.{KeyWrite, keys_of}
use Rattle.plain_dag.specs.Above.{is_above}
use Rattle.plain_dag.specs.Entries.{entry_of}
use Rattle.plain_dag.specs.Landing.{landing, guarded}
use Rattle.state_dag.specs.Table.{id_at}
use Rattle.record_store.specs.Answers.{MayArrive}
use Rattle.merge_txn.specs.declared.SingleTxn.{SingleTxn as OneKept}
use Rattle.plain_site.specs.Site.{Site, Txn, SingleTxn, Single, own_count, writes_of, next_record}
use Rattle.plain_site.specs.Sound.{IsSound}
use Rattle.plain_site.specs.Commits.{commit_at, commit_below}
use Rattle.site_answers.specs.declared.gives.CommitEnd.{CommitEnd}
use Rattle.site_answers.specs.declared.stops.Stop.{Stop}
use Rattle.session_core.specs.Core.{Core}
use Rattle.session_core.specs.Stands.{CoreStands}
use Rattle.session_core.specs.Gives.{DoesOrStops}
use Rattle.site_answers.specs.Told.{commit_reply}

-- the slot of the state below which the single transaction commits, where nothing below its read state is collected
abbrev pub IsLandingOf : Core → OneKept → EndFlags → Slot → Type 0
IsLandingOf core t flags slot =
    (site : Site) → CoreStands core site → id_at core.store.table t.slot ≡ Some t.state
    → ((y : StateId) → IsTrue (is_above site.dag t.state y) → IsFalse (is_among y site.collected))
    → id_at core.store.table slot ≡ Some (landing site.dag (guarded flags t.reads (keys_of t.writes)) t.state)

-- the next record of the site may arrive below these states
abbrev pub NextMayArrive : Site → List StateId → List KeyWrite → Type 0
NextMayArrive site xs ws = own_count site ≢ 4294967295 → MayArrive site.limits.sites site.dag site.collected (next_record site xs ws)

-- the session's single transaction commits below the state of this slot
abbrev pub CommitsAt : Core → Core → ℕ → Slot → EndFlags → ℕ → Result CommitEnd Stop → Type 0
CommitsAt old new n slot flags k result =
    (site : Site) → CoreStands old site → IsSound site
    → (t : SingleTxn) (x : StateId) → entry_of n site.txns ≡ Some (Single t) → id_at old.store.table slot ≡ Some x
    → NextMayArrive site (x ∷ []) t.writes
    → DoesOrStops commit_reply (CoreStands new) (commit_at site n t flags k x) site result

-- the session's transaction commits below the states of these slots
abbrev pub CommitsBelow : Core → Core → ℕ → List Slot → Result CommitEnd Stop → Type 0
CommitsBelow old new n below result =
    (site : Site) → CoreStands old site
    → (t : Txn) (xs : List StateId) → entry_of n site.txns ≡ Some t → map (id_at old.store.table) below ≡ map (λ x. Some x) xs
    → NextMayArrive site xs (writes_of t)
    → DoesOrStops commit_reply (CoreStands new) (commit_below site n xs (writes_of t) []) site result
