-- A merge in one step.
use Rattle.std.specs.Prelude.{◌≡◌, ℕ, List, [], Option, Some, None, IsTrue, IsFalse}
use Rattle.std.specs.List.{list_all}
use Rattle.tardis_base.specs.declared.ids.StateId.{StateId}
use Rattle.tardis_base.specs.declared.replies.Refusal.{Refusal}
use Rattle.tardis_base.specs.declared.replies.Refusal.TheVariants.{NotOpen, TxnOpen}
use Rattle.tardis_base.specs.declared.replies.Reply.{Reply}
use Rattle.tardis_base.specs.declared.replies.Reply.TheVariants.{Committed, Refused}
use Rattle.tardis_base.specs.Ids.{is_among}
use Rattle.tardis_base.specs.Keys.{KeyWrite}
use Rattle.tardis_base.specs.Valid.{are_parents, are_writes}
use Rattle.plain_dag.specs.States.{is_known}
use Rattle.plain_dag.specs.Above.{are_apart}
use Rattle.plain_dag.specs.Conflicts.{open_conflict}
use Rattle.plain_dag.specs.Entries.{entry_of}
use Rattle.plain_dag.specs.Floors.{is_closed}
use Rattle.plain_site.specs.Site.{Site}
use Rattle.plain_site.specs.Answers.{Answer, without_txn}
use Rattle.plain_site.specs.Commits.{commit_below}

-- why the actor may begin no transaction: its session isn't open, or has one
abbrev pub begin_refusal : Site → ℕ → Option Refusal
begin_refusal site n = elim (entry_of n site.sessions) [ None ↦ Some NotOpen | Some s ↦ elim (entry_of n site.txns) [ None ↦ None | Some t ↦ Some TxnOpen ] ]

-- the session commits a merge of these states with these writes, though it began none
abbrev pub merge_in_one : Site → ℕ → List StateId → List KeyWrite → Answer
merge_in_one site n xs ws = without_txn site n (λ s. commit_below site n xs ws [])

-- the reply tells how such a merge ended: it committed, or was refused
abbrev pub IsMergeEnd : Reply → Type 0
IsMergeEnd (Committed x parents) = Unit {0}
IsMergeEnd (Refused refusal) = Unit {0}
IsMergeEnd _ = ⊥

-- a merge of these states may commit with these writes: the states are such as a merge begins at, the writes such as a
-- transaction has, and each conflict key of the states is written
pub record MayBeMerged (site : Site) (xs : List StateId) (ws : List KeyWrite) : Type 0 where
  pub states : IsTrue (are_parents xs)
  pub writes : IsTrue (are_writes ws)
  pub known : IsTrue (list_all (is_known site.dag) xs)
  pub apart : IsTrue (are_apart site.dag xs)
  pub free : (x : StateId) → IsTrue (is_among x xs) → IsFalse (is_closed site.dag site.floors x)
  pub settled : open_conflict site.dag xs ws ≡ None
