-- A merge in one step.
use Rattle.std.specs.Prelude.{◌≡◌, ℕ, List, [], Some, map, Result}
use Rattle.tardis_base.specs.declared.ids.StateId.{StateId}
use Rattle.tardis_base.specs.declared.ids.Slot.{Slot}
use Rattle.tardis_base.specs.declared.replies.Reply.{Reply}
use Rattle.tardis_base.specs.Keys.{KeyWrite}
use Rattle.state_dag.specs.Table.{id_at}
use Rattle.plain_site.specs.Site.{Site}
use Rattle.plain_site.specs.Sound.{IsSound}
use Rattle.plain_site.specs.Commits.{commit_below}
pub use Rattle.stored_site.specs.Joins.{begin_refusal, merge_in_one, IsMergeEnd, MayBeMerged}
use Rattle.site_answers.specs.declared.stops.Stop.{Stop}
use Rattle.session_core.specs.Core.{Core}
use Rattle.session_core.specs.Stands.{CoreStands}
use Rattle.session_core.specs.Gives.{GivesOrStops}
use Rattle.session_core.specs.Commits.{NextMayArrive}

-- a state with these writes joins below the states of these slots, in a session without a transaction
abbrev pub WritesBelow : Core → Core → ℕ → List Slot → List KeyWrite → Result Reply Stop → Type 0
WritesBelow old new n below ws result =
    (site : Site) → CoreStands old site → (xs : List StateId) → map (id_at old.store.table) below ≡ map (λ x. Some x) xs →
    NextMayArrive site xs ws → GivesOrStops (CoreStands new) (commit_below site n xs ws []) site result

-- the session commits a merge of the states of these slots
abbrev pub MergesBelow : Core → Core → ℕ → List Slot → List KeyWrite → Result Reply Stop → Type 0
MergesBelow old new n below ws result =
    (site : Site) → CoreStands old site → IsSound site → (xs : List StateId) → map (id_at old.store.table) below ≡ map (λ x. Some x) xs →
    MayBeMerged site xs ws → GivesOrStops (CoreStands new) (merge_in_one site n xs ws) site result
