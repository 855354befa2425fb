-- What the parts of a beginning answer.
use Rattle.std.specs.Prelude.{◌≡◌, ℕ, List, map, Some, Result}
use Rattle.tardis_base.specs.declared.ids.StateId.{StateId}
use Rattle.tardis_base.specs.declared.ids.Slot.{Slot}
use Rattle.tardis_base.specs.declared.replies.Reply.{Reply}
use Rattle.tardis_base.specs.declared.replies.Reply.TheVariants.{Begun}
use Rattle.tardis_base.specs.declared.requests.Begin.{Begin}
use Rattle.plain_dag.specs.Begin.{begin_state}
use Rattle.plain_dag.specs.Entries.{entry_of}
use Rattle.plain_dag.specs.Floors.{Session}
use Rattle.state_dag.specs.Table.{id_at}
use Rattle.begin_rule.specs.declared.BeginFault.{BeginFault}
use Rattle.begin_rule.specs.Choices.{ChosenAs}
use Rattle.plain_site.specs.Site.{Site}
use Rattle.plain_site.specs.Sound.{IsSound}
use Rattle.plain_site.specs.Sessions.{begun}
use Rattle.plain_site.specs.Merges.{merging, in_order}
use Rattle.site_answers.specs.declared.stops.Stop.{Stop}
use Rattle.session_core.specs.Core.{Core}
use Rattle.session_core.specs.Stands.{CoreStands}
use Rattle.session_core.specs.Gives.{GivesOrStops, DoesOrStops}

-- the slot of the state at which the open session is to begin, or why it may not
abbrev pub ChoosesFor : Core → ℕ → Begin → Result Slot BeginFault → Type 0
ChoosesFor core n b result =
    (site : Site) → CoreStands core site → IsSound site
    → (s : Session) → entry_of n site.sessions ≡ Some s
    → ChosenAs core.store.table site.dag s.ceiling (begin_state site.dag s.last b) result

-- the session begins at the state of the slot
abbrev pub BeginsAt : Core → Core → ℕ → Slot → Result StateId Stop → Type 0
BeginsAt old new n slot result =
    (site : Site) → CoreStands old site
    → (x : StateId) → id_at old.store.table slot ≡ Some x
    → DoesOrStops Begun (CoreStands new) (begun site n x) site result

-- the session begins a merge of the states of these slots
abbrev pub MergesAt : Core → Core → ℕ → List Slot → Result Reply Stop → Type 0
MergesAt old new n slots result =
    (site : Site) → CoreStands old site
    → (xs : List StateId) → map (id_at old.store.table) slots ≡ map (λ x. Some x) xs
    → GivesOrStops (CoreStands new) (merging site n (in_order xs)) site result
