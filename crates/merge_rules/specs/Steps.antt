-- What the parts of an auto step answer.
use Rattle.std.specs.List.{list_all}
use Rattle.std.specs.Prelude.{IsTrue, ◌&&◌, if◌then◌else◌, ◌≡◌, ℕ, List, [], ◌∷◌, Option, Some, None, Result}
use Rattle.std.specs.Prelude.{Ok, Err}
use Rattle.tardis_base.specs.declared.faults.NoMemory.{NoMemory as OutOfMemory}
use Rattle.tardis_base.specs.declared.ids.StateId.{StateId}
use Rattle.tardis_base.specs.declared.ids.Slot.{Slot}
use Rattle.tardis_base.specs.declared.records.Record.{Record}
use Rattle.tardis_base.specs.Ids.{is_before}
use Rattle.tardis_base.specs.Valid.{is_key, is_write}
use Rattle.tardis_base.specs.Keys.{KeyWrite}
use Rattle.plain_dag.specs.Forks.{leaves}
use Rattle.state_dag.specs.Stands.{Stands}
use Rattle.state_dag.specs.Table.{Table, id_at}
use Rattle.plain_site.specs.Site.{Site}
use Rattle.stored_site.specs.Joins.{MayBeMerged, merge_in_one}
use Rattle.merge_rules.specs.declared.steps.AutoEnd.{AutoEnd}
use Rattle.merge_rules.specs.Auto.{AutoAnswer, ended_as}

-- the plain answer; or there was no memory, and what stands for the site as it was
abbrev pub Ends : (Site → Type 0) → AutoAnswer → Site → Result AutoEnd OutOfMemory → Type 0
Ends stands answer old (Ok end) = stands answer.0 × (end ≡ answer.1)
Ends stands answer old (Err fault) = stands old

-- the slots of the two leaves that arrived first, the lesser id first; there are none where there is one leaf
abbrev pub AreFirst : Table → List StateId → Option (Slot × Slot) → Type 0
AreFirst table (x ∷ y ∷ more) (Some two) =
    (id_at table two.0 ≡ Some (if is_before x y then x else y)) × (id_at table two.1 ≡ Some (if is_before x y then y else x))
AreFirst table (x ∷ y ∷ more) None = ⊥
AreFirst table _ two = two ≡ None

abbrev pub FirstTwo : Table → Option (Slot × Slot) → Type 0
FirstTwo table two = (rs : List Record) (ks : List StateId) → Stands table rs ks → AreFirst table (leaves rs) two

-- a merge of the states of these slots may commit with these writes, which are those of keys
abbrev pub MayJoin : (Site → Type 0) → Table → Slot → Slot → List KeyWrite → Type 0
MayJoin stands table a b ws =
    (site : Site) → stands site → (x y : StateId) → id_at table a ≡ Some x → id_at table b ≡ Some y →
    IsTrue (list_all (λ w. is_key w.0 && is_write w.1) ws) → MayBeMerged site (x ∷ y ∷ []) ws

-- the session commits a merge of the states of these slots
abbrev pub JoinsAs : (Site → Type 0) → (Site → Type 0) → Table → ℕ → Slot → Slot → List KeyWrite → Result AutoEnd OutOfMemory → Type 0
JoinsAs old new table n a b ws result =
    (site : Site) → old site → (x y : StateId) → id_at table a ≡ Some x → id_at table b ≡ Some y →
    Ends new (ended_as (merge_in_one site n (x ∷ y ∷ []) ws)) site result
