-- Collected states. They stand in a list beside the records, the one that joined last in front.
use Rattle.std.specs.Prelude.{ℕ, Bool, ◌&&◌, not, List, [], ◌∷◌, map, filter, find, Option, Some, None, is_some, if◌then◌else◌}
use Rattle.std.specs.List.{list_all}
use Rattle.tardis_base.specs.declared.ids.StateId.{StateId}
use Rattle.tardis_base.specs.declared.records.Record.{Record}
use Rattle.tardis_base.specs.Ids.{same_id, is_among}
use Rattle.plain_dag.specs.States.{states, arrived, children, is_known}
use Rattle.plain_dag.specs.Floors.{Floor, is_closed}

-- the state is known and not collected
abbrev pub is_kept : List Record → List StateId → StateId → Bool
is_kept rs ks x = is_known rs x && not (is_among x ks)

-- the kept states, in arrival order
abbrev pub kept_states : List Record → List StateId → List StateId
kept_states rs ks = filter (λ x. not (is_among x ks)) (arrived rs)

-- from a collected state to its first child, and so on to a kept one; children arrive after their parents
abbrev pub stand_in : List Record → List StateId → StateId → StateId
stand_in [] ks x = x
stand_in (r ∷ rs) ks x =
    let here = stand_in rs ks x in
    if is_among here ks && is_among here r.parents then r.id else here

-- the one that all of these are; none where there is none, or one differs from the first
abbrev pub common : {A : Type 0} → (A → A → Bool) → List A → Option A
common same [] = None
common same (x ∷ xs) = if list_all (λ y. same y x) xs then Some x else None

-- the stand-in that all children of the state share; none where it has no child, or two children's stand-ins differ
abbrev pub shared_stand_in : List Record → List StateId → StateId → Option StateId
shared_stand_in rs ks x = common same_id (map (stand_in rs ks) (children rs x))

-- the state has children, and they all have the same stand-in
abbrev pub is_absorbed : List Record → List StateId → StateId → Bool
is_absorbed rs ks x = is_some (shared_stand_in rs ks x)

-- the state is kept and closed, and what it has can go to the one stand-in of its children
abbrev pub is_collectable : List Record → List Floor → List StateId → StateId → Bool
is_collectable rs floors ks x = not (is_among x ks) && is_closed rs floors x && is_absorbed rs ks x

-- n times, or until there is none: the collectable state that arrived last joins the collected
abbrev pub tidied : ℕ → List Record → List Floor → List StateId → List StateId
tidied ℕ.zero rs floors ks = ks
tidied (ℕ.suc n) rs floors ks =
    elim (find (is_collectable rs floors ks) (states rs)) [ None ↦ ks | Some x ↦ tidied n rs floors (x ∷ ks) ]
