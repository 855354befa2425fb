-- Where conflict keys are held.
use Rattle.std.specs.Prelude.{ℕ, Bool, ◌&&◌, List}
use Rattle.std.specs.List.{list_any}
use Rattle.tardis_base.specs.declared.ids.StateId.{StateId}
use Rattle.tardis_base.specs.declared.records.Record.{Record}
use Rattle.branch_region.specs.Regions.{is_above_part}
use Rattle.record_store.specs.Stands.{holds_key}

-- the key is held by one of these that is at or above one of the states and not at or above all of them
abbrev pub is_met : List Record → List StateId → List StateId → List StateId → List ℕ → Bool
is_met rs ks xs ys k = list_any (λ y. is_above_part rs y xs && holds_key rs ks k y) ys
