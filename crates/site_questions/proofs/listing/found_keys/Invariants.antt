use Rattle.std.proofs.Common.{◌≡◌, List, map, filter, take, Some}
use Rattle.tardis_base.specs.declared.ids.StateId.{StateId}
use Rattle.tardis_base.specs.declared.records.Record.{Record}
use Rattle.state_dag.specs.Table.{id_at}
use Rattle.version_list.specs.Versions.{listed_keys}
use Rattle.record_store.specs.Stands.{StoreStands}
use Rattle.site_questions.specs.Listed.{is_told}
use Rattle.site_questions.proofs.listing.found_keys.Given as goal

abbrev pub invariant-loop-place : goal.invariant-loop-place
invariant-loop-place l =
    (rs : List Record) (ks : List StateId) → StoreStands l.fn.store rs ks → (x : StateId) → id_at l.fn.store.table l.fn.slot ≡ Some x
    → map (λ k. k.now) l.keys.items ≡ filter (is_told rs x l.fn.prefix l.fn.after) (take l.place (listed_keys l.fn.store.versions))
