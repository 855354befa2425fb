use Rattle.std.proofs.Common.{◌≡◌, ◌||◌, ◌&&◌, ℕ, take, List, Some}
use Rattle.tardis_base.specs.declared.ids.StateId.{StateId}
use Rattle.tardis_base.specs.declared.records.Record.{Record}
use Rattle.tardis_base.specs.Keys.{is_key_among}
use Rattle.state_dag.specs.Table.{id_at}
use Rattle.record_store.specs.Stands.{StoreStands}
use Rattle.site_questions.specs.Own.{is_own}
use Rattle.site_questions.proofs.records.add_own.Given as goal

abbrev pub invariant-loop-key : goal.invariant-loop-key
invariant-loop-key l =
    (rs : List Record) (ks : List StateId) → StoreStands l.store rs ks → (x : StateId) → id_at l.store.table l.slot ≡ Some x → (k : List ℕ) →
    is_key_among k l.own ≡ (is_key_among k l.fn.own || is_key_among k (take l.key-index l.keys) && is_own rs x k)
