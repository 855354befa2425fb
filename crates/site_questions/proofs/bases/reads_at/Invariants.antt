use Rattle.std.proofs.Common.{◌≡◌, take, map, List, IsTrue}
use Rattle.std.specs.List.{list_all}
use Rattle.tardis_base.specs.declared.ids.StateId.{StateId}
use Rattle.tardis_base.specs.declared.records.Record.{Record}
use Rattle.plain_dag.specs.Collection.{is_kept}
use Rattle.record_store.specs.Stands.{StoreStands}
use Rattle.plain_questions.specs.Answer.{fork_read}
use Rattle.site_questions.proofs.bases.reads_at.Given as goal

abbrev pub invariant-loop-point : goal.invariant-loop-point
invariant-loop-point l =
    (rs : List Record) (ks : List StateId) → StoreStands l.store rs ks → IsTrue (list_all (is_kept rs ks) l.points) →
    l.reads ≡ map (fork_read rs l.key) (take l.point-index l.points)
