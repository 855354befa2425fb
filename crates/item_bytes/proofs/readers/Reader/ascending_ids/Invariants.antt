use Rattle.tardis_base.specs.declared.ids.StateId.{StateId}
use Rattle.tardis_base.specs.Ids.{are_ascending}
use Rattle.wire_item.specs.Readings.{id_front}
use Rattle.wire_item.proofs.Progress.{Progress}
use Rattle.item_bytes.proofs.readers.Reader.ascending_ids.Given as goal

abbrev pub invariant-loop-place : goal.invariant-loop-place
invariant-loop-place l = Progress (λ (x : StateId). x) are_ascending id_front l.initial.self l._place l.self l.last l.ids
