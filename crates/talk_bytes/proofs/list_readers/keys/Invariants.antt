use Rattle.std.proofs.Common.{List, ℕ}
use Rattle.std.specs.Option.{option_copied}
use Rattle.tardis_base.specs.Keys.{are_ascending_keys}
use Rattle.wire_item.specs.Readings.{key_front}
use Rattle.wire_item.proofs.Progress.{Progress}
use Rattle.talk_bytes.proofs.list_readers.keys.Given as goal

abbrev pub invariant-loop-place : goal.invariant-loop-place
invariant-loop-place l = Progress (λ (k : List ℕ). k) are_ascending_keys key_front l.initial.reader l._place l.reader (option_copied l.last) l.keys
