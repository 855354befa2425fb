use Rattle.std.proofs.Common.{◌≡◌, ◌++◌, take}
use Rattle.std.specs.Prelude.{flat_map}
use Rattle.wire_item.specs.Spellings.{consent_spelling}
use Rattle.item_bytes.proofs.writers.write_consents.Given as goal

abbrev pub invariant-loop-promise : goal.invariant-loop-promise
invariant-loop-promise l = l.out ≡ l.initial.out ++ flat_map consent_spelling (take l.promise-index l.consents)
