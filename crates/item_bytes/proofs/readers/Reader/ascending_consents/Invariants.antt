use Rattle.std.proofs.Common.{List, map}
use Rattle.tardis_base.specs.declared.records.Consent.{Consent}
use Rattle.wire_item.specs.Valid.{are_ascending_numbers}
use Rattle.wire_item.specs.Readings.{consent_front}
use Rattle.wire_item.proofs.Progress.{Progress}
use Rattle.item_bytes.proofs.readers.Reader.ascending_consents.Given as goal

abbrev pub invariant-loop-place : goal.invariant-loop-place
invariant-loop-place l = Progress (λ (c : Consent). c.site) (λ (cs : List Consent). are_ascending_numbers (map (λ c. c.site) cs)) consent_front
    l.initial.self l._place l.self l.last l.consents
