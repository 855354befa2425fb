use Rattle.std.proofs.Common.{nat_le, List, map, None, sym, ◌∙◌, refl}
use Rattle.tardis_base.specs.declared.records.Consent.{Consent}
use Rattle.wire_item.specs.Valid.{are_ascending_numbers, are_consents}
use Rattle.wire_item.specs.Fronts.{only_if, counted, times}
use Rattle.wire_item.specs.Readings.{u8_front, consent_front, consents_front}
use Rattle.wire_item.proofs.Takings.{taken, untaken, making, unmade, makes-none, counted-unordered, counted-ordered}
use Rattle.wire_item.proofs.Orders.{consents-tested}
use Rattle.shell_text.proofs.Passings.{lacking, if-passes}
use Rattle.shell_text.proofs.passing.pass_consents.Goals as goal

pub returns-in-None : goal.returns-in-None
returns-in-None c =
    let none = untaken u8_front c.args.reader.now c.u8.new.self c.in-None.ensures in
    makes-none consents_front c.args.reader.now c.u8.new.self None refl (rw none refl)

pub returns-then-not-pass_ascending_consents : goal.returns-then-not-pass_ascending_consents
returns-then-not-pass_ascending_consents c =
    let n = c.in-Some.count in
    let count = taken u8_front c.args.reader.now c.u8.new.self n c.in-Some.ensures in
    let none = unmade (only_if (λ (cs : List Consent). are_ascending_numbers (map (λ c. c.site) cs)) (times consent_front n)) c.u8.new.self
    c.pass_ascending_consents.new.reader c.if-not-pass_ascending_consents.ensures in
    makes-none consents_front c.args.reader.now c.pass_ascending_consents.new.reader None refl
    (counted-unordered u8_front consent_front are_consents (λ (cs : List Consent). are_ascending_numbers (map (λ c. c.site) cs))
    (λ n. nat_le n 16) consents-tested c.args.reader.now n c.u8.new.self count none)

pub returns : goal.returns
returns c =
    let n = c.in-Some.count in
    let count = taken u8_front c.args.reader.now c.u8.new.self n c.in-Some.ensures in
    let read = making (only_if (λ (cs : List Consent). are_ascending_numbers (map (λ c. c.site) cs)) (times consent_front n)) c.u8.new.self
    c.pass_ascending_consents.new.reader lacking c.if-not-pass_ascending_consents.ensures in
    let whole = counted-ordered u8_front consent_front are_consents (λ (cs : List Consent). are_ascending_numbers (map (λ c. c.site) cs))
    (λ n. nat_le n 16) consents-tested c.args.reader.now n c.u8.new.self read.0 c.pass_ascending_consents.new.reader count read.1 in
    if-passes are_consents (counted u8_front (times consent_front)) c.args.reader.now c.pass_ascending_consents.new.reader read.0 c.is_consent_count.result
    whole.0 (whole.1 ∙ sym c.is_consent_count.ensures)
