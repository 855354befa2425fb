use Rattle.std.proofs.Common.{List, map, refl, None, sym, nat_le}
use Rattle.tardis_base.specs.declared.records.Consent.{Consent}
use Rattle.wire_item.specs.Valid.{are_ascending_numbers, are_consents}
use Rattle.wire_item.specs.Readings.{u8_front, consents_front, consent_front}
use Rattle.wire_item.proofs.Takings.{taken, untaken, makes-none, counted-fit, counted-unfit}
use Rattle.wire_item.proofs.Orders.{consents-tested}
use Rattle.item_bytes.proofs.readers.Reader.consents.Goals as goal

pub returns-in_err-count : goal.returns-in_err-count
returns-in_err-count c =
    let none = untaken u8_front c.args.self.now c.u8.new.self c.in_err-count.ensures in
    makes-none consents_front c.args.self.now c.u8.new.self c.from_residual.result c.from_residual.ensures (rw none refl)

pub returns-then-is_consent_count : goal.returns-then-is_consent_count
returns-then-is_consent_count c =
    let count = taken u8_front c.args.self.now c.u8.new.self c.in_ok-count.count c.in_ok-count.ensures in
    counted-fit u8_front consent_front are_consents (λ (cs : List Consent). are_ascending_numbers (map (λ c. c.site) cs)) (λ n. nat_le n 16) consents-tested
    c.args.self.now c.in_ok-count.count c.u8.new.self c.ascending_consents.result c.ascending_consents.new.self count (sym c.if-is_consent_count.ensures) c.ascending_consents.ensures

pub returns-else-is_consent_count : goal.returns-else-is_consent_count
returns-else-is_consent_count c =
    let count = taken u8_front c.args.self.now c.u8.new.self c.in_ok-count.count c.in_ok-count.ensures in
    makes-none consents_front c.args.self.now c.u8.new.self None refl
    (counted-unfit u8_front consent_front are_consents (λ (cs : List Consent). are_ascending_numbers (map (λ c. c.site) cs)) (λ n. nat_le n 16) consents-tested
    c.args.self.now c.in_ok-count.count c.u8.new.self count (sym c.if-is_consent_count.ensures))
