use Rattle.std.proofs.Common.{List, map, nat_lt, refl, sym, arith}
use Rattle.tardis_base.specs.declared.records.Consent.{Consent}
use Rattle.wire_item.specs.Valid.{are_ascending_numbers}
use Rattle.wire_item.specs.Fronts.{only_if, times}
use Rattle.wire_item.specs.Readings.{consent_front}
use Rattle.wire_item.proofs.Takings.{taken, untaken, makes-none}
use Rattle.wire_item.proofs.Progress.{progress-start, progress-none, progress-breaks, progress-more, progress-whole}
use Rattle.wire_item.proofs.Orders.{consents-order}
use Rattle.item_bytes.proofs.readers.Reader.ascending_consents.Goals as goal

pub loop-place-init : goal.loop-place-init
loop-place-init c = progress-start (λ (c : Consent). c.site) nat_lt (λ (cs : List Consent). are_ascending_numbers (map (λ c. c.site) cs)) consents-order
    consent_front c.args.self.now c.new.result c.new.ensures

pub returns-in_err-consent : goal.returns-in_err-consent
returns-in_err-consent c =
    makes-none (only_if (λ (cs : List Consent). are_ascending_numbers (map (λ c. c.site) cs)) (times consent_front c.args.count)) c.args.self.now
    c.consent.new.self c.from_residual.result c.from_residual.ensures
    (progress-none (λ (c : Consent). c.site) (λ (cs : List Consent). are_ascending_numbers (map (λ c. c.site) cs)) consent_front c.args.self.now
    c.loop-place._place c.args.count c.loop-place.self c.loop-place.last c.loop-place.consents
    c.loop-place.invariant (untaken consent_front c.loop-place.self c.consent.new.self c.in_err-consent.ensures) (omega arith))

pub returns-then-not-site_follows : goal.returns-then-not-site_follows
returns-then-not-site_follows c =
    makes-none (only_if (λ (cs : List Consent). are_ascending_numbers (map (λ c. c.site) cs)) (times consent_front c.args.count)) c.args.self.now
    c.consent.new.self _ refl
    (progress-breaks (λ (c : Consent). c.site) nat_lt (λ (cs : List Consent). are_ascending_numbers (map (λ c. c.site) cs)) consents-order consent_front
    c.args.self.now c.loop-place._place c.args.count c.loop-place.self c.loop-place.last c.loop-place.consents
    c.in_ok-consent.consent c.consent.new.self c.loop-place.invariant
    (taken consent_front c.loop-place.self c.consent.new.self c.in_ok-consent.consent c.in_ok-consent.ensures) (sym c.if-not-site_follows.ensures)
    (omega arith))

pub loop-place-preserved : goal.loop-place-preserved
loop-place-preserved c =
    progress-more (λ (c : Consent). c.site) nat_lt (λ (cs : List Consent). are_ascending_numbers (map (λ c. c.site) cs)) consents-order consent_front
    c.args.self.now c.loop-place._place c.loop-place.self c.loop-place.last c.loop-place.consents c.pushed-consents.result
    c.in_ok-consent.consent c.consent.new.self c.loop-place.invariant
    (taken consent_front c.loop-place.self c.consent.new.self c.in_ok-consent.consent c.in_ok-consent.ensures) (sym c.if-not-site_follows.ensures)
    (λ _. c.pushed-consents.ensures c.loop-place.invariant.xs c.in_ok-consent.consent c.loop-place.invariant.made refl)

pub returns : goal.returns
returns c =
    progress-whole (λ (c : Consent). c.site) (λ (cs : List Consent). are_ascending_numbers (map (λ c. c.site) cs)) consent_front c.args.self.now
    c.loop-place._place c.args.count c.loop-place.self c.loop-place.last c.loop-place.consents c.loop-place.invariant (omega arith)
