use Rattle.std.proofs.Common.{nat_lt, List, [], map, None, sym, refl, arith}
use Rattle.tardis_base.specs.declared.records.Consent.{Consent}
use Rattle.wire_item.specs.Valid.{are_ascending_numbers}
use Rattle.wire_item.specs.Fronts.{only_if, times}
use Rattle.wire_item.specs.Readings.{consent_front}
use Rattle.wire_item.proofs.Takings.{taken, untaken, makes-none}
use Rattle.wire_item.proofs.Progress.{progress-none, progress-breaks, progress-more, progress-whole}
use Rattle.wire_item.proofs.Orders.{consents-order}
use Rattle.shell_text.proofs.Passings.{lacking}
use Rattle.shell_text.proofs.passing.pass_ascending_consents.Goals as goal

pub loop-place-init : goal.loop-place-init
loop-place-init c = record { xs = []; reads = refl; ordered = refl; last_is = refl; made = tt }

pub returns-in-None : goal.returns-in-None
returns-in-None c =
    makes-none (only_if (λ (cs : List Consent). are_ascending_numbers (map (λ c. c.site) cs)) (times consent_front c.args.count)) c.args.reader.now
    c.consent.new.self None refl
    (progress-none (λ (c : Consent). c.site) (λ (cs : List Consent). are_ascending_numbers (map (λ c. c.site) cs)) consent_front c.args.reader.now
    c.loop-place._place c.args.count c.loop-place.reader c.loop-place.last lacking
    c.loop-place.invariant (untaken consent_front c.loop-place.reader c.consent.new.self c.in-None.ensures) (omega arith))

pub returns-then-not-site_follows : goal.returns-then-not-site_follows
returns-then-not-site_follows c =
    makes-none (only_if (λ (cs : List Consent). are_ascending_numbers (map (λ c. c.site) cs)) (times consent_front c.args.count)) c.args.reader.now
    c.consent.new.self None refl
    (progress-breaks (λ (c : Consent). c.site) nat_lt (λ (cs : List Consent). are_ascending_numbers (map (λ c. c.site) cs)) consents-order consent_front
    c.args.reader.now c.loop-place._place c.args.count c.loop-place.reader c.loop-place.last lacking
    c.in-Some.consent c.consent.new.self c.loop-place.invariant
    (taken consent_front c.loop-place.reader c.consent.new.self c.in-Some.consent c.in-Some.ensures) (sym c.if-not-site_follows.ensures) (omega arith))

pub loop-place-preserved : goal.loop-place-preserved
loop-place-preserved c =
    progress-more (λ (c : Consent). c.site) nat_lt (λ (cs : List Consent). are_ascending_numbers (map (λ c. c.site) cs)) consents-order consent_front
    c.args.reader.now c.loop-place._place c.loop-place.reader c.loop-place.last lacking lacking
    c.in-Some.consent c.consent.new.self c.loop-place.invariant
    (taken consent_front c.loop-place.reader c.consent.new.self c.in-Some.consent c.in-Some.ensures) (sym c.if-not-site_follows.ensures) (λ _. tt)

pub returns : goal.returns
returns c =
    progress-whole (λ (c : Consent). c.site) (λ (cs : List Consent). are_ascending_numbers (map (λ c. c.site) cs)) consent_front c.args.reader.now
    c.loop-place._place c.args.count c.loop-place.reader c.loop-place.last lacking c.loop-place.invariant (omega arith)
