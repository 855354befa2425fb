use Rattle.std.proofs.Common.{refl, ap, ◌∙◌, sym, Some, None, Ok, Err, length, ◌==◌}
use Rattle.tardis_base.specs.declared.faults.ReadFault.TheVariants.{Malformed}
use Rattle.wire_item.specs.Readings.{consent_front}
use Rattle.wire_item.proofs.Things.{reads-consent}
use Rattle.wire_item.proofs.Takings.{taken, untaken, makes, makes-none}
use Rattle.wire_item.proofs.Wholes.{answers}
use Rattle.item_bytes.proofs.whole_readers.read_consent.Goals as goal

pub returns-in-Some-clause-spelled : goal.returns-in-Some-clause-spelled
returns-in-Some-clause-spelled c =
    let read = ap consent_front (sym c.new-reader.ensures) ∙ taken consent_front c.new-reader.result c.consent.new.self c.in-Some.consent c.in-Some.ensures in
    let made = makes consent_front c.args.bytes.now c.consent.new.self (Ok c.in-Some.consent) c.in-Some.consent read refl in
    (answers reads-consent c.args.bytes.now (Some (Ok c.in-Some.consent)) c.consent.new.self c.is_done.result made c.is_done.ensures c.whole.result
    c.whole.ensures).spelled

pub returns-in-Some-clause-malformed : goal.returns-in-Some-clause-malformed
returns-in-Some-clause-malformed c =
    let read = ap consent_front (sym c.new-reader.ensures) ∙ taken consent_front c.new-reader.result c.consent.new.self c.in-Some.consent c.in-Some.ensures in
    let made = makes consent_front c.args.bytes.now c.consent.new.self (Ok c.in-Some.consent) c.in-Some.consent read refl in
    (answers reads-consent c.args.bytes.now (Some (Ok c.in-Some.consent)) c.consent.new.self c.is_done.result made c.is_done.ensures c.whole.result
    c.whole.ensures).malformed

pub returns-in-None-clause-malformed : goal.returns-in-None-clause-malformed
returns-in-None-clause-malformed c =
    let none = ap consent_front (sym c.new-reader.ensures) ∙ untaken consent_front c.new-reader.result c.consent.new.self c.in-None.ensures in
    let made = makes-none consent_front c.args.bytes.now c.consent.new.self None refl none in
    (answers reads-consent c.args.bytes.now None c.consent.new.self (length c.consent.new.self == 0) made refl (Err Malformed) refl).malformed
