use Rattle.std.proofs.Common.{get_or, refl}
use Rattle.tardis_base.specs.declared.records.Consent.{Consent}
use Rattle.wire_item.specs.Valid.{is_consent}
use Rattle.tardis_base.specs.Ids.{root}
use Rattle.tardis_base.specs.Sizes.{longest_frame}
use Rattle.wire_item.specs.Spellings.{consent_spelling}
use Rattle.wire_item.proofs.Writings.{room-next}
use Rattle.wire_item.proofs.Written.{each-valid, each-next, each-last}
use Rattle.item_bytes.proofs.writers.write_consents.Goals as goal

pub write_consent-requires-clause-room : goal.write_consent-requires-clause-room
write_consent-requires-clause-room c =
    room-next consent_spelling c.args.consents.now c.loop-promise.promise-index (record { site = 0; number = 0; floor = root; count = 0 }) c.args.out.now
    c.loop-promise.out longest_frame
    c.loop-promise.invariant c.loop-promise-test.true c.requires.room

pub write_consent-requires-clause-valid : goal.write_consent-requires-clause-valid
write_consent-requires-clause-valid c =
    let none : Consent = record { site = 0; number = 0; floor = root; count = 0 } in
    let index = c.loop-promise.promise-index in
    each-valid is_consent c.args.consents.now index none (get_or c.args.consents.now index none) c.loop-promise-test.true refl c.requires.valid

pub loop-promise-preserved : goal.loop-promise-preserved
loop-promise-preserved c =
    let none : Consent = record { site = 0; number = 0; floor = root; count = 0 } in
    let index = c.loop-promise.promise-index in
    each-next consent_spelling c.args.consents.now index none (get_or c.args.consents.now index none) c.args.out.now c.loop-promise.out
    c.write_consent.new.out c.loop-promise-test.true c.loop-promise.invariant refl c.write_consent.ensures

pub returns : goal.returns
returns c =
    each-last consent_spelling c.args.consents.now c.loop-promise.promise-index c.args.out.now c.loop-promise.out c.loop-promise-test.false
    c.loop-promise.invariant
