use Rattle.std.proofs.Common.{◌∷◌, [], ◌++◌, ◌∙◌, ap, sym, subst, length, ◌+◌, ◌≤◌, IsTrue}
use Rattle.tardis_base.specs.Sizes.{longest_frame}
use Rattle.wire_item.specs.Valid.{is_item}
use Rattle.wire_item.proofs.Written.{room-rest}
use Rattle.wire_item.specs.Spellings.{consent_spelling, item_spelling, record_spelling}
use Rattle.wire_item.proofs.Writings.{wrote2}
use Rattle.item_bytes.proofs.writers.write_item.Goals as goal

pub returns-in-Promise : goal.returns-in-Promise
returns-in-Promise c =
    wrote2 c.args.out.now c.write_u8-in-Promise.new.out c.write_consent.new.out (2 ∷ []) (consent_spelling c.in-Promise.promise)
    c.write_u8-in-Promise.ensures c.write_consent.ensures
    ∙ ap (λ i. c.args.out.now ++ item_spelling i) (sym c.in-Promise.is)

pub returns-in-State : goal.returns-in-State
returns-in-State c =
    wrote2 c.args.out.now c.write_u8.new.out c.write_record.new.out (1 ∷ []) (record_spelling c.in-State.state) c.write_u8.ensures c.write_record.ensures
    ∙ ap (λ i. c.args.out.now ++ item_spelling i) (sym c.in-State.is)

pub write_record-requires-clause-valid : goal.write_record-requires-clause-valid
write_record-requires-clause-valid c = subst (λ i. IsTrue (is_item i)) c.in-State.is c.requires.valid

pub write_record-requires-clause-room : goal.write_record-requires-clause-room
write_record-requires-clause-room c =
    room-rest c.args.out.now (1 ∷ []) (record_spelling c.in-State.state) c.write_u8.new.out c.write_u8.ensures
    (subst (λ i. length c.args.out.now + length (item_spelling i) ≤ longest_frame) c.in-State.is c.requires.room)

pub write_consent-requires-clause-valid : goal.write_consent-requires-clause-valid
write_consent-requires-clause-valid c = subst (λ i. IsTrue (is_item i)) c.in-Promise.is c.requires.valid

pub write_consent-requires-clause-room : goal.write_consent-requires-clause-room
write_consent-requires-clause-room c =
    room-rest c.args.out.now (2 ∷ []) (consent_spelling c.in-Promise.promise) c.write_u8-in-Promise.new.out c.write_u8-in-Promise.ensures
    (subst (λ i. length c.args.out.now + length (item_spelling i) ≤ longest_frame) c.in-Promise.is c.requires.room)
