use Rattle.tardis_base.specs.declared.replies.Refusal.TheVariants.{ConflictKey, OpenConflict}
use Rattle.wire_item.specs.Fronts.{front_of_code}
use Rattle.wire_item.specs.Readings.{key_front, u8_front}
use Rattle.wire_item.proofs.Codes.{code-none, code-read}
use Rattle.wire_item.proofs.Takings.{taken, unmade, untaken, makes-none}
use Rattle.std.proofs.Common.{Some, refl, sym, ◌∙◌}
use Rattle.wire_talk.specs.Memory.{refusal_takes_no_memory}
use Rattle.wire_talk.specs.ReplyReadings.{refusal_rows, refusal_front}
use Rattle.wire_talk.proofs.Arms.{arm-makes, arm-none, arm-sure, makes-coded, sure-free, sure-makes}
use Rattle.talk_bytes.proofs.refusal_readers.refusal.Goals as goal

pub returns-in_err-code-clause-makes : goal.returns-in_err-code-clause-makes
returns-in_err-code-clause-makes c =
    makes-none refusal_front c.args.reader.now c.u8.new.self c.from_residual.result c.from_residual.ensures
    (code-none refusal_rows c.args.reader.now refl (untaken u8_front c.args.reader.now c.u8.new.self c.in_err-code.ensures))

pub returns-in_err-owned_key-in-13-clause-makes : goal.returns-in_err-owned_key-in-13-clause-makes
returns-in_err-owned_key-in-13-clause-makes c =
    let failed = c.from_residual-in_err-owned_key-in-13 in
    makes-coded refusal_rows c.args.reader.now c.in_ok-code.code c.u8.new.self failed.result c.owned_key.new.reader
    (taken u8_front c.args.reader.now c.u8.new.self c.in_ok-code.code c.in_ok-code.ensures)
    (arm-none refusal_rows 13 c.in_ok-code.code ConflictKey key_front c.u8.new.self c.owned_key.new.reader failed.result c.in-13.is refl failed.ensures
    (unmade key_front c.u8.new.self c.owned_key.new.reader c.in_err-owned_key-in-13.ensures))

pub returns-in_ok-owned_key-in-13-clause-makes : goal.returns-in_ok-owned_key-in-13-clause-makes
returns-in_ok-owned_key-in-13-clause-makes c =
    makes-coded refusal_rows c.args.reader.now c.in_ok-code.code c.u8.new.self (Some c.conflict_key.result) c.owned_key.new.reader
    (taken u8_front c.args.reader.now c.u8.new.self c.in_ok-code.code c.in_ok-code.ensures)
    (arm-makes refusal_rows 13 c.in_ok-code.code ConflictKey key_front c.u8.new.self c.owned_key.new.reader c.in_ok-owned_key-in-13.field-0
    c.conflict_key.result
    c.in-13.is refl c.in_ok-owned_key-in-13.ensures c.conflict_key.ensures)

pub returns-in_ok-owned_key-in-13-clause-sure : goal.returns-in_ok-owned_key-in-13-clause-sure
returns-in_ok-owned_key-in-13-clause-sure c = λ x rest e read sure is.
    let code = taken u8_front c.args.reader.now c.u8.new.self c.in_ok-code.code c.in_ok-code.ensures in
    absurd (arm-sure refusal_rows 13 c.in_ok-code.code ConflictKey key_front refusal_takes_no_memory (λ key. refl) c.u8.new.self x rest c.in-13.is refl
    (sym (code-read refusal_rows c.args.reader.now c.in_ok-code.code c.u8.new.self code) ∙ read) sure)

pub returns-in_err-owned_key-in-14-clause-makes : goal.returns-in_err-owned_key-in-14-clause-makes
returns-in_err-owned_key-in-14-clause-makes c =
    let failed = c.from_residual-in_err-owned_key-in-14 in
    makes-coded refusal_rows c.args.reader.now c.in_ok-code.code c.u8.new.self failed.result c.owned_key-in-14.new.reader
    (taken u8_front c.args.reader.now c.u8.new.self c.in_ok-code.code c.in_ok-code.ensures)
    (arm-none refusal_rows 14 c.in_ok-code.code OpenConflict key_front c.u8.new.self c.owned_key-in-14.new.reader failed.result c.in-14.is refl failed.ensures
    (unmade key_front c.u8.new.self c.owned_key-in-14.new.reader c.in_err-owned_key-in-14.ensures))

pub returns-in_ok-owned_key-in-14-clause-makes : goal.returns-in_ok-owned_key-in-14-clause-makes
returns-in_ok-owned_key-in-14-clause-makes c =
    makes-coded refusal_rows c.args.reader.now c.in_ok-code.code c.u8.new.self (Some c.open_conflict.result) c.owned_key-in-14.new.reader
    (taken u8_front c.args.reader.now c.u8.new.self c.in_ok-code.code c.in_ok-code.ensures)
    (arm-makes refusal_rows 14 c.in_ok-code.code OpenConflict key_front c.u8.new.self c.owned_key-in-14.new.reader c.in_ok-owned_key-in-14.field-0
    c.open_conflict.result
    c.in-14.is refl c.in_ok-owned_key-in-14.ensures c.open_conflict.ensures)

pub returns-in_ok-owned_key-in-14-clause-sure : goal.returns-in_ok-owned_key-in-14-clause-sure
returns-in_ok-owned_key-in-14-clause-sure c = λ x rest e read sure is.
    let code = taken u8_front c.args.reader.now c.u8.new.self c.in_ok-code.code c.in_ok-code.ensures in
    absurd (arm-sure refusal_rows 14 c.in_ok-code.code OpenConflict key_front refusal_takes_no_memory (λ key. refl) c.u8.new.self x rest c.in-14.is refl
    (sym (code-read refusal_rows c.args.reader.now c.in_ok-code.code c.u8.new.self code) ∙ read) sure)

pub returns-in_default-clause-makes : goal.returns-in_default-clause-makes
returns-in_default-clause-makes c =
    makes-coded refusal_rows c.args.reader.now c.in_ok-code.code c.u8.new.self c.sure.result c.plain_refusal.new.reader
    (taken u8_front c.args.reader.now c.u8.new.self c.in_ok-code.code c.in_ok-code.ensures)
    (sure-makes (front_of_code c.in_ok-code.code refusal_rows) c.u8.new.self c.plain_refusal.new.reader c.plain_refusal.result c.sure.result c.sure.ensures
    c.plain_refusal.ensures)

pub returns-in_default-clause-sure : goal.returns-in_default-clause-sure
returns-in_default-clause-sure c = λ x rest e read sure is. sure-free c.plain_refusal.result c.sure.result e c.sure.ensures is
