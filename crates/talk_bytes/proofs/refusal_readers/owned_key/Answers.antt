use Rattle.wire_item.specs.Readings.{key_front}
use Rattle.wire_item.proofs.Takings.{taken, untaken, makes, makes-none}
use Rattle.talk_bytes.proofs.refusal_readers.owned_key.Goals as goal

pub returns-in_err-key : goal.returns-in_err-key
returns-in_err-key c =
    makes-none key_front c.args.reader.now c.key.new.self c.from_residual.result c.from_residual.ensures
    (untaken key_front c.args.reader.now c.key.new.self c.in_err-key.ensures)

pub returns : goal.returns
returns c =
    makes key_front c.args.reader.now c.key.new.self c.new_key.result c.in_ok-key.key.now
    (taken key_front c.args.reader.now c.key.new.self c.in_ok-key.key.now c.in_ok-key.ensures) c.new_key.ensures
