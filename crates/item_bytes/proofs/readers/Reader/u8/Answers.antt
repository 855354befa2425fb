use Rattle.std.proofs.Common.{refl, sym, ◌∙◌, ap}
use Rattle.std.specs.Int.{w8, from_be_bytes}
use Rattle.wire_item.specs.Fronts.{bytes_front}
use Rattle.wire_item.specs.Readings.{u8_front}
use Rattle.wire_item.proofs.Fronts.{made-read}
use Rattle.wire_item.proofs.Takings.{taken, untaken, takes, takes-none, made-none}
use Rattle.item_bytes.proofs.readers.Reader.u8.Goals as goal

pub returns-in_err-bytes : goal.returns-in_err-bytes
returns-in_err-bytes c =
    takes-none u8_front c.args.self.now _ c.from_residual.result c.from_residual.ensures
    (made-none (from_be_bytes w8) (bytes_front 1) c.args.self.now (untaken (bytes_front 1) c.args.self.now c.array.new.self c.in_err-bytes.ensures))

pub returns : goal.returns
returns c =
    let bytes = c.in_ok-bytes.bytes in
    let read = taken (bytes_front 1) c.args.self.now c.array.new.self bytes c.in_ok-bytes.ensures in
    takes u8_front c.args.self.now c.array.new.self c.from_be_bytes.result
    (made-read (from_be_bytes w8) (bytes_front 1) c.args.self.now bytes c.array.new.self read
    ∙ ap (λ k. Rattle.std.proofs.Common.Some (k, c.array.new.self)) (sym c.from_be_bytes.ensures))
