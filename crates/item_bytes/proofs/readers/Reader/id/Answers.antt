use Rattle.std.proofs.Common.{refl, None, sym}
use Rattle.wire_item.specs.Readings.{id_front, u16_front, u32_front}
use Rattle.wire_item.proofs.Takings.{taken, untaken, takes, takes-none}
use Rattle.item_bytes.proofs.readers.Reader.id.Goals as goal

pub returns-in_err-site : goal.returns-in_err-site
returns-in_err-site c =
    let none = untaken u16_front c.args.self.now c.u16.new.self c.in_err-site.ensures in
    takes-none id_front c.args.self.now _ c.from_residual.result c.from_residual.ensures (rw none refl)

pub returns-in_err-sequence : goal.returns-in_err-sequence
returns-in_err-sequence c =
    let site = taken u16_front c.args.self.now c.u16.new.self c.in_ok-site.site c.in_ok-site.ensures in
    let none = untaken u32_front c.u16.new.self c.u32.new.self c.in_err-sequence.ensures in
    takes-none id_front c.args.self.now _ c.from_residual-in_err-sequence.result c.from_residual-in_err-sequence.ensures (rw (site, none) refl)

pub returns-then-is_id : goal.returns-then-is_id
returns-then-is_id c =
    let site = taken u16_front c.args.self.now c.u16.new.self c.in_ok-site.site c.in_ok-site.ensures in
    let sequence = taken u32_front c.u16.new.self c.u32.new.self c.in_ok-sequence.sequence c.in_ok-sequence.ensures in
    let valid = sym c.if-is_id.ensures in
    takes id_front c.args.self.now c.u32.new.self (record { site = c.in_ok-site.site; sequence = c.in_ok-sequence.sequence }) (rw (site, sequence, valid) refl)

pub returns-else-is_id : goal.returns-else-is_id
returns-else-is_id c =
    let site = taken u16_front c.args.self.now c.u16.new.self c.in_ok-site.site c.in_ok-site.ensures in
    let sequence = taken u32_front c.u16.new.self c.u32.new.self c.in_ok-sequence.sequence c.in_ok-sequence.ensures in
    let valid = sym c.if-is_id.ensures in
    takes-none id_front c.args.self.now c.u32.new.self None refl (rw (site, sequence, valid) refl)
