use Rattle.std.proofs.Common.{refl, None, sym}
use Rattle.wire_item.specs.Readings.{consent_front, u16_front, u32_front, id_front}
use Rattle.wire_item.proofs.Takings.{taken, untaken, takes, takes-none}
use Rattle.item_bytes.proofs.readers.Reader.consent.Goals as goal

pub returns-in_err-site : goal.returns-in_err-site
returns-in_err-site c =
    let none = untaken u16_front c.args.self.now c.u16.new.self c.in_err-site.ensures in
    takes-none consent_front c.args.self.now c.u16.new.self c.from_residual.result c.from_residual.ensures (rw (none) refl)

pub returns-in_err-number : goal.returns-in_err-number
returns-in_err-number c =
    let site = taken u16_front c.args.self.now c.u16.new.self c.in_ok-site.site c.in_ok-site.ensures in
    let none = untaken u32_front c.u16.new.self c.u32.new.self c.in_err-number.ensures in
    takes-none consent_front c.args.self.now c.u32.new.self c.from_residual-in_err-number.result c.from_residual-in_err-number.ensures (rw (site, none) refl)

pub returns-in_err-floor : goal.returns-in_err-floor
returns-in_err-floor c =
    let site = taken u16_front c.args.self.now c.u16.new.self c.in_ok-site.site c.in_ok-site.ensures in
    let number = taken u32_front c.u16.new.self c.u32.new.self c.in_ok-number.number c.in_ok-number.ensures in
    let none = untaken id_front c.u32.new.self c.id.new.self c.in_err-floor.ensures in
    takes-none consent_front c.args.self.now c.id.new.self c.from_residual-in_err-floor.result c.from_residual-in_err-floor.ensures
    (rw (site, number, none) refl)

pub returns-in_err-count : goal.returns-in_err-count
returns-in_err-count c =
    let site = taken u16_front c.args.self.now c.u16.new.self c.in_ok-site.site c.in_ok-site.ensures in
    let number = taken u32_front c.u16.new.self c.u32.new.self c.in_ok-number.number c.in_ok-number.ensures in
    let floor = taken id_front c.u32.new.self c.id.new.self c.in_ok-floor.floor c.in_ok-floor.ensures in
    let none = untaken u32_front c.id.new.self c.u32-2.new.self c.in_err-count.ensures in
    takes-none consent_front c.args.self.now c.u32-2.new.self c.from_residual-in_err-count.result c.from_residual-in_err-count.ensures
    (rw (site, number, floor, none) refl)

pub returns-then-is_numbered : goal.returns-then-is_numbered
returns-then-is_numbered c =
    let site = taken u16_front c.args.self.now c.u16.new.self c.in_ok-site.site c.in_ok-site.ensures in
    let number = taken u32_front c.u16.new.self c.u32.new.self c.in_ok-number.number c.in_ok-number.ensures in
    let floor = taken id_front c.u32.new.self c.id.new.self c.in_ok-floor.floor c.in_ok-floor.ensures in
    let count = taken u32_front c.id.new.self c.u32-2.new.self c.in_ok-count.count c.in_ok-count.ensures in
    let valid = sym c.if-is_numbered.ensures in
    takes consent_front c.args.self.now c.u32-2.new.self (record {
      site = c.in_ok-site.site;
      number = c.in_ok-number.number;
      floor =
          c.in_ok-floor.floor;
      count = c.in_ok-count.count;
    }) (rw (site, number, floor, count, valid) refl)

pub returns-else-is_numbered : goal.returns-else-is_numbered
returns-else-is_numbered c =
    let site = taken u16_front c.args.self.now c.u16.new.self c.in_ok-site.site c.in_ok-site.ensures in
    let number = taken u32_front c.u16.new.self c.u32.new.self c.in_ok-number.number c.in_ok-number.ensures in
    let floor = taken id_front c.u32.new.self c.id.new.self c.in_ok-floor.floor c.in_ok-floor.ensures in
    let count = taken u32_front c.id.new.self c.u32-2.new.self c.in_ok-count.count c.in_ok-count.ensures in
    let valid = sym c.if-is_numbered.ensures in
    takes-none consent_front c.args.self.now c.u32-2.new.self None refl (rw (site, number, floor, count, valid) refl)
