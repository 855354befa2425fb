use Rattle.std.proofs.Common.{nat_le, List, None, sym, ◌∙◌, refl}
use Rattle.tardis_base.specs.Keys.{KeyWrite, are_ascending_keys, keys_of}
use Rattle.tardis_base.specs.Valid.{are_writes}
use Rattle.wire_item.specs.Fronts.{only_if, both, counted, times}
use Rattle.wire_item.specs.Readings.{u8_front, key_front, write_front, writes_front}
use Rattle.wire_item.proofs.Takings.{taken, untaken, making, unmade, makes-none, counted-unordered, counted-ordered}
use Rattle.wire_item.proofs.Orders.{writes-tested}
use Rattle.shell_text.proofs.Passings.{lacking, if-passes}
use Rattle.shell_text.proofs.passing.pass_writes.Goals as goal

pub returns-in-None : goal.returns-in-None
returns-in-None c =
    let none = untaken u8_front c.args.reader.now c.u8.new.self c.in-None.ensures in
    makes-none writes_front c.args.reader.now c.u8.new.self None refl (rw none refl)

pub returns-then-not-pass_ascending_writes : goal.returns-then-not-pass_ascending_writes
returns-then-not-pass_ascending_writes c =
    let n = c.in-Some.count in
    let count = taken u8_front c.args.reader.now c.u8.new.self n c.in-Some.ensures in
    let none = unmade (only_if (λ (ws : List KeyWrite). are_ascending_keys (keys_of ws)) (times (both key_front write_front) n)) c.u8.new.self
    c.pass_ascending_writes.new.reader c.if-not-pass_ascending_writes.ensures in
    makes-none writes_front c.args.reader.now c.pass_ascending_writes.new.reader None refl
    (counted-unordered u8_front (both key_front write_front) are_writes (λ (ws : List KeyWrite). are_ascending_keys (keys_of ws))
    (λ n. nat_le n 64) writes-tested c.args.reader.now n c.u8.new.self count none)

pub returns : goal.returns
returns c =
    let n = c.in-Some.count in
    let count = taken u8_front c.args.reader.now c.u8.new.self n c.in-Some.ensures in
    let read = making (only_if (λ (ws : List KeyWrite). are_ascending_keys (keys_of ws)) (times (both key_front write_front) n)) c.u8.new.self
    c.pass_ascending_writes.new.reader lacking c.if-not-pass_ascending_writes.ensures in
    let whole = counted-ordered u8_front (both key_front write_front) are_writes (λ (ws : List KeyWrite). are_ascending_keys (keys_of ws))
    (λ n. nat_le n 64) writes-tested c.args.reader.now n c.u8.new.self read.0 c.pass_ascending_writes.new.reader count read.1 in
    if-passes are_writes (counted u8_front (times (both key_front write_front))) c.args.reader.now c.pass_ascending_writes.new.reader read.0
    c.is_write_count.result whole.0 (whole.1 ∙ sym c.is_write_count.ensures)
