use Rattle.std.proofs.Common.{ap, length, take}
use Rattle.std.specs.Prelude.{option_map, option_and_then}
use Rattle.tardis_base.specs.declared.requests.Request.TheVariants.{Deliver}
use Rattle.wire_item.specs.Readings.{item_of}
use Rattle.shell_text.proofs.LineReads.{item-read, not-delivered, no-digits}
use Rattle.shell_text.proofs.line_field_readers.deliver_in.Goals as goal

pub returns-in-Ok : goal.returns-in-Ok
returns-in-Ok c =
    let bytes = take c.in-Some.count c.read_hex.new.room in
    item-read c.args.word.now bytes c.in-Ok.item c.in-Some.ensures.bytes.1
    ((c.things_have_one_spelling.ensures.item.some bytes c.in-Ok.item).1 c.in-Ok.ensures.spelled)

pub returns-in-Err : goal.returns-in-Err
returns-in-Err c =
    not-delivered c.args.word.now (take c.in-Some.count c.read_hex.new.room) c.in-Err.fault c.in-Some.ensures.bytes.1 c.in-Err.ensures.malformed

pub returns-in-None : goal.returns-in-None
returns-in-None c =
    ap (λ o. option_map Deliver (option_and_then item_of o)) (no-digits c.args.word.now (length c.args.room.now) c.requires c.in-None.ensures.bytes)
