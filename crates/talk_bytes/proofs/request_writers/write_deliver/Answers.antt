use Rattle.std.proofs.Common.{[], ◌∷◌, arith}
use Rattle.wire_item.specs.Spellings.{item_spelling}
use Rattle.wire_item.proofs.Written.{room-rest, written-two}
use Rattle.talk_bytes.proofs.request_writers.write_deliver.Goals as goal

pub push_byte-requires : goal.push_byte-requires
push_byte-requires c = omega (arith, c.requires.fits)

pub write_item-requires-clause-room : goal.write_item-requires-clause-room
write_item-requires-clause-room c =
    room-rest c.args.out.now (20 ∷ []) (item_spelling c.args.item.now) c.push_byte.new.self c.push_byte.ensures c.requires.fits

pub returns : goal.returns
returns c =
    written-two c.args.out.now (20 ∷ []) (item_spelling c.args.item.now) c.push_byte.new.self c.write_item.new.out c.push_byte.ensures c.write_item.ensures
