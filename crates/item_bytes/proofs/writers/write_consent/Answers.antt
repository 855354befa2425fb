use Rattle.wire_item.specs.Spellings.{u16_spelling, u32_spelling, id_spelling}
use Rattle.wire_item.proofs.Writings.{wrote4}
use Rattle.item_bytes.proofs.writers.write_consent.Goals as goal

pub returns : goal.returns
returns c =
    let p = c.args.promise.now in
    wrote4 c.args.out.now c.write_u16.new.out c.write_u32.new.out c.write_id.new.out c.write_u32-2.new.out
    (u16_spelling p.site) (u32_spelling p.number) (id_spelling p.floor) (u32_spelling p.count)
    c.write_u16.ensures c.write_u32.ensures c.write_id.ensures c.write_u32-2.ensures
