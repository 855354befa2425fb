use Rattle.std.proofs.Common.{rules, ◌≡◌, ◌+◌, ◌-◌, length, take, drop, refl}
use Rattle.disk_store.specs.Disks.{Torn}
use Rattle.memory_disks.proofs.Torn.{torn_part}
use Rattle.memory_disks.proofs.Images.{on_ok}
use Rattle.memory_disks.proofs.crashes.write_part.Goals as goal

pub returns : goal.returns
returns c =
    let part = c.part-part.result in
    let bytes = c.args.bytes.now in
    let at : c.in-Some.start ≡ c.args.place + part.from = search rules in
    on_ok c.put.result
    (Torn c.in-Some.start (length (take (part.to - part.from) (drop part.from bytes))) c.spoil.new.image.items c.put.new.image.items)
    (Torn c.args.place (length bytes) c.args.image.now.items c.put.new.image.items)
    (λ put. torn_part c.args.place (length bytes) part.junk part.from part.to c.in-Some.start c.args.image.now.items c.spoil.new.image.items
    c.put.new.image.items bytes refl c.part-part.ensures.has_room c.part-part.ensures.in_order c.part-part.ensures.within at c.in_ok-spoil.ensures put)
    c.put.ensures
