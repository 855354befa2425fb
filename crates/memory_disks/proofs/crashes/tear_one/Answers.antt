use Rattle.std.proofs.Common.{rules, ◌≡◌, ◌+◌, ◌-◌, length, sym, subst, arith}
use Rattle.std.specs.Prelude.{min, OnOk}
use Rattle.disk_store.specs.Disks.{Torn, Shortened}
use Rattle.memory_disks.specs.Memory.{IsStep}
use Rattle.memory_disks.proofs.Torn.{torn_wider, shortened_to}
use Rattle.memory_disks.proofs.Images.{on_ok}
use Rattle.memory_disks.proofs.crashes.tear_one.Goals as goal

pub returns-in-Wrote : goal.returns-in-Wrote
returns-in-Wrote c =
    subst (λ k. OnOk c.write_part.result (IsStep (k, c.args.bytes.now) c.args.image.now.items c.write_part.new.image.items))
    (sym c.in-Wrote.is) c.write_part.ensures

pub returns-in-Tore : goal.returns-in-Tore
returns-in-Tore c =
    subst (λ k. OnOk c.spoil.result (IsStep (k, c.args.bytes.now) c.args.image.now.items c.spoil.new.image.items)) (sym c.in-Tore.is)
    (on_ok c.spoil.result (Torn c.in-Tore.place c.up_to-junk.result c.args.image.now.items c.spoil.new.image.items)
    (Torn c.in-Tore.place c.in-Tore.count c.args.image.now.items c.spoil.new.image.items)
    (λ t. torn_wider c.in-Tore.place c.up_to-junk.result c.in-Tore.count c.args.image.now.items c.spoil.new.image.items c.up_to-junk.ensures t)
    c.spoil.ensures)

pub returns-in-WroteBytewise : goal.returns-in-WroteBytewise
returns-in-WroteBytewise c =
    subst (λ k. OnOk c.blend.result (IsStep (k, c.args.bytes.now) c.args.image.now.items c.blend.new.image.items)) (sym c.in-WroteBytewise.is)
    c.blend.ensures

pub returns-in-ToreBytewise : goal.returns-in-ToreBytewise
returns-in-ToreBytewise c =
    subst (λ k. OnOk c.blend-in-ToreBytewise.result (IsStep (k, c.args.bytes.now) c.args.image.now.items c.blend-in-ToreBytewise.new.image.items))
    (sym c.in-ToreBytewise.is) c.blend-in-ToreBytewise.ensures

pub returns-in-CutTo : goal.returns-in-CutTo
returns-in-CutTo c =
    let old = c.args.image.now.items in
    let all : c.len.result ≡ length old = search rules in
    let all_again : c.len-in-CutTo.result ≡ length old = search rules in
    let least : c.min-least.result ≡ min c.len.result c.in-CutTo.len = search rules in
    subst (λ k. IsStep (k, c.args.bytes.now) old c.truncate.new.self.items) (sym c.in-CutTo.is)
    (subst (Shortened c.in-CutTo.len old) (sym c.truncate.ensures.items)
    (shortened_to c.in-CutTo.len (c.min-least.result + c.up_to-more.result) old (omega (arith, least, all))
    (omega (arith, least, all, all_again, c.up_to-more.ensures))))

pub returns-in-MayCut : goal.returns-in-MayCut
returns-in-MayCut c =
    let old = c.args.image.now.items in
    let all : c.len-in-MayCut.result ≡ length old = search rules in
    let all_again : c.len-in-MayCut-2.result ≡ length old = search rules in
    let all_still : c.len-in-MayCut-3.result ≡ length old = search rules in
    let least : c.min-least-in-MayCut.result ≡ min c.len-in-MayCut.result c.in-MayCut.len = search rules in
    subst (λ k. IsStep (k, c.args.bytes.now) old c.truncate-in-MayCut.new.self.items) (sym c.in-MayCut.is)
    (subst (Shortened c.in-MayCut.len old) (sym c.truncate-in-MayCut.ensures.items)
    (shortened_to c.in-MayCut.len (c.len-in-MayCut-3.result - c.up_to-less.result) old
    (omega (arith, least, all, all_again, all_still, c.up_to-less.ensures)) (omega (arith, all_still))))
