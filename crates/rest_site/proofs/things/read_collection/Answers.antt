use Rattle.std.proofs.Common.{refl, le-leb, nat_le, arith}
use Rattle.std.proofs.lemmas.Bool.{false_from_ne_true, leb-true}
use Rattle.wire_item.specs.Fronts.{only_if}
use Rattle.wire_item.specs.Readings.{u32_front}
use Rattle.wire_item.proofs.Fronts.{made-read, only_if-read}
use Rattle.wire_item.proofs.Takings.{taken, untaken, made-none, only_if-none, only_if-fails}
use Rattle.plain_site.specs.Rest.{Collection}
use Rattle.site_lives.specs.Things.{OfSite}
use Rattle.rest_site.specs.Takings.{collection_front}
use Rattle.rest_site.proofs.Taken.{read-none}
use Rattle.rest_site.proofs.things.read_collection.Goals as goal

pub returns-in_err-count : goal.returns-in_err-count
returns-in_err-count c =
    let none = untaken u32_front c.args.reader.now c.u32.new.self c.in_err-count.ensures in
    read-none (collection_front c.args.reader.now) c.from_residual.result c.u32.new.self c.from_residual.ensures
    (made-none (λ n. OfSite (Collection n)) (only_if (nat_le 1) u32_front) c.args.reader.now (only_if-none (nat_le 1) u32_front c.args.reader.now none))

pub returns-then-count-ge1 : goal.returns-then-count-ge1
returns-then-count-ge1 c =
    let read = taken u32_front c.args.reader.now c.u32.new.self c.in_ok-count.count c.in_ok-count.ensures in
    let fits = le-leb 1 c.in_ok-count.count c.if-count-ge1.true in (
      OfSite (Collection c.in_ok-count.count),
      made-read (λ n. OfSite (Collection n)) (only_if (nat_le 1) u32_front) c.args.reader.now c.in_ok-count.count c.u32.new.self
          (only_if-read (nat_le 1) u32_front c.args.reader.now c.in_ok-count.count c.u32.new.self read fits),
      refl,
    )

pub returns-else-count-ge1 : goal.returns-else-count-ge1
returns-else-count-ge1 c =
    let read = taken u32_front c.args.reader.now c.u32.new.self c.in_ok-count.count c.in_ok-count.ensures in
    let unfit = false_from_ne_true (nat_le 1 c.in_ok-count.count) (λ t.
    let few = c.if-count-ge1.false in
    let many = leb-true 1 c.in_ok-count.count t in
    omega (arith, few, many)) in
    made-none (λ n. OfSite (Collection n)) (only_if (nat_le 1) u32_front) c.args.reader.now
    (only_if-fails (nat_le 1) u32_front c.args.reader.now c.in_ok-count.count c.u32.new.self read unfit)
