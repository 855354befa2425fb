use Rattle.std.proofs.Common.{◌≡◌, ◌∙◌, ◌+◌, ◌<◌, ℕ, length, length-set, set, get_or, sym, subst, arith}
use Rattle.plain_dag.specs.Floors.{floor_of}
use Rattle.ceiling_book.specs.Book.{floors_of}
use Rattle.rest_site.proofs.Raised.{next-number}
use Rattle.rest_site.proofs.notes.numbers.Goals as goal

pub loop-place-preserved : goal.loop-place-preserved
loop-place-preserved c =
    let more = c.loop-place-test.true in
    let few = c.sites-place-end.ensures.within in
    let room = c.loop-place.invariant.room in
    let within : c.loop-place.place < length c.loop-place.numbers = omega (arith, more, few, room) in
    let numbers : ℕ → ℕ = λ i. (floor_of (floors_of c.args.book.now) (i + 1)).number in
    record {
      room = length-set c.loop-place.numbers c.from.result c.floor-number.result.1 ∙ room;
      so_far = subst
          (λ j. (i : ℕ) → i < c.loop-place.place + 1 → get_or (set c.loop-place.numbers j c.floor-number.result.1) i 0 ≡ numbers i)
          (sym c.from.ensures)
          (next-number numbers c.loop-place.numbers c.loop-place.place c.floor-number.result.1 within c.loop-place.invariant.so_far
          c.floor-number.ensures.number);
    }

pub returns : goal.returns
returns c = λ i l.
    let all = c.sites-place-end.ensures.is in
    let end = c.loop-place-test.false in
    c.loop-place.invariant.so_far i (omega (arith, l, all, end))
