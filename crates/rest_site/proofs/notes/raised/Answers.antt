use Rattle.std.proofs.Common.{◌∙◌, ◌+◌, ◌<◌, length, get_or, ap, subst, arith}
use Rattle.plain_dag.specs.Floors.{floor_of}
use Rattle.ceiling_book.specs.Book.{Book, floors_of}
use Rattle.rest_site.proofs.Raised.{promise-found, promise-passed}
use Rattle.rest_site.proofs.notes.raised.Goals as goal

pub returns-then-before-from : goal.returns-then-before-from
returns-then-before-from c = λ old behind noted stands same.
    let place = c.loop-place.place in
    let sites = c.sites-place-end.ensures.is ∙ ap (λ (b : Book). length (floors_of b)) c.book.ensures.is in
    let within : place < length (floors_of c.args.core.now.book) = subst (λ m. place < m) sites c.loop-place-test.true in
    let is = c.floor-number.ensures.number ∙ ap (λ (b : Book). (floor_of (floors_of b) (place + 1)).number) c.book-in-loop-place.ensures.is in
    let there = ap (λ i. get_or c.args.before.now.numbers i 0) c.from.ensures in
    let higher = c.if-before-from.true in
    let more : get_or c.args.before.now.numbers place 0 < c.floor-number.result.1 = omega (arith, higher, there) in
    promise-found c.args.before.now c.args.core.now old behind noted stands same place (c.loop-place.invariant.so_far old behind noted stands same) within
    c.floor-number.result.1 is more c.promise_of.result (c.promise_of.ensures behind stands)

pub loop-place-preserved : goal.loop-place-preserved
loop-place-preserved c = record {
  so_far = λ old behind noted stands same.
      let place = c.loop-place.place in
      let sites = c.sites-place-end.ensures.is ∙ ap (λ (b : Book). length (floors_of b)) c.book.ensures.is in
      let within : place < length (floors_of c.args.core.now.book) = subst (λ m. place < m) sites c.loop-place-test.true in
      let is = c.floor-number.ensures.number ∙ ap (λ (b : Book). (floor_of (floors_of b) (place + 1)).number) c.book-in-loop-place.ensures.is in
      let there = ap (λ i. get_or c.args.before.now.numbers i 0) c.from.ensures in
      let other = c.if-before-from.false in
      promise-passed c.args.before.now c.args.core.now old behind noted stands same place (c.loop-place.invariant.so_far old behind noted stands same) within
      c.floor-number.result.1 is (λ less. omega (arith, less, other, there));
}
