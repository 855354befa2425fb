use Rattle.std.proofs.Common.{◌≡◌, length, take, get_or, arith}
use Rattle.std.proofs.lemmas.Bool.{eq-eqb, eqb-true}
use Rattle.std.proofs.lemmas.List.{length-take-le}
use Rattle.line_cut.proofs.Parts.{at_feed, front_free}
use Rattle.line_cut.proofs.feeds.line_size.Goals as goal

pub returns-then-count-le-MAX_FRAME : goal.returns-then-count-le-MAX_FRAME
returns-then-count-le-MAX_FRAME c =
    let bytes = c.args.bytes.now in
    let k = c.in-Some.count in
    let found = c.in-Some.ensures in
    let size : length (take k bytes) ≡ k = length-take-le k bytes (omega (arith, found.0.high)) in (
      (
        front_free k bytes (λ place below _ is. found.0.before place (omega arith) below (eq-eqb (get_or bytes place 0) 10 is)),
        omega (arith, size, c.if-count-le-MAX_FRAME.true),
      ),
      found.0.high,
      at_feed k bytes found.0.high (eqb-true (get_or bytes k 0) 10 found.1),
    )

pub returns-else-count-le-MAX_FRAME : goal.returns-else-count-le-MAX_FRAME
returns-else-count-le-MAX_FRAME c =
    let bytes = c.args.bytes.now in
    let found = c.in-Some.ensures in (
      omega (arith, found.0.high, c.if-count-le-MAX_FRAME.false),
      λ place within is. found.0.before place (omega arith) (omega (arith, within, c.if-count-le-MAX_FRAME.false)) (eq-eqb (get_or bytes place 0) 10 is),
    )

pub returns-else-bytes-le-MAX_FRAME : goal.returns-else-bytes-le-MAX_FRAME
returns-else-bytes-le-MAX_FRAME c =
    let bytes = c.args.bytes.now in (
      omega (arith, c.if-bytes-le-MAX_FRAME.false),
      λ place within is. c.in-None.ensures place (omega arith) (omega (arith, within, c.if-bytes-le-MAX_FRAME.false)) (eq-eqb (get_or bytes place 0) 10 is),
    )
