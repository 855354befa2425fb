use Rattle.std.proofs.Common.{◌≡◌, ◌+◌, ◌++◌, ◌≤◌, ℕ, List, length, take, ap, sym, ◌∙◌, arith, length-append}
use Rattle.std.specs.List.{concat}
use Rattle.tardis_io.proofs.Told.{then}
use Rattle.trail_log.specs.Frames.{trail_frames}
use Rattle.trail_log.proofs.ChunkRows.{given_next, given_part}
use Rattle.trail_log.proofs.logs.EntryLog.write_to.Goals as goal

-- what is lacking behind some parts that were given, and a front of the next, is no longer than all that was to be given
few_lost : (x y z part chunk l frames lost : List ℕ) → y ≡ x ++ part → z ++ l ≡ y ++ chunk → length l ≤ length chunk → z ++ lost ≡ x ++ frames →
    length lost ≤ length frames
few_lost x y z part chunk l frames lost p q few r =
    let a = ap length p ∙ length-append x part in
    let b = sym (length-append z l) ∙ ap length q ∙ length-append y chunk in
    let c = sym (length-append z lost) ∙ ap length r ∙ length-append x frames in
    omega (arith, a, b, c, few)

pub loop-chunk-preserved : goal.loop-chunk-preserved
loop-chunk-preserved g c =
    let chunks = c.deref-chunk-items.result.now in
    let i = c.loop-chunk.chunk-index in record {
      told = then (g.O.Sink.given c.args.output.now) (g.O.Sink.given c.loop-chunk.output) (g.O.Sink.given c.write_all.new.output)
          (λ before after. after ≡ before ++ concat (take i chunks))
          (λ before after. after ≡ before ++ c.bytes.result.now)
          (λ before after. after ≡ before ++ concat (take (i + 1) chunks))
          c.loop-chunk.invariant.told c.in-Ok.ensures.bytes
          (λ x y z p q. given_next x y z chunks i c.chunk-item.result c.loop-chunk-test.true c.chunk-item.is p (q ∙ ap (λ t. y ++ t) c.bytes.ensures));
      all = c.loop-chunk.invariant.all;
      later = omega (arith, c.in-Ok.ensures.cause.later, c.loop-chunk.invariant.later);
    }

pub returns-in-Err-clause-bytes : goal.returns-in-Err-clause-bytes
returns-in-Err-clause-bytes g c =
    let chunks = c.deref-chunk-items.result.now in
    let i = c.loop-chunk.chunk-index in
    then (g.O.Sink.given c.args.output.now) (g.O.Sink.given c.loop-chunk.output) (g.O.Sink.given c.write_all.new.output)
    (λ before after. after ≡ before ++ concat (take i chunks))
    (λ before after. (lost : List ℕ) × ((after ++ lost ≡ before ++ c.bytes.result.now) × (length lost ≤ length c.bytes.result.now)))
    (λ before after. (lost : List ℕ) × ((after ++ lost ≡ before ++ trail_frames c.args.self.now.trail)
    × (length lost ≤ length (trail_frames c.args.self.now.trail))))
    c.loop-chunk.invariant.told c.in-Err.ensures.bytes
    (λ x y z p q.
    let part = given_part x y z (trail_frames c.args.self.now.trail) chunks i c.chunk-item.result c.loop-chunk-test.true c.chunk-item.is
    c.loop-chunk.invariant.all p (q.0, q.1.0 ∙ ap (λ t. y ++ t) c.bytes.ensures) in
    (part.0, (part.1, few_lost x y z (concat (take i chunks)) c.bytes.result.now q.0 (trail_frames c.args.self.now.trail) part.0 p q.1.0 q.1.1 part.1)))
