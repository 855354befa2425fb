use Rattle.std.proofs.Common.{◌≡◌, ℕ, ◌+◌, ◌-◌, ◌≤◌, List, ◌++◌, ◌∙◌, length, take, drop, arith}
use Rattle.tardis_io.proofs.Told.{then}
use Rattle.tardis_io.proofs.Fronts.{given_more, given_lost, within_more}
use Rattle.tardis_io.proofs.writes.write_all.Goals as goal

pub loop-done-preserved : goal.loop-done-preserved
loop-done-preserved g c = record {
  told = then (g.O.Sink.given c.args.output.now) (g.O.Sink.given c.loop-done.output) (g.O.Sink.given c.give.new.self)
      (λ before after. after ≡ before ++ take c.loop-done.done c.args.bytes.now)
      (λ before after. after ≡ before ++ take c.in-Ok.count (take (length c.args.bytes.now - c.loop-done.done) (drop c.loop-done.done c.args.bytes.now)))
      (λ before after. after ≡ before ++ take (c.loop-done.done + c.in-Ok.count) c.args.bytes.now)
      c.loop-done.invariant.told c.in-Ok.ensures.bytes
      (λ x y z p q. given_more x y z c.args.bytes.now c.loop-done.done c.in-Ok.count p q);
  within = within_more c.args.bytes.now c.loop-done.done c.in-Ok.count c.loop-done.invariant.within c.in-Ok.ensures.bound.1;
  later = omega (arith, c.in-Ok.ensures.cause.later, c.loop-done.invariant.later);
  kept = c.in-Ok.ensures.kept ∙ c.loop-done.invariant.kept;
}

pub returns-in-Err-clause-bytes : goal.returns-in-Err-clause-bytes
returns-in-Err-clause-bytes g c =
    then (g.O.Sink.given c.args.output.now) (g.O.Sink.given c.loop-done.output) (g.O.Sink.given c.give.new.self)
    (λ before after. after ≡ before ++ take c.loop-done.done c.args.bytes.now)
    (λ before after. after ≡ before)
    (λ before after. (lost : List ℕ) × ((after ++ lost ≡ before ++ c.args.bytes.now) × (length lost ≤ length c.args.bytes.now)))
    c.loop-done.invariant.told c.in-Err.ensures.bytes
    (λ x y z p q. given_lost x y z c.args.bytes.now c.loop-done.done p q)
