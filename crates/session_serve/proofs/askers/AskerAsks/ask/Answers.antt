use Rattle.std.proofs.Common.{refl, sym, ◌∙◌}
use Rattle.dag_lock.specs.Named.{start_of}
use Rattle.session_serve.proofs.Going.{asker_goes}
use Rattle.session_serve.proofs.askers.AskerAsks.ask.Goals as goal

pub invariant_of-self : goal.invariant_of-self
invariant_of-self g c =
    let inside = c.self.inside in
    let was = c.self.invariant in
    let goes = asker_goes g.M.Machine.opening g.M.Machine.plain (start_of inside.lock.now) inside.session c.self.inside.pass inside.first.value was.0
    c.in-Some.pass c.step_once-pass.result.0 c.args.request.now c.step_once-pass.new.out c.step_once-pass.result.1
    was.1 (sym c.take.ensures.value ∙ c.in-Some.is) was.3 c.step_once-pass.ensures.pass c.step_once-pass.ensures.ended in
    (c.step_once-pass.result.0, refl, goes.0 ∙ was.2, goes.1)
