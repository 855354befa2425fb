use Rattle.std.proofs.Common.{◌∙◌, inl, inr, refl, sym, subst, arith}
use Rattle.dag_lock.specs.Named.{start_of}
use Rattle.serve_pool.specs.Pools.{AreServed}
use Rattle.serve_run.specs.Serving.{MakesRounds, workload}
use Rattle.serve_run.proofs.runs.serve_lock.Goals as goal

pub returns-clause-served : goal.returns-clause-served
returns-clause-served g c =
    let z = start_of c.args.lock in
    let b = c.serve_beside_rounds-pass.ensures in
    let seen = c.close-trailed.ensures.trail in
    record {
      machine = z;
      opens = (refl, refl);
      trail = c.close-trailed.result.trail;
      taken = b.taken;
      asked = b.asked;
      each = subst (λ t. AreServed g.G.Link.Duplex.left g.G.Link.Sink.given g.G.Link.Duplex.take_faults g.G.Link.Sink.faults g.M.Machine.plain
          (g.M.Machine.opening z.machine) z.max_trail 0 t 1 b.taken) (sym seen) b.each;
      rounds = subst (λ t. MakesRounds g.M.Machine.opening g.M.Machine.plain g.D.Link.Duplex.left g.D.Link.Sink.given g.D.Link.Duplex.take_faults
          g.D.Link.Sink.faults g.D.Dial.told g.D.Dial.faults z
          (workload c.args.options) t b.asked c.args.dial.now c.serve_beside_rounds-pass.new.dial c.serve_beside_rounds-pass.result.2) (sym seen) b.rounds;
      whole = sym b.owned ∙ c.close-trailed.ensures.owned;
      told = b.told_links;
      within = omega (arith, b.within, b.count);
      unserved = b.unserved;
      done = λ f. elim (b.done f) [ inl h ↦ inl (sym b.count ∙ h) | inr h ↦ inr h ];
      fault = b.fault;
      wrote = c.write_trail-written.ensures.bytes;
      again = c.write_trail-written.ensures.again;
      cause = c.write_trail-written.ensures.cause;
    }
