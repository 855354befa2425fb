use Rattle.std.proofs.Common.{◌∙◌, ◌≡◌, [], refl, sym, subst}
use Rattle.trail_log.specs.Trail.{Kept}
use Rattle.dag_lock.specs.Named.{start_of}
use Rattle.site_sync.specs.Asking.{TellsCounts}
use Rattle.serve_run.specs.Serving.{workload}
use Rattle.serve_run.proofs.Joining.{serves}
use Rattle.serve_run.proofs.runs.serve_links.Goals as goal

pub serve_lock-requires-clause-counts : goal.serve_lock-requires-clause-counts
serve_lock-requires-clause-counts g c κs within =
    let made : start_of c.in-Ok-new.lock ≡ record { machine = c.args.machine; trail = []; max_trail = c.args.max_trail } = c.in-Ok-new.ensures.made.0
    ∙ c.new-trailed.ensures in
    subst (λ (k : Kept g.row.M.Denot). TellsCounts g.M.Machine.plain (g.M.Machine.opening k.machine)) (sym made) c.requires.counts

pub returns-in-Ok-new : goal.returns-in-Ok-new
returns-in-Ok-new g c =
    let made : start_of c.in-Ok-new.lock ≡ record { machine = c.args.machine; trail = []; max_trail = c.args.max_trail } = c.in-Ok-new.ensures.made.0
    ∙ c.new-trailed.ensures in
    serves g.M.Machine.opening g.M.Machine.plain g.G.Link.Duplex.left g.G.Link.Sink.given g.G.Link.Duplex.take_faults g.G.Link.Sink.faults
    g.D.Link.Duplex.left g.D.Link.Sink.given g.D.Link.Duplex.take_faults g.D.Link.Sink.faults g.D.Dial.told g.D.Dial.faults
    g.G.Gate.told g.G.Gate.faults g.O.Sink.given g.O.Sink.faults (g.M.Machine.opening c.args.machine) c.args.max_trail
    (start_of c.in-Ok-new.lock) c.args.machine (workload c.args.options)
    c.args.gate.now c.bind.new.self c.serve_lock.new.gate c.args.dial.now c.serve_lock.new.dial c.args.output.now c.serve_lock.new.output c.serve_lock.result
    made refl c.in-Ok.ensures.told c.in-Ok.ensures.cause.later c.serve_lock.ensures.later.0 c.serve_lock.ensures.later.1 c.serve_lock.ensures.served
