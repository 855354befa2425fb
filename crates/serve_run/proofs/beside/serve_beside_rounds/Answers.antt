use Rattle.std.proofs.Common.{rules, IsSomeAnd, map, subst}
use Rattle.std.specs.String.{string_bytes}
use Rattle.dag_lock.specs.Named.{lock_id, start_of}
use Rattle.serve_run.specs.Beside.{Pooled, Synced}
use Rattle.serve_run.specs.Serving.{workload}
use Rattle.serve_run.proofs.Joining.{both}
use Rattle.serve_run.proofs.beside.serve_beside_rounds.Goals as goal

pub returns : goal.returns
returns g c =
    let z = start_of c.args.lock.now in
    let pooled : Pooled g.M.Machine.plain g.G.Link.Duplex.left g.G.Link.Sink.given g.G.Link.Duplex.take_faults g.G.Link.Sink.faults g.G.Gate.told
    g.G.Gate.faults
    (g.M.Machine.opening z.machine) z.max_trail c.args.options.links c.split-kept.result.0 c.in-Some-Some.pass c.args.gate.now c.gate-1.given.0
    c.in-Some-Some.served = search rules in
    let fact : IsSomeAnd c.join_mut-synced.result.0 (λ r. Synced g.M.Machine.opening g.M.Machine.plain g.D.Link.Duplex.left g.D.Link.Sink.given
    g.D.Link.Duplex.take_faults g.D.Link.Sink.faults g.D.Dial.told g.D.Dial.faults
    z c.args.options.rounds (map (λ p. string_bytes p) c.args.options.peers.now) c.args.options.tidy c.split-kept.result.1 r.0 c.args.dial.now c.dial-1.given.0 r.1) =
    search (rules, c.join_mut-synced.ensures.0.met.1) in
    let synced : Synced g.M.Machine.opening g.M.Machine.plain g.D.Link.Duplex.left g.D.Link.Sink.given g.D.Link.Duplex.take_faults g.D.Link.Sink.faults
    g.D.Dial.told g.D.Dial.faults
    z c.args.options.rounds (map (λ p. string_bytes p) c.args.options.peers.now) c.args.options.tidy c.split-kept.result.1 c.in-Some-Some.done c.args.dial.now
    c.dial-1.given.0 c.in-Some-Some.made =
    subst (λ o. IsSomeAnd o (λ r. Synced g.M.Machine.opening g.M.Machine.plain g.D.Link.Duplex.left g.D.Link.Sink.given g.D.Link.Duplex.take_faults
    g.D.Link.Sink.faults g.D.Dial.told g.D.Dial.faults
    z c.args.options.rounds (map (λ p. string_bytes p) c.args.options.peers.now) c.args.options.tidy c.split-kept.result.1 r.0 c.args.dial.now c.dial-1.given.0 r.1))
    c.in-Some-Some.is-0 fact in
    both g.M.Machine.opening g.M.Machine.plain g.G.Link.Duplex.left g.G.Link.Sink.given g.G.Link.Duplex.take_faults g.G.Link.Sink.faults
    g.D.Link.Duplex.left g.D.Link.Sink.given g.D.Link.Duplex.take_faults g.D.Link.Sink.faults g.D.Dial.told g.D.Dial.faults g.G.Gate.told g.G.Gate.faults
    c.servings_last.ensures z (workload c.args.options) (lock_id c.args.lock.now) c.args.pass c.split-kept.result.0 c.split-kept.result.1
    c.in-Some-Some.pass c.join.result c.in-Some-Some.done
    c.args.gate.now c.gate-1.given.0 c.args.dial.now c.dial-1.given.0 c.in-Some-Some.served c.in-Some-Some.made
    c.requires.pass c.split-kept.ensures.first c.split-kept.ensures.second pooled synced c.join.ensures.lock c.join.ensures.seen c.join.ensures.owned
    c.join.ensures.pieces
