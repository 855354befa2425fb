use Rattle.std.proofs.Common.{map}
use Rattle.std.specs.String.{string_bytes}
use Rattle.dag_lock.specs.Named.{start_of}
use Rattle.site_sync.proofs.Rounding.{rounding_none, rounding_more}
use Rattle.site_sync.proofs.Causes.{rounds_later, rounds_cause}
use Rattle.site_sync.proofs.rounds.run_rounds.Goals as goal

pub returns-clause-later : goal.returns-clause-later
returns-clause-later g c =
    rounds_later g.M.Machine.opening g.M.Machine.plain (start_of c.args.lock.now) g.D.Link.Duplex.left g.D.Link.Sink.given g.D.Link.Duplex.take_faults
    g.D.Link.Sink.faults g.D.Dial.told g.D.Dial.faults
    c.loop-round._round (map (λ p. string_bytes p) c.args.peers.now) c.args.tidy c.args.pass c.args.dial.now c.loop-round.numbers c.loop-round.pass c.loop-round.dial
    c.loop-round.invariant.made

pub returns-clause-cause : goal.returns-clause-cause
returns-clause-cause g c =
    rounds_cause g.M.Machine.opening g.M.Machine.plain (start_of c.args.lock.now) g.D.Link.Duplex.left g.D.Link.Sink.given g.D.Link.Duplex.take_faults
    g.D.Link.Sink.faults g.D.Dial.told g.D.Dial.faults
    c.loop-round._round (map (λ p. string_bytes p) c.args.peers.now) c.args.tidy c.args.pass c.args.dial.now c.loop-round.numbers c.loop-round.pass c.loop-round.dial
    c.loop-round.invariant.made

pub loop-round-init : goal.loop-round-init
loop-round-init g c =
    rounding_none g.M.Machine.opening g.M.Machine.plain (start_of c.args.lock.now) g.D.Link.Duplex.left g.D.Link.Sink.given g.D.Link.Duplex.take_faults
    g.D.Link.Sink.faults g.D.Dial.told g.D.Dial.faults (map (λ p. string_bytes p) c.args.peers.now) c.args.tidy c.args.pass c.args.dial.now

pub loop-round-preserved : goal.loop-round-preserved
loop-round-preserved g c =
    rounding_more g.M.Machine.opening g.M.Machine.plain (start_of c.args.lock.now) g.D.Link.Duplex.left g.D.Link.Sink.given g.D.Link.Duplex.take_faults
    g.D.Link.Sink.faults g.D.Dial.told g.D.Dial.faults
    c.loop-round._round (map (λ p. string_bytes p) c.args.peers.now) c.args.tidy c.args.pass c.args.dial.now c.loop-round.numbers c.loop-round.pass c.loop-round.dial
    c.run_round-next.result.0 c.run_round-next.new.dial c.run_round-next.result.1
    c.loop-round.invariant c.run_round-next.ensures.goes_on c.run_round-next.ensures.round c.run_round-next.ensures.most.0 c.run_round-next.ensures.most.1
