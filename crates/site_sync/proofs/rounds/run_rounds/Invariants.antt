use Rattle.std.proofs.Common.{map}
use Rattle.std.specs.String.{string_bytes}
use Rattle.dag_lock.specs.Named.{start_of}
use Rattle.site_sync.proofs.Rounding.{Rounding}
use Rattle.site_sync.proofs.rounds.run_rounds.Given as goal

abbrev pub invariant-loop-round : goal.invariant-loop-round
invariant-loop-round g l =
    Rounding g.M.Machine.opening g.M.Machine.plain (start_of l.fn.lock) g.D.Link.Duplex.left g.D.Link.Sink.given g.D.Link.Duplex.take_faults
    g.D.Link.Sink.faults g.D.Dial.told g.D.Dial.faults
    l._round (map (λ p. string_bytes p) l.fn.peers) l.fn.tidy l.fn.pass l.fn.dial l.numbers l.pass l.dial
