use Rattle.std.proofs.Common.{map, take}
use Rattle.std.specs.String.{string_bytes}
use Rattle.dag_lock.specs.Named.{start_of}
use Rattle.site_sync.proofs.Rounding.{Calling}
use Rattle.site_sync.proofs.rounds.call_all.Given as goal

abbrev pub invariant-loop-peer : goal.invariant-loop-peer
invariant-loop-peer g l =
    Calling g.M.Machine.opening g.M.Machine.plain (start_of l.fn.lock) g.D.Link.Duplex.left g.D.Link.Sink.given g.D.Link.Duplex.take_faults
    g.D.Link.Sink.faults g.D.Dial.told g.D.Dial.faults
    l.peer-index (take l.peer-index (map (λ p. string_bytes p) l.fn.peers)) l.fn.pass l.fn.dial l.fn.numbers l.pass l.dial l.numbers
