use Rattle.std.proofs.Common.{arith, slice_set, subst, sym}
use Rattle.hub.specs.Settlings.{behind_doors}
use Rattle.hub.specs.Keeping.{PeerWaits}
use Rattle.hub.proofs.Goings.{no_such_peer, only_set}
use Rattle.hub.proofs.fetching.fetch.Goals as goal

pub returns-then-peer-peers-clause-turned : goal.returns-then-peer-peers-clause-turned
returns-then-peer-peers-clause-turned g c = λ on.
    no_such_peer (behind_doors g.M.Settling.plain g.M.Settling.through g.M.Settling.is_settled g.M.Settling.settled) (g.M.Settling.stands c.args.machine.now) c.args.peers.now c.args.peer c.args.now c.args.news c.args.tally.now (g.P.Ports.seen c.args.ports.now)
    (omega (arith, c.if-peer-peers.true))

pub returns-in-Time-clause-turned : goal.returns-in-Time-clause-turned
returns-in-Time-clause-turned g c =
    rw c.in-Time.is (λ on. c.tick.ensures.turned c.args.peers.now (slice_set c.args.peers.now c.args.peer c.tick.new.at)
    (only_set c.args.peers.now c.args.peer c.index-peers-peer.result c.tick.new.at (omega (arith, c.if-peer-peers.false))))

pub returns-in-Through-clause-turned : goal.returns-in-Through-clause-turned
returns-in-Through-clause-turned g c =
    rw c.in-Through.is (λ on. c.connect.ensures.turned c.args.peers.now (slice_set c.args.peers.now c.args.peer c.connect.new.at)
    (only_set c.args.peers.now c.args.peer c.index-peers-peer-in-Through.result c.connect.new.at (omega (arith, c.if-peer-peers.false))))

pub returns-in-Over-clause-turned : goal.returns-in-Over-clause-turned
returns-in-Over-clause-turned g c =
    rw c.in-Over.is (λ on. c.end.ensures.turned c.args.tally.now c.args.peers.now (slice_set c.args.peers.now c.args.peer c.end.new.at)
    (only_set c.args.peers.now c.args.peer c.index-peers-peer-in-Over.result c.end.new.at (omega (arith, c.if-peer-peers.false))))

pub returns-in-Read-clause-turned : goal.returns-in-Read-clause-turned
returns-in-Read-clause-turned g c =
    rw c.in-Read.is (λ on. c.hear.ensures.turned c.args.tally.now c.args.peers.now (slice_set c.args.peers.now c.args.peer c.hear.new.at)
    (only_set c.args.peers.now c.args.peer c.index-peers-peer-in-Read.result c.hear.new.at (omega (arith, c.if-peer-peers.false))))

pub returns-in-Write-clause-turned : goal.returns-in-Write-clause-turned
returns-in-Write-clause-turned g c =
    rw c.in-Write.is (λ on. c.tell.ensures.turned on c.args.tally.now c.args.peers.now (slice_set c.args.peers.now c.args.peer c.tell.new.at)
    (only_set c.args.peers.now c.args.peer c.index-peers-peer-in-Write.result c.tell.new.at (omega (arith, c.if-peer-peers.false))))

pub returns-in-Write-clause-unsettled : goal.returns-in-Write-clause-unsettled
returns-in-Write-clause-unsettled g c = rw c.in-Write.is (λ failed.
    let left = c.tell.ensures.unsettled failed in
    let only = only_set c.args.peers.now c.args.peer c.index-peers-peer-in-Write.result c.tell.new.at (omega (arith, c.if-peer-peers.false)) in
    (left.0, subst (λ o. PeerWaits o) (sym only.was) left.1, left.2))
