use Rattle.hub.specs.Settlings.{behind_doors}
use Rattle.std.proofs.Common.{[], ◌∷◌, subst, sym}
use Rattle.hub.specs.Telling.{Tells}
use Rattle.hub.specs.declared.ports.Ready.TheVariants.{Accept, Read, Write, Close, Peer as OfPeer}
use Rattle.hub.specs.declared.ports.Seen.TheVariants.{Offered}
use Rattle.hub.specs.Keeping.{FetchesOn}
use Rattle.hub.proofs.Leading.{turned, fetched}
use Rattle.hub.proofs.turns.turn.Goals as goal

pub returns-in-Accept-clause-turned : goal.returns-in-Accept-clause-turned
returns-in-Accept-clause-turned g c = λ on.
    turned (behind_doors g.M.Settling.plain g.M.Settling.through g.M.Settling.is_settled g.M.Settling.settled) (g.M.Settling.stands c.args.machine.now) (g.M.Settling.stands c.enter.new.machine) c.args.connections.now c.enter.new.connections c.args.peers.now Accept
    c.args.tally.now c.args.tally.now (g.P.Ports.seen c.args.ports.now) (g.P.Ports.seen c.ready.new.self) (g.P.Ports.seen c.enter.new.ports)
    c.in-Accept.ensures.told (c.enter.ensures.turned c.args.tally.now)

pub returns-in-Read-clause-turned : goal.returns-in-Read-clause-turned
returns-in-Read-clause-turned g c = λ on.
    turned (behind_doors g.M.Settling.plain g.M.Settling.through g.M.Settling.is_settled g.M.Settling.settled) (g.M.Settling.stands c.args.machine.now) (g.M.Settling.stands c.hear.new.machine) c.args.connections.now c.hear.new.connections c.args.peers.now
    (Read c.in-Read.slot) c.args.tally.now c.hear.new.tally (g.P.Ports.seen c.args.ports.now) (g.P.Ports.seen c.ready.new.self)
    (g.P.Ports.seen c.hear.new.ports)
    c.in-Read.ensures.told c.hear.ensures.turned

pub returns-then-tell-clause-turned : goal.returns-then-tell-clause-turned
returns-then-tell-clause-turned g c = λ on.
    turned (behind_doors g.M.Settling.plain g.M.Settling.through g.M.Settling.is_settled g.M.Settling.settled) (g.M.Settling.stands c.args.machine.now) (g.M.Settling.stands c.tell.new.machine) c.args.connections.now c.tell.new.connections c.args.peers.now
    (Write c.in-Write.slot) c.args.tally.now c.tell.new.tally (g.P.Ports.seen c.args.ports.now) (g.P.Ports.seen c.ready.new.self)
    (g.P.Ports.seen c.tell.new.ports)
    c.in-Write.ensures.told (c.tell.ensures.turned c.if-tell.true)

pub returns-else-tell-clause-unsettled : goal.returns-else-tell-clause-unsettled
returns-else-tell-clause-unsettled g c = λ is.
    let left = c.tell.ensures.unsettled c.if-tell.false in (
      left.0,
      (
        Write c.in-Write.slot,
        (
          left.1,
          subst (λ p. Tells (g.P.Ports.seen c.args.ports.now) (g.P.Ports.seen p) (Offered (Write c.in-Write.slot) ∷ [])) (sym left.2) c.in-Write.ensures.told,
        ),
      ),
    )

pub returns-in-Close-clause-turned : goal.returns-in-Close-clause-turned
returns-in-Close-clause-turned g c = λ on.
    turned (behind_doors g.M.Settling.plain g.M.Settling.through g.M.Settling.is_settled g.M.Settling.settled) (g.M.Settling.stands c.args.machine.now) (g.M.Settling.stands c.leave.new.machine) c.args.connections.now c.leave.new.connections c.args.peers.now
    (Close c.in-Close.slot) c.args.tally.now c.args.tally.now (g.P.Ports.seen c.args.ports.now) (g.P.Ports.seen c.ready.new.self)
    (g.P.Ports.seen c.leave.new.ports)
    c.in-Close.ensures.told (c.leave.ensures.turned c.args.tally.now)

pub returns-then-fetch-clause-turned : goal.returns-then-fetch-clause-turned
returns-then-fetch-clause-turned g c = λ on.
    fetched (behind_doors g.M.Settling.plain g.M.Settling.through g.M.Settling.is_settled g.M.Settling.settled) (g.M.Settling.stands c.args.machine.now) (g.M.Settling.stands c.fetch.new.machine) c.args.connections.now c.args.peers.now c.fetch.new.peers
    (OfPeer c.in-Peer.peer c.in-Peer.now c.in-Peer.news) c.args.tally.now c.fetch.new.tally (g.P.Ports.seen c.args.ports.now) (g.P.Ports.seen c.ready.new.self)
    (g.P.Ports.seen c.fetch.new.ports)
    c.in-Peer.ensures.told
    (subst (λ t. FetchesOn (behind_doors g.M.Settling.plain g.M.Settling.through g.M.Settling.is_settled g.M.Settling.settled) (g.M.Settling.stands c.args.machine.now) (g.M.Settling.stands c.fetch.new.machine) c.args.peers.now c.fetch.new.peers
    (OfPeer c.in-Peer.peer c.in-Peer.now c.in-Peer.news) t c.fetch.new.tally (g.P.Ports.seen c.ready.new.self) (g.P.Ports.seen c.fetch.new.ports))
    c.tell_time.ensures (c.fetch.ensures.turned c.if-fetch.true))

pub returns-else-fetch-clause-unsettled : goal.returns-else-fetch-clause-unsettled
returns-else-fetch-clause-unsettled g c = λ is.
    let offer = OfPeer c.in-Peer.peer c.in-Peer.now c.in-Peer.news in
    let left = c.fetch.ensures.unsettled c.if-fetch.false in (
      left.0,
      (
        offer,
        (
          left.1,
          subst (λ p. Tells (g.P.Ports.seen c.args.ports.now) (g.P.Ports.seen p) (Offered offer ∷ [])) (sym left.2) c.in-Peer.ensures.told,
        ),
      ),
    )
