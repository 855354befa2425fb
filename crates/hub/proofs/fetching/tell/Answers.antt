use Rattle.std.proofs.Common.{[], ◌∷◌, length, take, refl, subst}
use Rattle.hub.specs.Settlings.{behind_doors}
use Rattle.hub.specs.Telling.{Tells}
use Rattle.site_peers.specs.Moves.{waiting}
use Rattle.hub.specs.declared.ports.PeerNews.TheVariants.{Write as MayWrite}
use Rattle.hub.specs.declared.ports.Seen.TheVariants.{WroteToPeer}
use Rattle.hub.specs.Peers.{carried_out}
use Rattle.hub.proofs.Goings.{rested_peer, wrote}
use Rattle.hub.proofs.Tellings.{tells_then}
use Rattle.hub.proofs.fetching.tell.Goals as goal

pub returns-else-has_to_write-clause-turned : goal.returns-else-has_to_write-clause-turned
returns-else-has_to_write-clause-turned g c = λ on tally.
    rested_peer (behind_doors g.M.Settling.plain g.M.Settling.through g.M.Settling.is_settled g.M.Settling.settled) (g.M.Settling.stands c.args.machine.now) c.args.peer c.args.at.now c.args.at.now c.args.now MayWrite tally (g.P.Ports.seen c.args.ports.now)
    (g.P.Ports.seen c.args.ports.now) refl refl (c.has_to_write.ensures.no c.if-has_to_write.false)

pub returns-in-Ok-clause-turned : goal.returns-in-Ok-clause-turned
returns-in-Ok-clause-turned g c = λ on tally.
    let bytes = waiting c.args.at.now.moment in
    wrote (behind_doors g.M.Settling.plain g.M.Settling.through g.M.Settling.is_settled g.M.Settling.settled) (g.M.Settling.stands c.args.machine.now) (g.M.Settling.stands c.settle_owed.new.machine) c.args.peer (length bytes) c.args.at.now
    c.sent-deed.new.self (take c.write_peer-count.result bytes) c.args.now c.sent-deed.result tally (g.P.Ports.seen c.args.ports.now)
    (g.P.Ports.seen c.carry_out.new.ports) c.in-Ok.ensures.settled (c.has_to_write.ensures.yes c.if-has_to_write.true, refl) c.sent-deed.ensures
    (tells_then (g.P.Ports.seen c.args.ports.now) (g.P.Ports.seen c.write_peer-count.new.self) (g.P.Ports.seen c.carry_out.new.ports)
    (WroteToPeer c.args.peer (length bytes) (take c.write_peer-count.result bytes) ∷ []) (carried_out c.args.peer c.sent-deed.result)
    (subst (λ b. Tells (g.P.Ports.seen c.args.ports.now) (g.P.Ports.seen c.write_peer-count.new.self)
    (WroteToPeer c.args.peer (length b) (take c.write_peer-count.result b) ∷ [])) c.to_write.ensures c.write_peer-count.ensures.told) c.carry_out.ensures)
