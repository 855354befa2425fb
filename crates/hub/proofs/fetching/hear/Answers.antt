use Rattle.std.proofs.Common.{refl, take, length, sym, ◌∙◌}
use Rattle.hub.specs.Settlings.{behind_doors}
use Rattle.site_peers.specs.Moves.{Came}
use Rattle.hub.specs.declared.ports.PeerNews.TheVariants.{Read as MayRead}
use Rattle.hub.specs.declared.ports.Seen.TheVariants.{ReadFromPeer}
use Rattle.hub.specs.Peers.{carried_out}
use Rattle.std.proofs.Common.{[], ◌∷◌}
use Rattle.hub.proofs.Goings.{moved_on, rested_peer}
use Rattle.hub.proofs.Tellings.{tells_then}
use Rattle.hub.proofs.fetching.hear.Goals as goal

pub returns-then-wants_read-clause-turned : goal.returns-then-wants_read-clause-turned
returns-then-wants_read-clause-turned g c = λ tally.
    let bytes = take c.read_peer-count.result c.read_peer-count.new.buf in
    moved_on (behind_doors g.M.Settling.plain g.M.Settling.through g.M.Settling.is_settled g.M.Settling.settled) (g.M.Settling.stands c.args.machine.now) c.args.peer (length c.args.buf.now) c.args.at.now c.receive-deed.new.self (Came bytes) c.args.now
    c.receive-deed.result tally (g.P.Ports.seen c.args.ports.now) (g.P.Ports.seen c.carry_out.new.ports) (λ u. tt)
    (sym c.wants_read.ensures ∙ c.if-wants_read.true, c.requires.room) c.receive-deed.ensures
    (tells_then (g.P.Ports.seen c.args.ports.now) (g.P.Ports.seen c.read_peer-count.new.self) (g.P.Ports.seen c.carry_out.new.ports)
    (ReadFromPeer c.args.peer (length c.args.buf.now) bytes ∷ []) (carried_out c.args.peer c.receive-deed.result) c.read_peer-count.ensures.told c.carry_out.ensures)

pub returns-else-wants_read-clause-turned : goal.returns-else-wants_read-clause-turned
returns-else-wants_read-clause-turned g c = λ tally.
    rested_peer (behind_doors g.M.Settling.plain g.M.Settling.through g.M.Settling.is_settled g.M.Settling.settled) (g.M.Settling.stands c.args.machine.now) c.args.peer c.args.at.now c.args.at.now c.args.now MayRead tally (g.P.Ports.seen c.args.ports.now)
    (g.P.Ports.seen c.args.ports.now) refl refl (sym c.wants_read.ensures ∙ c.if-wants_read.false)
