use Rattle.std.proofs.Common.{refl, sym, ◌∙◌}
use Rattle.site_peers.specs.declared.deeds.Deed.TheVariants.{Stay}
use Rattle.site_peers.specs.Moves.{Through}
use Rattle.site_peers.proofs.Turning.{turned_alone, through_greets, through_rests}
use Rattle.site_peers.proofs.peers.Peer.connected.Goals as goal

pub returns-then-is_calling-clause-turned : goal.returns-then-is_calling-clause-turned
returns-then-is_calling-clause-turned g c =
    turned_alone g.M.Settling.plain (g.M.Settling.stands c.args.machine.now) c.args.self.now Through c.args.now c.greet.result c.greet.new.self
    (through_greets c.args.self.now c.args.now c.greet.result c.greet.new.self c.args.self.now.moment refl (sym c.is_calling.ensures ∙ c.if-is_calling.true)
    c.greet.ensures)

pub returns-else-is_calling-clause-turned : goal.returns-else-is_calling-clause-turned
returns-else-is_calling-clause-turned g c =
    turned_alone g.M.Settling.plain (g.M.Settling.stands c.args.machine.now) c.args.self.now Through c.args.now Stay c.args.self.now
    (through_rests c.args.self.now c.args.now Stay c.args.self.now c.args.self.now.moment refl (sym c.is_calling.ensures ∙ c.if-is_calling.false) refl refl)
