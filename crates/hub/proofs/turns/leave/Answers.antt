use Rattle.std.proofs.Common.{◌∙◌, sym, refl}
use Rattle.hub.specs.Settlings.{behind_doors}
use Rattle.hub.specs.declared.ports.Ready.TheVariants.{Close}
use Rattle.hub.proofs.Turning.{ended, rested, no_close, all_stay}
use Rattle.hub.proofs.turns.leave.Goals as goal

pub returns-in-Some-clause-turned : goal.returns-in-Some-clause-turned
returns-in-Some-clause-turned g c =
    λ tally. ended (behind_doors g.M.Settling.plain g.M.Settling.through g.M.Settling.is_settled g.M.Settling.settled) (g.M.Settling.stands c.args.machine.now) (g.M.Settling.stands c.close_session.new.machine) c.args.connections.now
    c.take_connection.new.connections c.args.slot c.in-Some._connection tally (g.P.Ports.seen c.args.ports.now) (g.P.Ports.seen c.close.new.self)
    c.close_session.ensures.stepped (sym c.take_connection.ensures.was ∙ c.in-Some.is) c.take_connection.ensures.free c.take_connection.ensures.others c.close.ensures.told
    c.take_connection.ensures.slots

pub returns-in-None-clause-turned : goal.returns-in-None-clause-turned
returns-in-None-clause-turned g c =
    λ tally. rested (behind_doors g.M.Settling.plain g.M.Settling.through g.M.Settling.is_settled g.M.Settling.settled) (g.M.Settling.stands c.args.machine.now) (g.M.Settling.stands c.args.machine.now) c.args.connections.now
    c.take_connection.new.connections (Close c.args.slot) tally (g.P.Ports.seen c.args.ports.now) (g.P.Ports.seen c.args.ports.now)
    (λ s f. f) (all_stay c.args.slot c.args.connections.now c.take_connection.new.connections c.take_connection.ensures.others
    ((sym c.take_connection.ensures.was ∙ c.in-None.is) ∙ sym c.take_connection.ensures.free)) c.take_connection.ensures.slots refl
    (λ scope turns slots fits. no_close scope c.args.connections.now turns c.args.slot fits (sym c.take_connection.ensures.was ∙ c.in-None.is))
