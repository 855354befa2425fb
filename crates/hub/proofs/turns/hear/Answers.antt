use Rattle.std.proofs.Common.{◌∙◌, length, take, sym, refl}
use Rattle.hub.specs.Settlings.{behind_doors}
use Rattle.hub.specs.declared.ports.Ready.TheVariants.{Read}
use Rattle.hub.proofs.Turning.{received, rested, shut_rests, no_read, all_stay}
use Rattle.hub.proofs.turns.hear.Goals as goal

pub returns-then-wants_read-clause-turned : goal.returns-then-wants_read-clause-turned
returns-then-wants_read-clause-turned g c =
    received (behind_doors g.M.Settling.plain g.M.Settling.through g.M.Settling.is_settled g.M.Settling.settled) (g.M.Settling.stands c.args.machine.now) (g.M.Settling.stands c.receive.new.machine) c.args.connections.now c.put_connection.new.connections
    c.args.slot (length c.args.buf.now) (take c.read-count.result c.read-count.new.buf)
    c.in-Some.connection c.receive.new.self c.args.tally.now c.receive.new.tally (g.P.Ports.seen c.args.ports.now) (g.P.Ports.seen c.read-count.new.self)
    (sym c.take_connection.ensures.was ∙ c.in-Some.is) c.put_connection.ensures.there (λ n other. c.put_connection.ensures.others n other ∙ c.take_connection.ensures.others n other)
    c.receive.ensures.door (c.wants_read.ensures.yes c.if-wants_read.true).1 c.requires.room c.receive.ensures.served c.receive.ensures.stopped c.read-count.ensures.told
    (c.put_connection.ensures.slots ∙ c.take_connection.ensures.slots)

pub returns-else-wants_read-clause-turned : goal.returns-else-wants_read-clause-turned
returns-else-wants_read-clause-turned g c =
    rested (behind_doors g.M.Settling.plain g.M.Settling.through g.M.Settling.is_settled g.M.Settling.settled) (g.M.Settling.stands c.args.machine.now) (g.M.Settling.stands c.args.machine.now) c.args.connections.now
    c.put_connection-else-wants_read.new.connections (Read c.args.slot) c.args.tally.now (g.P.Ports.seen c.args.ports.now) (g.P.Ports.seen c.args.ports.now)
    (λ s f. f) (all_stay c.args.slot c.args.connections.now c.put_connection-else-wants_read.new.connections (λ n other. c.put_connection-else-wants_read.ensures.others n other
    ∙ c.take_connection.ensures.others n other) ((sym c.take_connection.ensures.was ∙ c.in-Some.is) ∙ sym c.put_connection-else-wants_read.ensures.there))
    (c.put_connection-else-wants_read.ensures.slots ∙ c.take_connection.ensures.slots) refl
    (λ scope turns slots fits. shut_rests scope c.args.connections.now turns c.args.slot c.in-Some.connection fits (sym c.take_connection.ensures.was ∙ c.in-Some.is)
    (c.wants_read.ensures.no c.if-wants_read.false))

pub returns-in-None-clause-turned : goal.returns-in-None-clause-turned
returns-in-None-clause-turned g c =
    rested (behind_doors g.M.Settling.plain g.M.Settling.through g.M.Settling.is_settled g.M.Settling.settled) (g.M.Settling.stands c.args.machine.now) (g.M.Settling.stands c.args.machine.now) c.args.connections.now c.take_connection.new.connections
    (Read c.args.slot) c.args.tally.now (g.P.Ports.seen c.args.ports.now) (g.P.Ports.seen c.args.ports.now)
    (λ s f. f) (all_stay c.args.slot c.args.connections.now c.take_connection.new.connections c.take_connection.ensures.others
    ((sym c.take_connection.ensures.was ∙ c.in-None.is) ∙ sym c.take_connection.ensures.free)) c.take_connection.ensures.slots refl
    (λ scope turns slots fits. no_read scope c.args.connections.now turns c.args.slot fits (sym c.take_connection.ensures.was ∙ c.in-None.is))
