use Rattle.std.proofs.Common.{refl}
use Rattle.hub.specs.Settlings.{behind_doors}
use Rattle.hub.specs.declared.ports.Ready.TheVariants.{Accept}
use Rattle.hub.proofs.Turning.{opened, missed, turned_away, rested, full_rests}
use Rattle.hub.proofs.turns.enter.Goals as goal

pub returns-in-Some-accept-clause-turned : goal.returns-in-Some-accept-clause-turned
returns-in-Some-accept-clause-turned g c =
    λ tally. opened (behind_doors g.M.Settling.plain g.M.Settling.through g.M.Settling.is_settled g.M.Settling.settled) (g.M.Settling.stands c.args.machine.now) (g.M.Settling.stands c.args.machine.now) c.args.connections.now c.put_connection.new.connections
    c.in-Some.slot c.in-Some-accept.door c.new-in-Some-accept.result tally (g.P.Ports.seen c.args.ports.now) (g.P.Ports.seen c.accept.new.self)
    (λ s f. f) c.in-Some.ensures.free.0 c.in-Some.ensures.free.1 c.put_connection.ensures.there c.new-in-Some-accept.ensures
    c.put_connection.ensures.others c.in-Some-accept.ensures.told c.put_connection.ensures.slots

pub returns-in-None-accept-clause-turned : goal.returns-in-None-accept-clause-turned
returns-in-None-accept-clause-turned g c =
    λ tally. missed (behind_doors g.M.Settling.plain g.M.Settling.through g.M.Settling.is_settled g.M.Settling.settled) (g.M.Settling.stands c.args.machine.now) (g.M.Settling.stands c.args.machine.now) c.args.connections.now c.args.connections.now
    c.in-Some.slot tally (g.P.Ports.seen c.args.ports.now) (g.P.Ports.seen c.accept.new.self)
    (λ s f. f) refl c.in-Some.ensures.free.0 c.in-Some.ensures.free.1 c.in-None-accept.ensures.told

pub returns-in-Err-clause-turned : goal.returns-in-Err-clause-turned
returns-in-Err-clause-turned g c =
    λ tally. turned_away (behind_doors g.M.Settling.plain g.M.Settling.through g.M.Settling.is_settled g.M.Settling.settled) (g.M.Settling.stands c.args.machine.now) (g.M.Settling.stands c.args.machine.now) c.args.connections.now
    c.args.connections.now c.in-Some.slot tally (g.P.Ports.seen c.args.ports.now) (g.P.Ports.seen c.decline.new.self)
    (λ s f. f) refl c.in-Some.ensures.free.0 c.in-Some.ensures.free.1 c.decline.ensures.told

pub returns-in-None-clause-turned : goal.returns-in-None-clause-turned
returns-in-None-clause-turned g c =
    λ tally. rested (behind_doors g.M.Settling.plain g.M.Settling.through g.M.Settling.is_settled g.M.Settling.settled) (g.M.Settling.stands c.args.machine.now) (g.M.Settling.stands c.args.machine.now) c.args.connections.now c.args.connections.now
    Accept tally (g.P.Ports.seen c.args.ports.now) (g.P.Ports.seen c.args.ports.now)
    (λ s f. f) (λ n. refl) refl refl (λ scope turns slots fits. full_rests scope c.args.connections.now turns slots fits c.in-None.ensures.full)
