use Rattle.std.proofs.Common.{◌∙◌, [], ◌∷◌, length, take, sym, refl, subst}
use Rattle.hub.specs.Telling.{Tells}
use Rattle.hub.specs.Keeping.{Waits}
use Rattle.hub.specs.Settlings.{behind_doors}
use Rattle.hub.specs.declared.ports.Ready.TheVariants.{Write}
use Rattle.hub.specs.declared.ports.Seen.TheVariants.{WroteTo}
use Rattle.hub.proofs.Turning.{sent, rested, empty_rests, no_write, all_stay}
use Rattle.hub.proofs.turns.tell.Goals as goal

pub returns-in-Ok-clause-turned : goal.returns-in-Ok-clause-turned
returns-in-Ok-clause-turned g c = λ on.
    sent (behind_doors g.M.Settling.plain g.M.Settling.through g.M.Settling.is_settled g.M.Settling.settled) (g.M.Settling.stands c.args.machine.now)
    (g.M.Settling.stands c.settle_owed.new.machine) (g.M.Settling.stands c.sent.new.machine) c.args.connections.now c.put_connection.new.connections
    c.args.slot (length c.in-Some.connection.waiting) c.write-count.result
    c.in-Some.connection c.sent.new.self c.args.tally.now c.sent.new.tally (g.P.Ports.seen c.args.ports.now) (g.P.Ports.seen c.write-count.new.self)
    c.in-Ok.ensures.settled
    (sym c.take_connection.ensures.was ∙ c.in-Some.is) c.put_connection.ensures.there (λ n other. c.put_connection.ensures.others n other ∙ c.take_connection.ensures.others n other)
    c.sent.ensures.door refl c.sent.ensures.served c.sent.ensures.stopped
    (subst (λ b. Tells (g.P.Ports.seen c.args.ports.now) (g.P.Ports.seen c.write-count.new.self)
    (WroteTo c.args.slot (length b) (take c.write-count.result b) ∷ [])) c.to_write.ensures c.write-count.ensures.told)
    (c.put_connection.ensures.slots ∙ c.take_connection.ensures.slots)

pub returns-in-Err-clause-unsettled : goal.returns-in-Err-clause-unsettled
returns-in-Err-clause-unsettled g c = λ is. (
  c.in-Err.ensures.same,
  subst (λ o. Waits o) (sym (sym c.take_connection.ensures.was ∙ c.in-Some.is)) (c.has_to_write.ensures.yes c.if-has_to_write.true),
  refl,
)

pub returns-else-has_to_write-clause-turned : goal.returns-else-has_to_write-clause-turned
returns-else-has_to_write-clause-turned g c = λ on.
    rested (behind_doors g.M.Settling.plain g.M.Settling.through g.M.Settling.is_settled g.M.Settling.settled) (g.M.Settling.stands c.args.machine.now) (g.M.Settling.stands c.args.machine.now) c.args.connections.now
    c.put_connection-else-has_to_write.new.connections (Write c.args.slot) c.args.tally.now (g.P.Ports.seen c.args.ports.now) (g.P.Ports.seen c.args.ports.now)
    (λ s f. f) (all_stay c.args.slot c.args.connections.now c.put_connection-else-has_to_write.new.connections
    (λ n other. c.put_connection-else-has_to_write.ensures.others n other ∙ c.take_connection.ensures.others n other)
    ((sym c.take_connection.ensures.was ∙ c.in-Some.is) ∙ sym c.put_connection-else-has_to_write.ensures.there))
    (c.put_connection-else-has_to_write.ensures.slots ∙ c.take_connection.ensures.slots) refl
    (λ scope turns slots fits. empty_rests scope c.args.connections.now turns c.args.slot c.in-Some.connection fits (sym c.take_connection.ensures.was ∙ c.in-Some.is)
    (c.has_to_write.ensures.no c.if-has_to_write.false))

pub returns-in-None-clause-turned : goal.returns-in-None-clause-turned
returns-in-None-clause-turned g c = λ on.
    rested (behind_doors g.M.Settling.plain g.M.Settling.through g.M.Settling.is_settled g.M.Settling.settled) (g.M.Settling.stands c.args.machine.now) (g.M.Settling.stands c.args.machine.now) c.args.connections.now c.take_connection.new.connections
    (Write c.args.slot) c.args.tally.now (g.P.Ports.seen c.args.ports.now) (g.P.Ports.seen c.args.ports.now)
    (λ s f. f) (all_stay c.args.slot c.args.connections.now c.take_connection.new.connections c.take_connection.ensures.others
    ((sym c.take_connection.ensures.was ∙ c.in-None.is) ∙ sym c.take_connection.ensures.free)) c.take_connection.ensures.slots refl
    (λ scope turns slots fits. no_write scope c.args.connections.now turns c.args.slot fits (sym c.take_connection.ensures.was ∙ c.in-None.is))
