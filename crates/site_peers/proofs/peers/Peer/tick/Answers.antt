use Rattle.std.proofs.Common.{refl}
use Rattle.site_peers.specs.declared.deeds.Deed.TheVariants.{Stay, Call}
use Rattle.site_peers.specs.declared.moments.Moment.TheVariants.{Away, Calling, Idle}
use Rattle.site_peers.specs.Moves.{Time, at, MayAsk, Moves}
use Rattle.site_peers.proofs.Turning.{turned_alone, made_as, away_due, away_waits, call_given_up, greeting_given_up, introduction_put, answer_given_up, as_it_is, idle_due, idle_waits, items_delivered}
use Rattle.site_peers.proofs.peers.Peer.tick.Goals as goal

pub returns-then-passed-clause-turned : goal.returns-then-passed-clause-turned
returns-then-passed-clause-turned g c =
    turned_alone g.M.Settling.plain (g.M.Settling.stands c.args.machine.now) c.args.self.now Time c.args.now Call (at c.args.self.now (Calling c.args.now))
    (away_due c.args.self.now c.args.now Call (at c.args.self.now (Calling c.args.now)) _ _ c.passed.result c.in-Away.is c.passed.ensures c.if-passed.true refl
    refl)

pub returns-else-passed-clause-turned : goal.returns-else-passed-clause-turned
returns-else-passed-clause-turned g c =
    let p = c.args.self.now in
    let q = at p (Away c.in-Away.since c.in-Away.wait) in
    turned_alone g.M.Settling.plain (g.M.Settling.stands c.args.machine.now) p Time c.args.now Stay q
    (away_waits p c.args.now Stay q c.in-Away.since c.in-Away.wait c.passed.result c.in-Away.is c.passed.ensures c.if-passed.false refl
    (as_it_is p (Away c.in-Away.since c.in-Away.wait) c.in-Away.is))

pub returns-in-Calling-clause-turned : goal.returns-in-Calling-clause-turned
returns-in-Calling-clause-turned g c =
    turned_alone g.M.Settling.plain (g.M.Settling.stands c.args.machine.now) c.args.self.now Time c.args.now c.give_up.result c.give_up.new.self
    (call_given_up c.args.self.now c.args.now c.give_up.result c.give_up.new.self _ c.in-Calling.is c.give_up.ensures)

pub returns-then-passed-2-clause-turned : goal.returns-then-passed-2-clause-turned
returns-then-passed-2-clause-turned g c =
    let p = c.args.self.now in
    made_as g.M.Settling.plain (g.M.Settling.stands c.args.machine.now) (g.M.Settling.stands c.ask-then-passed-2.new.machine)
    (λ bodies replies. MayAsk (at p (Idle c.in-Idle.since c.in-Idle.wait)) c.args.now bodies replies c.ask-then-passed-2.result c.ask-then-passed-2.new.self)
    (λ bodies replies. Moves p c.args.now bodies replies c.ask-then-passed-2.result c.ask-then-passed-2.new.self Time) c.ask-then-passed-2.ensures.asked
    (λ bodies replies may. idle_due p c.args.now bodies replies c.ask-then-passed-2.result c.ask-then-passed-2.new.self c.in-Idle.since c.in-Idle.wait c.passed-in-Idle.result c.in-Idle.is
    c.passed-in-Idle.ensures c.if-passed-2.true may)

pub returns-else-passed-2-clause-turned : goal.returns-else-passed-2-clause-turned
returns-else-passed-2-clause-turned g c =
    let p = c.args.self.now in
    let q = at p (Idle c.in-Idle.since c.in-Idle.wait) in
    turned_alone g.M.Settling.plain (g.M.Settling.stands c.args.machine.now) p Time c.args.now Stay q
    (idle_waits p c.args.now Stay q c.in-Idle.since c.in-Idle.wait c.passed-in-Idle.result c.in-Idle.is c.passed-in-Idle.ensures c.if-passed-2.false refl
    (as_it_is p (Idle c.in-Idle.since c.in-Idle.wait) c.in-Idle.is))

pub returns-in-Asked-clause-turned : goal.returns-in-Asked-clause-turned
returns-in-Asked-clause-turned g c =
    turned_alone g.M.Settling.plain (g.M.Settling.stands c.args.machine.now) c.args.self.now Time c.args.now c.give_up-in-Asked.result c.give_up-in-Asked.new.self
    (answer_given_up c.args.self.now c.args.now c.give_up-in-Asked.result c.give_up-in-Asked.new.self _ _ c.in-Asked.is c.give_up-in-Asked.ensures)

pub returns-in-Delivering-clause-turned : goal.returns-in-Delivering-clause-turned
returns-in-Delivering-clause-turned g c =
    items_delivered g.M.Settling.plain (g.M.Settling.stands c.args.machine.now) (g.M.Settling.stands c.deliver_some-more.new.machine) c.args.self.now c.args.now
    c.finish.result c.finish.new.self _ c.deliver_some-more.new.self _ _ _ c.deliver_some-more.result.useful c.either.result _ c.deliver_some-more.result.refused
    c.saturating_add.result c.in-Delivering.is c.deliver_some-more.ensures.left c.deliver_some-more.ensures.delivered c.either.ensures c.saturating_add.ensures
    c.finish.ensures

pub returns-in-Greeting-clause-turned : goal.returns-in-Greeting-clause-turned
returns-in-Greeting-clause-turned g c =
    turned_alone g.M.Settling.plain (g.M.Settling.stands c.args.machine.now) c.args.self.now Time c.args.now c.give_up-in-Greeting.result
    c.give_up-in-Greeting.new.self
    (greeting_given_up c.args.self.now c.args.now c.give_up-in-Greeting.result c.give_up-in-Greeting.new.self _ _ c.in-Greeting.is
    c.give_up-in-Greeting.ensures)

pub returns-in-Greeted-clause-turned : goal.returns-in-Greeted-clause-turned
returns-in-Greeted-clause-turned g c =
    introduction_put g.M.Settling.plain (g.M.Settling.stands c.args.machine.now) (g.M.Settling.stands c.ask.new.machine) (g.M.Settling.stands c.go_on.new.machine)
    c.args.self.now c.args.now c.go_on.result c.go_on.new.self c.in-Greeted.answer c.meeting.result.now c.ask.new.reply c.in-Greeted.is c.meeting.ensures
    c.ask.ensures.answered c.go_on.ensures.asked
