use Rattle.std.proofs.Common.{refl, sym, subst, ◌∙◌, arith, rules}
use Rattle.std.specs.Option.{option_map}
use Rattle.hub.specs.declared.serves.End.TheVariants.{Stopped}
use Rattle.hub.specs.Settlings.{behind_doors}
use Rattle.hub.specs.Runs.{IsRun}
use Rattle.hub.specs.Answering.{Asked}
use Rattle.hub.specs.Upkeeps.{asked, due_by, rule_of}
use Rattle.hub.proofs.Leading.{led_start, led_more, led_kept, run_stopped, run_unsettled, run_spent}
use Rattle.hub.proofs.serves.serve_connections.Goals as goal

pub loop-turns-init : goal.loop-turns-init
loop-turns-init g c = record {
  led = λ s stands. led_start (behind_doors g.M.Settling.plain g.M.Settling.through g.M.Settling.is_settled g.M.Settling.settled) (option_map rule_of c.args.upkeep) c.args.scope (g.M.Settling.stands c.args.machine.now) s c.args.connections.now c.args.peers.now
      c.new-tally.result (g.P.Ports.seen c.args.ports.now) stands c.requires.free c.requires.slots c.requires.peers c.requires.fresh c.new-tally.ensures;
  slots = c.requires.slots;
  room = c.requires.room;
  opening = refl;
}

pub loop-turns-preserved-in-Some : goal.loop-turns-preserved-in-Some
loop-turns-preserved-in-Some g c = record {
  led = λ s stands. led_kept (behind_doors g.M.Settling.plain g.M.Settling.through g.M.Settling.is_settled g.M.Settling.settled) (option_map rule_of c.args.upkeep) c.args.scope (g.M.Settling.stands c.loop-turns.machine)
      (g.M.Settling.stands c.keep_up-last.new.machine) s c.loop-turns.connections c.loop-turns.peers c.loop-turns.tally c.pay.new.self
      (g.P.Ports.seen c.args.ports.now) (g.P.Ports.seen c.loop-turns.ports) (g.P.Ports.seen c.keep_up-last.new.ports) c.loop-turns.turns (rule_of c.in-Some.upkeep) c.keep_up-last.result
      (c.loop-turns.invariant.led s stands) (sym c.in-Some.ensures.due) c.pay.ensures
      (subst (λ n. (u : g.M.Settling.Plain) → g.M.Settling.stands c.loop-turns.machine u → Asked g.M.Settling.plain (g.M.Settling.stands c.keep_up-last.new.machine)
      (asked (rule_of c.in-Some.upkeep) n) (rule_of c.in-Some.upkeep) c.keep_up-last.result (g.P.Ports.seen c.loop-turns.ports) (g.P.Ports.seen c.keep_up-last.new.ports) u)
      c.waited.ensures c.keep_up-last.ensures.asked);
  slots = c.loop-turns.invariant.slots;
  room = c.loop-turns.invariant.room;
  opening = c.keep_up-last.ensures.opening ∙ c.loop-turns.invariant.opening;
}

pub loop-turns-preserved : goal.loop-turns-preserved
loop-turns-preserved g c = record {
  led = λ s stands. led_more (behind_doors g.M.Settling.plain g.M.Settling.through g.M.Settling.is_settled g.M.Settling.settled) (option_map rule_of c.args.upkeep) c.args.scope (g.M.Settling.stands c.loop-turns.machine)
      (g.M.Settling.stands c.turn.new.machine) s c.loop-turns.connections c.turn.new.connections c.loop-turns.peers c.turn.new.peers c.loop-turns.tally c.turn.new.tally c.pass.new.self
      (g.P.Ports.seen c.args.ports.now) (g.P.Ports.seen c.loop-turns.ports) (g.P.Ports.seen c.turn.new.ports) c.loop-turns.turns
      (c.loop-turns.invariant.led s stands) (sym c.in-None.ensures.due) (c.turn.ensures.turned (search rules)) c.pass.ensures;
  slots = c.turn.ensures.slots ∙ c.loop-turns.invariant.slots;
  room = c.turn.ensures.room ∙ c.loop-turns.invariant.room;
  opening = c.turn.ensures.opening ∙ c.loop-turns.invariant.opening;
}

pub returns-in-Stopped-clause-served : goal.returns-in-Stopped-clause-served
returns-in-Stopped-clause-served g c = λ s stands.
    let stopped = c.turn.ensures.stopped (search rules) in
    subst (λ m. IsRun (behind_doors g.M.Settling.plain g.M.Settling.through g.M.Settling.is_settled g.M.Settling.settled) (option_map rule_of c.args.upkeep) c.args.scope (g.M.Settling.stands m) s Stopped (g.P.Ports.seen c.args.ports.now)
    (g.P.Ports.seen c.turn.new.ports))
    (sym stopped.0)
    (run_stopped (behind_doors g.M.Settling.plain g.M.Settling.through g.M.Settling.is_settled g.M.Settling.settled) (option_map rule_of c.args.upkeep) c.args.scope (g.M.Settling.stands c.loop-turns.machine) s c.loop-turns.connections c.loop-turns.peers
    c.loop-turns.tally
    (g.P.Ports.seen c.args.ports.now) (g.P.Ports.seen c.loop-turns.ports) (g.P.Ports.seen c.turn.new.ports) c.loop-turns.turns
    (c.loop-turns.invariant.led s stands)
    (sym {b = due_by c.loop-turns.tally} c.in-None.ensures.due) (search rules))

pub returns-in-Unsettled-clause-served : goal.returns-in-Unsettled-clause-served
returns-in-Unsettled-clause-served g c = λ s stands.
    run_unsettled (behind_doors g.M.Settling.plain g.M.Settling.through g.M.Settling.is_settled g.M.Settling.settled) (option_map rule_of c.args.upkeep) c.args.scope (g.M.Settling.stands c.loop-turns.machine)
    (g.M.Settling.stands c.turn.new.machine) s c.loop-turns.connections c.loop-turns.peers c.loop-turns.tally (g.P.Ports.seen c.args.ports.now) (g.P.Ports.seen c.loop-turns.ports)
    (g.P.Ports.seen c.turn.new.ports) c.loop-turns.turns (c.loop-turns.invariant.led s stands)
    (sym {b = due_by c.loop-turns.tally} c.in-None.ensures.due) (c.turn.ensures.unsettled (search rules))

pub returns-clause-served : goal.returns-clause-served
returns-clause-served g c = λ s stands.
    run_spent (behind_doors g.M.Settling.plain g.M.Settling.through g.M.Settling.is_settled g.M.Settling.settled) (option_map rule_of c.args.upkeep) c.args.scope (g.M.Settling.stands c.loop-turns.machine) s c.loop-turns.connections c.loop-turns.peers c.loop-turns.tally
    (g.P.Ports.seen c.args.ports.now) (g.P.Ports.seen c.loop-turns.ports) c.loop-turns.turns (c.loop-turns.invariant.led s stands) (omega arith)
