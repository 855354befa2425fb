use Rattle.std.proofs.Common.{map}
use Rattle.hub.specs.Upkeeps.{rule_of, late_of}
use Rattle.hub.proofs.Serving.{asked_none_late, asked_late}
use Rattle.hub.proofs.upkeeps.keep_up.Goals as goal

pub returns-in-None-clause-asked : goal.returns-in-None-clause-asked
returns-in-None-clause-asked g c = λ s f. asked_none_late g.M.Settling.plain (g.M.Settling.stands c.ask_each.new.machine) (map (λ r. r.now) c.args.upkeep.requests.now)
    (late_of (rule_of c.args.upkeep) c.args.waited) (rule_of c.args.upkeep) c.ask_each.result (g.P.Ports.seen c.args.ports.now) (g.P.Ports.seen c.ask_each.new.ports) s
    c.in-None.ensures (c.ask_each.ensures.asked s f)

pub returns-in-Some-clause-asked : goal.returns-in-Some-clause-asked
returns-in-Some-clause-asked g c = λ s f. asked_late g.M.Settling.plain (g.M.Settling.stands c.ask_each-in-Some.new.machine) (g.M.Settling.stands c.ask.new.machine)
    c.args.upkeep.requests.now c.saturating_sub-before.result c.in-Some.request.now
    (late_of (rule_of c.args.upkeep) c.args.waited) (rule_of c.args.upkeep) c.ask_each-in-Some.result c.ask.result (g.P.Ports.seen c.args.ports.now)
    (g.P.Ports.seen c.ask_each-in-Some.new.ports) (g.P.Ports.seen c.ask.new.ports) s
    c.saturating_sub-before.ensures c.in-Some.ensures (c.ask_each-in-Some.ensures.asked s f) c.ask.ensures.asked
