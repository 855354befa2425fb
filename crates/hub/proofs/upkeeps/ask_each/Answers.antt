use Rattle.std.proofs.Common.{◌∙◌, [], map, take, get_or, refl, subst, sym}
use Rattle.hub.specs.Upkeeps.{rule_of}
use Rattle.hub.specs.Answering.{Asked}
use Rattle.hub.proofs.Serving.{asked_none, asked_more, one_more, all_of}
use Rattle.hub.proofs.upkeeps.ask_each.Goals as goal

pub loop-request-init : goal.loop-request-init
loop-request-init g c = record {
  asked = λ s f. asked_none g.M.Settling.plain (g.M.Settling.stands c.args.machine.now) (rule_of c.args.upkeep) c.none-last.result
      (g.P.Ports.seen c.args.ports.now) s c.none-last.ensures f;
  opening = refl;
}

pub loop-request-preserved : goal.loop-request-preserved
loop-request-preserved g c =
    let requests = c.args.requests.now in
    let place = c.loop-request.request-index in
    record {
      asked = λ s f. subst (λ bodies. Asked g.M.Settling.plain (g.M.Settling.stands c.ask-last.new.machine) bodies (rule_of c.args.upkeep) c.ask-last.result
          (g.P.Ports.seen c.args.ports.now) (g.P.Ports.seen c.ask-last.new.ports) s)
          (sym (one_more requests place record { ref_ptr = (0, 0); now = [] } c.loop-request-test.true))
          (asked_more g.M.Settling.plain (g.M.Settling.stands c.loop-request.machine) (g.M.Settling.stands c.ask-last.new.machine)
          (take place (map (λ r. r.now) requests)) (get_or requests place record { ref_ptr = (0, 0); now = [] }).now (rule_of c.args.upkeep)
          c.loop-request.last c.ask-last.result
          (g.P.Ports.seen c.args.ports.now) (g.P.Ports.seen c.loop-request.ports) (g.P.Ports.seen c.ask-last.new.ports) s
          (c.loop-request.invariant.asked s f) c.ask-last.ensures.asked);
      opening = c.ask-last.ensures.opening ∙ c.loop-request.invariant.opening;
    }

pub returns-clause-asked : goal.returns-clause-asked
returns-clause-asked g c =
    λ s f. subst (λ bodies. Asked g.M.Settling.plain (g.M.Settling.stands c.loop-request.machine) bodies (rule_of c.args.upkeep) c.loop-request.last
    (g.P.Ports.seen c.args.ports.now) (g.P.Ports.seen c.loop-request.ports) s)
    (all_of c.args.requests.now c.loop-request.request-index c.loop-request-test.false) (c.loop-request.invariant.asked s f)

pub returns-clause-opening : goal.returns-clause-opening
returns-clause-opening g c = c.loop-request.invariant.opening
