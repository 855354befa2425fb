use Rattle.std.proofs.Common.{◌∙◌, [], ap, refl}
use Rattle.site_peers.specs.Asking.{verdict}
use Rattle.site_peers.specs.Moves.{GoesBy, MayAsk}
use Rattle.site_peers.proofs.Turning.{made_as, met_goes_on, not_met_fails}
use Rattle.site_peers.proofs.peers.Peer.go_on.Goals as goal

pub returns-then-why-eq-MET-clause-asked : goal.returns-then-why-eq-MET-clause-asked
returns-then-why-eq-MET-clause-asked g c =
    let p = c.args.self.now in
    made_as g.M.Settling.plain (g.M.Settling.stands c.args.machine.now) (g.M.Settling.stands c.ask.new.machine)
    (λ bodies replies. MayAsk p c.args.now bodies replies c.ask.result c.ask.new.self)
    (λ bodies replies. GoesBy p c.args.now bodies replies c.ask.result c.ask.new.self (verdict c.args.reply.now)) c.ask.ensures.asked
    (λ bodies replies may. met_goes_on p c.args.now bodies replies c.ask.result c.ask.new.self c.verdict-why.result (verdict c.args.reply.now)
    (c.verdict-why.ensures ∙ ap verdict c.bytes.ensures.same) c.if-why-eq-MET.true may)

pub returns-else-why-eq-MET-clause-asked : goal.returns-else-why-eq-MET-clause-asked
returns-else-why-eq-MET-clause-asked g c = record {
  bodies = [];
  replies = [];
  answered = λ s f. record { state = s; answers = refl; stands = f };
  does = not_met_fails c.args.self.now c.args.now c.fail.result c.fail.new.self c.verdict-why.result (verdict c.args.reply.now)
      (c.verdict-why.ensures ∙ ap verdict c.bytes.ensures.same) c.if-why-eq-MET.false c.fail.ensures;
}
