use Rattle.std.proofs.Common.{◌∙◌, ◌∷◌, [], sym, subst}
use Rattle.site_peers.specs.Asking.{items_of}
use Rattle.site_peers.specs.Turns.{AnswersFrom}
use Rattle.site_peers.proofs.Delivering.{next_of, within}
use Rattle.site_peers.proofs.deliveries.Delivery.deliver_one.Goals as goal

pub returns-clause-delivered : goal.returns-clause-delivered
returns-clause-delivered g c =
    let all = items_of c.self.inside.batch in
    let place = c.self.inside.place in
    let next = next_of all place (within all c.args.self.now place (sym c.self.view_is) c.requires.some) in (
      next.item,
      (
        sym c.self.view_is ∙ next.rest,
        subst
            (λ body. AnswersFrom g.M.Settling.plain (g.M.Settling.stands c.args.machine.now) (g.M.Settling.stands c.ask.new.machine) (body ∷ []) (c.ask.new.reply ∷ []))
            (c.bytes.ensures.same ∙ c.put_delivery.ensures next.item next.there) c.ask.ensures.answered,
      ),
    )
