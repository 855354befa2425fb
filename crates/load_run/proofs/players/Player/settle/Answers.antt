use Rattle.std.proofs.Common.{decimal, sym, subst}
use Rattle.tardis_base.specs.declared.requests.Request.TheVariants.{Put}
use Rattle.load_run.specs.Plays.{asks, each_of}
use Rattle.load_run.specs.Scripts.{settles}
use Rattle.load_run.specs.Held.{Does}
use Rattle.load_run.proofs.players.Player.settle.Goals as goal

pub returns-in-Keys-clause-does : goal.returns-in-Keys-clause-does
returns-in-Keys-clause-does g c =
    subst (λ reply. Does g.A.AnySite.stands c.args.self.now c.put_each.new.self c.put_each.result (settles c.args.i reply)) (sym c.in-Keys.is)
    (subst (λ ks. Does g.A.AnySite.stands c.args.self.now c.put_each.new.self c.put_each.result (each_of ks (λ k. asks 9 (Put k (decimal c.args.i))))) c.as_slice.ensures
    c.put_each.ensures.does)
