use Rattle.std.proofs.Common.{List, ℕ, take, decimal, sym, subst, arith}
use Rattle.std.proofs.lemmas.List.{take_all}
use Rattle.tardis_base.specs.declared.requests.Request.TheVariants.{Put}
use Rattle.load_run.specs.Plays.{Act, asks, each_of}
use Rattle.load_run.specs.Held.{Plays}
use Rattle.load_run.proofs.Playing.{one_further}
use Rattle.load_run.proofs.players.Player.put_each.Goals as goal

pub loop-key-preserved : goal.loop-key-preserved
loop-key-preserved g c =
    let writes : List ℕ → Act = λ k. asks 9 (Put k (decimal c.args.number)) in
    record {
      does = λ play h.
          let mid = each_of (take c.loop-key.key-index c.args.keys.now) writes play in
          subst (λ p. Plays g.A.AnySite.stands c.put.new.self p)
          (sym (one_further c.args.keys.now c.loop-key.key-index c.key-item.result writes play c.loop-key-test.true c.key-item.is))
          (subst (λ k. Plays g.A.AnySite.stands c.put.new.self (writes k mid)) c.in_ok-key.ensures.key (c.in_ok-put.ensures.does mid (c.loop-key.invariant.does play h)));
      room = omega (arith, c.in_ok-put.ensures.room, c.loop-key.invariant.room);
    }

pub returns-clause-does : goal.returns-clause-does
returns-clause-does g c = λ play h.
    subst (λ ks. Plays g.A.AnySite.stands c.loop-key.self (each_of ks (λ k. asks 9 (Put k (decimal c.args.number))) play))
    (take_all c.loop-key.key-index c.args.keys.now c.loop-key-test.false)
    (c.loop-key.invariant.does play h)
