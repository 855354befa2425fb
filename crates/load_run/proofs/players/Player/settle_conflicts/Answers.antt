use Rattle.std.proofs.Common.{◌≡◌, [], subst}
use Rattle.tardis_base.specs.declared.requests.Request.TheVariants.{Conflicts}
use Rattle.load_run.specs.Plays.{Play, asks, reply_to}
use Rattle.load_run.specs.Scripts.{settles}
use Rattle.load_run.specs.Held.{Plays}
use Rattle.load_run.proofs.Playing.{then_told}
use Rattle.load_run.proofs.players.Player.settle_conflicts.Goals as goal

pub returns-clause-does : goal.returns-clause-does
returns-clause-does g c =
    let listed = c.in_ok-listed.listed in
    then_told g.A.AnySite.stands c.args.self.now c.ask.new.self c.settle-settled.new.self c.settle-settled.result 9 (Conflicts []) listed (settles c.args.i)
    (subst (λ after. (play : Play) → Plays g.A.AnySite.stands c.args.self.now play → Plays g.A.AnySite.stands c.ask.new.self (asks 9 (Conflicts after) play)
    × (listed ≡ reply_to 9 (Conflicts after) play))
    c.new-after.ensures c.in_ok-listed.ensures.asked)
    c.settle-settled.ensures.does
