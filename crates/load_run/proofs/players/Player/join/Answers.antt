use Rattle.std.proofs.Common.{[], sym, subst}
use Rattle.tardis_base.specs.declared.requests.Request.TheVariants.{Conflicts, Commit}
use Rattle.load_run.specs.Plays.{asks_then}
use Rattle.load_run.specs.Scripts.{aborts, merges, settles}
use Rattle.load_run.specs.Held.{Does}
use Rattle.load_run.proofs.Playing.{then_does}
use Rattle.load_run.proofs.players.Player.join.Goals as goal

pub returns-in_ok-settle_conflicts-in-Merging-clause-does : goal.returns-in_ok-settle_conflicts-in-Merging-clause-does
returns-in_ok-settle_conflicts-in-Merging-clause-does g c =
    subst (λ reply. Does g.A.AnySite.stands c.args.self.now c.commit_merge.new.self c.commit_merge.result (merges c.args.i reply)) (sym c.in-Merging.is)
    (then_does g.A.AnySite.stands c.args.self.now c.settle_conflicts.new.self c.commit_merge.new.self c.commit_merge.result
    (asks_then 9 (Conflicts []) (settles c.args.i)) (asks_then 9 (Commit (record { 0 = 0 }) 0) aborts)
    c.in_ok-settle_conflicts-in-Merging.ensures.does c.commit_merge.ensures.does)
