use Rattle.tardis_io.specs.declared.statuses.Status.TheVariants.{NoMemory}
use Rattle.plain_site.specs.Site.{opening}
use Rattle.site_commands.proofs.NoMemory.{no_lines}
use Rattle.site_commands.proofs.FrameRuns.{opens}
use Rattle.auto_run.specs.Outcomes.{AutoFrom}
use Rattle.auto_run.proofs.AutoRuns.{opened_from, no_auto}
use Rattle.auto_run.proofs.commands.auto.Goals as goal

pub new-site-requires : goal.new-site-requires
new-site-requires g c = record { site = opening c.args.limits c.args.own; there = c.in-Ok.ensures.stands }

pub returns-in-Ok-clause-ends : goal.returns-in-Ok-clause-ends
returns-in-Ok-clause-ends g c =
    let after = c.run_auto.new.site.core in
    record {
      outcome = opened_from g.A.AnySite.stands c.in-Ok.core (opening c.args.limits c.args.own) c.args.rules c.new-site.result c.new-site.ensures
          c.in-Ok.ensures.stands (g.A.AnySite.stands after) (g.met.A.AnySite.sound after) c.run_auto.result (g.O.Sink.given c.args.output.now)
          (g.O.Sink.given c.run_auto.new.output) (g.I.Source.left c.args.input.now) (g.I.Source.left c.run_auto.new.input) c.run_auto.ensures.outcome;
      exact = c.run_auto.ensures.exact;
      end = c.run_auto.ensures.status;
      nothing = λ none. let all = c.run_auto.ensures.nothing none in (all.0, all.1);
    }

pub returns-in-Err-clause-ends : goal.returns-in-Err-clause-ends
returns-in-Err-clause-ends g c =
    let site = opening c.args.limits c.args.own in
    let old = g.O.Sink.given c.args.output.now in
    no_lines g.I.Source.left g.I.Source.faults g.O.Sink.faults c.args.input.now c.args.output.now (AutoFrom site c.args.rules NoMemory old old)
    (λ x. no_auto site c.args.rules old x (opens c.args.limits c.args.own c.requires.limits c.requires.first c.requires.last))
