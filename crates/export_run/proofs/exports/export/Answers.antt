use Rattle.std.proofs.Common.{◌≡◌}
use Rattle.tardis_io.proofs.Told.{same, weaker}
use Rattle.tardis_io.specs.declared.statuses.Status.TheVariants.{NoMemory}
use Rattle.plain_site.specs.Site.{opening}
use Rattle.plain_site.specs.Sound.{IsSound}
use Rattle.export_run.specs.Exporting.{ExportOutcome}
use Rattle.export_run.proofs.Exporting.{from_opening, unopened, opens}
use Rattle.export_run.proofs.exports.export.Goals as goal

pub returns-in-Ok-clause-outcome : goal.returns-in-Ok-clause-outcome
returns-in-Ok-clause-outcome g c =
    let site = opening c.args.limits c.args.own in
    let old = g.O.Sink.given c.args.output.now in
    let new = g.O.Sink.given c.run_export-status.new.output in
    weaker (g.I.Source.left c.args.input.now) (g.I.Source.left c.run_export-status.new.input)
    (ExportOutcome c.run_export-status.result c.args.state (g.A.AnySite.stands c.in-Ok.site) (g.A.AnySite.stands c.run_export-status.new.core) old new)
    (ExportOutcome c.run_export-status.result c.args.state (λ s. s ≡ site) IsSound old new)
    c.run_export-status.ensures.outcome
    (λ a b o.
    from_opening c.run_export-status.result c.args.state site (g.A.AnySite.stands c.in-Ok.site) (g.A.AnySite.stands c.run_export-status.new.core) old new a b
    c.in-Ok.ensures.stands (g.met.A.AnySite.sound c.run_export-status.new.core) o)

pub returns-in-Err-clause-outcome : goal.returns-in-Err-clause-outcome
returns-in-Err-clause-outcome g c =
    let site = opening c.args.limits c.args.own in
    let old = g.O.Sink.given c.args.output.now in
    same (g.I.Source.left c.args.input.now) (ExportOutcome NoMemory c.args.state (λ s. s ≡ site) IsSound old old)
    (λ a. unopened c.args.state site old a (opens c.args.limits c.args.own c.requires.limits c.requires.first c.requires.last))
