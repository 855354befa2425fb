use Rattle.std.proofs.Common.{◌≡◌, true, sym, subst}
use Rattle.std.specs.Prelude.{nat_le}
use Rattle.std.proofs.lemmas.Bool.{and_from, le-leb}
use Rattle.site_sync.specs.Asking.{TellsCounts}
use Rattle.plain_site.specs.Step.{site_machine}
use Rattle.serve_run.specs.Serving.{ServeOutcome, workload}
use Rattle.tardis_base.specs.Valid.{is_within}
use Rattle.site_commands.proofs.serves.serve_site.Goals as goal

pub serve_links-requires-clause-opening : goal.serve_links-requires-clause-opening
serve_links-requires-clause-opening g c κs within = subst (λ s. g.A.AnySite.stands c.in-Ok.site s) (sym c.in-Ok.ensures.opened) c.in-Ok.ensures.stands

pub serve_links-requires-clause-counts : goal.serve_links-requires-clause-counts
serve_links-requires-clause-counts g c κs within =
    let own = c.args.own in
    let sites = c.args.limits.sites in
    let is : is_within 1 sites own ≡ true = and_from (nat_le 1 own) (nat_le own sites) (le-leb 1 own c.requires.first) (le-leb own sites c.requires.last) in
    subst (λ s. TellsCounts site_machine s) (sym c.in-Ok.ensures.opened) (c.sites_tell_counts.ensures c.args.limits own c.requires.limits is)

pub returns-in-Ok : goal.returns-in-Ok
returns-in-Ok g c =
    subst (λ s. ServeOutcome g.A.AnySite.opened site_machine g.G.Link.Duplex.left g.G.Link.Sink.given g.G.Link.Duplex.take_faults g.G.Link.Sink.faults
    g.D.Link.Duplex.left g.D.Link.Sink.given g.D.Link.Duplex.take_faults g.D.Link.Sink.faults g.D.Dial.told g.D.Dial.faults s c.args.limits.max_trail
    g.G.Gate.told g.G.Gate.faults g.O.Sink.given g.O.Sink.faults (workload c.args.options) c.args.gate.now c.serve_links.new.gate c.args.dial.now
    c.serve_links.new.dial
    c.args.output.now c.serve_links.new.output c.serve_links.result)
    c.in-Ok.ensures.opened c.serve_links.ensures
