use Rattle.std.proofs.Common.{◌≡◌, ◌∙◌, ◌⊎◌, sym, subst}
use Rattle.tardis_io.specs.Faults.{Rose}
use Rattle.tardis_io.specs.declared.statuses.Status.TheVariants.{Ok as Well, NoMemory}
use Rattle.plain_site.specs.Site.{opening}
use Rattle.plain_site.specs.Step.{site_machine}
use Rattle.serve_run.specs.Serving.{workload}
use Rattle.site_commands.proofs.Servers.{fails_of, gate_failed, output_failed, dial_failed, well_without_faults}
use Rattle.site_commands.proofs.serves.serve.Goals as goal

pub returns-clause-ends : goal.returns-clause-ends
returns-clause-ends g c =
    let work = workload c.args.options in
    let fails = fails_of g.A.AnySite.opened g.G.Link.Duplex.left g.G.Link.Sink.given g.G.Link.Duplex.take_faults g.G.Link.Sink.faults g.D.Link.Duplex.left
    g.D.Link.Sink.given g.D.Link.Duplex.take_faults g.D.Link.Sink.faults
    g.D.Dial.told g.D.Dial.faults site_machine (opening c.args.limits c.args.own) c.args.limits.max_trail g.G.Gate.told g.G.Gate.faults g.O.Sink.given
    g.O.Sink.faults
    work c.args.gate.now c.serve_site.new.gate c.args.dial.now c.serve_site.new.dial c.args.output.now c.serve_site.new.output c.serve_site.result
    c.serve_site.ensures in
    let R = Rose (g.G.Gate.faults c.args.gate.now) (g.G.Gate.faults c.serve_site.new.gate) in
    let S = Rose (g.O.Sink.faults c.args.output.now) (g.O.Sink.faults c.serve_site.new.output) in
    let T = Rose (g.D.Dial.faults c.args.dial.now) (g.D.Dial.faults c.serve_site.new.dial) in
    record {
      end = c.serve_site.result;
      outcome = c.serve_site.ensures;
      judged = c.status_of.ensures;
      complete = λ r t s. subst (λ k. (k ≡ Well) ⊎ (k ≡ NoMemory)) (sym c.status_of.ensures) (well_without_faults R S T c.serve_site.result fails r t s);
    }

pub returns-clause-write : goal.returns-clause-write
returns-clause-write g c =
    let work = workload c.args.options in
    let fails = fails_of g.A.AnySite.opened g.G.Link.Duplex.left g.G.Link.Sink.given g.G.Link.Duplex.take_faults g.G.Link.Sink.faults g.D.Link.Duplex.left
    g.D.Link.Sink.given g.D.Link.Duplex.take_faults g.D.Link.Sink.faults
    g.D.Dial.told g.D.Dial.faults site_machine (opening c.args.limits c.args.own) c.args.limits.max_trail g.G.Gate.told g.G.Gate.faults g.O.Sink.given
    g.O.Sink.faults
    work c.args.gate.now c.serve_site.new.gate c.args.dial.now c.serve_site.new.dial c.args.output.now c.serve_site.new.output c.serve_site.result
    c.serve_site.ensures in
    let R = Rose (g.G.Gate.faults c.args.gate.now) (g.G.Gate.faults c.serve_site.new.gate) in
    let S = Rose (g.O.Sink.faults c.args.output.now) (g.O.Sink.faults c.serve_site.new.output) in
    let T = Rose (g.D.Dial.faults c.args.dial.now) (g.D.Dial.faults c.serve_site.new.dial) in
    record {
      later = c.serve_site.ensures.write_later;
      cause = λ e. output_failed R S T c.serve_site.result fails (sym c.status_of.ensures ∙ e);
    }

pub returns-clause-gate : goal.returns-clause-gate
returns-clause-gate g c =
    let work = workload c.args.options in
    let fails = fails_of g.A.AnySite.opened g.G.Link.Duplex.left g.G.Link.Sink.given g.G.Link.Duplex.take_faults g.G.Link.Sink.faults g.D.Link.Duplex.left
    g.D.Link.Sink.given g.D.Link.Duplex.take_faults g.D.Link.Sink.faults
    g.D.Dial.told g.D.Dial.faults site_machine (opening c.args.limits c.args.own) c.args.limits.max_trail g.G.Gate.told g.G.Gate.faults g.O.Sink.given
    g.O.Sink.faults
    work c.args.gate.now c.serve_site.new.gate c.args.dial.now c.serve_site.new.dial c.args.output.now c.serve_site.new.output c.serve_site.result
    c.serve_site.ensures in
    let R = Rose (g.G.Gate.faults c.args.gate.now) (g.G.Gate.faults c.serve_site.new.gate) in
    let S = Rose (g.O.Sink.faults c.args.output.now) (g.O.Sink.faults c.serve_site.new.output) in
    let T = Rose (g.D.Dial.faults c.args.dial.now) (g.D.Dial.faults c.serve_site.new.dial) in
    record {
      later = c.serve_site.ensures.gate_later;
      cause = λ e. gate_failed R S T c.serve_site.result fails (sym c.status_of.ensures ∙ e);
    }

pub returns-clause-dial : goal.returns-clause-dial
returns-clause-dial g c =
    let work = workload c.args.options in
    let fails = fails_of g.A.AnySite.opened g.G.Link.Duplex.left g.G.Link.Sink.given g.G.Link.Duplex.take_faults g.G.Link.Sink.faults g.D.Link.Duplex.left
    g.D.Link.Sink.given g.D.Link.Duplex.take_faults g.D.Link.Sink.faults
    g.D.Dial.told g.D.Dial.faults site_machine (opening c.args.limits c.args.own) c.args.limits.max_trail g.G.Gate.told g.G.Gate.faults g.O.Sink.given
    g.O.Sink.faults
    work c.args.gate.now c.serve_site.new.gate c.args.dial.now c.serve_site.new.dial c.args.output.now c.serve_site.new.output c.serve_site.result
    c.serve_site.ensures in
    let R = Rose (g.G.Gate.faults c.args.gate.now) (g.G.Gate.faults c.serve_site.new.gate) in
    let S = Rose (g.O.Sink.faults c.args.output.now) (g.O.Sink.faults c.serve_site.new.output) in
    let T = Rose (g.D.Dial.faults c.args.dial.now) (g.D.Dial.faults c.serve_site.new.dial) in
    record {
      later = c.serve_site.ensures.dial_later;
      cause = λ e. dial_failed R S T c.serve_site.result fails (sym c.status_of.ensures ∙ e);
    }
