use Rattle.std.proofs.Common.{◌≡◌, map, ap, subst}
use Rattle.std.specs.String.{string_bytes}
use Rattle.tardis_base.specs.declared.records.Limits.{Limits}
use Rattle.plain_site.specs.Site.{opening}
use Rattle.site_commands.specs.Ends.{ServerEnds}
use Rattle.tardis_main.proofs.plans.serve_plan.Goals as goal

pub returns-clause-ends : goal.returns-clause-ends
returns-clause-ends g c =
    let plan = c.args.plan.now in
    let same : map (λ w. string_bytes w) c.as_slice-peers.result.now ≡ map (λ w. string_bytes w) plan.peers.items = ap (map (λ w. string_bytes w))
    c.as_slice-peers.ensures.value in
    subst (λ (l : Limits). ServerEnds g.A.AnySite.opened g.G.Gate g.G.Link.Duplex g.G.Link.Sink g.D.Dial g.D.Link.Duplex g.D.Link.Sink g.O.Sink
    c.args.gate.now c.serve.new.gate c.args.dial.now c.serve.new.dial c.args.output.now c.serve.new.output
    (opening l plan.place.site) l.max_trail (record {
      links = plan.links;
      peers = map (λ w. string_bytes w) plan.peers.items;
      rounds =
          plan.rounds;
      tidy = plan.tidy;
    }) c.serve.result)
    c.limits.ensures.limits
    (subst (λ n. ServerEnds g.A.AnySite.opened g.G.Gate g.G.Link.Duplex g.G.Link.Sink g.D.Dial g.D.Link.Duplex g.D.Link.Sink g.O.Sink
    c.args.gate.now c.serve.new.gate c.args.dial.now c.serve.new.dial c.args.output.now c.serve.new.output
    (opening c.limits.result plan.place.site) c.limits.result.max_trail (record { links = plan.links; peers = n; rounds = plan.rounds; tidy = plan.tidy })
    c.serve.result)
    same c.serve.ensures.ends)
