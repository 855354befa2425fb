use Rattle.std.proofs.Common.{◌≡◌, ⊎_elim, inl, inr, ap, subst, rules}
use Rattle.plain_site.specs.Site.{opening}
use Rattle.durable_run.specs.Commands.{DurableEnds}
use Rattle.durable_run.proofs.commands.durable.Goals as goal

pub returns-clause-ends : goal.returns-clause-ends
returns-clause-ends g c =
    let K = g.S.Disk.Disk in
    let S = g.S.Store in
    let d = c.durable_device.new.device in
    let site = opening c.args.limits c.args.own in
    let input : d.input.now ≡ c.input-1.given.0 = search rules in
    let output : d.output.now ≡ c.output-1.given.0 = search rules in
    let e = c.durable_device.ensures.ends in
    subst (λ i. DurableEnds S K g.I.Source g.O.Sink c.args.path.now c.args.store.now c.durable_device.new.store c.args.input.now i c.args.output.now
    c.output-1.given.0 site c.args.limits.max_trail c.durable_device.result) input
    (subst (λ o. DurableEnds S K g.I.Source g.O.Sink c.args.path.now c.args.store.now c.durable_device.new.store c.args.input.now d.input.now
    c.args.output.now o site c.args.limits.max_trail c.durable_device.result) output
    (record {
      outcome = ⊎_elim
          (λ n. inl (record { cause = n.cause; unread = ap (λ p. p.input.now) n.unread; unwritten = ap (λ p. p.output.now) n.unwritten }))
          (λ r. inr (record {
            disk = r.disk;
            back = r.back;
            handled = r.handled;
            is_honest = r.is_honest;
            run = ⊎_elim
                (λ n. inl (record { end = n.end; unread = ap (λ p. p.input.now) n.unread; unwritten = ap (λ p. p.output.now) n.unwritten; any_moment = n.any_moment }))
                (λ n. inr (record { entries = n.ran.entries; found = n.ran.found; outcome = n.ran.outcome })) r.run;
          })) e.outcome;
      exact = e.exact;
      end = e.end;
      still = e.still;
      nothing = λ z. (ap (λ p. p.input.now) (e.nothing z).0, ap (λ p. p.output.now) (e.nothing z).0);
    }))
