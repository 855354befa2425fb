use Rattle.std.proofs.Common.{◌≡◌, ⊎_elim, inl, inr, ap, subst, rules}
use Rattle.durable_run.specs.Turns.{Ended}
use Rattle.durable_run.proofs.Running.{apart_unopened, apart_ran}
use Rattle.durable_run.proofs.runs.run_durable.Goals as goal

pub returns-clause-outcome : goal.returns-clause-outcome
returns-clause-outcome g c =
    let M = g.M.Machine in
    let K = g.K.Disk in
    let d = c.run_durable_device.new.device in
    let r = c.run_durable_device.result in
    let input : d.input.now ≡ c.input-1.given.0 = search rules in
    let output : d.output.now ≡ c.output-1.given.0 = search rules in
    ⊎_elim
    (λ n. inl (apart_unopened M.plain K g.I.Source g.O.Sink r.0 c.args.disk r.1 c.args.input.now d.input.now c.input-1.given.0 c.args.output.now d.output.now
    c.output-1.given.0 (record {
      end = n.end;
      unread = ap (λ p. p.input.now) n.unread;
      unwritten = ap (λ p. p.output.now) n.unwritten;
      any_moment = n.any_moment;
    }) input output))
    (λ n. inr (apart_ran M.plain K g.I.Source g.O.Sink (M.opening c.args.machine) c.args.max_trail r.0 c.args.disk r.1 c.args.input.now d.input.now
    c.input-1.given.0 c.args.output.now d.output.now c.output-1.given.0
    (record { entries = n.ran.entries; found = n.ran.found; outcome = n.ran.outcome }) input output))
    c.run_durable_device.ensures.outcome

pub returns-clause-ended : goal.returns-clause-ended
returns-clause-ended g c =
    let K = g.K.Disk in
    let d = c.run_durable_device.new.device in
    let r = c.run_durable_device.result in
    let input : d.input.now ≡ c.input-1.given.0 = search rules in
    let output : d.output.now ≡ c.output-1.given.0 = search rules in
    let e = c.run_durable_device.ensures.ended in
    subst (λ i. Ended K g.I.Source g.O.Sink c.args.disk r.1 c.args.input.now i c.args.output.now c.output-1.given.0 r.0) input
    (subst (λ o. Ended K g.I.Source g.O.Sink c.args.disk r.1 c.args.input.now d.input.now c.args.output.now o r.0) output
    (record { end = e.end; went = e.went; disk_rose = e.disk_rose; read_rose = e.read_rose; write_rose = e.write_rose }))
