use Rattle.std.proofs.Common.{◌≤◌, subst, arith}
use Rattle.tardis_io.specs.Faults.{Rose}
use Rattle.site_sync.proofs.fetches.fetch.Goals as goal

pub returns-in-Ok-clause-read_later : goal.returns-in-Ok-clause-read_later
returns-in-Ok-clause-read_later g c =
    let apart = g.met.D.Duplex.gives_are_apart c.write_all.new.output c.args.device.now c.write_all.ensures.kept in
    subst (λ n. n ≤ g.D.Duplex.take_faults c.read_batch.new.device) apart.1 c.read_batch.ensures.read_later

pub returns-in-Ok-clause-read : goal.returns-in-Ok-clause-read
returns-in-Ok-clause-read g c = λ e.
    let apart = g.met.D.Duplex.gives_are_apart c.write_all.new.output c.args.device.now c.write_all.ensures.kept in
    subst (λ n. Rose n (g.D.Duplex.take_faults c.read_batch.new.device)) apart.1 (c.read_batch.ensures.read e)

pub returns-in-Err-clause-read_later : goal.returns-in-Err-clause-read_later
returns-in-Err-clause-read_later g c =
    let apart = g.met.D.Duplex.gives_are_apart c.write_all.new.output c.args.device.now c.write_all.ensures.kept in
    omega (arith, apart.1)
