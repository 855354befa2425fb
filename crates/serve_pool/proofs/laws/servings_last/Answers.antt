use Rattle.serve_pool.proofs.Longer.{all_longer}
use Rattle.serve_pool.proofs.laws.servings_last.Goals as goal

pub returns : goal.returns
returns g c = λ start most low seen longer first taken begins served.
    all_longer g.L.Duplex.left g.L.Sink.given g.L.Duplex.take_faults g.L.Sink.faults g.M.Machine.plain start most c.sessions_last.ensures.outcomes low seen
    longer first taken begins served
