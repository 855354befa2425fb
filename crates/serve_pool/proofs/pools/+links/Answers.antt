use Rattle.std.proofs.Common.{rules, ◌+◌, inl, inr, IsSomeAnd, ◌-◌, subst, Ok, Some, arith}
use Rattle.tardis_io.specs.Links.{HandsNext}
use Rattle.dag_lock.specs.Named.{start_of}
use Rattle.serve_pool.specs.Pools.{ServesOne, Pools}
use Rattle.serve_pool.proofs.Hands.{one_less, one_at_least, hands_none, hands_end, hands_fault}
use Rattle.serve_pool.proofs.Pooling.{unserved_within, no_more, at_fault, pools_beside, whole}
use Rattle.serve_pool.proofs.pools.+links.Goals as goal

pub serve_beside-with-requires-clause-unserved : goal.serve_beside-with-requires-clause-unserved
serve_beside-with-requires-clause-unserved g t c =
    let rest : Pools g.G.Link.Duplex.left g.G.Link.Sink.given g.G.Link.Duplex.take_faults g.G.Link.Sink.faults g.M.Machine.plain
    (g.M.Machine.opening (start_of c.args.lock.now).machine) (start_of c.args.lock.now).max_trail g.G.Gate.told g.G.Gate.faults (c.args.first + 1)
    (c.args.links - 1) c.split-kept.result.0 c.in-Some-Some.pass c.args.gate.now c.gate-1.given.0 c.in-Some-Some.served = search rules in
    unserved_within _ _ _ _ _ _ _ _ _ _ _ _ _ _ _ _ rest

pub serve_beside-returns-clause-pools : goal.serve_beside-returns-clause-pools
serve_beside-returns-clause-pools g t c =
    let rest : Pools g.G.Link.Duplex.left g.G.Link.Sink.given g.G.Link.Duplex.take_faults g.G.Link.Sink.faults g.M.Machine.plain
    (g.M.Machine.opening (start_of c.args.lock.now).machine) (start_of c.args.lock.now).max_trail g.G.Gate.told g.G.Gate.faults (c.args.first + 1)
    (c.args.links - 1) c.split-kept.result.0 c.in-Some-Some.pass c.args.gate.now c.gate-1.given.0 c.in-Some-Some.served = search rules in
    let fact : IsSomeAnd c.join_mut-one.result.0 (λ r. ServesOne g.G.Link.Duplex.left g.G.Link.Sink.given g.G.Link.Duplex.take_faults g.G.Link.Sink.faults
    g.M.Machine.plain (g.M.Machine.opening (start_of c.args.lock.now).machine) (start_of c.args.lock.now).max_trail c.split-kept.result.1 r.0
    c.args.first c.args.link.now c.link-1.given.0 r.1) = search (rules, c.join_mut-one.ensures.0.met.1) in
    let one : ServesOne g.G.Link.Duplex.left g.G.Link.Sink.given g.G.Link.Duplex.take_faults g.G.Link.Sink.faults g.M.Machine.plain
    (g.M.Machine.opening (start_of c.args.lock.now).machine) (start_of c.args.lock.now).max_trail c.split-kept.result.1 c.in-Some-Some.done
    c.args.first c.args.link.now c.link-1.given.0 c.in-Some-Some.end =
    subst (λ o. IsSomeAnd o (λ r. ServesOne g.G.Link.Duplex.left g.G.Link.Sink.given g.G.Link.Duplex.take_faults g.G.Link.Sink.faults
    g.M.Machine.plain (g.M.Machine.opening (start_of c.args.lock.now).machine) (start_of c.args.lock.now).max_trail c.split-kept.result.1
    r.0 c.args.first c.args.link.now c.link-1.given.0 r.1)) c.in-Some-Some.is-0 fact in
    pools_beside g.G.Link.Duplex.left g.G.Link.Sink.given g.G.Link.Duplex.take_faults g.G.Link.Sink.faults g.M.Machine.plain
    (g.M.Machine.opening (start_of c.args.lock.now).machine) (start_of c.args.lock.now).max_trail g.G.Gate.told g.G.Gate.faults
    c.sessions_last.ensures.outcomes c.args.first c.args.links (c.args.links - 1) c.args.pass c.split-kept.result.0 c.split-kept.result.1
    c.in-Some-Some.pass c.join.result c.in-Some-Some.done _ _ c.in-Some-Some.end _ _ c.in-Some-Some.served c.with.result
    (one_less c.args.links c.requires.some) c.split-kept.ensures.first c.split-kept.ensures.second
    (one_at_least c.args.links c.args.pass.pieces c.requires.pieces) one rest c.join.ensures.lock c.join.ensures.seen c.join.ensures.owned
    c.join.ensures.pieces c.with.ensures

pub serve_from-returns-then-links-eq0 : goal.serve_from-returns-then-links-eq0
serve_from-returns-then-links-eq0 g t c =
    no_more _ _ _ _ _ _ _ _ _ _ _ _ _ _ _ c.none.ensures (hands_none c.args.first (g.G.Gate.told c.args.gate.now)) (inl (search rules)) (omega arith)

pub serve_from-returns-in-Ok-Some : goal.serve_from-returns-in-Ok-Some
serve_from-returns-in-Ok-Some g t c =
    let told : HandsNext (g.G.Gate.told c.args.gate.now) (g.G.Gate.told c.next.new.self) (Ok (Some c.in-Ok-Some.link)) =
    subst (λ o. HandsNext (g.G.Gate.told c.args.gate.now) (g.G.Gate.told c.next.new.self) (Ok o)) (search rules) c.in-Ok-Some.ensures.told in
    whole _ _ _ _ _ _ _ _ _ _ _ _ _ _ _ _ _ _ _ _ told c.in-Ok-Some.ensures.cause.later c.serve_beside-pass.ensures.pools c.put_back.ensures.told
    c.put_back.ensures.faults

pub serve_from-returns-in-Ok-None : goal.serve_from-returns-in-Ok-None
serve_from-returns-in-Ok-None g t c =
    let ends = hands_end c.args.first (g.G.Gate.told c.args.gate.now) (g.G.Gate.told c.next.new.self)
    (subst (λ o. HandsNext (g.G.Gate.told c.args.gate.now) (g.G.Gate.told c.next.new.self) (Ok o)) (search rules) c.in-Ok-None.ensures.told) in
    no_more _ _ _ _ _ _ _ _ _ _ _ _ _ _ _ c.none-in-Ok-None.ensures ends.0 (inr ends.1) c.in-Ok-None.ensures.cause.later

pub serve_from-returns-in-Err : goal.serve_from-returns-in-Err
serve_from-returns-in-Err g t c =
    at_fault _ _ _ _ _ _ _ _ _ _ _ _ _ _ _ c.none-in-Err.ensures
    (hands_fault c.args.first (g.G.Gate.told c.args.gate.now) (g.G.Gate.told c.next.new.self) c.in-Err.field-0 c.in-Err.ensures.told)
    (search rules) c.in-Err.ensures.cause.failed c.in-Err.ensures.cause.later
