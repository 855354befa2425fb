use Rattle.std.proofs.Common.{◌≡◌, ◌+◌, ◌++◌, ◌∷◌, ◌∙◌, [], map, take, ap, sym}
use Rattle.std.specs.String.{string_bytes}
use Rattle.dag_lock.specs.Named.{start_of}
use Rattle.site_sync.proofs.Calls.{next_taken}
use Rattle.site_sync.proofs.Rounding.{calling_none, calling_more, calling_all}
use Rattle.site_sync.proofs.rounds.call_all.Goals as goal

pub loop-peer-init : goal.loop-peer-init
loop-peer-init g c =
    calling_none g.M.Machine.opening g.M.Machine.plain (start_of c.args.lock.now) g.D.Link.Duplex.left g.D.Link.Sink.given g.D.Link.Duplex.take_faults
    g.D.Link.Sink.faults g.D.Dial.told g.D.Dial.faults c.args.pass c.args.dial.now c.args.numbers

pub loop-peer-preserved : goal.loop-peer-preserved
loop-peer-preserved g c =
    let place = c.loop-peer.peer-index in
    let all = map (λ p. string_bytes p) c.args.peers.now in
    let address = c.as_str.result.now in
    let next : take place all ++ address ∷ [] ≡ take (place + 1) all = ap (λ a. take place all ++ a ∷ [])
    (c.as_str.ensures.value ∙ ap (λ p. string_bytes p) c.peer-item.is)
    ∙ sym (next_taken (λ p. string_bytes p) c.args.peers.now place c.peer-item.result c.loop-peer-test.true) in
    calling_all g.M.Machine.opening g.M.Machine.plain (start_of c.args.lock.now) g.D.Link.Duplex.left g.D.Link.Sink.given g.D.Link.Duplex.take_faults
    g.D.Link.Sink.faults g.D.Dial.told g.D.Dial.faults (place + 1) (take place all ++ address ∷ []) (take (place + 1) all)
    c.args.pass c.args.dial.now c.args.numbers c.sync_round-next.result.0 c.sync_round-next.new.dial c.with_end-numbers.result next
    (calling_more g.M.Machine.opening g.M.Machine.plain (start_of c.args.lock.now) g.D.Link.Duplex.left g.D.Link.Sink.given g.D.Link.Duplex.take_faults
    g.D.Link.Sink.faults g.D.Dial.told g.D.Dial.faults
    place (take place all) c.args.pass c.args.dial.now c.args.numbers c.loop-peer.pass c.loop-peer.dial c.loop-peer.numbers address
    c.sync_round-next.result.1
    c.sync_round-next.result.0 c.sync_round-next.new.dial c.with_end-numbers.result
    c.loop-peer.invariant c.sync_round-next.ensures c.with_end-numbers.ensures)
