use Rattle.dag_lock.specs.Named.{start_of}
use Rattle.site_sync.proofs.Exchanged.{syncs_none, syncs_link}
use Rattle.site_sync.proofs.exchanges.sync_round.Goals as goal

pub returns-in_default : goal.returns-in_default
returns-in_default g c =
    syncs_none g.M.Machine.opening g.M.Machine.plain (start_of c.args.lock.now) g.D.Link.Duplex.left g.D.Link.Sink.given g.D.Link.Duplex.take_faults
    g.D.Link.Sink.faults g.D.Dial.told g.D.Dial.faults c.args.address.now c.args.pass c.args.dial.now

pub returns-in-Ok-call : goal.returns-in-Ok-call
returns-in-Ok-call g c =
    syncs_link g.M.Machine.opening g.M.Machine.plain (start_of c.args.lock.now) g.D.Link.Duplex.left g.D.Link.Sink.given g.D.Link.Duplex.take_faults
    g.D.Link.Sink.faults g.D.Dial.told g.D.Dial.faults
    c.args.address.now c.args.pass c.exchange-pass.result.0 c.args.dial.now c.call.new.self c.put_back.new.self c.in-Ok-call.link c.exchange-pass.new.device c.finish.new.self
    c.exchange-pass.result.1
    c.exchange-pass.ensures.goes_on c.exchange-pass.ensures.exchange c.finish.ensures.left c.finish.ensures.given c.finish.ensures.take_faults
    c.finish.ensures.faults
    c.in-Ok-call.ensures.told c.put_back.ensures.told c.in-Ok-call.ensures.cause.later c.put_back.ensures.faults
