use Rattle.std.proofs.Common.{◌∙◌, Ok, Err, refl, rules, subst}
use Rattle.tardis_io.specs.Told.{WhileTold}
use Rattle.trail_log.specs.declared.acted.Acted.TheVariants.{Done}
use Rattle.dag_lock.specs.Named.{start_of}
use Rattle.dag_lock.specs.Steps.{Ended}
use Rattle.site_sync.specs.declared.ends.SyncEnd.TheVariants.{NoMemory, TrailFull}
use Rattle.site_sync.specs.Asking.{stat, pull_frame}
use Rattle.site_sync.specs.Steps.{StepsOnce}
use Rattle.site_sync.specs.Fetching.{Gave}
use Rattle.site_sync.proofs.Exchanged.{told_counts, exchange_asked, exchange_unasked}
use Rattle.site_sync.proofs.Going.{goes_both, goes_step}
use Rattle.site_sync.proofs.exchanges.exchange.Goals as goal

pub put_pull-requires : goal.put_pull-requires
put_pull-requires g c =
    let z = start_of c.args.lock.now in
    let s : StepsOnce g.M.Machine.opening g.M.Machine.plain z c.args.pass stat c.step-pass.new.out c.step-pass.result.0 Done =
    record {
      keeps = c.step-pass.ensures.pass;
      ended = subst
          (λ r. Ended g.M.Machine.opening g.M.Machine.plain z c.args.pass stat c.step-pass.new.out c.step-pass.result.0 r) c.in-Done.is
          c.step-pass.ensures.ended;
    } in
    let counts = told_counts g.M.Machine.opening g.M.Machine.plain z c.args.pass c.step-pass.result.0 c.step-pass.new.out c.requires.counts s
    c.step-pass.ensures.each in
    record { told = counts }

pub returns-in-Ok-clause-exchange : goal.returns-in-Ok-clause-exchange
returns-in-Ok-clause-exchange g c =
    let z = start_of c.args.lock.now in
    let s : StepsOnce g.M.Machine.opening g.M.Machine.plain z c.args.pass stat c.step-pass.new.out c.step-pass.result.0 Done =
    record {
      keeps = c.step-pass.ensures.pass;
      ended = subst
          (λ r. Ended g.M.Machine.opening g.M.Machine.plain z c.args.pass stat c.step-pass.new.out c.step-pass.result.0 r) c.in-Done.is
          c.step-pass.ensures.ended;
    } in
    let counts = told_counts g.M.Machine.opening g.M.Machine.plain z c.args.pass c.step-pass.result.0 c.step-pass.new.out c.requires.counts s
    c.step-pass.ensures.each in
    let gave : WhileTold (g.D.Sink.given c.args.device.now) (g.D.Sink.given c.fetch.new.device)
    (λ before after. Gave (Ok c.in-Ok.batch) before after (pull_frame counts.0)) =
    subst (λ b. WhileTold (g.D.Sink.given c.args.device.now) (g.D.Sink.given c.fetch.new.device) (λ before after. Gave (Ok c.in-Ok.batch) before after b))
    (c.bytes.ensures.same ∙ c.put_pull.ensures counts.0 counts.1) c.in-Ok.ensures.gave in
    exchange_asked g.M.Machine.opening g.M.Machine.plain z g.D.Duplex.left g.D.Sink.given g.D.Duplex.take_faults g.D.Sink.faults c.args.pass
    c.step-pass.result.0 c.deliver_all.result.0 c.args.device.now c.fetch.new.device c.deliver_all.result.1 c.step-pass.new.out counts.0 (Ok c.in-Ok.batch)
    counts.1 s gave c.in-Ok.ensures.fetched c.deliver_all.ensures.delivers c.in-Ok.ensures.read_later c.in-Ok.ensures.write_later c.in-Ok.ensures.read
    c.in-Ok.ensures.write c.in-Ok.ensures.no_dial

pub returns-in-Err-clause-exchange : goal.returns-in-Err-clause-exchange
returns-in-Err-clause-exchange g c =
    let z = start_of c.args.lock.now in
    let s : StepsOnce g.M.Machine.opening g.M.Machine.plain z c.args.pass stat c.step-pass.new.out c.step-pass.result.0 Done =
    record {
      keeps = c.step-pass.ensures.pass;
      ended = subst
          (λ r. Ended g.M.Machine.opening g.M.Machine.plain z c.args.pass stat c.step-pass.new.out c.step-pass.result.0 r) c.in-Done.is
          c.step-pass.ensures.ended;
    } in
    let counts = told_counts g.M.Machine.opening g.M.Machine.plain z c.args.pass c.step-pass.result.0 c.step-pass.new.out c.requires.counts s
    c.step-pass.ensures.each in
    let gave : WhileTold (g.D.Sink.given c.args.device.now) (g.D.Sink.given c.fetch.new.device)
    (λ before after. Gave (Err c.in-Err.end) before after (pull_frame counts.0)) =
    subst (λ b. WhileTold (g.D.Sink.given c.args.device.now) (g.D.Sink.given c.fetch.new.device) (λ before after. Gave (Err c.in-Err.end) before after b))
    (c.bytes.ensures.same ∙ c.put_pull.ensures counts.0 counts.1) c.in-Err.ensures.gave in
    exchange_asked g.M.Machine.opening g.M.Machine.plain z g.D.Duplex.left g.D.Sink.given g.D.Duplex.take_faults g.D.Sink.faults c.args.pass
    c.step-pass.result.0 c.step-pass.result.0 c.args.device.now c.fetch.new.device c.in-Err.end c.step-pass.new.out counts.0 (Err c.in-Err.end)
    counts.1 s gave c.in-Err.ensures.fetched (refl, refl) c.in-Err.ensures.read_later c.in-Err.ensures.write_later c.in-Err.ensures.read
    c.in-Err.ensures.write c.in-Err.ensures.no_dial

pub returns-in-TrailFull-clause-exchange : goal.returns-in-TrailFull-clause-exchange
returns-in-TrailFull-clause-exchange g c =
    exchange_unasked g.M.Machine.opening g.M.Machine.plain (start_of c.args.lock.now) g.D.Duplex.left g.D.Sink.given g.D.Duplex.take_faults g.D.Sink.faults
    c.args.pass c.step-pass.result.0 c.args.device.now (TrailFull c.in-TrailFull.bytes) c.step-pass.result.1 c.step-pass.new.out (search rules)
    (search rules) (record { keeps = c.step-pass.ensures.pass; ended = c.step-pass.ensures.ended })

pub returns-in-NoMemory-clause-exchange : goal.returns-in-NoMemory-clause-exchange
returns-in-NoMemory-clause-exchange g c =
    exchange_unasked g.M.Machine.opening g.M.Machine.plain (start_of c.args.lock.now) g.D.Duplex.left g.D.Sink.given g.D.Duplex.take_faults g.D.Sink.faults
    c.args.pass c.step-pass.result.0 c.args.device.now NoMemory c.step-pass.result.1 c.step-pass.new.out (search rules)
    (search rules) (record { keeps = c.step-pass.ensures.pass; ended = c.step-pass.ensures.ended })

pub returns-in-Ok-clause-goes_on : goal.returns-in-Ok-clause-goes_on
returns-in-Ok-clause-goes_on g c =
    goes_both c.args.pass c.step-pass.result.0 c.deliver_all.result.0
    (goes_step g.M.Machine.opening g.M.Machine.plain (start_of c.args.lock.now) c.args.pass c.step-pass.result.0 stat c.step-pass.new.out c.step-pass.result.1
    (record { keeps = c.step-pass.ensures.pass; ended = c.step-pass.ensures.ended })) c.deliver_all.ensures.goes_on

pub returns-in-Err-clause-goes_on : goal.returns-in-Err-clause-goes_on
returns-in-Err-clause-goes_on g c =
    goes_step g.M.Machine.opening g.M.Machine.plain (start_of c.args.lock.now) c.args.pass c.step-pass.result.0 stat c.step-pass.new.out c.step-pass.result.1
    (record { keeps = c.step-pass.ensures.pass; ended = c.step-pass.ensures.ended })

pub returns-in-TrailFull-clause-goes_on : goal.returns-in-TrailFull-clause-goes_on
returns-in-TrailFull-clause-goes_on g c =
    goes_step g.M.Machine.opening g.M.Machine.plain (start_of c.args.lock.now) c.args.pass c.step-pass.result.0 stat c.step-pass.new.out c.step-pass.result.1
    (record { keeps = c.step-pass.ensures.pass; ended = c.step-pass.ensures.ended })

pub returns-in-NoMemory-clause-goes_on : goal.returns-in-NoMemory-clause-goes_on
returns-in-NoMemory-clause-goes_on g c =
    goes_step g.M.Machine.opening g.M.Machine.plain (start_of c.args.lock.now) c.args.pass c.step-pass.result.0 stat c.step-pass.new.out c.step-pass.result.1
    (record { keeps = c.step-pass.ensures.pass; ended = c.step-pass.ensures.ended })
