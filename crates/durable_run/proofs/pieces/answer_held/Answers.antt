use Rattle.std.proofs.Common.{◌≡◌, ◌+◌, ◌++◌, ◌∙◌, length, drop, subst, sym, arith}
use Rattle.frame_cut.specs.Frames.{frame, Cuts}
use Rattle.frame_cut.specs.Cuts.{Leaves}
use Rattle.durable_run.specs.Groups.{Grouping}
use Rattle.durable_run.proofs.Bodies.{went_then, stopped_later, more_body, fewer}
use Rattle.durable_run.proofs.pieces.answer_held.Goals as goal

pub loop-body-smaller : goal.loop-body-smaller
loop-body-smaller g c =
    let left : c.next.follows.lender-at-none ≡ drop (4 + length c.in-Frame.body.now) c.loop-body.cutter =
    subst (λ r. Leaves c.loop-body.cutter r c.next.follows.lender-at-none) c.in-Frame.is c.next.follows.holds-at-none in
    fewer c.loop-body.cutter c.next.follows.lender-at-none c.in-Frame.body.now left c.in-Frame.ensures.cut.1

pub answer_frame-requires-clause-group : goal.answer_frame-requires-clause-group
answer_frame-requires-clause-group g c =
    let group = c.requires.group in
    let on = c.loop-body.invariant.grouped group.0 group.1.0 group.1.1 in
    (group.0, (group.1.0 ++ on.0, on.1.1))

pub loop-body-preserved : goal.loop-body-preserved
loop-body-preserved g c =
    let M = g.M.Machine in
    let K = g.K.Disk in
    let left : c.next.follows.lender-at-none ≡ drop (4 + length c.in-Frame.body.now) c.loop-body.cutter =
    subst (λ r. Leaves c.loop-body.cutter r c.next.follows.lender-at-none) c.in-Frame.is c.next.follows.holds-at-none in
    record {
      grouped = λ at bodies group.
          more_body (Grouping M K at c.loop-body.journal
          (g.O.Sink.given c.loop-body.output) c.loop-body.gathered.bytes)
          (Grouping M K at c.in-Ok.answered
          (g.O.Sink.given c.answer_frame.new.output) c.answer_frame.new.gathered.bytes)
          c.args.cutter.now c.loop-body.cutter c.next.follows.lender-at-none c.in-Frame.body.now bodies c.in-Frame.ensures.cut.0
          (subst (λ r. c.loop-body.cutter ≡ frame c.in-Frame.body.now ++ r) (sym left) c.in-Frame.ensures.cut.1)
          (c.loop-body.invariant.grouped at bodies group) (c.in-Ok.ensures.grouped at);
      room = ◌∙◌ {a = c.answer_frame.new.gathered.room} c.in-Ok.ensures.room c.loop-body.invariant.room;
      went = went_then K c.args.journal.disk c.loop-body.journal.disk c.in-Ok.answered.disk c.loop-body.invariant.went c.in-Ok.ensures.went;
      kept = ◌∙◌ {a = g.O.Sink.kept c.answer_frame.new.output} c.in-Ok.ensures.kept c.loop-body.invariant.kept;
      write_later = omega (arith, c.in-Ok.ensures.write_later, c.loop-body.invariant.write_later);
    }

pub returns-in-Err-clause-stopped : goal.returns-in-Err-clause-stopped
returns-in-Err-clause-stopped g c = λ at bodies group.
    let on = c.loop-body.invariant.grouped at bodies group in
    (on.0, (c.loop-body.cutter, (on.1.0, c.in-Err.ensures.stopped at (bodies ++ on.0) on.1.1)))

pub returns-in-Err-clause-fault : goal.returns-in-Err-clause-fault
returns-in-Err-clause-fault g c =
    let K = g.K.Disk in
    stopped_later K g.O.Sink c.args.journal.disk c.loop-body.journal.disk c.args.output.now c.loop-body.output
    c.answer_frame.new.output c.in-Err.stop c.loop-body.invariant.went c.loop-body.invariant.write_later c.in-Err.ensures.fault

pub returns-in-NeedMore-clause-grouped : goal.returns-in-NeedMore-clause-grouped
returns-in-NeedMore-clause-grouped g c = λ at bodies group.
    let same : c.next.follows.lender-at-none ≡ c.loop-body.cutter =
    subst (λ r. Leaves c.loop-body.cutter r c.next.follows.lender-at-none) c.in-NeedMore.is c.next.follows.holds-at-none in
    let on = c.loop-body.invariant.grouped at bodies group in
    (on.0, (subst (λ z. Cuts c.args.cutter.now on.0 z) (sym same) on.1.0, on.1.1))

pub returns-in-Long-clause-grouped : goal.returns-in-Long-clause-grouped
returns-in-Long-clause-grouped g c = λ at bodies group.
    let same : c.next.follows.lender-at-none ≡ c.loop-body.cutter =
    subst (λ r. Leaves c.loop-body.cutter r c.next.follows.lender-at-none) c.in-Long.is c.next.follows.holds-at-none in
    let on = c.loop-body.invariant.grouped at bodies group in
    (on.0, (subst (λ z. Cuts c.args.cutter.now on.0 z) (sym same) on.1.0, on.1.1))

pub returns-in-Err-clause-room : goal.returns-in-Err-clause-room
returns-in-Err-clause-room g c = ◌∙◌ {a = c.answer_frame.new.gathered.room} c.in-Err.ensures.room c.loop-body.invariant.room

pub returns-in-Err-clause-write_later : goal.returns-in-Err-clause-write_later
returns-in-Err-clause-write_later g c = omega (arith, c.in-Err.ensures.write_later, c.loop-body.invariant.write_later)

pub returns-in-NeedMore-clause-room : goal.returns-in-NeedMore-clause-room
returns-in-NeedMore-clause-room g c = c.loop-body.invariant.room

pub returns-in-NeedMore-clause-went : goal.returns-in-NeedMore-clause-went
returns-in-NeedMore-clause-went g c = c.loop-body.invariant.went

pub returns-in-NeedMore-clause-write_later : goal.returns-in-NeedMore-clause-write_later
returns-in-NeedMore-clause-write_later g c = c.loop-body.invariant.write_later

pub returns-in-Long-clause-room : goal.returns-in-Long-clause-room
returns-in-Long-clause-room g c = c.loop-body.invariant.room

pub returns-in-Long-clause-went : goal.returns-in-Long-clause-went
returns-in-Long-clause-went g c = c.loop-body.invariant.went

pub returns-in-Long-clause-write_later : goal.returns-in-Long-clause-write_later
returns-in-Long-clause-write_later g c = c.loop-body.invariant.write_later

pub returns-in-Err-clause-kept : goal.returns-in-Err-clause-kept
returns-in-Err-clause-kept g c = ◌∙◌ {a = g.O.Sink.kept c.answer_frame.new.output} c.in-Err.ensures.kept c.loop-body.invariant.kept

pub returns-in-NeedMore-clause-kept : goal.returns-in-NeedMore-clause-kept
returns-in-NeedMore-clause-kept g c = c.loop-body.invariant.kept

pub returns-in-Long-clause-kept : goal.returns-in-Long-clause-kept
returns-in-Long-clause-kept g c = c.loop-body.invariant.kept
