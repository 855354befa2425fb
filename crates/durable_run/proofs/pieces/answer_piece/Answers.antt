use Rattle.std.proofs.Common.{◌++◌, ◌∙◌, subst, sym, arith}
use Rattle.frame_cut.specs.Frames.{Cuts}
use Rattle.durable_run.specs.Groups.{Grouping}
use Rattle.durable_run.proofs.Bodies.{went_then, stopped_later, fed_all}
use Rattle.durable_run.proofs.pieces.answer_piece.Goals as goal

pub answer_held-requires-clause-group : goal.answer_held-requires-clause-group
answer_held-requires-clause-group g c =
    let M = g.M.Machine in
    let K = g.K.Disk in
    let group = c.requires.group in (
      group.0,
      (
        group.1.0,
        subst (λ b. Grouping M K group.0 c.args.journal
            (g.O.Sink.given c.args.output.now) b group.1.0) (sym c.requires.none) group.1.1,
      ),
    )

pub settle-requires-clause-group : goal.settle-requires-clause-group
settle-requires-clause-group g c =
    let M = g.M.Machine in
    let K = g.K.Disk in
    let group = c.requires.group in
    let on = c.in-Ok.ensures.grouped group.0 group.1.0 (subst
    (λ b. Grouping M K group.0 c.args.journal
    (g.O.Sink.given c.args.output.now) b group.1.0) (sym c.requires.none) group.1.1) in
    (group.0, (group.1.0 ++ on.0, on.1.1))

pub returns-in-Ok-settle-clause-grouped : goal.returns-in-Ok-settle-clause-grouped
returns-in-Ok-settle-clause-grouped g c = λ at bodies group.
    let M = g.M.Machine in
    let K = g.K.Disk in
    let fed = fed_all c.args.cutter.now c.args.piece.now c.feed.new.self c.feed.result c.feed.ensures.held
    (c.feed.ensures.whole c.requires.partial c.requires.size) in
    let on = c.in-Ok.ensures.grouped at bodies
    (subst (λ b. Grouping M K at c.args.journal
    (g.O.Sink.given c.args.output.now) b bodies) (sym c.requires.none) group) in (
      on.0,
      (
        subst (λ b. Cuts b on.0 c.answer_held.new.cutter) fed on.1.0,
        subst (λ b. Grouping M K at c.in-Ok-settle.settled
            (g.O.Sink.given c.settle.new.output) b (bodies ++ on.0)) {x = c.settle.new.gathered.bytes} c.in-Ok-settle.ensures.none (c.in-Ok-settle.ensures.grouped at (bodies ++ on.0) on.1.1),
      ),
    )

pub returns-in-Err-settle-clause-stopped : goal.returns-in-Err-settle-clause-stopped
returns-in-Err-settle-clause-stopped g c = λ at bodies group.
    let M = g.M.Machine in
    let K = g.K.Disk in
    let fed = fed_all c.args.cutter.now c.args.piece.now c.feed.new.self c.feed.result c.feed.ensures.held
    (c.feed.ensures.whole c.requires.partial c.requires.size) in
    let on = c.in-Ok.ensures.grouped at bodies
    (subst (λ b. Grouping M K at c.args.journal
    (g.O.Sink.given c.args.output.now) b bodies) (sym c.requires.none) group) in (
      on.0,
      (
        c.answer_held.new.cutter,
        (
          subst (λ b. Cuts b on.0 c.answer_held.new.cutter) fed on.1.0,
          c.in-Err-settle.ensures.stopped at (bodies ++ on.0) on.1.1,
        ),
      ),
    )

pub returns-in-Err-clause-stopped : goal.returns-in-Err-clause-stopped
returns-in-Err-clause-stopped g c = λ at bodies group.
    let M = g.M.Machine in
    let K = g.K.Disk in
    let fed = fed_all c.args.cutter.now c.args.piece.now c.feed.new.self c.feed.result c.feed.ensures.held
    (c.feed.ensures.whole c.requires.partial c.requires.size) in
    let on = c.in-Err.ensures.stopped at bodies
    (subst (λ b. Grouping M K at c.args.journal
    (g.O.Sink.given c.args.output.now) b bodies) (sym c.requires.none) group) in
    (on.0, (on.1.0, (subst (λ b. Cuts b on.0 on.1.0) fed on.1.1.0, on.1.1.1)))

pub returns-in-Ok-settle-clause-went : goal.returns-in-Ok-settle-clause-went
returns-in-Ok-settle-clause-went g c =
    let K = g.K.Disk in
    went_then K c.args.journal.disk c.in-Ok.journal.disk c.in-Ok-settle.settled.disk c.in-Ok.ensures.went c.in-Ok-settle.ensures.went

pub returns-in-Err-settle-clause-fault : goal.returns-in-Err-settle-clause-fault
returns-in-Err-settle-clause-fault g c =
    let K = g.K.Disk in
    stopped_later K g.O.Sink c.args.journal.disk c.in-Ok.journal.disk c.args.output.now c.answer_held.new.output c.settle.new.output
    c.in-Err-settle.stop c.in-Ok.ensures.went c.in-Ok.ensures.write_later c.in-Err-settle.ensures.fault

pub returns-in-Ok-settle-clause-room : goal.returns-in-Ok-settle-clause-room
returns-in-Ok-settle-clause-room g c = ◌∙◌ {a = c.settle.new.gathered.room} c.in-Ok-settle.ensures.room c.in-Ok.ensures.room

pub returns-in-Err-settle-clause-room : goal.returns-in-Err-settle-clause-room
returns-in-Err-settle-clause-room g c = ◌∙◌ {a = c.settle.new.gathered.room} c.in-Err-settle.ensures.room c.in-Ok.ensures.room

pub returns-in-Ok-settle-clause-write_later : goal.returns-in-Ok-settle-clause-write_later
returns-in-Ok-settle-clause-write_later g c = omega (arith, c.in-Ok-settle.ensures.write_later, c.in-Ok.ensures.write_later)

pub returns-in-Err-settle-clause-write_later : goal.returns-in-Err-settle-clause-write_later
returns-in-Err-settle-clause-write_later g c = omega (arith, c.in-Err-settle.ensures.write_later, c.in-Ok.ensures.write_later)

pub returns-in-Ok-settle-clause-kept : goal.returns-in-Ok-settle-clause-kept
returns-in-Ok-settle-clause-kept g c = ◌∙◌ {a = g.O.Sink.kept c.settle.new.output} c.in-Ok-settle.ensures.kept c.in-Ok.ensures.kept

pub returns-in-Err-settle-clause-kept : goal.returns-in-Err-settle-clause-kept
returns-in-Err-settle-clause-kept g c = ◌∙◌ {a = g.O.Sink.kept c.settle.new.output} c.in-Err-settle.ensures.kept c.in-Ok.ensures.kept
