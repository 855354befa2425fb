use Rattle.durable_run.proofs.pieces.answer_frame.Goals as goal

pub answer_body-requires-clause-group : goal.answer_body-requires-clause-group
answer_body-requires-clause-group g c =
    let group = c.requires.group in
    (group.0, (g.O.Sink.given c.make_room.new.output, (group.1.0, c.in-Ok.ensures.grouped group.0 group.1.0 group.1.1)))
