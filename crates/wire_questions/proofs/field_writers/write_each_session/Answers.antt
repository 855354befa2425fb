use Rattle.std.proofs.Common.{◌+◌, ◌≤◌, IsTrue, length, sym, subst}
use Rattle.std.specs.Prelude.{flat_map}
use Rattle.std.specs.List.{list_all}
use Rattle.tardis_base.specs.Sizes.{longest_frame}
use Rattle.plain_questions.specs.Spellings.{session_spelling}
use Rattle.plain_questions.specs.Valid.{is_session}
use Rattle.wire_item.proofs.Written.{each-room, each-valid, each-next}
use Rattle.wire_questions.proofs.field_writers.write_each_session.Goals as goal

pub write_session-requires-clause-valid : goal.write_session-requires-clause-valid
write_session-requires-clause-valid c =
    let items = c.as_slice-line-items.result.now in
    let item = c.line-item.result in
    let all = subst (λ xs. IsTrue (list_all is_session xs)) (sym c.as_slice-line-items.ensures) c.requires.valid in
    each-valid is_session items c.loop-line.line-index item item c.loop-line-test.true c.line-item.is all

pub write_session-requires-clause-fits : goal.write_session-requires-clause-fits
write_session-requires-clause-fits c =
    let items = c.as_slice-line-items.result.now in
    let item = c.line-item.result in
    let room = subst (λ xs. length c.args.out.now + length (flat_map session_spelling xs) ≤ longest_frame) (sym c.as_slice-line-items.ensures) c.requires.fits in
    each-room session_spelling items c.loop-line.line-index item item c.args.out.now c.loop-line.out c.loop-line-test.true c.loop-line.invariant c.line-item.is room

pub loop-line-preserved : goal.loop-line-preserved
loop-line-preserved c =
    let items = c.as_slice-line-items.result.now in
    let item = c.line-item.result in
    each-next session_spelling items c.loop-line.line-index item item c.args.out.now c.loop-line.out c.write_session.new.out c.loop-line-test.true
    c.loop-line.invariant c.line-item.is c.write_session.ensures
