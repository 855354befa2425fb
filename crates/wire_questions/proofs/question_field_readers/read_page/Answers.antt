use Rattle.std.proofs.Common.{ℕ, List}
use Rattle.tardis_base.specs.declared.ids.StateId.{StateId}
use Rattle.wire_item.specs.Fronts.{made, both}
use Rattle.wire_item.specs.Readings.{id_front}
use Rattle.wire_item.proofs.Fronts.{made-read}
use Rattle.wire_item.proofs.Takings.{taken, untaken, makes, makes-none, made-none, after-none, after-then_none, after-then}
use Rattle.wire_talk.specs.RequestReadings.{after_front}
use Rattle.plain_questions.specs.Readings.{page_front}
use Rattle.wire_questions.specs.Pages.{page_question}
use Rattle.wire_questions.proofs.question_field_readers.read_page.Goals as goal

pub returns-in_err-state : goal.returns-in_err-state
returns-in_err-state c =
    let none = untaken id_front c.args.reader.now c.id.new.self c.in_err-state.ensures in
    makes-none (made (page_question c.args.with_values) page_front) c.args.reader.now c.id.new.self c.from_residual.result c.from_residual.ensures
    (made-none (page_question c.args.with_values) page_front c.args.reader.now
    (after-none (both id_front after_front) (λ _. after_front) c.args.reader.now
    (after-none id_front (λ _. after_front) c.args.reader.now none)))

pub returns-in_err-prefix : goal.returns-in_err-prefix
returns-in_err-prefix c =
    let state = taken id_front c.args.reader.now c.id.new.self c.in_ok-state.state c.in_ok-state.ensures in
    let none = untaken after_front c.id.new.self c.read_after.new.reader c.in_err-prefix.ensures in
    makes-none (made (page_question c.args.with_values) page_front) c.args.reader.now c.read_after.new.reader c.from_residual-in_err-prefix.result
    c.from_residual-in_err-prefix.ensures
    (made-none (page_question c.args.with_values) page_front c.args.reader.now
    (after-none (both id_front after_front) (λ _. after_front) c.args.reader.now
    (after-then_none id_front (λ _. after_front) c.args.reader.now c.in_ok-state.state c.id.new.self state none)))

pub returns-in_err-after : goal.returns-in_err-after
returns-in_err-after c =
    let state = taken id_front c.args.reader.now c.id.new.self c.in_ok-state.state c.in_ok-state.ensures in
    let prefix = taken after_front c.id.new.self c.read_after.new.reader c.in_ok-prefix.prefix.now c.in_ok-prefix.ensures in
    let none = untaken after_front c.read_after.new.reader c.read_after-2.new.reader c.in_err-after.ensures in
    makes-none (made (page_question c.args.with_values) page_front) c.args.reader.now c.read_after-2.new.reader c.from_residual-in_err-after.result
    c.from_residual-in_err-after.ensures
    (made-none (page_question c.args.with_values) page_front c.args.reader.now
    (after-then_none (both id_front after_front) (λ _. after_front) c.args.reader.now (c.in_ok-state.state, c.in_ok-prefix.prefix.now)
    c.read_after.new.reader
    (after-then id_front (λ _. after_front) c.args.reader.now c.in_ok-state.state c.id.new.self c.in_ok-prefix.prefix.now c.read_after.new.reader state prefix)
    none))

pub returns : goal.returns
returns c =
    let state = taken id_front c.args.reader.now c.id.new.self c.in_ok-state.state c.in_ok-state.ensures in
    let prefix = taken after_front c.id.new.self c.read_after.new.reader c.in_ok-prefix.prefix.now c.in_ok-prefix.ensures in
    let after = taken after_front c.read_after.new.reader c.read_after-2.new.reader c.in_ok-after.after.now c.in_ok-after.ensures in
    let page : (StateId × List ℕ) × List ℕ = ((c.in_ok-state.state, c.in_ok-prefix.prefix.now), c.in_ok-after.after.now) in
    makes (made (page_question c.args.with_values) page_front) c.args.reader.now c.read_after-2.new.reader c.page.result
    (page_question c.args.with_values page)
    (made-read (page_question c.args.with_values) page_front c.args.reader.now page c.read_after-2.new.reader
    (after-then (both id_front after_front) (λ _. after_front) c.args.reader.now (c.in_ok-state.state, c.in_ok-prefix.prefix.now) c.read_after.new.reader
    c.in_ok-after.after.now c.read_after-2.new.reader
    (after-then id_front (λ _. after_front) c.args.reader.now c.in_ok-state.state c.id.new.self c.in_ok-prefix.prefix.now c.read_after.new.reader state prefix)
    after))
    c.page.ensures
