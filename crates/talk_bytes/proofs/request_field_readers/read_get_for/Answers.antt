use Rattle.tardis_base.specs.declared.requests.Request.TheVariants.{GetFor}
use Rattle.wire_item.specs.Fronts.{made, both}
use Rattle.wire_item.specs.Readings.{key_front, id_front}
use Rattle.wire_item.proofs.Fronts.{made-read}
use Rattle.wire_item.proofs.Takings.{taken, untaken, makes, makes-none, made-none, after-none, after-then_none, after-then}
use Rattle.talk_bytes.proofs.request_field_readers.read_get_for.Goals as goal

pub returns-in_err-key : goal.returns-in_err-key
returns-in_err-key c =
    let none = untaken key_front c.args.reader.now c.key.new.self c.in_err-key.ensures in
    makes-none (made (λ p. GetFor p.0 p.1) (both key_front id_front)) c.args.reader.now c.key.new.self c.from_residual.result c.from_residual.ensures
    (made-none (λ p. GetFor p.0 p.1) (both key_front id_front) c.args.reader.now (after-none key_front (λ _. id_front) c.args.reader.now none))

pub returns-in_err-state : goal.returns-in_err-state
returns-in_err-state c =
    let key = taken key_front c.args.reader.now c.key.new.self c.in_ok-key.key.now c.in_ok-key.ensures in
    let none = untaken id_front c.key.new.self c.id.new.self c.in_err-state.ensures in
    makes-none (made (λ p. GetFor p.0 p.1) (both key_front id_front)) c.args.reader.now c.id.new.self c.from_residual-in_err-state.result
    c.from_residual-in_err-state.ensures
    (made-none (λ p. GetFor p.0 p.1) (both key_front id_front) c.args.reader.now
    (after-then_none key_front (λ _. id_front) c.args.reader.now c.in_ok-key.key.now c.key.new.self key none))

pub returns : goal.returns
returns c =
    let key = taken key_front c.args.reader.now c.key.new.self c.in_ok-key.key.now c.in_ok-key.ensures in
    let state = taken id_front c.key.new.self c.id.new.self c.in_ok-state.state c.in_ok-state.ensures in
    makes (made (λ p. GetFor p.0 p.1) (both key_front id_front)) c.args.reader.now c.id.new.self c.get_for.result
    (GetFor c.in_ok-key.key.now c.in_ok-state.state)
    (made-read (λ p. GetFor p.0 p.1) (both key_front id_front) c.args.reader.now (c.in_ok-key.key.now, c.in_ok-state.state) c.id.new.self
    (after-then key_front (λ _. id_front) c.args.reader.now c.in_ok-key.key.now c.key.new.self c.in_ok-state.state c.id.new.self key state))
    c.get_for.ensures
