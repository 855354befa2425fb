use Rattle.std.proofs.Common.{ℕ}
use Rattle.tardis_base.specs.declared.ids.StateId.{StateId}
use Rattle.site_checkpoint.specs.declared.ends.ToldFloor.{ToldFloor}
use Rattle.wire_item.specs.Fronts.{both}
use Rattle.wire_item.specs.Readings.{id_front, u32_front}
use Rattle.wire_item.proofs.Fronts.{made-read}
use Rattle.wire_item.proofs.Takings.{taken, untaken, takes, takes-none, made-none, after-none, after-then_none, after-then}
use Rattle.rest_site.specs.Takings.{told_floor_front}
use Rattle.rest_site.proofs.floors.read_floor.Goals as goal

abbrev of-parts : (StateId × ℕ) × ℕ → ToldFloor
of-parts p = record { state = p.0.0; number = p.0.1; stated = p.1 }

pub returns-in_err-state : goal.returns-in_err-state
returns-in_err-state c =
    let old = c.args.reader.now in
    takes-none told_floor_front old c.id.new.self c.from_residual.result c.from_residual.ensures
    (made-none of-parts (both (both id_front u32_front) u32_front) old
    (after-none (both id_front u32_front) (λ _. u32_front) old
    (after-none id_front (λ _. u32_front) old (untaken id_front old c.id.new.self c.in_err-state.ensures))))

pub returns-in_err-number : goal.returns-in_err-number
returns-in_err-number c =
    let old = c.args.reader.now in
    let first = c.id.new.self in
    let state = taken id_front old first c.in_ok-state.state c.in_ok-state.ensures in
    takes-none told_floor_front old c.u32.new.self c.from_residual-in_err-number.result c.from_residual-in_err-number.ensures
    (made-none of-parts (both (both id_front u32_front) u32_front) old
    (after-none (both id_front u32_front) (λ _. u32_front) old
    (after-then_none id_front (λ _. u32_front) old c.in_ok-state.state first state (untaken u32_front first c.u32.new.self c.in_err-number.ensures))))

pub returns-in_err-stated : goal.returns-in_err-stated
returns-in_err-stated c =
    let old = c.args.reader.now in
    let first = c.id.new.self in
    let second = c.u32.new.self in
    let third = c.u32-2.new.self in
    let state = taken id_front old first c.in_ok-state.state c.in_ok-state.ensures in
    let number = taken u32_front first second c.in_ok-number.number c.in_ok-number.ensures in
    takes-none told_floor_front old third c.from_residual-in_err-stated.result c.from_residual-in_err-stated.ensures
    (made-none of-parts (both (both id_front u32_front) u32_front) old
    (after-then_none (both id_front u32_front) (λ _. u32_front) old (c.in_ok-state.state, c.in_ok-number.number) second
    (after-then id_front (λ _. u32_front) old c.in_ok-state.state first c.in_ok-number.number second state number)
    (untaken u32_front second third c.in_err-stated.ensures)))

pub returns : goal.returns
returns c =
    let old = c.args.reader.now in
    let first = c.id.new.self in
    let second = c.u32.new.self in
    let third = c.u32-2.new.self in
    let x = c.in_ok-state.state in
    let n = c.in_ok-number.number in
    let m = c.in_ok-stated.stated in
    let state = taken id_front old first x c.in_ok-state.ensures in
    let number = taken u32_front first second n c.in_ok-number.ensures in
    let stated = taken u32_front second third m c.in_ok-stated.ensures in
    takes told_floor_front old third (of-parts ((x, n), m))
    (made-read of-parts (both (both id_front u32_front) u32_front) old ((x, n), m) third
    (after-then (both id_front u32_front) (λ _. u32_front) old (x, n) second m third
    (after-then id_front (λ _. u32_front) old x first n second state number) stated))
