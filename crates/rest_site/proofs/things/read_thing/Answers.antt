use Rattle.std.proofs.Common.{subst, sym, arith}
use Rattle.wire_item.specs.Fronts.{front_of_code}
use Rattle.wire_item.specs.Readings.{u8_front}
use Rattle.wire_item.proofs.Takings.{taken, untaken}
use Rattle.site_lives.specs.Things.{thing_rows, thing_front}
use Rattle.rest_site.specs.Takings.{IsRead}
use Rattle.rest_site.proofs.Taken.{coded, uncoded, code-far, read-none}
use Rattle.rest_site.proofs.things.read_thing.Goals as goal

pub returns-in_err-code : goal.returns-in_err-code
returns-in_err-code c =
    read-none (thing_front c.args.reader.now) c.from_residual.result c.u8.new.self c.from_residual.ensures
    (uncoded c.args.reader.now (untaken u8_front c.args.reader.now c.u8.new.self c.in_err-code.ensures))

pub returns-in-1 : goal.returns-in-1
returns-in-1 c =
    coded c.args.reader.now c.u8.new.self c.read_state.new.reader c.in_ok-code.code c.read_state.result
    (taken u8_front c.args.reader.now c.u8.new.self c.in_ok-code.code c.in_ok-code.ensures)
    (subst (λ k. IsRead (front_of_code k thing_rows c.u8.new.self) c.read_state.result c.read_state.new.reader) (sym c.in-1.is) c.read_state.ensures)

pub returns-in-2 : goal.returns-in-2
returns-in-2 c =
    coded c.args.reader.now c.u8.new.self c.read_promise.new.reader c.in_ok-code.code c.read_promise.result
    (taken u8_front c.args.reader.now c.u8.new.self c.in_ok-code.code c.in_ok-code.ensures)
    (subst (λ k. IsRead (front_of_code k thing_rows c.u8.new.self) c.read_promise.result c.read_promise.new.reader) (sym c.in-2.is)
    c.read_promise.ensures)

pub returns-in-3 : goal.returns-in-3
returns-in-3 c =
    coded c.args.reader.now c.u8.new.self c.read_collection.new.reader c.in_ok-code.code c.read_collection.result
    (taken u8_front c.args.reader.now c.u8.new.self c.in_ok-code.code c.in_ok-code.ensures)
    (subst (λ k. IsRead (front_of_code k thing_rows c.u8.new.self) c.read_collection.result c.read_collection.new.reader) (sym c.in-3.is)
    c.read_collection.ensures)

pub returns-in-4 : goal.returns-in-4
returns-in-4 c =
    coded c.args.reader.now c.u8.new.self c.read_life.new.reader c.in_ok-code.code c.read_life.result
    (taken u8_front c.args.reader.now c.u8.new.self c.in_ok-code.code c.in_ok-code.ensures)
    (subst (λ k. IsRead (front_of_code k thing_rows c.u8.new.self) c.read_life.result c.read_life.new.reader) (sym c.in-4.is) c.read_life.ensures)

pub returns-in-5 : goal.returns-in-5
returns-in-5 c =
    coded c.args.reader.now c.u8.new.self c.read_row.new.reader c.in_ok-code.code c.read_row.result
    (taken u8_front c.args.reader.now c.u8.new.self c.in_ok-code.code c.in_ok-code.ensures)
    (subst (λ k. IsRead (front_of_code k thing_rows c.u8.new.self) c.read_row.result c.read_row.new.reader) (sym c.in-5.is) c.read_row.ensures)

pub returns-in_default : goal.returns-in_default
returns-in_default c =
    coded c.args.reader.now c.u8.new.self c.read_part.new.reader c.in_ok-code.code c.read_part.result
    (taken u8_front c.args.reader.now c.u8.new.self c.in_ok-code.code c.in_ok-code.ensures)
    (subst (λ read. IsRead read c.read_part.result c.read_part.new.reader)
    (sym (code-far c.in_ok-code.code c.u8.new.self (λ e. omega (arith, e)) (λ e. omega (arith, e)) (λ e. omega (arith, e)) (λ e. omega (arith, e)) (λ e. omega (arith, e))))
    c.read_part.ensures)
