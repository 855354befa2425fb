use Rattle.std.proofs.Common.{sym, subst, arith}
use Rattle.wire_item.specs.Fronts.{front_of_code}
use Rattle.rest_site.specs.Takings.{part_rows, IsRead}
use Rattle.rest_site.proofs.Taken.{part-far}
use Rattle.rest_site.proofs.things.read_part.Goals as goal

pub returns-in-6 : goal.returns-in-6
returns-in-6 c =
    subst (λ k. IsRead (front_of_code k part_rows c.args.reader.now) c.read_told.result c.read_told.new.reader) (sym c.in-6.is) c.read_told.ensures

pub returns-in-7 : goal.returns-in-7
returns-in-7 c =
    subst (λ k. IsRead (front_of_code k part_rows c.args.reader.now) c.read_line.result c.read_line.new.reader) (sym c.in-7.is) c.read_line.ensures

pub returns-in-8 : goal.returns-in-8
returns-in-8 c =
    subst (λ k. IsRead (front_of_code k part_rows c.args.reader.now) c.read_gone.result c.read_gone.new.reader) (sym c.in-8.is) c.read_gone.ensures

pub returns-in-9 : goal.returns-in-9
returns-in-9 c =
    subst (λ k. IsRead (front_of_code k part_rows c.args.reader.now) c.read_end.result c.read_end.new.reader) (sym c.in-9.is) c.read_end.ensures

pub returns-in_default : goal.returns-in_default
returns-in_default c = part-far c.args.code c.args.reader.now (λ e. omega (arith, e)) (λ e. omega (arith, e)) (λ e. omega (arith, e)) (λ e. omega (arith, e))
