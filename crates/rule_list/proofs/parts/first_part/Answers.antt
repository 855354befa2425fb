use Rattle.std.proofs.Common.{arith}
use Rattle.rule_list.proofs.Cuts.{first_of_parts, only_part}
use Rattle.rule_list.proofs.parts.first_part.Goals as goal

pub returns-in-Some : goal.returns-in-Some
returns-in-Some c =
    let cut = c.in-Some.ensures.byte (omega arith) (λ w o found. found) in
    first_of_parts c.args.text.now c.in-Some.part.now c.in-Some.rest.now cut.0 cut.1 cut.2

pub returns-in-None : goal.returns-in-None
returns-in-None c = only_part c.args.text.now (c.in-None.ensures.byte (omega arith) (λ w o found. found))
