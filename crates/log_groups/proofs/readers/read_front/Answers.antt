use Rattle.std.proofs.Common.{subst}
use Rattle.log_text.specs.Fronts.{IsNext}
use Rattle.std.proofs.Common.{Some, sym}
use Rattle.log_groups.proofs.Steps.{first_of}
use Rattle.log_groups.proofs.readers.read_front.Goals as goal

pub returns-in-Ok-Some : goal.returns-in-Ok-Some
returns-in-Ok-Some c =
    let found = subst (IsNext c.args.bytes.now c.read_entry.new.out.items) c.in-Ok-Some.field-0-is c.in-Ok-Some.ensures.next in record {
      first = first_of c.args.bytes.now c.as_slice.result.now c.in-Ok-Some.size c.first_item.result
          (subst (λ l. IsNext c.args.bytes.now l (Some c.in-Ok-Some.size)) (sym c.as_slice.ensures.value) found) c.first_item.ensures;
    }
