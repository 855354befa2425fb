use Rattle.std.proofs.Common.{drop, sym, ap, ◌∙◌, subst}
use Rattle.std.proofs.lemmas.Bool.{true≢false}
use Rattle.log_text.specs.Fronts.{IsNext}
use Rattle.log_groups.specs.Items.{group}
use Rattle.log_groups.proofs.Parts.{same_entry}
use Rattle.log_groups.proofs.Steps.{not_group}
use Rattle.log_groups.proofs.readers.read_group.Goals as goal

pub returns-else-is_group : goal.returns-else-is_group
returns-else-is_group c =
    let item = c.read_entry.new.out.items in
    let found = subst (IsNext c.args.bytes.now item) c.in-Ok-Some.field-0-is c.in-Ok-Some.ensures.next in
    let value = c.as_slice.ensures.value in record {
      next = not_group (same_entry c.log_laws.ensures.one c.log_laws.ensures.some) c.args.life.now c.args.number c.args.bytes.now item c.in-Ok-Some.size found
          (λ e. true≢false (sym (c.is_group.ensures.1 (value ∙ (e ∙ ap (λ l. group c.args.life.now c.args.number (drop 16 l)) (sym value)))) ∙ c.if-is_group.false));
    }

pub returns-in-Ok-None : goal.returns-in-Ok-None
returns-in-Ok-None c = record { next = c.ending_of.ensures c.args.life.now c.args.number }
