use Rattle.std.proofs.Common.{rules, subst, sym, ◌∙◌}
use Rattle.log_text.specs.Texts.{IsItem}
use Rattle.log_groups.proofs.Parts.{front_fits}
use Rattle.log_groups.proofs.fronts.put_front.Goals as goal

pub put_entry-requires : goal.put_entry-requires
put_entry-requires c = subst IsItem (sym (c.as_slice.ensures.value ∙ c.in-Ok.ensures)) (front_fits c.args.front.now (search rules))
