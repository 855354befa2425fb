use Rattle.std.proofs.Common.{ap, sym, ◌∙◌}
use Rattle.join_rules.proofs.ItemTexts.{with_items, union-joined}
use Rattle.join_rules.proofs.sets.union_text.Goals as goal

pub returns : goal.returns
returns c =
    sym (ap (with_items c.loop-item.text.items) c.in-None.ensures.steps.0) ∙ sym c.loop-item.invariant
    ∙ union-joined c.args.left c.args.right c.requires.left c.requires.right
