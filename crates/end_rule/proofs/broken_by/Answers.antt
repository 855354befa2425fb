use Rattle.std.proofs.Common.{inl, inr, ◌∙◌, sym, subst}
use Rattle.end_rule.proofs.Bounds.{IsUnbroken, breaks-kb, breaks-none}
use Rattle.end_rule.proofs.broken_by.Goals as goal
use Rattle.end_rule.proofs.broken_by.Goals.{else-contains-2-via-then-contains-2+else-children-k, else-contains-2-via-else-contains-2}

pub returns-then-children-k : goal.returns-then-children-k
returns-then-children-k c =
    let unbroken = subst (λ flag. IsUnbroken flag 1 c.args.children) (c.contains.ensures tt) c.else-contains.either in
    breaks-kb c.args.flags c.args.k c.args.children unbroken (sym (c.contains-2.ensures tt) ∙ c.if-contains-2.true) c.if-children-k.true

pub returns : goal.returns
returns c =
    let first = subst (λ flag. IsUnbroken flag 1 c.args.children) (c.contains.ensures tt) c.else-contains.either in
    let second : IsUnbroken c.contains-2.result c.args.k c.args.children = elim c.else-contains-2.branch [
      | else-contains-2-via-then-contains-2+else-children-k w ↦ inl (w.if-contains-2.true, w.if-children-k.false)
      | else-contains-2-via-else-contains-2 w ↦ inr w.if-contains-2.false
    ] in
    breaks-none c.args.flags c.args.k c.args.children first (subst (λ flag. IsUnbroken flag c.args.k c.args.children) (c.contains-2.ensures tt) second)
