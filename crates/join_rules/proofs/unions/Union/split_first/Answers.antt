use Rattle.std.proofs.Common.{sym, ◌∙◌, ◌≡◌, ℕ, List, [], ◌∷◌, subst}
use Rattle.std.specs.Prelude.{MatchOption}
use Rattle.join_rules.proofs.UnionLaws.{first-less, first-same, first-more, first-alone}
use Rattle.join_rules.proofs.unions.Union.split_first.Goals as goal

pub returns-in_default-split_first : goal.returns-in_default-split_first
returns-in_default-split_first c =
    subst (λ (z : List (List ℕ)). MatchOption c.alone-in_default-split_first.result (z ≡ []) (λ split. z ≡ split.0.now ∷ split.1))
    (sym (first-alone c.self.inside.left c.self.inside.right c.self.invariant.0 c.in_default-split_first.ensures) ∙ c.self.view_is)
    c.alone-in_default-split_first.ensures

pub returns-in-Less : goal.returns-in-Less
returns-in-Less c =
    sym c.self.view_is
    ∙ first-less c.self.inside.left c.self.inside.right c.in-Some.left c.in-Some-split_first.right c.again.result c.in-Some.a.now
    c.in-Some-split_first.b.now c.self.invariant.0 c.self.invariant.1 c.in-Some.ensures c.in-Some-split_first.ensures
    c.again.ensures (sym c.cmp.ensures ∙ c.in-Less.is)

pub returns-in-Equal : goal.returns-in-Equal
returns-in-Equal c =
    sym c.self.view_is
    ∙ first-same c.self.inside.left c.self.inside.right c.in-Some.left c.in-Some-split_first.right c.in-Some.a.now c.in-Some-split_first.b.now
    c.self.invariant.0 c.in-Some.ensures c.in-Some-split_first.ensures
    (sym c.cmp.ensures ∙ c.in-Equal.is)

pub returns-in-Greater : goal.returns-in-Greater
returns-in-Greater c =
    sym c.self.view_is
    ∙ first-more c.self.inside.left c.self.inside.right c.in-Some.left c.in-Some-split_first.right c.again-in-Greater.result c.in-Some.a.now
    c.in-Some-split_first.b.now c.self.invariant.0 c.in-Some.ensures c.in-Some-split_first.ensures
    c.again-in-Greater.ensures (sym c.cmp.ensures ∙ c.in-Greater.is)
