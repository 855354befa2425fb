use Rattle.std.proofs.Common.{ap, sym, ◌∙◌}
use Rattle.std.specs.Option.{option_copied}
use Rattle.join_rules.specs.Parts.{parts_left}
use Rattle.join_rules.proofs.Partings.{parts-at, parts-none}
use Rattle.join_rules.proofs.parts.Parts.split_first.Goals as goal

pub returns-in-Some : goal.returns-in-Some
returns-in-Some c =
    sym c.self.view_is ∙ ap (λ o. parts_left (option_copied o)) c.in_ok-left.was
    ∙ parts-at c.in-Some.place c.in_ok-left.left.now c.in-Some.ensures.0.high c.in-Some.ensures.0.before c.in-Some.ensures.1

pub returns-in-None : goal.returns-in-None
returns-in-None c =
    sym c.self.view_is ∙ ap (λ o. parts_left (option_copied o)) c.in_ok-left.was ∙ parts-none c.in_ok-left.left.now c.in-None.ensures
