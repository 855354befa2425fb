use Rattle.std.proofs.Common.{◌++◌, ◌∷◌, [], Some, None, ap, sym, ◌∙◌, if◌then◌else◌, eq-eqb, ne_eqb}
use Rattle.text_words.specs.Texts.{until}
use Rattle.text_words.proofs.LineWords.{until-at, until-none}
use Rattle.text_words.proofs.words.Words.until.Goals as goal

pub returns-in-Some : goal.returns-in-Some
returns-in-Some c =
    until-at c.args.end c.in-Some.place c.self.inside.left.now c.in-Some.ensures.0.high c.in-Some.ensures.0.before c.in-Some.ensures.1
    ∙ ap (until c.args.end) (ap (λ t. if t then [] else c.self.inside.left.now ++ 32 ∷ []) (sym c.if-self.false) ∙ c.self.view_is)

pub returns-then-end-eq32 : goal.returns-then-end-eq32
returns-then-end-eq32 c =
    sym (until-none c.args.end c.self.inside.left.now c.in-None.ensures
    ∙ ap (λ t. if t then Some (c.self.inside.left.now, []) else None) (eq-eqb 32 c.args.end (sym c.if-end-eq32.true)))
    ∙ ap (until c.args.end) (ap (λ t. if t then [] else c.self.inside.left.now ++ 32 ∷ []) (sym c.if-self.false) ∙ c.self.view_is)

pub returns-else-end-eq32 : goal.returns-else-end-eq32
returns-else-end-eq32 c =
    sym (until-none c.args.end c.self.inside.left.now c.in-None.ensures
    ∙ ap (λ t. if t then Some (c.self.inside.left.now, []) else None) (ne_eqb 32 c.args.end (λ e. c.if-end-eq32.false (sym e))))
    ∙ ap (until c.args.end) (ap (λ t. if t then [] else c.self.inside.left.now ++ 32 ∷ []) (sym c.if-self.false) ∙ c.self.view_is)
