use Rattle.std.proofs.Common.{◌≡◌, None, Some, IfOk, refl, sym, ap, subst, ◌∙◌}
use Rattle.std.specs.Str.{is_utf8}
use Rattle.std.proofs.lemmas.Bool.{cond-true, cond-false, false_from_ne_true}
use Rattle.std.proofs.lemmas.Str.{is_utf8-from_IsUtf8, IsUtf8-from_is_utf8}
use Rattle.rule_list.specs.RuleTexts.{rules_of}
use Rattle.join_rules.specs.Joins.{rules_in}
use Rattle.join_rules.proofs.joins.rules_in.Goals as goal

pub returns-in-Ok-clause-rules : goal.returns-in-Ok-clause-rules
returns-in-Ok-clause-rules c =
    let t = c.args.text.now in
    let cases = c.in-Ok.ensures.cases in
    let same : rules_in t ≡ rules_of c.in-Ok.text.now = cond-true (is_utf8 t) (rules_of t) None (is_utf8-from_IsUtf8 t cases.1) ∙ ap rules_of (sym cases.0) in
    subst (λ o. IfOk c.read_rules.result (λ rules. o ≡ Some rules)) (sym same) c.read_rules.ensures.rules

pub returns-in-Ok-clause-form : goal.returns-in-Ok-clause-form
returns-in-Ok-clause-form c =
    let t = c.args.text.now in
    let cases = c.in-Ok.ensures.cases in
    let same : rules_in t ≡ rules_of c.in-Ok.text.now = cond-true (is_utf8 t) (rules_of t) None (is_utf8-from_IsUtf8 t cases.1) ∙ ap rules_of (sym cases.0) in
    ((λ e. same ∙ c.read_rules.ensures.form.0 e), (λ e. c.read_rules.ensures.form.1 (sym same ∙ e)))

pub returns-in-Err-clause-form : goal.returns-in-Err-clause-form
returns-in-Err-clause-form c =
    let t = c.args.text.now in
    let none = cond-false (is_utf8 t) (rules_of t) None
    (false_from_ne_true (is_utf8 t) (λ u. c.in-Err.ensures.cases.0 (IsUtf8-from_is_utf8 t u))) in
    ((λ e. none), (λ e. refl))
