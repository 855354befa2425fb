use Rattle.std.proofs.Common.{rules, tests, arith}
use Rattle.std.proofs.lemmas.Iterator.Search.{all_from_yields_List}
use Rattle.std.proofs.lemmas.Iterator.Splits.{YieldsList-from_str_split}
use Rattle.rule_list.specs.RuleTexts.{is_rule}
use Rattle.rule_list.proofs.reading.are_all_rules.Goals as goal

pub returns : goal.returns
returns c =
    all_from_yields_List is_rule _ _ _ c.all.ensures.ran
    (YieldsList-from_str_split 44 c.args.text.now (omega arith) c.split.ensures.text c.split.ensures.has_more c.split.ensures.pattern)
    (λ x b q k. search (rules, tests))
