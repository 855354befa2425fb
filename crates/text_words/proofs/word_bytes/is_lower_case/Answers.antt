use Rattle.std.proofs.Common.{rules, tests, ℕ, not}
use Rattle.std.proofs.lemmas.Iterator.{YieldsList-from_slice}
use Rattle.std.proofs.lemmas.Iterator.Search.{all_from_yields_List}
use Rattle.tardis_base.specs.Valid.{is_within}
use Rattle.text_words.proofs.word_bytes.is_lower_case.Goals as goal

pub returns : goal.returns
returns c =
    all_from_yields_List (λ (b : ℕ). not (is_within 65 70 b)) _ _ _ c.all.ensures.ran (YieldsList-from_slice c.args.word.now cc)
    (λ x b q k. search (rules, tests))
