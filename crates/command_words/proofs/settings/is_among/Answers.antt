use Rattle.std.proofs.Common.{rules, tests, ℕ, List, ◌∙◌, sym}
use Rattle.std.specs.Prelude.{bytes_eq}
use denote.Ref.{Bor}
use Rattle.command_words.proofs.Lists.{list_any-map}
use Rattle.std.proofs.lemmas.Iterator.{YieldsList-from_slice}
use Rattle.std.proofs.lemmas.Iterator.Search.{any_from_yields_List}
use Rattle.command_words.proofs.settings.is_among.Goals as goal

pub returns : goal.returns
returns c =
    any_from_yields_List (λ (name : Bor (List ℕ)). bytes_eq c.args.word.now name.now) _ _ _ c.any.ensures.ran (YieldsList-from_slice c.args.names.now cc)
    (λ x b q k. search (rules, tests))
    ∙ sym (list_any-map (bytes_eq c.args.word.now) (λ (n : Bor (List ℕ)). n.now) c.args.names.now)
