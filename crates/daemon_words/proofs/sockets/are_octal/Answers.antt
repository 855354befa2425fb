use Rattle.std.proofs.Common.{rules, tests, ℕ}
use Rattle.std.proofs.lemmas.Iterator.{YieldsList-from_slice}
use Rattle.std.proofs.lemmas.Iterator.Search.{all_from_yields_List}
use Rattle.tardis_base.specs.Bytes.{is_within}
use Rattle.daemon_words.proofs.sockets.are_octal.Goals as goal

pub returns : goal.returns
returns c =
    all_from_yields_List (λ (b : ℕ). is_within 48 55 b) _ _ _ c.all.ensures.ran (YieldsList-from_slice c.args.bytes.now cc) (λ x b q k. search (rules, tests))
