-- The first part of a text.
use Rattle.std.proofs.Common.{◌≡◌, ◌<◌, ℕ, ◌==◌, List, [], ◌∷◌, length, arith}
use Rattle.std.specs.List.{position_or_len, before_first, after_first}
use Rattle.std.proofs.lemmas.List.Splits.{slice_split_first, slice_split_none}
use Rattle.std.proofs.lemmas.List.Sums.{fails_before_first}
use Rattle.rule_list.specs.RuleTexts.{parts}

pub first_of_parts : (text part rest : List ℕ) → part ≡ before_first (λ b. b == 44) text → rest ≡ after_first (λ b. b == 44) text
    → position_or_len (λ b. b == 44) text < length text → parts text ≡ part ∷ parts rest
first_of_parts text part rest before after some = rw before (rw after (slice_split_first (λ (b : ℕ). b == 44) text 0 some))

pub only_part : (text : List ℕ) → position_or_len (λ b. b == 44) text ≡ length text → parts text ≡ text ∷ []
only_part text all = slice_split_none (λ (b : ℕ). b == 44) text (λ k d below. fails_before_first (λ (b : ℕ). b == 44) text k d (omega (arith, all, below)))
