-- Auto lines are read back.
use Rattle.std.proofs.Common.{◌≡◌, ℕ, Bool, true, false, ◌&&◌, [], ◌∷◌, ◌++◌, codes, refl}
use Rattle.tardis_base.specs.Valid.{is_u16}
use Rattle.wire_item.specs.Fronts.{nothing_but}
use Rattle.text_words.specs.Words.{number_word}
use Rattle.text_words.proofs.WordsRead.{reads-u16-word}
use Rattle.text_words.proofs.TextReads.{ReadsAll, RowsReadAll, all-both, all-made, by_prefix-row, row-all-nothing_but, line-ended, one_line}
use Rattle.auto_run.specs.AutoLines.{auto_line, auto_word, auto_text, AutoLinesHaveOneReading}

reads-word : ReadsAll {A = Unit {0}} (λ _. true) (λ _. codes "auto ") auto_word
reads-word = record {
  back = λ a h. refl;
  only = by_prefix-row (λ _. true) (λ _. codes "auto ") [] ((codes "auto ", nothing_but tt) ∷ []) rows;
}
  where
    rows : RowsReadAll {A = Unit {0}} (λ _. true) (λ _. codes "auto ") [] ((codes "auto ", nothing_but tt) ∷ [])
    rows = (row-all-nothing_but (λ _. true) (λ _. codes "auto ") (codes "auto ") tt refl refl, tt)

and-true : (b : Bool) → b ≡ (b && true)
and-true true = refl
and-true false = refl

reads-auto : ReadsAll is_u16 (λ n. (number_word n ++ 32 ∷ []) ++ codes "auto ") auto_text
reads-auto =
    all-made {A = ℕ × Unit {0}} (λ p. p.0) (λ n. (n, tt)) is_u16 (λ n. (number_word n ++ 32 ∷ []) ++ codes "auto ") (λ n h. refl)
    (λ p. and-true (is_u16 p.0)) (λ p. refl)
    (all-both reads-u16-word reads-word)

pub auto-lines : AutoLinesHaveOneReading
auto-lines = one_line auto_line (λ n. (number_word n ++ 32 ∷ []) ++ codes "auto ") reads-auto (λ n. line-ended (number_word n) (codes "auto" ∷ []))
