-- Cuts that are joined.
use Rattle.std.proofs.Common.{◌≡◌, ℕ, List, [], ◌∷◌, ◌++◌, refl, sym, ap, ◌∙◌, append_assoc}
use Rattle.std.specs.List.{AllByRecursion}
use Rattle.line_cut.specs.Lines.{ended, texts, IsLine, Cuts}

-- the texts of two lists of lines
pub texts-append : (lines others : List (List ℕ)) → texts (lines ++ others) ≡ texts lines ++ texts others
texts-append [] others = refl
texts-append (line ∷ lines) others =
    ap (λ z. ended line ++ z) (texts-append lines others) ∙ sym (append_assoc (ended line) (texts lines) (texts others))

pub all_lines : (lines others : List (List ℕ)) → AllByRecursion IsLine lines → AllByRecursion IsLine others → AllByRecursion IsLine (lines ++ others)
all_lines [] others p q = q
all_lines (line ∷ lines) others p q = (p.0, all_lines lines others p.1 q)

-- more bytes come behind the rest
pub more_bytes : (bytes more : List ℕ) (lines : List (List ℕ)) (rest : List ℕ) → Cuts bytes lines rest → Cuts (bytes ++ more) lines (rest ++ more)
more_bytes bytes more lines rest c = record {
  whole = ap (λ z. z ++ more) c.whole ∙ append_assoc (texts lines) rest more;
  each = c.each;
}

-- more lines are cut from the rest
pub more_lines : (bytes : List ℕ) (lines others : List (List ℕ)) (rest left : List ℕ) → Cuts bytes lines rest → Cuts rest others left →
    Cuts bytes (lines ++ others) left
more_lines bytes lines others rest left c d = record {
  whole = c.whole ∙ (ap (λ z. texts lines ++ z) d.whole ∙ (sym (append_assoc (texts lines) (texts others) left)
      ∙ ap (λ z. z ++ left) (sym (texts-append lines others))));
  each = all_lines lines others c.each d.each;
}
