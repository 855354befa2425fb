-- Journal texts and what stands in them.
use Rattle.std.proofs.Common.{◌≡◌, ◌≢◌, ◌⊎◌, inr, ℕ, ◌+◌, ◌<◌, ◌≤◌, List, [], ◌∷◌, ◌++◌, length, refl, sym, ap, ◌∙◌, arith, append_assoc}
use Rattle.std.proofs.Common.{length-append}
use Rattle.std.specs.List.{AllByRecursion}
use Rattle.frame_cut.specs.Frames.{frame}
use Rattle.frame_cut.proofs.Words.{length-frame}
use Rattle.site_journal.specs.Texts.{IsEntry, marked, journal_text, EndsAt}

pub marked-append : (entries others : List (List ℕ)) → marked (entries ++ others) ≡ marked entries ++ marked others
marked-append [] others = refl
marked-append (entry ∷ entries) others = ap (λ z. 1 ∷ z) (ap (λ z. frame entry ++ z) (marked-append entries others)
    ∙ sym (append_assoc (frame entry) (marked entries) (marked others)))

-- the text of more entries is behind the entries
pub text_more : (entries others : List (List ℕ)) → marked entries ++ journal_text others ≡ journal_text (entries ++ others)
text_more entries others = sym (append_assoc (marked entries) (marked others) (0 ∷ [])) ∙ ap (λ z. z ++ 0 ∷ []) (sym (marked-append entries others))

pub all_more : (entries others : List (List ℕ)) → AllByRecursion IsEntry entries → AllByRecursion IsEntry others → AllByRecursion IsEntry (entries ++ others)
all_more [] others p q = q
all_more (entry ∷ entries) others p q = (p.0, all_more entries others p.1 q)

length_marked_more : (entry : List ℕ) (entries : List (List ℕ)) → length (marked (entry ∷ entries)) ≡ 5 + length entry + length (marked entries)
length_marked_more entry entries = omega (arith, length-append (frame entry) (marked entries), length-frame entry)

pub length_one_more : (entries : List (List ℕ)) (entry : List ℕ) → length (marked (entries ++ entry ∷ [])) ≡ length (marked entries) + 5 + length entry
length_one_more entries entry =
    let one = length_marked_more entry [] in
    omega (arith, ap length (marked-append entries (entry ∷ [])), length-append (marked entries) (marked (entry ∷ [])), one)

-- a rest that doesn't begin with 1 is no entry
pub not_one : (gate : ℕ) (tail entry more : List ℕ) → gate ≢ 1 → gate ∷ tail ≡ 1 ∷ (frame entry ++ more) → more ≡ []
not_one gate tail entry more shut is = let one : gate ≡ 1 = cc in absurd (shut one)

pub closed : (entries : List (List ℕ)) (gate : ℕ) (tail : List ℕ) → AllByRecursion IsEntry entries → gate ≢ 1 →
    EndsAt (marked entries ++ gate ∷ tail) entries (gate ∷ tail)
closed entries gate tail all shut = record {
  whole = refl;
  each = all;
  behind = inr (omega arith);
  ends = λ entry more is fits. not_one gate tail entry more shut is;
}

-- nor is a rest of one byte
pub short : (entries : List (List ℕ)) (rest : List ℕ) → AllByRecursion IsEntry entries → (entries ≡ []) ⊎ (0 < length rest) → length rest ≤ 1 →
    EndsAt (marked entries ++ rest) entries rest
short entries rest all behind few = record {
  whole = refl;
  each = all;
  behind = behind;
  ends = λ entry more is fits. absurd (too_long entry more is);
}
  where
    too_long : (entry more : List ℕ) → rest ≡ 1 ∷ (frame entry ++ more) → ⊥
    too_long entry more is = omega (arith, ap length is, length-append (frame entry) more, length-frame entry, few)

pub text_is_read : (entries : List (List ℕ)) → AllByRecursion IsEntry entries → EndsAt (journal_text entries) entries (0 ∷ [])
text_is_read entries all = closed entries 0 [] all (λ is. absurd (omega (arith, is)))
