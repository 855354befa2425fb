-- All bytes have one cut.
use Rattle.std.proofs.Common.{◌≡◌, ◌≢◌, ℕ, ◌+◌, ◌<◌, ◌≤◌, List, [], ◌∷◌, ◌++◌, length, take, drop, get_or, refl, sym, ap, ◌∙◌, subst, ◌⊎◌, inl, inr}
use Rattle.std.proofs.Common.{arith, append_assoc}
use Rattle.std.specs.List.{AllByRecursion}
use Rattle.std.proofs.lemmas.Bool.{cases_lt, cases_eq}
use Rattle.std.proofs.lemmas.List.{length-drop, length-take-le}
use Rattle.line_cut.specs.Lines.{HasNoFeed, ended, texts, IsLine, IsEnd, IsCut}
use Rattle.line_cut.proofs.Parts.{not_end, same_line, at_feed, front_free}

-- two cuts of the same bytes are one
pub one : (bytes : List ℕ) (lines others : List (List ℕ)) (rest left : List ℕ) → bytes ≡ texts lines ++ rest → AllByRecursion IsLine lines → IsEnd rest →
    bytes ≡ texts others ++ left → AllByRecursion IsLine others → IsEnd left → (lines ≡ others) × (rest ≡ left)
one bytes [] [] rest left p a e q b f = (refl, sym p ∙ q)
one bytes [] (other ∷ others) rest left p a e q b f =
    absurd (not_end other (texts others ++ left) b.0 (subst IsEnd (sym p ∙ (q ∙ append_assoc (ended other) (texts others) left)) e))
one bytes (line ∷ lines) [] rest left p a e q b f =
    absurd (not_end line (texts lines ++ rest) a.0 (subst IsEnd (sym q ∙ (p ∙ append_assoc (ended line) (texts lines) rest)) f))
one bytes (line ∷ lines) (other ∷ others) rest left p a e q b f =
    let same : ended line ++ (texts lines ++ rest) ≡ ended other ++ (texts others ++ left) = sym (append_assoc (ended line) (texts lines) rest)
    ∙ (sym p ∙ (q ∙ append_assoc (ended other) (texts others) left)) in
    let first = same_line line other (texts lines ++ rest) (texts others ++ left) a.0.0 b.0.0 same in
    let more = one (texts lines ++ rest) lines others rest left refl a.1 e first.1 b.1 f in
    (λ i. first.0 i ∷ more.0 i, more.1)

-- a line in front of a cut
front_cut : (bytes line rest : List ℕ) → bytes ≡ ended line ++ rest → IsLine line → (lines : List (List ℕ)) (left : List ℕ) → IsCut rest lines left →
    IsCut bytes (line ∷ lines) left
front_cut bytes line rest is fits lines left c = record {
  cuts = record {
    whole = is ∙ (ap (λ z. ended line ++ z) c.cuts.whole ∙ sym (append_assoc (ended line) (texts lines) left));
    each = (fits, c.cuts.each);
  };
  ends = c.ends;
}

-- the first line feed, if there is one
abbrev First : List ℕ → Type 0
First bytes = HasNoFeed bytes ⊎ ((k : ℕ) × ((k < length bytes) × (get_or bytes k 0 ≡ 10) × ((place : ℕ) → place < k → get_or bytes place 0 ≢ 10)))

not_below : (place : ℕ) → place < 0 → ⊥
not_below place below = omega (arith, below)

free_more : (b : ℕ) (bs : List ℕ) → (b ≡ 10 → ⊥) → HasNoFeed bs → HasNoFeed (b ∷ bs)
free_more b bs other free ℕ.zero below = other
free_more b bs other free (ℕ.suc place) below = free place (omega (arith, below))

none_more : (b : ℕ) (bs : List ℕ) (k : ℕ) → (b ≡ 10 → ⊥) → ((place : ℕ) → place < k → get_or bs place 0 ≢ 10) → (place : ℕ) → place < k + 1 →
    get_or (b ∷ bs) place 0 ≢ 10
none_more b bs k other none ℕ.zero below = other
none_more b bs k other none (ℕ.suc place) below = none place (omega (arith, below))

first_feed : (bytes : List ℕ) → First bytes
first_feed [] = inl (λ place below. absurd (omega (arith, below)))
first_feed (b ∷ bs) = elim (cases_eq b 10) [
  | inl is ↦ inr (0, (omega arith, is, λ place below. absurd (not_below place below)))
  | inr other ↦ elim (first_feed bs) [
    | inl free ↦ inl (free_more b bs other free)
    | inr at ↦ inr (ℕ.suc at.0, (omega (arith, at.1.0), at.1.1, λ place below. none_more b bs at.0 other at.1.2 place (omega (arith, below))))
  ]
]

-- what is left of the bytes is less than before
pub cut_within : (fuel : ℕ) (bytes : List ℕ) → length bytes ≤ fuel → (lines : List (List ℕ)) × ((rest : List ℕ) × IsCut bytes lines rest)
cut_within ℕ.zero bytes within = (
  [],
  (
    bytes,
    record {
      cuts = record { whole = refl; each = tt };
      ends =
          inl (λ place below. absurd (omega (arith, below, within)), omega (arith, within));
    },
  ),
)
cut_within (ℕ.suc fuel) bytes within =
    elim (first_feed bytes) [
      | inl free ↦ elim (cases_lt 1048576 (length bytes)) [
        | inl above ↦
            ([], (bytes, record { cuts = record { whole = refl; each = tt }; ends = inr (above, λ place within. free place (omega (arith, within, above))) }))
        | inr fits ↦ ([], (bytes, record { cuts = record { whole = refl; each = tt }; ends = inl (free, fits) }))
      ]
      | inr at ↦ elim (cases_lt 1048576 at.0) [
        | inl above ↦ (
          [],
          (
            bytes,
            record {
              cuts = record { whole = refl; each = tt };
              ends =
                  inr (omega (arith, above, at.1.0), λ place within. at.1.2 place (omega (arith, within, above)));
            },
          ),
        )
        | inr fits ↦
            let k : ℕ = at.0 in
            let count : length (take k bytes) ≡ k = length-take-le k bytes (omega (arith, at.1.0)) in
            let line : IsLine (take k bytes) = (front_free k bytes (λ place below _. at.1.2 place below), omega (arith, count, fits)) in
            let more = cut_within fuel (drop (k + 1) bytes) (omega (arith, length-drop (k + 1) bytes, within)) in (
              take k bytes ∷ more.0,
              (
                more.1.0,
                front_cut bytes (take k bytes) (drop (k + 1) bytes) (at_feed k bytes at.1.0 at.1.1) line more.0 more.1.0
                    more.1.1,
              ),
            )
      ]
    ]

-- lines that were cut from the front of the bytes are a front of those of their cut
pub front_of : (bytes : List ℕ) (lines all : List (List ℕ)) (tail rest : List ℕ) → bytes ≡ texts lines ++ tail → AllByRecursion IsLine lines →
    bytes ≡ texts all ++ rest → AllByRecursion IsLine all → IsEnd rest → (more : List (List ℕ)) × (all ≡ lines ++ more)
front_of bytes [] all tail rest p a q b e = (all, refl)
front_of bytes (line ∷ lines) [] tail rest p a q b e =
    absurd (not_end line (texts lines ++ tail) a.0 (subst IsEnd (sym q ∙ (p ∙ append_assoc (ended line) (texts lines) tail)) e))
front_of bytes (line ∷ lines) (other ∷ all) tail rest p a q b e =
    let same : ended line ++ (texts lines ++ tail) ≡ ended other ++ (texts all ++ rest) = sym (append_assoc (ended line) (texts lines) tail)
    ∙ (sym p ∙ (q ∙ append_assoc (ended other) (texts all) rest)) in
    let first = same_line line other (texts lines ++ tail) (texts all ++ rest) a.0.0 b.0.0 same in
    let more = front_of (texts lines ++ tail) lines all tail rest refl a.1 first.1 b.1 e in
    (more.0, λ i. sym first.0 i ∷ more.1 i)
