-- Bytes have one list of entries.
use Rattle.std.proofs.Common.{◌≡◌, ◌⊎◌, inl, inr, ⊎_elim, ℕ, ◌+◌, ◌<◌, ◌≤◌, List, [], ◌∷◌, ◌++◌, length, take, drop, get_or, refl, sym, ap, ◌∙◌, subst, arith}
use Rattle.std.proofs.Common.{append_assoc, length-append, length-take-le}
use Rattle.std.proofs.lemmas.Bool.{cases_eq, cases_lt}
use Rattle.frame_cut.specs.Frames.{frame, word}
use Rattle.frame_cut.proofs.Words.{length-frame, word-frame, same_frame, whole_frame, small_rest, length_behind}
use Rattle.site_journal.specs.Texts.{IsEntry, marked, EndsAt}
use Rattle.tardis_base.specs.Sizes.{longest_frame}
use Rattle.site_journal.proofs.Texts.{not_one}

-- the same without the first entry
tail_of : (entry : List ℕ) (entries : List (List ℕ)) (bytes rest : List ℕ) → EndsAt bytes (entry ∷ entries) rest → EndsAt (marked entries ++ rest) entries rest
tail_of entry entries bytes rest e = record {
  whole = refl;
  each = e.each.1;
  behind = inr (⊎_elim (λ none. absurd (cc)) (λ some. some) e.behind);
  ends = e.ends;
}

first_of : (entry : List ℕ) (entries : List (List ℕ)) (bytes rest : List ℕ) → EndsAt bytes (entry ∷ entries) rest → bytes ≡ 1
    ∷ (frame entry ++ (marked entries ++ rest))
first_of entry entries bytes rest e = e.whole ∙ ap (λ z. 1 ∷ z) (append_assoc (frame entry) (marked entries) rest)

some_rest : (entry : List ℕ) (entries : List (List ℕ)) (bytes rest : List ℕ) → EndsAt bytes (entry ∷ entries) rest → 0 < length rest
some_rest entry entries bytes rest e = ⊎_elim (λ none. absurd (cc)) (λ some. some) e.behind

-- where an entry stands first, entries don't end
not_end : (entry : List ℕ) (entries : List (List ℕ)) (bytes rest left : List ℕ) → EndsAt bytes [] left → EndsAt bytes (entry ∷ entries) rest → ⊥
not_end entry entries bytes rest left none e =
    let is : left ≡ 1 ∷ (frame entry ++ (marked entries ++ rest)) = sym none.whole ∙ first_of entry entries bytes rest e in
    let empty = none.ends entry (marked entries ++ rest) is e.each.0 in
    omega (arith, ap length empty, length-append (marked entries) rest, some_rest entry entries bytes rest e)

pub one : (bytes : List ℕ) (entries others : List (List ℕ)) (rest left : List ℕ) → EndsAt bytes entries rest → EndsAt bytes others left →
    (entries ≡ others) × (rest ≡ left)
one bytes [] [] rest left p q = (refl, sym p.whole ∙ q.whole)
one bytes [] (other ∷ others) rest left p q = absurd (not_end other others bytes left rest p q)
one bytes (entry ∷ entries) [] rest left p q = absurd (not_end entry entries bytes rest left q p)
one bytes (entry ∷ entries) (other ∷ others) rest left p q =
    let whole : 1 ∷ (frame entry ++ (marked entries ++ rest)) ≡ 1 ∷ (frame other ++ (marked others ++ left)) = sym (first_of entry entries bytes rest p)
    ∙ first_of other others bytes left q in
    let same : frame entry ++ (marked entries ++ rest) ≡ frame other ++ (marked others ++ left) = ap (drop 1) whole in
    let first = same_frame entry other (marked entries ++ rest) (marked others ++ left) p.each.0.1 q.each.0.1 same in
    let moved = subst (λ z. EndsAt z others left) (sym first.1) (tail_of other others bytes left q) in
    let more = one (marked entries ++ rest) entries others rest left (tail_of entry entries bytes rest p) moved in
    (λ i. first.0 i ∷ more.0 i, more.1)

-- an entry in front
front : (bytes entry after : List ℕ) (entries : List (List ℕ)) (rest : List ℕ) → bytes ≡ 1 ∷ (frame entry ++ after) → IsEntry entry → 0 < length after →
    EndsAt after entries rest → EndsAt bytes (entry ∷ entries) rest
front bytes entry after entries rest is fits some e = record {
  whole = is ∙ ap (λ z. 1 ∷ z) (ap (λ z. frame entry ++ z) e.whole ∙ sym (append_assoc (frame entry) (marked entries) rest));
  each = (fits, e.each);
  behind = inr (⊎_elim (λ none. omega (arith, ap length (e.whole ∙ ap (λ z. marked z ++ rest) none), some)) (λ more. more) e.behind);
  ends = e.ends;
}

-- the entries end here
none : (bytes : List ℕ) → ((entry more : List ℕ) → bytes ≡ 1 ∷ (frame entry ++ more) → IsEntry entry → more ≡ []) → EndsAt bytes [] bytes
none bytes ends = record { whole = refl; each = tt; behind = inl refl; ends = ends }

-- where an entry stands first, its length and the length word say so
pub entry_says : (gate : ℕ) (tail entry more : List ℕ) → IsEntry entry → gate ∷ tail ≡ 1 ∷ (frame entry ++ more) → (word tail ≡ length entry)
    × (length tail ≡ 4 + length entry + length more)
entry_says gate tail entry more fits is =
    let behind : tail ≡ frame entry ++ more = ap (drop 1) is in
    (ap word behind ∙ word-frame entry more fits.1, ap length behind ∙ omega (arith, length-append (frame entry) more, length-frame entry))

empty_of : (more : List ℕ) → length more ≡ 0 → more ≡ []
empty_of [] is = refl
empty_of (x ∷ more) is = absurd (omega arith)

-- what isn't there: too few bytes for the length word's entry and one more, or a length word that no entry has
pub none_by_word : (gate : ℕ) (tail : List ℕ) → (length tail ≤ 4 + word tail) ⊎ ((word tail < 2) ⊎ (longest_frame < word tail))
    → (entry more : List ℕ) → gate ∷ tail ≡ 1 ∷ (frame entry ++ more) → IsEntry entry → more ≡ []
none_by_word gate tail why entry more is fits =
    let says = entry_says gate tail entry more fits is in
    elim why [
      | inl few ↦ empty_of more (omega (arith, says.0, says.1, few))
      | inr odd ↦ elim odd [
        | inl small ↦ absurd (omega (arith, says.0, small, fits.0))
        | inr large ↦ absurd (omega (arith, says.0, large, fits.1))
      ]
    ]

-- too few bytes for any entry and one more
pub none_by_count : (bytes : List ℕ) → length bytes < 8 → (entry more : List ℕ) → bytes ≡ 1 ∷ (frame entry ++ more) → IsEntry entry → more ≡ []
none_by_count bytes few entry more is fits = empty_of more (omega (arith, ap length is, length-append (frame entry) more, length-frame entry, fits.0, few))

every_within : (fuel : ℕ) (bytes : List ℕ) → length bytes ≤ fuel → ((place : ℕ) → get_or bytes place 0 < 256) → (entries : List (List ℕ))
    × ((rest : List ℕ) × EndsAt bytes entries rest)
every_within fuel [] within small = ([], ([], none [] (none_by_count [] (omega arith))))
every_within ℕ.zero (gate ∷ tail) within small = absurd (omega arith)
every_within (ℕ.suc fuel) (gate ∷ tail) within small = elim (cases_eq gate 1) [
  | inr shut ↦ ([], (gate ∷ tail, none (gate ∷ tail) (λ entry more is fits. not_one gate tail entry more shut is)))
  | inl open_gate ↦ elim (cases_lt (4 + word tail) (length tail)) [
    | inr few ↦ ([], (gate ∷ tail, none (gate ∷ tail) (none_by_word gate tail (inl few))))
    | inl enough ↦ elim (cases_lt (word tail) 2) [
      | inl less ↦ ([], (gate ∷ tail, none (gate ∷ tail) (none_by_word gate tail (inr (inl less)))))
      | inr two ↦ elim (cases_lt longest_frame (word tail)) [
        | inl large ↦ ([], (gate ∷ tail, none (gate ∷ tail) (none_by_word gate tail (inr (inr large)))))
        | inr fits ↦
            let n : ℕ = word tail in
            let small' : (place : ℕ) → get_or tail place 0 < 256 = λ place. small (ℕ.suc place) in
            let is = whole_frame tail n small' refl (omega (arith, enough)) in
            let behind = length_behind tail 4 (omega (arith, enough)) in
            let count : length (take n (drop 4 tail)) ≡ n = length-take-le n (drop 4 tail) (omega (arith, behind, enough)) in
            let later = length_behind tail (4 + n) (omega (arith, enough)) in
            let more = every_within fuel (drop (4 + n) tail) (omega (arith, later, within)) (small_rest tail (4 + n) small') in
            let first : gate ∷ tail ≡ 1 ∷ (frame (take n (drop 4 tail)) ++ drop (4 + n) tail) = λ i. open_gate i ∷ is i in (
              take n (drop 4 tail) ∷ more.0,
              (
                more.1.0,
                front (gate ∷ tail) (take n (drop 4 tail)) (drop (4 + n) tail) more.0 more.1.0 first
                    (omega (arith, count, two), omega (arith, count, fits)) (omega (arith, later, enough)) more.1.1,
              ),
            )
      ]
    ]
  ]
]

pub every : (bytes : List ℕ) → ((place : ℕ) → get_or bytes place 0 < 256) → (entries : List (List ℕ)) × ((rest : List ℕ) × EndsAt bytes entries rest)
every bytes small = every_within (length bytes) bytes (omega arith) small
