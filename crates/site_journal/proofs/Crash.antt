-- What a crash leaves in each of the two steps of an append, and while the end of a journal is mended.
use Rattle.std.proofs.Common.{◌≡◌, ◌⊎◌, inl, inr, ℕ, ◌+◌, ◌-◌, ◌<◌, ◌≤◌, List, [], ◌∷◌, ◌++◌, length, take, drop, get_or, refl, sym, ap, ◌∙◌, subst}
use Rattle.std.proofs.Common.{arith, append_assoc, append-nil, length-append, length-drop, take-append-drop}
use Rattle.std.specs.Prelude.{min}
use Rattle.std.specs.List.{AllByRecursion}
use Rattle.std.proofs.lemmas.Bool.{cases_eq}
use Rattle.std.proofs.lemmas.List.{take_at, drop_at, take_all, drop_all, drop_more}
use Rattle.disk_store.specs.Disks.{with_bytes, Torn, Shortened, Follows, Only}
use Rattle.frame_cut.specs.Frames.{frame}
use Rattle.site_journal.specs.Texts.{IsEntry, marked, journal_text, EndsAt, HasEntries, HasAllOrNone}
use Rattle.site_journal.proofs.Texts.{text_more, all_more, closed, short, text_is_read}

-- the entries behind the closed gate
abbrev pub staged : List (List ℕ) → List ℕ → List ℕ
staged entries tail = marked entries ++ 0 ∷ tail

module _ (entries : List (List ℕ)) (all : AllByRecursion IsEntry entries) (place : ℕ) (at : place ≡ length (marked entries)) where
  pub length_text : length (journal_text entries) ≡ place + 1
  length_text = omega (arith, at, length-append (marked entries) (0 ∷ []))

  pub length_staged : (tail : List ℕ) → length (staged entries tail) ≡ place + 1 + length tail
  length_staged tail = omega (arith, at, length-append (marked entries) (0 ∷ tail))

  -- the closed gate stands in each outcome of the first write
  pub torn_behind : (count : ℕ) (image : List ℕ) → Torn (place + 1) count (journal_text entries) image → HasEntries entries image
  torn_behind count image torn =
      let long = length_text in
      let k : min (place + 1) (length (journal_text entries)) ≡ place + 1 = omega (arith, long) in
      let front : take (place + 1) image ≡ journal_text entries =
      subst (λ n. take n image ≡ take (place + 1) (journal_text entries)) k torn.before ∙ take_all (place + 1) (journal_text entries) (omega (arith, long)) in
      let rest : List ℕ = drop (place + 1) image in
      let whole : image ≡ marked entries ++ 0 ∷ rest =
      sym (take-append-drop (place + 1) image) ∙ (ap (λ z. z ++ rest) front ∙ append_assoc (marked entries) (0 ∷ []) rest) in
      (0 ∷ rest, subst (λ z. EndsAt z entries (0 ∷ rest)) (sym whole) (closed entries 0 rest all (λ is. absurd (omega (arith, is)))))

  pub written_behind : (tail : List ℕ) → with_bytes (journal_text entries) (place + 1) tail ≡ staged entries tail
  written_behind tail =
      let long = length_text in
      ap (λ z. z ++ tail ++ drop (place + 1 + length tail) (journal_text entries)) (take_all (place + 1) (journal_text entries) (omega (arith, long)))
      ∙ (ap (λ z. journal_text entries ++ tail ++ z) (drop_all (place + 1 + length tail) (journal_text entries) (omega (arith, long)))
      ∙ (append-nil (journal_text entries ++ tail) ∙ append_assoc (marked entries) (0 ∷ []) tail))

  front_staged : (tail : List ℕ) → take place (staged entries tail) ≡ marked entries
  front_staged tail = take_at (marked entries) (0 ∷ tail) place (sym at)

  back_staged : (tail : List ℕ) → drop (place + 1) (staged entries tail) ≡ tail
  back_staged tail = ap (drop (place + 1)) (sym (append_assoc (marked entries) (0 ∷ []) tail)) ∙ drop_at (journal_text entries) tail (place + 1) length_text

  -- with the gate open the new entries are there, all of them, and else none
  by_gate : (more : List (List ℕ)) (tail : List ℕ) (gate : ℕ) → AllByRecursion IsEntry more → journal_text more ≡ 1 ∷ tail →
      HasAllOrNone entries more (marked entries ++ gate ∷ tail)
  by_gate more tail gate fits text = elim (cases_eq gate 1) [
    | inl open_gate ↦
        let whole : marked entries ++ gate ∷ tail ≡ journal_text (entries ++ more) =
        ap (λ g. marked entries ++ g ∷ tail) open_gate ∙ (ap (λ z. marked entries ++ z) (sym text) ∙ text_more entries more) in
        inr (0 ∷ [], subst (λ z. EndsAt z (entries ++ more) (0 ∷ [])) (sym whole) (text_is_read (entries ++ more) (all_more entries more all fits)))
    | inr shut ↦ inl (gate ∷ tail, closed entries gate tail all shut)
  ]

  pub torn_gate : (more : List (List ℕ)) (tail image : List ℕ) → AllByRecursion IsEntry more → journal_text more ≡ 1 ∷ tail →
      Torn place 1 (staged entries tail) image → HasAllOrNone entries more image
  torn_gate more tail image fits text torn =
      let long = length_staged tail in
      let k : min place (length (staged entries tail)) ≡ place = omega (arith, long) in
      let gate : ℕ = get_or image place 0 in
      let front : take place image ≡ marked entries = subst (λ n. take n image ≡ take place (staged entries tail)) k torn.before ∙ front_staged tail in
      let back : drop place image ≡ gate ∷ tail = drop_more image place 0 (omega (arith, long, torn.no_shorter))
      ∙ ap (λ z. gate ∷ z) (torn.after ∙ back_staged tail) in
      let whole : image ≡ marked entries ++ gate ∷ tail = sym (take-append-drop place image)
      ∙ (ap (λ z. z ++ drop place image) front ∙ ap (λ z. marked entries ++ z) back) in
      subst (HasAllOrNone entries more) (sym whole) (by_gate more tail gate fits text)

  pub written_gate : (more : List (List ℕ)) (tail : List ℕ) → journal_text more ≡ 1 ∷ tail → with_bytes (staged entries tail) place (1 ∷ [])
      ≡ journal_text (entries ++ more)
  written_gate more tail text =
      ap (λ z. z ++ (1 ∷ []) ++ drop (place + 1) (staged entries tail)) (front_staged tail)
      ∙ (ap (λ z. marked entries ++ (1 ∷ []) ++ z) (back_staged tail)
      ∙ (append_assoc (marked entries) (1 ∷ []) tail ∙ (ap (λ z. marked entries ++ z) (sym text) ∙ text_more entries more)))

  -- each image of the first write has the entries, and each of the second
  pub behind_images : (tail : List ℕ) (old new : List ℕ → Type 0) → Only (journal_text entries) old → Follows (Torn (place + 1) (length tail)) old new →
      (image : List ℕ) → new image → HasEntries entries image
  behind_images tail old new only follows image left =
      let from = follows image left in
      torn_behind (length tail) image (subst (λ z. Torn (place + 1) (length tail) z image) (only from.0 from.1) from.2)

  pub gate_images : (more : List (List ℕ)) (tail : List ℕ) (old new : List ℕ → Type 0) → AllByRecursion IsEntry more → journal_text more ≡ 1 ∷ tail →
      Only (staged entries tail) old → Follows (Torn place 1) old new
      → (image : List ℕ) → new image → HasAllOrNone entries more image
  gate_images more tail old new fits text only follows image left =
      let from = follows image left in
      torn_gate more tail image fits text (subst (λ z. Torn place 1 z image) (only from.0 from.1) from.2)

-- a front of a rest in which no entry is next
front_ends : (n : ℕ) (rest : List ℕ) → ((entry more : List ℕ) → rest ≡ 1 ∷ (frame entry ++ more) → IsEntry entry → more ≡ []) → (entry more : List ℕ) →
    take n rest ≡ 1 ∷ (frame entry ++ more) → IsEntry entry → more ≡ []
front_ends n rest ends entry more is fits =
    let whole : rest ≡ 1 ∷ (frame entry ++ (more ++ drop n rest)) = sym (take-append-drop n rest)
    ∙ (ap (λ z. z ++ drop n rest) is ∙ ap (λ z. 1 ∷ z) (append_assoc (frame entry) more (drop n rest))) in
    nil_left more (drop n rest) (ends entry (more ++ drop n rest) whole fits)
  where
    nil_left : (xs ys : List ℕ) → xs ++ ys ≡ [] → xs ≡ []
    nil_left [] ys is = refl
    nil_left (x ∷ xs) ys is = absurd (cc)

take_past : (xs ys : List ℕ) (m n : ℕ) → m ≡ length xs + n → take m (xs ++ ys) ≡ xs ++ take n ys
take_past [] ys m n is = let same : m ≡ n = omega (arith, is) in ap (λ k. take k ys) same
take_past (x ∷ xs) ys ℕ.zero n is = absurd (omega (arith, is))
take_past (x ∷ xs) ys (ℕ.suc m) n is = ap (λ z. x ∷ z) (take_past xs ys m n (omega (arith, is)))

module _ (bytes : List ℕ) (entries : List (List ℕ)) (rest : List ℕ) (e : EndsAt bytes entries rest) (place : ℕ) (at : place ≡ length (marked entries)) where
  pub size : length bytes ≡ place + length rest
  size = ap length e.whole ∙ omega (arith, at, length-append (marked entries) rest)

  -- a cut behind the first byte of the rest keeps the entries
  pub cut_keeps : 1 < length rest → (image : List ℕ) → Shortened (place + 1) bytes image → HasEntries entries image
  cut_keeps long image cut =
      let n : ℕ = length image - place in
      let reach : place + 1 ≤ length image = omega (arith, cut.no_shorter, size, long) in
      let whole : image ≡ marked entries ++ take n rest =
      cut.front ∙ (ap (take (length image)) e.whole ∙ take_past (marked entries) rest (length image) n (omega (arith, reach, at))) in
      let some : 0 < length (take n rest) = omega (arith, ap length whole, length-append (marked entries) (take n rest), at, reach) in (
        take n rest,
        subst (λ z. EndsAt z entries (take n rest)) (sym whole)
            (record { whole = refl; each = e.each; behind = inr some; ends = front_ends n rest e.ends }),
      )

  pub cut_done : take (place + 1) bytes ≡ marked entries ++ take 1 rest
  cut_done = ap (take (place + 1)) e.whole ∙ take_past (marked entries) rest (place + 1) 1 (omega (arith, at))

  pub cut_ends : 1 < length rest → EndsAt (marked entries ++ take 1 rest) entries (take 1 rest)
  cut_ends long = record { whole = refl; each = e.each; behind = inr (one_of rest long); ends = front_ends 1 rest e.ends }
    where
      one_of : (xs : List ℕ) → 1 < length xs → 0 < length (take 1 xs)
      one_of [] some = absurd (omega arith)
      one_of (x ∷ xs) some = omega arith

  -- one byte behind the entries is no entry, whatever it is
  pub torn_last : length rest ≤ 1 → (image : List ℕ) → Torn place 1 bytes image → HasEntries entries image
  torn_last few image torn =
      let k : min place (length bytes) ≡ place = omega (arith, size) in
      let front : take place image ≡ marked entries = subst (λ n. take n image ≡ take place bytes) k torn.before
      ∙ (ap (take place) e.whole ∙ take_at (marked entries) rest place (sym at)) in
      let last : List ℕ = drop place image in
      let whole : image ≡ marked entries ++ last = sym (take-append-drop place image) ∙ ap (λ z. z ++ last) front in
      let long : length last ≡ length image - place = length-drop place image in
      let few' : length last ≤ 1 = omega (arith, long, size, torn.no_longer, few) in
      let behind : (entries ≡ []) ⊎ (0 < length last) = elim e.behind [
        | inl none ↦ inl none
        | inr some ↦
            inr (omega (arith, long, size, torn.no_shorter, some))
      ] in
      (last, subst (λ z. EndsAt z entries last) (sym whole) (short entries last e.each behind few'))

  pub written_last : length rest ≤ 1 → with_bytes bytes place (0 ∷ []) ≡ journal_text entries
  written_last few =
      ap (λ z. z ++ (0 ∷ []) ++ drop (place + 1) bytes) (ap (take place) e.whole ∙ take_at (marked entries) rest place (sym at))
      ∙ (ap (λ z. marked entries ++ (0 ∷ []) ++ z) (drop_all (place + 1) bytes (omega (arith, size, few))) ∙ append-nil (journal_text entries))
