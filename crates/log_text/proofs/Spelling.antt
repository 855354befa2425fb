-- How bytes are spelled, and that spelled bytes are told apart.
use Rattle.std.proofs.Common.{◌≡◌, ℕ, ◌+◌, ◌-◌, ◌<◌, ◌≤◌, ◌≢◌, ◌⊎◌, List, [], ◌∷◌, ◌++◌, length, drop, get_or, sym, ap, ◌∙◌, subst, inl, inr, arith}
use Rattle.std.specs.List.{AllByRecursion}
use Rattle.std.proofs.lemmas.Bool.{cases_lt}
use Rattle.std.proofs.lemmas.List.{length-append}
use Rattle.log_text.specs.Texts.{spelled}
use Rattle.log_text.specs.Fronts.{Stops}

cases_eq : (a b : ℕ) → (a ≡ b) ⊎ (a ≡ b → ⊥)
cases_eq a b = elim (cases_lt a b) [
  | inl below ↦ inr (λ e. omega (arith, below, e))
  | inr past ↦ elim (cases_lt b a) [ inl above ↦ inr (λ e. omega (arith, above, e)) | inr same ↦ inl (omega (arith, past, same)) ]
]

-- the three forms of a spelled byte
abbrev pub Form : ℕ → List ℕ → Type 0
Form byte bytes =
    ((byte ≡ 0) × (bytes ≡ 245 ∷ []))
    ⊎ (((245 ≤ byte) × (byte ≤ 247) × (bytes ≡ 246 ∷ (byte - 244) ∷ []))
    ⊎ ((1 ≤ byte) × ((byte < 245) ⊎ (247 < byte)) × (bytes ≡ byte ∷ [])))

pub form : (byte : ℕ) → Form byte (spelled byte)
form byte = grind arith

-- neither zeros nor ends of entries are among spelled bytes
pub has_none : (v : ℕ) (byte : ℕ) → (v ≡ 0) ⊎ (v ≡ 247) → AllByRecursion (λ b. b ≢ v) (spelled byte)
has_none v byte which =
    elim (form byte) [
      | inl zero ↦ subst (λ s. AllByRecursion (λ b. b ≢ v) s) (sym zero.1) ((λ e. elim which [ inl a ↦ omega (arith, e, a) | inr a ↦ omega (arith, e, a) ]), tt)
      | inr more ↦ elim more [
        | inl mark ↦ subst (λ s. AllByRecursion (λ b. b ≢ v) s) (sym mark.2) (
          (λ e. elim which [ inl a ↦ omega (arith, e, a) | inr a ↦ omega (arith, e, a) ]),
          ((λ e. elim which [ inl a ↦ omega (arith, e, a, mark.0, mark.1) | inr a ↦ omega (arith, e, a, mark.0, mark.1) ]), tt),
        )
        | inr plain ↦ subst (λ s. AllByRecursion (λ b. b ≢ v) s) (sym plain.2) (
          (λ e. elim which [
            | inl a ↦ omega (arith, e, a, plain.0)
            | inr a ↦ elim plain.1 [ inl few ↦ omega (arith, e, a, few) | inr many ↦ omega (arith, e, a, many) ]
          ]),
          tt,
        )
      ]
    ]

-- what the first bytes of two equal texts say
heads : (a b : ℕ) (x y : List ℕ) → a ∷ x ≡ b ∷ y → a ≡ b
heads a b x y e = ap (λ l. get_or l 0 0) e

seconds : (a b c d : ℕ) (x y : List ℕ) → a ∷ b ∷ x ≡ c ∷ d ∷ y → b ≡ d
seconds a b c d x y e = ap (λ l. get_or l 1 0) e

tails : (a b : ℕ) (x y : List ℕ) → a ∷ x ≡ b ∷ y → x ≡ y
tails a b x y e = ap (drop 1) e

-- two spelled bytes at the front of the same bytes are one
same_form : (a b : ℕ) (s t x y : List ℕ) → Form a s → Form b t → s ++ x ≡ t ++ y → (a ≡ b) × (x ≡ y)
same_form a b s t x y (inl p) (inl q) e =
    (p.0 ∙ sym q.0, tails 245 245 x y (subst (λ l. l ++ x ≡ (245 ∷ []) ++ y) p.1 (subst (λ l. s ++ x ≡ l ++ y) q.1 e)))
same_form a b s t x y (inl p) (inr (inl q)) e =
    let at : 245 ∷ x ≡ 246 ∷ (b - 244) ∷ y = subst (λ l. l ++ x ≡ (246 ∷ (b - 244) ∷ []) ++ y) p.1 (subst (λ l. s ++ x ≡ l ++ y) q.2 e) in
    absurd (omega (arith, heads 245 246 x ((b - 244) ∷ y) at))
same_form a b s t x y (inl p) (inr (inr q)) e =
    let at : 245 ∷ x ≡ b ∷ y = subst (λ l. l ++ x ≡ (b ∷ []) ++ y) p.1 (subst (λ l. s ++ x ≡ l ++ y) q.2 e) in
    elim q.1 [ inl few ↦ absurd (omega (arith, few, heads 245 b x y at)) | inr many ↦ absurd (omega (arith, many, heads 245 b x y at)) ]
same_form a b s t x y (inr (inl p)) (inl q) e =
    let at : 246 ∷ (a - 244) ∷ x ≡ 245 ∷ y = subst (λ l. l ++ x ≡ (245 ∷ []) ++ y) p.2 (subst (λ l. s ++ x ≡ l ++ y) q.1 e) in
    absurd (omega (arith, heads 246 245 ((a - 244) ∷ x) y at))
same_form a b s t x y (inr (inl p)) (inr (inl q)) e =
    let at : 246 ∷ (a - 244) ∷ x ≡ 246 ∷ (b - 244) ∷ y = subst (λ l. l ++ x ≡ (246 ∷ (b - 244) ∷ []) ++ y) p.2 (subst (λ l. s ++ x ≡ l ++ y) q.2 e) in (
      omega (arith, p.0, q.0, seconds 246 (a - 244) 246 (b - 244) x y at),
      tails (a - 244) (b - 244) x y (tails 246 246 ((a - 244) ∷ x) ((b - 244) ∷ y) at),
    )
same_form a b s t x y (inr (inl p)) (inr (inr q)) e =
    let at : 246 ∷ (a - 244) ∷ x ≡ b ∷ y = subst (λ l. l ++ x ≡ (b ∷ []) ++ y) p.2 (subst (λ l. s ++ x ≡ l ++ y) q.2 e) in
    elim q.1 [ inl few ↦ absurd (omega (arith, few, heads 246 b ((a - 244) ∷ x) y at)) | inr many ↦ absurd (omega (arith, many, heads 246 b ((a - 244) ∷ x) y at)) ]
same_form a b s t x y (inr (inr p)) (inl q) e =
    let at : a ∷ x ≡ 245 ∷ y = subst (λ l. l ++ x ≡ (245 ∷ []) ++ y) p.2 (subst (λ l. s ++ x ≡ l ++ y) q.1 e) in
    elim p.1 [ inl few ↦ absurd (omega (arith, few, heads a 245 x y at)) | inr many ↦ absurd (omega (arith, many, heads a 245 x y at)) ]
same_form a b s t x y (inr (inr p)) (inr (inl q)) e =
    let at : a ∷ x ≡ 246 ∷ (b - 244) ∷ y = subst (λ l. l ++ x ≡ (246 ∷ (b - 244) ∷ []) ++ y) p.2 (subst (λ l. s ++ x ≡ l ++ y) q.2 e) in
    elim p.1 [ inl few ↦ absurd (omega (arith, few, heads a 246 x ((b - 244) ∷ y) at)) | inr many ↦ absurd (omega (arith, many, heads a 246 x ((b - 244) ∷ y) at)) ]
same_form a b s t x y (inr (inr p)) (inr (inr q)) e =
    let at : a ∷ x ≡ b ∷ y = subst (λ l. l ++ x ≡ (b ∷ []) ++ y) p.2 (subst (λ l. s ++ x ≡ l ++ y) q.2 e) in
    (heads a b x y at, tails a b x y at)

pub same_byte : (a b : ℕ) (x y : List ℕ) → spelled a ++ x ≡ spelled b ++ y → (a ≡ b) × (x ≡ y)
same_byte a b x y e = same_form a b (spelled a) (spelled b) x y (form a) (form b) e

-- no spelled byte begins with the byte that ends an entry
form_no_end : (b : ℕ) (s x y : List ℕ) → Form b s → 247 ∷ x ≡ s ++ y → ⊥
form_no_end b s x y (inl p) e = omega (arith, heads 247 245 x y (subst (λ l. 247 ∷ x ≡ l ++ y) p.1 e))
form_no_end b s x y (inr (inl p)) e = omega (arith, heads 247 246 x ((b - 244) ∷ y) (subst (λ l. 247 ∷ x ≡ l ++ y) p.2 e))
form_no_end b s x y (inr (inr p)) e =
    let at = heads 247 b x y (subst (λ l. 247 ∷ x ≡ l ++ y) p.2 e) in
    elim p.1 [ inl few ↦ omega (arith, few, at) | inr many ↦ omega (arith, many, at) ]

pub no_end : (b : ℕ) (x y : List ℕ) → 247 ∷ x ≡ spelled b ++ y → ⊥
no_end b x y e = form_no_end b (spelled b) x y (form b) e

-- what is spelled by one byte, and what by two
spelled_plain : (b : ℕ) → 1 ≤ b → (b < 245) ⊎ (247 < b) → spelled b ≡ b ∷ []
spelled_plain b some out =
    elim (form b) [
      | inl zero ↦ absurd (omega (arith, zero.0, some))
      | inr more ↦ elim more [
        | inl mark ↦ elim out [ inl few ↦ absurd (omega (arith, few, mark.0)) | inr many ↦ absurd (omega (arith, many, mark.1)) ]
        | inr plain ↦ plain.2
      ]
    ]

spelled_mark : (b : ℕ) → 245 ≤ b → b ≤ 247 → spelled b ≡ 246 ∷ (b - 244) ∷ []
spelled_mark b low high =
    elim (form b) [
      | inl zero ↦ absurd (omega (arith, zero.0, low))
      | inr more ↦ elim more [
        | inl mark ↦ mark.2
        | inr plain ↦ elim plain.1 [ inl few ↦ absurd (omega (arith, few, low)) | inr many ↦ absurd (omega (arith, many, high)) ]
      ]
    ]

form_is_some : (b : ℕ) (s : List ℕ) → Form b s → 1 ≤ length s
form_is_some b s (inl p) = subst (λ l. 1 ≤ length l) (sym p.1) (omega arith)
form_is_some b s (inr (inl p)) = subst (λ l. 1 ≤ length l) (sym p.2) (omega arith)
form_is_some b s (inr (inr p)) = subst (λ l. 1 ≤ length l) (sym p.2) (omega arith)

pub spelled_is_some : (b : ℕ) → 1 ≤ length (spelled b)
spelled_is_some b = form_is_some b (spelled b) (form b)

-- what stands first where a spelled byte does
abbrev pub Begins : ℕ → List ℕ → Type 0
Begins b rest =
    (b ≡ 245) ⊎ (((b ≡ 246) × ((n : ℕ) × ((1 ≤ n) × ((n ≤ 3) × ((more : List ℕ) × (rest ≡ n ∷ more)))))) ⊎ ((1 ≤ b) × ((b < 245) ⊎ (247 < b))))

begins : (x : ℕ) (s : List ℕ) (b : ℕ) (rest more : List ℕ) → Form x s → b ∷ rest ≡ s ++ more → Begins b rest
begins x s b rest more (inl p) e = inl (heads b 245 rest more (subst (λ l. b ∷ rest ≡ l ++ more) p.1 e))
begins x s b rest more (inr (inl p)) e =
    let at : b ∷ rest ≡ 246 ∷ (x - 244) ∷ more = subst (λ l. b ∷ rest ≡ l ++ more) p.2 e in
    inr (inl (
      heads b 246 rest ((x - 244) ∷ more) at,
      (x - 244, (omega (arith, p.0), (omega (arith, p.1), (more, tails b 246 rest ((x - 244) ∷ more) at)))),
    ))
begins x s b rest more (inr (inr p)) e =
    let at : b ≡ x = heads b x rest more (subst (λ l. b ∷ rest ≡ l ++ more) p.2 e) in
    inr (inr (subst (λ n. 1 ≤ n) (sym at) p.0, subst (λ n. (n < 245) ⊎ (247 < n)) (sym at) p.1))

pub spelled_begins : (x b : ℕ) (rest more : List ℕ) → b ∷ rest ≡ spelled x ++ more → Begins b rest
spelled_begins x b rest more e = begins x (spelled x) b rest more (form x) e

-- what is next: the byte that ends an entry, a spelled byte, or neither
abbrev pub Which : List ℕ → Type 0
Which bytes =
    ((more : List ℕ) × (bytes ≡ 247 ∷ more))
    ⊎ (((byte : ℕ) × ((more : List ℕ) × ((bytes ≡ spelled byte ++ more) × (length more < length bytes))))
    ⊎ Stops bytes)

stops_at : (b : ℕ) (rest : List ℕ) → (b ≡ 247 → ⊥) → (Begins b rest → ⊥) → Stops (b ∷ rest)
stops_at b rest ends starts = ((λ more e. ends (heads b 247 rest more e)), (λ byte more e. starts (spelled_begins byte b rest more e)))

behind_mark : (rest : List ℕ) → Which (246 ∷ rest)
behind_mark [] = inr (inr (stops_at 246 [] (λ e. omega (arith, e)) (λ g. none g)))
  where
    none : Begins 246 [] → ⊥
    none (inl e) = omega (arith, e)
    none (inr (inl m)) = let long = ap length m.1.1.1.1.1 in omega (arith, long)
    none (inr (inr p)) = elim p.1 [ inl few ↦ omega (arith, few) | inr many ↦ omega (arith, many) ]
behind_mark (n ∷ more) =
    elim (cases_lt 3 n) [
      | inl above ↦ inr (inr (stops_at 246 (n ∷ more) (λ e. omega (arith, e)) (λ g. high above g)))
      | inr within ↦ elim (cases_lt 0 n) [
        | inl some ↦ inr (inl (
          n + 244,
          (
            more,
            (
              ap (λ k. 246 ∷ k ∷ more) (omega arith) ∙ ap (λ l. l ++ more) (sym (spelled_mark (n + 244) (omega (arith, some)) (omega (arith, within)))),
              omega arith,
            ),
          ),
        ))
        | inr none ↦ inr (inr (stops_at 246 (n ∷ more) (λ e. omega (arith, e)) (λ g. low none g)))
      ]
    ]
  where
    high : 3 < n → Begins 246 (n ∷ more) → ⊥
    high above (inl e) = omega (arith, e)
    high above (inr (inl m)) = let same = heads n m.1.0 more m.1.1.1.1.0 m.1.1.1.1.1 in omega (arith, same, above, m.1.1.1.0)
    high above (inr (inr p)) = elim p.1 [ inl few ↦ omega (arith, few) | inr many ↦ omega (arith, many) ]

    low : n ≤ 0 → Begins 246 (n ∷ more) → ⊥
    low none (inl e) = omega (arith, e)
    low none (inr (inl m)) = let same = heads n m.1.0 more m.1.1.1.1.0 m.1.1.1.1.1 in omega (arith, same, none, m.1.1.0)
    low none (inr (inr p)) = elim p.1 [ inl few ↦ omega (arith, few) | inr many ↦ omega (arith, many) ]

pub which : (bytes : List ℕ) → Which bytes
which [] = inr (inr (
  (λ more e. let long = ap length e in omega (arith, long)),
  (λ byte more e. let long = ap length e in let both = length-append (spelled byte) more in omega (arith, long, both, spelled_is_some byte)),
))
which (b ∷ rest) =
    elim (cases_eq b 247) [
      | inl end ↦ inl (rest, ap (λ k. k ∷ rest) end)
      | inr no_end ↦ elim (cases_eq b 246) [
        | inl mark ↦ subst (λ k. Which (k ∷ rest)) (sym mark) (behind_mark rest)
        | inr no_mark ↦ elim (cases_eq b 245) [
          | inl zero ↦ inr (inl (0, (rest, (ap (λ k. k ∷ rest) zero, omega arith))))
          | inr no_zero ↦ elim (cases_lt 0 b) [
            | inl some ↦ inr (inl (b, (rest, (ap (λ l. l ++ rest) (sym (spelled_plain b some (out no_end no_mark no_zero))), omega arith))))
            | inr none ↦ inr (inr (stops_at b rest no_end (λ g. starts none g)))
          ]
        ]
      ]
    ]
  where
    out : (b ≡ 247 → ⊥) → (b ≡ 246 → ⊥) → (b ≡ 245 → ⊥) → (b < 245) ⊎ (247 < b)
    out x y z = elim (cases_lt b 245) [ inl few ↦ inl few | inr low ↦ elim (cases_lt 247 b) [ inl many ↦ inr many | inr high ↦ absurd (between low high x y z) ] ]
      where
        between : 245 ≤ b → b ≤ 247 → (b ≡ 247 → ⊥) → (b ≡ 246 → ⊥) → (b ≡ 245 → ⊥) → ⊥
        between low high x y z = grind (arith, low, high, x, y, z)

    starts : b ≤ 0 → Begins b rest → ⊥
    starts none (inl e) = omega (arith, e, none)
    starts none (inr (inl m)) = omega (arith, m.0, none)
    starts none (inr (inr p)) = omega (arith, p.0, none)
