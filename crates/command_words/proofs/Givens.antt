-- The values of an option, one after another.
use Rattle.std.proofs.Common.{ℕ, ◌<◌, true, false, List, [], ◌∷◌, ◌++◌, length, map, Option, Some, None, ◌≡◌, ◌∙◌, refl, sym, ap, arith, append_assoc}
use Rattle.std.specs.Prelude.{bytes_eq, filter}
use Rattle.std.proofs.lemmas.Bool.{cond-true, cond-false}
use Rattle.command_words.specs.Settings.{Setting, values}
use Rattle.command_words.specs.Values.{needed, number_or, flag, address, once}
use Rattle.command_words.specs.Given.{IsGiven}
use Rattle.command_words.specs.declared.settings.Given.{Given}

-- values so far, and what those behind add
abbrev pub Told : List ℕ → List Setting → List Setting → Given → Type 0
Told name all left found = (done : List (Option (List ℕ))) × (IsGiven done found × (values name all ≡ done ++ values name left))

-- an option with the name adds its value
pub hit : (name n : List ℕ) (v : Option (List ℕ)) (all left rest : List Setting) (found new : Given) → left ≡ (n, v) ∷ rest → bytes_eq n name ≡ true
    → ((before : List (Option (List ℕ))) → IsGiven before found → IsGiven (before ++ v ∷ []) new) → Told name all left found → Told name all rest new
hit name n v all left rest found new is same adds told =
    let here : values name ((n, v) ∷ rest) ≡ v ∷ values name rest =
    ap (map (λ (s : Setting). s.1)) (cond-true (bytes_eq n name) ((n, v) ∷ filter (λ (s : Setting). bytes_eq s.0 name) rest)
    (filter (λ (s : Setting). bytes_eq s.0 name) rest) same) in (
      told.0 ++ v ∷ [],
      (
        adds told.0 told.1.0,
        told.1.1 ∙ (ap (λ l. told.0 ++ values name l) is
            ∙ (ap (λ vs. told.0 ++ vs) here ∙ sym (append_assoc told.0 (v ∷ []) (values name rest)))),
      ),
    )

-- another adds none
pub miss : (name n : List ℕ) (v : Option (List ℕ)) (all left rest : List Setting) (found : Given) → left ≡ (n, v) ∷ rest → bytes_eq n name ≡ false →
    Told name all left found → Told name all rest found
miss name n v all left rest found is other told =
    let here : values name ((n, v) ∷ rest) ≡ values name rest =
    ap (map (λ (s : Setting). s.1)) (cond-false (bytes_eq n name) ((n, v) ∷ filter (λ (s : Setting). bytes_eq s.0 name) rest)
    (filter (λ (s : Setting). bytes_eq s.0 name) rest) other) in
    (told.0, (told.1.0, told.1.1 ∙ (ap (λ l. told.0 ++ values name l) is ∙ ap (λ vs. told.0 ++ vs) here)))

-- an option that is given twice says nothing
pub needed_twice : (least most : ℕ) (found : List (Option (List ℕ))) → 1 < length found → None ≡ needed least most found
needed_twice least most [] two = absurd (omega (arith, two))
needed_twice least most (v ∷ []) two = absurd (omega (arith, two))
needed_twice least most (None ∷ w ∷ more) two = refl
needed_twice least most (Some v ∷ w ∷ more) two = refl

pub number_twice : (default least most : ℕ) (found : List (Option (List ℕ))) → 1 < length found → None ≡ number_or default least most found
number_twice default least most [] two = absurd (omega (arith, two))
number_twice default least most (v ∷ more) two = needed_twice least most (v ∷ more) two

pub flag_twice : (found : List (Option (List ℕ))) → 1 < length found → None ≡ flag found
flag_twice [] two = absurd (omega (arith, two))
flag_twice (v ∷ []) two = absurd (omega (arith, two))
flag_twice (None ∷ w ∷ more) two = refl
flag_twice (Some v ∷ w ∷ more) two = refl

pub address_twice : (found : List (Option (List ℕ))) → 1 < length found → None ≡ address found
address_twice [] two = absurd (omega (arith, two))
address_twice (v ∷ []) two = absurd (omega (arith, two))
address_twice (None ∷ w ∷ more) two = refl
address_twice (Some v ∷ w ∷ more) two = refl

pub once_twice : (found : List (Option (List ℕ))) → 1 < length found → None ≡ once found
once_twice [] two = absurd (omega (arith, two))
once_twice (v ∷ []) two = absurd (omega (arith, two))
once_twice (None ∷ w ∷ more) two = refl
once_twice (Some v ∷ w ∷ more) two = refl
