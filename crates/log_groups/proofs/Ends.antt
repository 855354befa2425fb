-- How a log ends.
use Rattle.std.proofs.Common.{◌≡◌, ℕ, ◌⊎◌, Bool, true, false, if◌then◌else◌, nat_eq, List, [], ◌∷◌, ◌++◌, length, drop, refl, sym, ap, ◌∙◌, subst, inl, inr, arith}
use Rattle.std.specs.Bool.{Decides}
use Rattle.std.proofs.lemmas.Bool.{cases_Bool, eqb-true, true≢false}
use Rattle.log_text.specs.Texts.{IsZeros, Mixed, HasNoEntry}
use Rattle.log_text.specs.Laws.{TextIsRead}
use Rattle.log_groups.specs.declared.groups.Ending.{Ending}
use Rattle.log_groups.specs.declared.groups.Ending.TheVariants.{Whole, Torn, Damaged}
use Rattle.log_groups.specs.Items.{group}
use Rattle.log_groups.specs.Logs.{longest_entry, behind_end, IsTorn, HasNoGroup, Ends}
use Rattle.log_groups.proofs.Parts.{group_fits}

-- zeros begin with no entry
pub zeros_have_none : TextIsRead → (zeros : List ℕ) → IsZeros zeros → HasNoEntry zeros
zeros_have_none text zeros z = (text [] zeros tt z).ends

pub zeros_dropped : (n : ℕ) (bytes : List ℕ) → IsZeros bytes → IsZeros (drop n bytes)
zeros_dropped ℕ.zero bytes z = z
zeros_dropped (ℕ.suc n) [] z = tt
zeros_dropped (ℕ.suc n) (b ∷ bytes) z = zeros_dropped n bytes z.1

-- what stands behind the end, by whether the first byte is one
pub behind_if : (P : List ℕ → Type 0) (t : Bool) (here later : List ℕ) → P here → P later → P (if t then here else later)
behind_if P true here later p q = p
behind_if P false here later p q = q

zeros_behind : (bytes : List ℕ) → IsZeros bytes → IsZeros (behind_end bytes)
zeros_behind [] z = tt
zeros_behind (b ∷ bytes) z = behind_if IsZeros (nat_eq b 247) bytes (behind_end bytes) z.1 (zeros_behind bytes z.1)

pub zeros_torn : TextIsRead → (zeros : List ℕ) → IsZeros zeros → IsTorn zeros
zeros_torn text zeros z = record { none = zeros_have_none text zeros z; last = zeros_behind zeros z; few = zeros_dropped longest_entry zeros z }

-- where a log ends, its next group is not
pub no_group : TextIsRead → (life : List ℕ) (number : ℕ) (rest : List ℕ) (ending : Ending) → Ends life number rest ending → HasNoGroup life number rest
no_group text life number rest Whole z body more fits e = zeros_have_none text rest z (group life number body) more (group_fits life number body fits) e
no_group text life number rest Torn t body more fits e = t.0.none (group life number body) more (group_fits life number body fits) e
no_group text life number rest Damaged d body more fits e = d.0 body more fits e

-- a log ends in one way
pub one_end : TextIsRead → (life : List ℕ) (number : ℕ) (rest : List ℕ) (a b : Ending) → Ends life number rest a → Ends life number rest b → a ≡ b
one_end text life number rest Whole Whole p q = refl
one_end text life number rest Whole Torn p q = absurd (q.1 p)
one_end text life number rest Whole Damaged p q = absurd (q.1 (zeros_torn text rest p))
one_end text life number rest Torn Whole p q = absurd (p.1 q)
one_end text life number rest Torn Torn p q = refl
one_end text life number rest Torn Damaged p q = absurd (q.1 p.0)
one_end text life number rest Damaged Whole p q = absurd (p.1 (zeros_torn text rest q))
one_end text life number rest Damaged Torn p q = absurd (p.1 q.0)
one_end text life number rest Damaged Damaged p q = refl

pub zeros_or_not : (bytes : List ℕ) → IsZeros bytes ⊎ (IsZeros bytes → ⊥)
zeros_or_not [] = inl tt
zeros_or_not (ℕ.zero ∷ bytes) = elim (zeros_or_not bytes) [ inl z ↦ inl (refl, z) | inr some ↦ inr (λ z. some z.1) ]
zeros_or_not (ℕ.suc b ∷ bytes) = inr (λ z. let here = z.0 in omega (arith, here))

-- what is torn ends whole or torn
pub torn_ends : (life : List ℕ) (number : ℕ) (rest : List ℕ) → IsTorn rest → (ending : Ending) × (Ends life number rest ending × (ending ≡ Damaged → ⊥))
torn_ends life number rest torn =
    elim (zeros_or_not rest) [ inl z ↦ (Whole, (z, λ e. damaged_not Whole e tt)) | inr some ↦ (Torn, ((torn, some), λ e. damaged_not Torn e tt)) ]
  where
    is_other : Ending → Type 0
    is_other Whole = Unit {0}
    is_other Torn = Unit {0}
    is_other Damaged = ⊥

    damaged_not : (ending : Ending) → ending ≡ Damaged → is_other ending → ⊥
    damaged_not ending e other = subst is_other e other

pub no_next : (life : List ℕ) (number : ℕ) (rest : List ℕ) → HasNoEntry rest → HasNoGroup life number rest
no_next life number rest none body more fits e = none (group life number body) more (group_fits life number body fits) e

-- bytes with no entry end in some way
pub none_ends : (life : List ℕ) (number : ℕ) (rest : List ℕ) → HasNoEntry rest → (ending : Ending) × Ends life number rest ending
none_ends life number rest none =
    elim (zeros_or_not (behind_end rest)) [
      | inl last ↦ elim (zeros_or_not (drop longest_entry rest)) [
        | inl few ↦ let some = torn_ends life number rest (record { none = none; last = last; few = few }) in (some.0, some.1.0)
        | inr many ↦ (Damaged, (no_next life number rest none, λ t. many t.few))
      ]
      | inr other ↦ (Damaged, (no_next life number rest none, λ t. other t.last))
    ]

-- ===== What a crash leaves

mixed_zeros : (old new image : List ℕ) → IsZeros old → IsZeros new → Mixed old new image → IsZeros image
mixed_zeros [] [] [] o n m = tt
mixed_zeros (a ∷ old) (b ∷ new) (c ∷ image) o n m =
    ((elim m.0 [ inl x ↦ x ∙ o.0 | inr y ↦ y ∙ n.0 ]), mixed_zeros old new image o.1 n.1 m.1)
mixed_zeros [] [] (c ∷ image) o n m = absurd m
mixed_zeros [] (b ∷ new) image o n m = absurd m
mixed_zeros (a ∷ old) [] image o n m = absurd m
mixed_zeros (a ∷ old) (b ∷ new) [] o n m = absurd m

-- behind as many bytes as the text has that was being written there are zeros
pub zeros_behind_text : (text zeros old image : List ℕ) → IsZeros old → IsZeros zeros → Mixed old (text ++ zeros) image → IsZeros (drop (length text) image)
zeros_behind_text [] zeros old image o z m = mixed_zeros old zeros image o z m
zeros_behind_text (t ∷ text) zeros (a ∷ old) (c ∷ image) o z m = zeros_behind_text text zeros old image o.1 z m.1
zeros_behind_text (t ∷ text) zeros [] [] o z m = absurd m
zeros_behind_text (t ∷ text) zeros [] (c ∷ image) o z m = absurd m
zeros_behind_text (t ∷ text) zeros (a ∷ old) [] o z m = absurd m

-- while zeros are written, what is behind a place stays zeros, and what is behind the end too
pub mended_few : (n : ℕ) (rest zeros image : List ℕ) → IsZeros zeros → Mixed rest zeros image → IsZeros (drop n rest) → IsZeros (drop n image)
mended_few ℕ.zero rest zeros image z m f = mixed_zeros rest zeros image f z m
mended_few (ℕ.suc n) [] [] [] z m f = tt
mended_few (ℕ.suc n) (a ∷ rest) (b ∷ zeros) (c ∷ image) z m f = mended_few n rest zeros image z.1 m.1 f
mended_few (ℕ.suc n) [] [] (c ∷ image) z m f = absurd m
mended_few (ℕ.suc n) [] (b ∷ zeros) image z m f = absurd m
mended_few (ℕ.suc n) (a ∷ rest) [] image z m f = absurd m
mended_few (ℕ.suc n) (a ∷ rest) (b ∷ zeros) [] z m f = absurd m

pub mended_last : (rest zeros image : List ℕ) → IsZeros zeros → Mixed rest zeros image → IsZeros (behind_end rest) → IsZeros (behind_end image)
mended_last [] [] [] z m f = tt
mended_last (a ∷ rest) (b ∷ zeros) (c ∷ image) z m f =
    elim (cases_Bool (nat_eq a 247)) [
      | inl ends ↦
          let behind : IsZeros rest = subst (λ t. IsZeros (if t then rest else behind_end rest)) ends f in
          let all = mixed_zeros rest zeros image behind z.1 m.1 in
          behind_if IsZeros (nat_eq c 247) image (behind_end image) all (zeros_behind image all)
      | inr goes ↦
          let behind : IsZeros (behind_end rest) = subst (λ t. IsZeros (if t then rest else behind_end rest)) goes f in
          let more = mended_last rest zeros image z.1 m.1 behind in
          elim m.0 [
            | inl same ↦ subst (λ t. IsZeros (if t then image else behind_end image)) (sym (ap (λ n. nat_eq n 247) same ∙ goes)) more
            | inr zero ↦ subst (λ t. IsZeros (if t then image else behind_end image)) (sym (ap (λ n. nat_eq n 247) (zero ∙ z.0))) more
          ]
    ]
mended_last [] [] (c ∷ image) z m f = absurd m
mended_last [] (b ∷ zeros) image z m f = absurd m
mended_last (a ∷ rest) [] image z m f = absurd m
mended_last (a ∷ rest) (b ∷ zeros) [] z m f = absurd m

-- where behind each byte that ends an entry there are zeros, there are behind the first
pub last_from_each : (bytes : List ℕ) → ((front behind : List ℕ) → bytes ≡ front ++ 247 ∷ behind → IsZeros behind) → IsZeros (behind_end bytes)
last_from_each [] each = tt
last_from_each (b ∷ bytes) each =
    elim (cases_Bool (nat_eq b 247)) [
      | inl ends ↦
          subst (λ t. IsZeros (if t then bytes else behind_end bytes)) (sym ends)
          (each [] bytes (ap (λ n. n ∷ bytes) (eqb-true b 247 ends)))
      | inr goes ↦
          subst (λ t. IsZeros (if t then bytes else behind_end bytes)) (sym goes)
          (last_from_each bytes (λ front behind e. each (b ∷ front) behind (ap (λ l. b ∷ l) e)))
    ]

-- what is not torn
pub not_last : (rest behind : List ℕ) (told : Bool) → behind ≡ behind_end rest → Decides told (IsZeros behind) → told ≡ false → IsTorn rest → ⊥
not_last rest behind told is d f torn = true≢false (sym (d.1 (subst IsZeros (sym is) torn.last)) ∙ f)

pub not_few : (rest behind : List ℕ) (told : Bool) → behind ≡ drop longest_entry rest → Decides told (IsZeros behind) → told ≡ false → IsTorn rest → ⊥
not_few rest behind told is d f torn = true≢false (sym (d.1 (subst IsZeros (sym is) torn.few)) ∙ f)
