-- A life once known stays.
use Rattle.std.proofs.Common.{◌≡◌, ℕ, ◌-◌, ◌<◌, Bool, true, false, ◌==◌, not, List, [], ◌∷◌, length, get_or, Option, Some, None, IsTrue, IsFalse}
use Rattle.std.proofs.Common.{inl, inr, refl, sym, ap, subst, ◌∙◌, arith, if◌then◌else◌, eqb-true, ltb-true, ltb-false}
use Rattle.std.specs.Prelude.{is_none, bytes_eq, nat_lt}
use Rattle.std.specs.Option.{option_map_or}
use Rattle.std.proofs.lemmas.Bool.{both_ways, cases_Bool, cond-true, cond-false, not-false, eqb-false}
use Rattle.std.proofs.lemmas.Option.{none-some}
use Rattle.std.proofs.lemmas.List.{get_or_past, get_or-set_other}
use Rattle.std.proofs.lemmas.Slice.Eq.{bytes_eq-Decides}
use Rattle.wire_lives.specs.declared.introductions.Introduction.{Introduction}
use Rattle.wire_lives.specs.Readings.{introduction_of, life_in}
use Rattle.site_lives.specs.declared.lives.NewLife.{NewLife}
use Rattle.site_lives.specs.Lives.{Life, Lives, life_of, with_new, new_life, is_another, verdict, introduced, meet, begun, begin_life, lives_answer}

abbrev pub of-it : ℕ → Life → NewLife
of-it number life = record { number = number; life = life }

-- what is known has a place
pub is-within : (lives : Lives) (number : ℕ) (life : Life) → life_of lives number ≡ Some life → number - 1 < length lives
is-within lives number life e =
    elim (cases_Bool (nat_lt (number - 1) (length lives))) [
      | inl t ↦ ltb-true (number - 1) (length lives) t
      | inr f ↦ absurd (none-some life (sym (get_or_past lives (number - 1) None (ltb-false (number - 1) (length lives) f)) ∙ e))
    ]

-- a life that isn't another one is this
pub is-this : (known life : Life) → IsFalse (is_another (Some known) life) → known ≡ life
is-this known life f = (bytes_eq-Decides known life).0 (not-false (bytes_eq known life) f)

-- what is known stays when a life is put of which none was known
pub putting-keeps : (lives : Lives) (at : ℕ) (put : Life) (number : ℕ) (life : Life) → life_of lives number ≡ Some life →
    life_of (with_new (new_life lives at put) lives) number ≡ Some life
putting-keeps lives at put number life known =
    elim (cases_Bool (is_none (life_of lives at))) [
      | inl t ↦
          let other : (number - 1 ≡ at - 1) → ⊥ = λ same.
          both_ways (is_none (life_of lives at)) (ap (λ i. is_none (get_or lives i None)) (sym same) ∙ ap is_none known) t in
          subst (λ (o : Option NewLife). life_of (with_new o lives) number ≡ Some life) (sym (cond-true (is_none (life_of lives at)) (Some (of-it at put)) None t))
          (get_or-set_other lives (at - 1) (number - 1) (Some put) None other ∙ known)
      | inr f ↦
          subst (λ (o : Option NewLife). life_of (with_new o lives) number ≡ Some life) (sym (cond-false (is_none (life_of lives at)) (Some (of-it at put)) None f)) known
    ]

-- ===== What a verdict says

-- the other site was met
pub record IsMet (own sites : ℕ) (lives : Lives) (i : Introduction) : Type 0 where
  pub as_many : i.sites ≡ sites
  pub other : i.number ≡ own → ⊥
  pub same : IsFalse (is_another (life_of lives i.number) i.life)
  pub own_known : IsFalse (is_none (life_of lives own))

met-so : (a b c d : Bool) → ◌≡◌ {A = ℕ} (if not a then 3 else (if b then 2 else (if c then 1 else (if d then 5 else 0)))) 0 →
    IsTrue a × (IsFalse b × (IsFalse c × IsFalse d))
met-so true false false false e = (refl, (refl, (refl, refl)))
met-so true false false true e = absurd (let bad : ⊥ = omega (arith, e) in bad)
met-so true false true d e = absurd (let bad : ⊥ = omega (arith, e) in bad)
met-so true true c d e = absurd (let bad : ⊥ = omega (arith, e) in bad)
met-so false b c d e = absurd (let bad : ⊥ = omega (arith, e) in bad)

pub is-met : (own sites : ℕ) (lives : Lives) (i : Introduction) → verdict own sites lives i ≡ 0 → IsMet own sites lives i
is-met own sites lives i e =
    let parts = met-so (i.sites == sites) (i.number == own) (is_another (life_of lives i.number) i.life) (is_none (life_of lives own)) e in
    record { as_many = eqb-true i.sites sites parts.0; other = eqb-false i.number own parts.1.0; same = parts.1.1.0; own_known = parts.1.1.1 }

-- ===== One request

module _ (lives : Lives) (number : ℕ) (life : Life) (known : life_of lives number ≡ Some life) where
  abbrev Keeps : ℕ × Option NewLife → Type 0
  Keeps answer = life_of (with_new answer.1 lives) number ≡ Some life

  introduced-keeps : (own sites : ℕ) (i : Introduction) → Keeps (introduced own sites lives i)
  introduced-keeps own sites i =
      let new = new_life lives i.number i.life in
      elim (cases_Bool (verdict own sites lives i == 0)) [
        | inl t ↦
            subst (λ (o : Option NewLife). life_of (with_new o lives) number ≡ Some life) (sym (cond-true (verdict own sites lives i == 0) new None t))
            (putting-keeps lives i.number i.life number life known)
        | inr f ↦ subst (λ (o : Option NewLife). life_of (with_new o lives) number ≡ Some life) (sym (cond-false (verdict own sites lives i == 0) new None f)) known
      ]

  meeting-keeps : (own sites : ℕ) (fields : List ℕ) → Keeps (meet own sites lives fields)
  meeting-keeps own sites fields = go (introduction_of fields)
    where
      go : (o : Option Introduction) → Keeps (option_map_or (introduced own sites lives) o (4, None))
      go None = known
      go (Some i) = introduced-keeps own sites i

  begun-keeps : (own : ℕ) (begins : Life) → Keeps (begun own lives begins)
  begun-keeps own begins =
      let new = new_life lives own begins in
      elim (cases_Bool (is_another (life_of lives own) begins)) [
        | inl t ↦ subst Keeps (sym (cond-true (is_another (life_of lives own) begins) (1, None) (0, new) t)) known
        | inr f ↦
            subst Keeps (sym (cond-false (is_another (life_of lives own) begins) (1, None) (0, new) f)) (putting-keeps lives own begins number life known)
      ]

  beginning-keeps : (own : ℕ) (fields : List ℕ) → Keeps (begin_life own lives fields)
  beginning-keeps own fields = go (life_in fields)
    where
      go : (o : Option Life) → Keeps (option_map_or (begun own lives) o (5, None))
      go None = known
      go (Some begins) = begun-keeps own begins

  pub answer-keeps : (own sites : ℕ) (bytes : List ℕ) → life_of (with_new (lives_answer own sites lives bytes).1 lives) number ≡ Some life
  answer-keeps own sites [] = known
  answer-keeps own sites (code ∷ fields) =
      elim (cases_Bool (code == 72)) [
        | inl t ↦ subst Keeps (sym (cond-true (code == 72) (meet own sites lives fields) (begin_life own lives fields) t)) (meeting-keeps own sites fields)
        | inr f ↦ subst Keeps (sym (cond-false (code == 72) (meet own sites lives fields) (begin_life own lives fields) f)) (beginning-keeps own fields)
      ]
