-- Where things stand in lists: floors, sites, and what waits.
use Rattle.std.proofs.Common.{◌≡◌, ℕ, suc, ◌+◌, ◌-◌, ◌≤◌, ◌≢◌, Bool, List, [], ◌∷◌, ◌++◌, length, Option, Some, None, ◌⊎◌, inl, inr, refl, sym, ap, subst}
use Rattle.std.proofs.Common.{◌∙◌, arith}
use Rattle.std.specs.Prelude.{◌==◌, drop, slice_get, slice_set, get_or, if◌then◌else◌}
use Rattle.std.specs.Option.{option_map}
use Rattle.std.proofs.lemmas.Bool.{cases_Bool, cond_both, cond-true, cond-false, eqb-true, eqb-false}
use Rattle.std.proofs.lemmas.Option.{none-some, unwrap_or-slice_get, slice_get-get_or, slice_get_within}
use Rattle.std.proofs.lemmas.List.{length-set, get_or-set_same, get_or-set_other}
use Rattle.tardis_base.specs.declared.records.Record.{Record}
use Rattle.plain_dag.specs.Floors.{Floor, opening_floor, floor_of, with_floor}
use Rattle.plain_site.specs.WaitingRoom.{hold, waits, is_full, first_fit, without}
use Rattle.plain_site.specs.Site.{Site}
use Rattle.plain_world.specs.Worlds.{site_at, with_site}
use Rattle.plain_world.specs.Honest.{IsOneOf}

-- two numbers are equal or differ
pub cases_eq : (m n : ℕ) → (m ≡ n) ⊎ (m ≢ n)
cases_eq m n = elim (cases_Bool (m == n)) [ inl t ↦ inl (eqb-true m n t) | inr f ↦ inr (eqb-false m n f) ]

got-set_other : {A : Type 0} (xs : List A) (i j : ℕ) (a : A) → j ≢ i → slice_get (slice_set xs i a) j ≡ slice_get xs j
got-set_other [] i j a differ = refl
got-set_other (x ∷ xs) ℕ.zero ℕ.zero a differ = absurd (differ refl)
got-set_other (x ∷ xs) ℕ.zero (suc j) a differ = refl
got-set_other (x ∷ xs) (suc i) ℕ.zero a differ = refl
got-set_other (x ∷ xs) (suc i) (suc j) a differ = got-set_other xs i j a (λ e. differ (ap suc e))

-- ===== Floors

pub floor-set_same : (floors : List Floor) (n : ℕ) (f : Floor) → 1 ≤ n → n ≤ length floors → floor_of (with_floor floors n f) n ≡ f
floor-set_same floors n f least most =
    unwrap_or-slice_get (slice_set floors (n - 1) f) (n - 1) opening_floor ∙ get_or-set_same floors (n - 1) f opening_floor (omega arith)

pub floor-set_other : (floors : List Floor) (n m : ℕ) (f : Floor) → 1 ≤ n → 1 ≤ m → (m ≡ n → ⊥) → floor_of (with_floor floors n f) m ≡ floor_of floors m
floor-set_other floors n m f least too differ =
    let apart : m - 1 ≢ n - 1 = λ e. differ (omega arith) in
    unwrap_or-slice_get (slice_set floors (n - 1) f) (m - 1) opening_floor
    ∙ (get_or-set_other floors (n - 1) (m - 1) f opening_floor apart ∙ sym (unwrap_or-slice_get floors (m - 1) opening_floor))

-- ===== One of several

module _ {A : Type 0} where
  pub one-after : (a : A) (xs ys : List A) → IsOneOf a ys → IsOneOf a (xs ++ ys)
  one-after a [] ys m = m
  one-after a (x ∷ xs) ys m = inr (one-after a xs ys m)

  pub one-before : (a : A) (xs ys : List A) → IsOneOf a xs → IsOneOf a (xs ++ ys)
  one-before a [] ys m = absurd (m)
  one-before a (x ∷ xs) ys (inl e) = inl e
  one-before a (x ∷ xs) ys (inr m) = inr (one-before a xs ys m)

  pub one-appended : (a : A) (xs ys : List A) → IsOneOf a (xs ++ ys) → IsOneOf a xs ⊎ IsOneOf a ys
  one-appended a [] ys m = inr m
  one-appended a (x ∷ xs) ys (inl e) = inl (inl e)
  one-appended a (x ∷ xs) ys (inr m) = elim (one-appended a xs ys m) [ inl h ↦ inl (inr h) | inr h ↦ inr h ]

  pub one-got : (xs : List A) (i : ℕ) (a : A) → slice_get xs i ≡ Some a → IsOneOf a xs
  one-got [] i a e = absurd (none-some a e)
  one-got (x ∷ xs) ℕ.zero a e = inl (sym (ap (λ (o : Option A). elim o as (λ u. A) [ None ↦ x | Some b ↦ b ]) e))
  one-got (x ∷ xs) (suc i) a e = inr (one-got xs i a e)

-- ===== What waits

pub left-is-one : (place : ℕ) (room : List Record) (q : Record) → IsOneOf q (without place room) → IsOneOf q room
left-is-one ℕ.zero [] q m = m
left-is-one ℕ.zero (r ∷ room) q m = inr m
left-is-one (suc place) [] q m = m
left-is-one (suc place) (r ∷ room) q (inl e) = inl e
left-is-one (suc place) (r ∷ room) q (inr m) = inr (left-is-one place room q m)

dropped-is-one : (room : List Record) (q : Record) → IsOneOf q (drop 1 room) → IsOneOf q room
dropped-is-one [] q m = m
dropped-is-one (r ∷ room) q m = inr m

pub held-cases : (r : Record) (room : List Record) (q : Record) → IsOneOf q (hold r room) → IsOneOf q room ⊎ (q ≡ r)
held-cases r room q =
    cond_both (waits room r.id) room ((if is_full room then drop 1 room else room) ++ r ∷ []) (λ (qs : List Record). IsOneOf q qs → IsOneOf q room ⊎ (q ≡ r))
    (λ t m. inl m)
    (λ f m. elim (one-appended q (if is_full room then drop 1 room else room) (r ∷ []) m) [
      | inl before ↦ inl (cond_both (is_full room) (drop 1 room) room (λ (qs : List Record). IsOneOf q qs → IsOneOf q room)
          (λ u h. dropped-is-one room q h) (λ u h. h) before)
      | inr (inl e) ↦ inr e
      | inr (inr none) ↦ absurd (none)
    ])

pub first-fit-is-one : (fits : Record → Bool) (room : List Record) (found : ℕ × Record) → first_fit fits room ≡ Some found → IsOneOf found.1 room
first-fit-is-one fits [] found e = absurd (none-some found e)
first-fit-is-one fits (r ∷ room) found e =
    let later : Option (ℕ × Record) = option_map (λ (f : ℕ × Record). (f.0 + 1, f.1)) (first_fit fits room) in
    elim (cases_Bool (fits r)) [
      | inl t ↦ inl (sym (some-second (0, r) found (sym (cond-true (fits r) (Some (0, r)) later t) ∙ e)))
      | inr f ↦ inr (go (first-fit-is-one fits room) (first_fit fits room) refl (sym (cond-false (fits r) (Some (0, r)) later f) ∙ e))
    ]
  where
    some-second : (a b : ℕ × Record) → Some a ≡ Some b → a.1 ≡ b.1
    some-second a b e = ap (λ (o : Option (ℕ × Record)). elim o as (λ u. Record) [ None ↦ a.1 | Some c ↦ c.1 ]) e

    go : ((found : ℕ × Record) → first_fit fits room ≡ Some found → IsOneOf found.1 room) → (o : Option (ℕ × Record)) → first_fit fits room ≡ o
        → option_map (λ (f : ℕ × Record). (f.0 + 1, f.1)) o ≡ Some found → IsOneOf found.1 room
    go older None is none = absurd (none-some found none)
    go older (Some f) is some = subst (λ (q : Record). IsOneOf q room) (some-second (f.0 + 1, f.1) found some) (older f is)

-- ===== Sites

pub site-within : (sites : List Site) (n : ℕ) (s : Site) → site_at sites n ≡ Some s → (1 ≤ n) × (n ≤ length sites)
site-within sites ℕ.zero s e = absurd (none-some s e)
site-within sites (suc n) s e = let l = slice_get_within sites n s e in (omega arith, omega arith)

pub site-there : (sites : List Site) (n : ℕ) → 1 ≤ n → n ≤ length sites → (s : Site) × (site_at sites n ≡ Some s)
site-there [] n least most = absurd (omega arith)
site-there (s ∷ sites) ℕ.zero least most = absurd (omega arith)
site-there (s ∷ sites) (suc n) least most = (get_or (s ∷ sites) n s, slice_get-get_or (s ∷ sites) n s (omega arith))

pub site-set_same : (sites : List Site) (n : ℕ) (s : Site) → 1 ≤ n → n ≤ length sites → site_at (with_site sites n s) n ≡ Some s
site-set_same sites ℕ.zero s least most = absurd (omega arith)
site-set_same sites (suc n) s least most =
    let same : suc n - 1 ≡ n = omega arith in
    let long = length-set sites n s in
    let here = slice_get-get_or (slice_set sites n s) n s (omega arith) in
    let got : site_at (slice_set sites n s) (suc n) ≡ Some s = here ∙ ap Some (get_or-set_same sites n s s (omega arith)) in
    subst (λ i. site_at (slice_set sites i s) (suc n) ≡ Some s) (sym same) got

pub site-set_other : (sites : List Site) (n m : ℕ) (s : Site) → 1 ≤ n → m ≢ n → site_at (with_site sites n s) m ≡ site_at sites m
site-set_other sites n ℕ.zero s least differ = refl
site-set_other sites ℕ.zero (suc m) s least differ = absurd (omega arith)
site-set_other sites (suc n) (suc m) s least differ =
    let same : suc n - 1 ≡ n = omega arith in
    let apart : m ≢ n = λ e. differ (ap suc e) in
    subst (λ i. site_at (slice_set sites i s) (suc m) ≡ site_at sites (suc m)) (sym same) (got-set_other sites n m s apart)

pub set-length : (sites : List Site) (n : ℕ) (s : Site) → length (with_site sites n s) ≡ length sites
set-length sites n s = length-set sites (n - 1) s
