-- The promise of the first floor whose number rose.
use Rattle.std.proofs.Common.{◌≡◌, ℕ, ◌+◌, ◌-◌, ◌<◌, ◌≤◌, ◌==◌, Bool, List, length, drop, set, get_or, Option, Some, None}
use Rattle.std.proofs.Common.{inl, inr, sym, ap, ap₂, subst, ◌∙◌, arith, if◌then◌else◌, nat_lt}
use Rattle.std.proofs.lemmas.Bool.{cond-true, cond-false, lt-ltb, ltb-true, false_from_ne_true, cases_Bool, both_ways, eqb-true, eq-eqb}
use Rattle.std.proofs.lemmas.List.{drop_more, drop_all, get_or-set_same, get_or-set_other}
use Rattle.std.proofs.lemmas.Option.{unwrap_or-slice_get}
use Rattle.tardis_base.specs.declared.records.Consent.{Consent}
use Rattle.tardis_base.specs.declared.records.Item.TheVariants.{Promise}
use Rattle.plain_dag.specs.Floors.{Floor, opening_floor, floor_of}
use Rattle.ceiling_book.specs.Book.{floors_of}
use Rattle.plain_site.specs.Site.{Site}
use Rattle.plain_site.specs.Rest.{Lasting, News, promise_of, promise_between}
use Rattle.session_core.specs.Core.{Core}
use Rattle.session_core.specs.Machine.{SiteStands}
use Rattle.rest_site.specs.Notes.{IsNoted}
use Rattle.rest_site.specs.declared.notes.Noted.{Noted}

-- the floor at a place, counted from 0
pub floor-at : (fs : List Floor) (k : ℕ) → floor_of fs (k + 1) ≡ get_or fs k opening_floor
floor-at fs k =
    let place : k + 1 - 1 ≡ k = omega arith in
    unwrap_or-slice_get fs (k + 1 - 1) opening_floor ∙ ap (λ j. get_or fs j opening_floor) place

module _ (fs gs : List Floor) (k : ℕ) (first : k < length fs) (second : k < length gs) where
  abbrev later : Option Lasting
  later = promise_between (k + 1 + 1) (drop (k + 1) fs) (drop (k + 1) gs)

  abbrev rose : Bool
  rose = nat_lt (floor_of fs (k + 1)).number (floor_of gs (k + 1)).number

  -- what is seen from this place on
  here : promise_between (k + 1) (drop k fs) (drop k gs) ≡ (if rose then Some (promise_of (k + 1) (floor_of gs (k + 1))) else later)
  here =
      ap₂ (λ (xs ys : List Floor). promise_between (k + 1) xs ys) (drop_more fs k opening_floor first) (drop_more gs k opening_floor second)
      ∙ ap₂ (λ (f g : Floor). if nat_lt f.number g.number then Some (promise_of (k + 1) g) else later) (sym (floor-at fs k)) (sym (floor-at gs k))

  -- its number rose
  pub rises-here : (floor_of fs (k + 1)).number < (floor_of gs (k + 1)).number →
      promise_between (k + 1) (drop k fs) (drop k gs) ≡ Some (promise_of (k + 1) (floor_of gs (k + 1)))
  rises-here more =
      here ∙ cond-true rose (Some (promise_of (k + 1) (floor_of gs (k + 1)))) later
      (lt-ltb (floor_of fs (k + 1)).number (floor_of gs (k + 1)).number more)

  -- it didn't
  pub rises-later : ¬ ((floor_of fs (k + 1)).number < (floor_of gs (k + 1)).number) → promise_between (k + 1) (drop k fs) (drop k gs) ≡ later
  rises-later none =
      here ∙ cond-false rose (Some (promise_of (k + 1) (floor_of gs (k + 1)))) later
      (false_from_ne_true rose (λ t. none (ltb-true (floor_of fs (k + 1)).number (floor_of gs (k + 1)).number t)))

-- none is left
pub rises-no-more : (fs gs : List Floor) (k : ℕ) → length fs ≤ k → promise_between (k + 1) (drop k fs) (drop k gs) ≡ None
rises-no-more fs gs k l = ap (λ (xs : List Floor). promise_between (k + 1) xs (drop k gs)) (drop_all k fs l)

-- ===== What was noted

-- one number more is noted
pub next-number : (f : ℕ → ℕ) (ns : List ℕ) (k v : ℕ) → k < length ns → ((i : ℕ) → i < k → get_or ns i 0 ≡ f i) → v ≡ f k →
    (i : ℕ) → i < k + 1 → get_or (set ns k v) i 0 ≡ f i
next-number f ns k v within so_far is i l = elim (cases_Bool (i == k)) [
  | inl t ↦ subst (λ j. get_or (set ns k v) j 0 ≡ f j) (sym (eqb-true i k t)) (get_or-set_same ns k v 0 within ∙ is)
  | inr other ↦
      let apart : i ≡ k → ⊥ = λ e. both_ways (i == k) other (eq-eqb i k e) in
      get_or-set_other ns k i v 0 apart ∙ so_far i (omega (arith, l, apart))
]

module _ (before : Noted) (core : Core) (old behind : Site) (noted : IsNoted before old) (stands : SiteStands core behind)
    (same : length old.floors ≡ length behind.floors) (k : ℕ)
    (so_far : promise_between 1 old.floors behind.floors ≡ promise_between (k + 1) (drop k old.floors) (drop k behind.floors)) where
  all : length (floors_of core.book) ≡ length behind.floors
  all = ap length stands.0.floors

  module _ (within : k < length (floors_of core.book)) (n : ℕ) (is : n ≡ (floor_of (floors_of core.book) (k + 1)).number) where
    first : k < length old.floors
    first = omega (arith, within, all, same)

    second : k < length behind.floors
    second = omega (arith, within, all)

    known : get_or before.numbers k 0 ≡ (floor_of old.floors (k + 1)).number
    known = noted.numbers k first

    number : n ≡ (floor_of behind.floors (k + 1)).number
    number = is ∙ ap (λ (fs : List Floor). (floor_of fs (k + 1)).number) stands.0.floors

    -- its number is higher than was noted
    pub promise-found : get_or before.numbers k 0 < n → (c : Consent) → News (Promise c) ≡ promise_of (k + 1) (floor_of behind.floors (k + 1)) →
        Some (News (Promise c)) ≡ promise_between 1 old.floors behind.floors
    promise-found more c told =
        let rose : (floor_of old.floors (k + 1)).number < (floor_of behind.floors (k + 1)).number = omega (arith, more, known, number) in
        sym (so_far ∙ (rises-here old.floors behind.floors k first second rose ∙ ap (λ (l : Lasting). Some l) (sym told)))

    -- it isn't
    pub promise-passed : ¬ (get_or before.numbers k 0 < n) →
        promise_between 1 old.floors behind.floors ≡ promise_between (k + 1 + 1) (drop (k + 1) old.floors) (drop (k + 1) behind.floors)
    promise-passed none =
        so_far ∙ rises-later old.floors behind.floors k first second (λ rose. none (omega (arith, rose, known, number)))

  -- all were looked at
  pub promise-none : length (floors_of core.book) ≤ k → None ≡ promise_between 1 old.floors behind.floors
  promise-none many = sym (so_far ∙ rises-no-more old.floors behind.floors k (omega (arith, many, all, same)))
