-- Sites that stand for plain ones, one by one.
use Rattle.std.proofs.Common.{◌≡◌, ℕ, ◌+◌, ◌-◌, ◌<◌, ◌⊎◌, inl, inr, List, [], ◌∷◌, ◌++◌, length, slice_get, slice_set, Option, Some, None, refl, ap, sym}
use Rattle.std.proofs.Common.{subst, arith}
use Rattle.std.proofs.lemmas.Option.{slice_get_past}
use Rattle.tardis_base.specs.declared.records.Limits.{Limits}
use Rattle.plain_site.specs.Site.{Site, opening}
use Rattle.plain_world.specs.Worlds.{site_at, with_site, opening_sites}
use Rattle.world_core.specs.Held.{AllStand}

abbrev core_of : {S : Type 0} → S → Option S → S
core_of other None = other
core_of other (Some core) = core

abbrev site_of : Site → Option Site → Site
site_of other None = other
site_of other (Some site) = site

-- the core stands for the site at this place
pub record StandsAt {S : Type 0} (stands : S → Site → Type 0) (core : S) (sites : List Site) (i : ℕ) : Type 0 where
  pub site : Site
  pub there : slice_get sites i ≡ Some site
  pub here : stands core site

pub set_same : (sites : List Site) (i : ℕ) (site : Site) → slice_get sites i ≡ Some site → slice_set sites i site ≡ sites
set_same [] i site e = refl
set_same (s ∷ ss) ℕ.zero site e = ap (λ z. z ∷ ss) (sym (ap (site_of s) e))
set_same (s ∷ ss) (ℕ.suc i) site e = ap (λ z. s ∷ z) (set_same ss i site e)

pub site_there : (sites : List Site) (i : ℕ) → site_at sites (i + 1) ≡ slice_get sites i
site_there sites i = let e : i + 1 ≡ ℕ.suc i = omega arith in ap (site_at sites) e

pub no_site_there : (sites : List Site) (n : ℕ) → (n ≡ 0) ⊎ (length sites < n) → site_at sites n ≡ None
no_site_there sites ℕ.zero h = refl
no_site_there sites (ℕ.suc n) (inl h) = absurd (omega (arith, h))
no_site_there sites (ℕ.suc n) (inr h) = slice_get_past sites n (omega (arith, h))

-- there is a site for each core
pub record IsThere (sites : List Site) (i : ℕ) : Type 0 where
  pub site : Site
  pub there : slice_get sites i ≡ Some site

pub set_there : (sites : List Site) (i : ℕ) (site : Site) → with_site sites (i + 1) site ≡ slice_set sites i site
set_there sites i site = let e : i + 1 - 1 ≡ i = omega arith in ap (λ k. slice_set sites k site) e

module _ {S : Type 0} (stands : S → Site → Type 0) where
  pub stands_at : (cores : List S) (sites : List Site) (i : ℕ) (core : S) → AllStand stands cores sites → slice_get cores i ≡ Some core → StandsAt stands core sites i
  stands_at [] sites i core all e = absurd (cc)
  stands_at (c ∷ cs) [] i core all e = absurd (all)
  stands_at (c ∷ cs) (s ∷ ss) ℕ.zero core all e = record { site = s; there = refl; here = subst (λ z. stands z s) (ap (core_of c) e) all.0 }
  stands_at (c ∷ cs) (s ∷ ss) (ℕ.suc i) core all e = let r = stands_at cs ss i core all.1 e in record { site = r.site; there = r.there; here = r.here }

  pub all_set : (cores : List S) (sites : List Site) (i : ℕ) (core : S) (site : Site) → AllStand stands cores sites → stands core site →
      AllStand stands (slice_set cores i core) (slice_set sites i site)
  all_set [] [] i core site all one = tt
  all_set [] (s ∷ ss) i core site all one = absurd (all)
  all_set (c ∷ cs) [] i core site all one = absurd (all)
  all_set (c ∷ cs) (s ∷ ss) ℕ.zero core site all one = (one, all.1)
  all_set (c ∷ cs) (s ∷ ss) (ℕ.suc i) core site all one = (all.0, all_set cs ss i core site all.1 one)

  pub as_many : (cores : List S) (sites : List Site) → AllStand stands cores sites → length sites ≡ length cores
  as_many [] [] all = refl
  as_many [] (s ∷ ss) all = absurd (all)
  as_many (c ∷ cs) [] all = absurd (all)
  as_many (c ∷ cs) (s ∷ ss) all = omega (arith, as_many cs ss all.1)

  pub no_site_in : (cores : List S) (sites : List Site) (n : ℕ) → AllStand stands cores sites → (n ≡ 0) ⊎ (length cores < n) → site_at sites n ≡ None
  no_site_in cores sites n all (inl h) = no_site_there sites n (inl h)
  no_site_in cores sites n all (inr h) = no_site_there sites n (inr (subst (λ k. k < n) (sym (as_many cores sites all)) h))

  pub is_there : (cores : List S) (sites : List Site) (i : ℕ) → AllStand stands cores sites → i < length cores → IsThere sites i
  is_there [] [] i all h = absurd (omega (arith, h))
  is_there [] (s ∷ ss) i all h = absurd (all)
  is_there (c ∷ cs) [] i all h = absurd (all)
  is_there (c ∷ cs) (s ∷ ss) ℕ.zero all h = record { site = s; there = refl }
  is_there (c ∷ cs) (s ∷ ss) (ℕ.suc i) all h = let r = is_there cs ss i all.1 (omega (arith, h)) in record { site = r.site; there = r.there }

  -- one more site opened
  pub one_more : (cores : List S) (limits : Limits) (n count : ℕ) (core : S) → AllStand stands cores (opening_sites limits n count) →
      stands core (opening limits (n + count)) → AllStand stands (cores ++ core ∷ []) (opening_sites limits n (count + 1))
  one_more cores limits n count core all one = let e : count + 1 ≡ ℕ.suc count = omega arith in
      subst (λ k. AllStand stands (cores ++ core ∷ []) (opening_sites limits n k)) (sym e) (go cores n count all one)
    where
      go : (cs : List S) (n count : ℕ) → AllStand stands cs (opening_sites limits n count) → stands core (opening limits (n + count)) →
          AllStand stands (cs ++ core ∷ []) (opening_sites limits n (ℕ.suc count))
      go [] n ℕ.zero all one = let e : n + 0 ≡ n = omega arith in (subst (λ k. stands core (opening limits k)) e one, tt)
      go [] n (ℕ.suc count) all one = absurd (all)
      go (c ∷ cs) n ℕ.zero all one = absurd (all)
      go (c ∷ cs) n (ℕ.suc count) all one =
          let e : n + ℕ.suc count ≡ n + 1 + count = omega arith in
          (all.0, go cs (n + 1) count all.1 (subst (λ k. stands core (opening limits k)) e one))
