-- Which site joins two leaves.
use Rattle.std.proofs.Common.{◌≡◌, ℕ, Bool, ◌==◌, ◌||◌, true, false, min, max, IsTrue, IsFalse, inl, inr, refl, sym, ap, ◌∙◌, if◌then◌else◌}
use Rattle.std.proofs.lemmas.Bool.{cases_Bool, both_ways, cond-true, cond-false, eqb-true, eq-eqb}
use Rattle.tardis_base.specs.declared.ids.StateId.{StateId}
use Rattle.join_rules.specs.Joints.{rank, joins_at_once}
use Rattle.join_rules.specs.Laws.{OneSiteJoinsAtOnce, SomeSiteJoinsAtOnce}

-- the rank of a site that doesn't join at once
abbrev later : Bool → ℕ
later b = if b then 1 else 2

later-isnt-now : (b : Bool) → IsFalse (later b == 0)
later-isnt-now true = refl
later-isnt-now false = refl

-- a site that joins them at once has the lesser number
least : (own : ℕ) (x y : StateId) → IsTrue (joins_at_once own x y) → own ≡ min x.site y.site
least own x y t = elim (cases_Bool (own == min x.site y.site)) [ inl is ↦ eqb-true own (min x.site y.site) is | inr isnt ↦ absurd (never isnt) ]
  where
    never : IsFalse (own == min x.site y.site) → ⊥
    never isnt =
        let waits = own == max x.site y.site || x.site == y.site in
        both_ways (rank own x y == 0)
        (ap (λ (n : ℕ). n == 0) (cond-false (own == min x.site y.site) 0 (later waits) isnt) ∙ later-isnt-now waits) t

pub one-site-joins-at-once : OneSiteJoinsAtOnce
one-site-joins-at-once m n x y differ one other = differ (least m x y one ∙ sym (least n x y other))

pub some-site-joins-at-once : SomeSiteJoinsAtOnce
some-site-joins-at-once x y =
    let least = min x.site y.site in
    ap (λ (n : ℕ). n == 0) (cond-true (least == least) 0 (later (least == max x.site y.site || x.site == y.site)) (eq-eqb least least refl))
