-- Trails of a site that meets others.
use Rattle.std.proofs.Common.{◌≡◌, ℕ, Bool, not, List, [], ◌∷◌, Some, IsTrue, IsFalse, inl, inr, sym, ap, subst, ◌∙◌}
use Rattle.std.proofs.Common.{if◌then◌else◌}
use Rattle.std.proofs.lemmas.Bool.{cases_Bool, cond-true, cond-false, or_parts}
use Rattle.tardis_base.specs.Plain.{Event, PlainMachine, Answers}
use Rattle.plain_site.specs.Site.{Site}
use Rattle.site_lives.specs.Lives.{Life, life_of, is_of_lives}
use Rattle.site_lives.specs.Acquainted.{Acquainted, about_lives, with_news, acquainted}
use Rattle.site_lives.specs.Laws.{EachHasItsOwn, others, replies_to_others, SiteHasItsTrail, LivesStay}
use Rattle.site_lives.proofs.Stays.{answer-keeps}

module _ (m : PlainMachine Site) where
  module _ (a : Acquainted) (e : Event) where
    abbrev of-lives : Acquainted
    of-lives = with_news (about_lives a e.1).1 a

    abbrev of-site : Acquainted
    of-site = record a { site = m.step a.site e }

    pub step-lives : IsTrue (is_of_lives e.1) → (acquainted m).step a e ≡ of-lives
    step-lives t = cond-true (is_of_lives e.1) of-lives of-site t

    pub step-site : IsFalse (is_of_lives e.1) → (acquainted m).step a e ≡ of-site
    step-site f = cond-false (is_of_lives e.1) of-lives of-site f

    step-told : ((acquainted m).step a e).told ≡ a.told
    step-told =
        elim (cases_Bool (is_of_lives e.1)) [
          | inl t ↦ ap (λ (s : Acquainted). s.told) (step-lives t)
          | inr f ↦ ap (λ (s : Acquainted). s.told) (step-site f)
        ]

    pub reply-site : IsFalse (is_of_lives e.1) → (acquainted m).reply a e ≡ m.reply a.site e
    reply-site f = cond-false (is_of_lives e.1) (about_lives a e.1).0 (m.reply a.site e) f

    step-keeps : (number : ℕ) (life : Life) → life_of a.lives number ≡ Some life → life_of ((acquainted m).step a e).lives number ≡ Some life
    step-keeps number life known =
        elim (cases_Bool (is_of_lives e.1)) [
          | inl t ↦
              subst (λ (s : Acquainted). life_of s.lives number ≡ Some life) (sym (step-lives t))
              (answer-keeps a.lives number life known a.site.own a.site.limits.sites e.1)
          | inr f ↦ subst (λ (s : Acquainted). life_of s.lives number ≡ Some life) (sym (step-site f)) known
        ]

  pub each-has-its-own : EachHasItsOwn m
  each-has-its-own = record {
    site = λ a e t. ap (λ (s : Acquainted). s.site) (step-lives a e t);
    lives = λ a e f. ap (λ (s : Acquainted). s.lives) (step-site a e f);
    step = λ a e f. ap (λ (s : Acquainted). s.site) (step-site a e f);
    reply = λ a e f. reply-site a e f;
    told = step-told;
  }

  pub lives-stay : LivesStay m
  lives-stay a b [] [] number life h known = subst (λ (s : Acquainted). life_of s.lives number ≡ Some life) (sym h) known
  lives-stay a b [] (y ∷ ys) number life h known = absurd (h)
  lives-stay a b (e ∷ es) [] number life h known = absurd (h)
  lives-stay a b (e ∷ es) (y ∷ ys) number life (inl done) known =
      lives-stay ((acquainted m).step a e) b es ys number life done.1 (step-keeps a e number life known)
  lives-stay a b (e ∷ es) (y ∷ ys) number life (inr undone) known = lives-stay a b es ys number life undone.2 known

  -- ===== The trail of the site

  module _ (e : Event) (es : List Event) (y : List ℕ) (ys : List (List ℕ)) where
    pub out-events : IsTrue (is_of_lives e.1) → others (e ∷ es) ≡ others es
    out-events t = ap (λ (b : Bool). if not b then e ∷ others es else others es) t

    pub in-events : IsFalse (is_of_lives e.1) → others (e ∷ es) ≡ e ∷ others es
    in-events f = ap (λ (b : Bool). if not b then e ∷ others es else others es) f

    pub out-replies : IsTrue (is_of_lives e.1) → replies_to_others (e ∷ es) (y ∷ ys) ≡ replies_to_others es ys
    out-replies t = cond-true (is_of_lives e.1) (replies_to_others es ys) (y ∷ replies_to_others es ys) t

    pub in-replies : IsFalse (is_of_lives e.1) → replies_to_others (e ∷ es) (y ∷ ys) ≡ y ∷ replies_to_others es ys
    in-replies f = cond-false (is_of_lives e.1) (replies_to_others es ys) (y ∷ replies_to_others es ys) f

    -- it isn't in the site's trail
    left-out : (s t : Site) → IsTrue (is_of_lives e.1) → Answers m s (others es) (replies_to_others es ys) t →
        Answers m s (others (e ∷ es)) (replies_to_others (e ∷ es) (y ∷ ys)) t
    left-out s t is h =
        subst (λ (zs : List (List ℕ)). Answers m s (others (e ∷ es)) zs t) (sym (out-replies is))
        (subst (λ (ds : List Event). Answers m s ds (replies_to_others es ys) t) (sym (out-events is)) h)

    -- it is
    taken-in : (s t : Site) → IsFalse (is_of_lives e.1) → Answers m s (e ∷ others es) (y ∷ replies_to_others es ys) t →
        Answers m s (others (e ∷ es)) (replies_to_others (e ∷ es) (y ∷ ys)) t
    taken-in s t is h =
        subst (λ (zs : List (List ℕ)). Answers m s (others (e ∷ es)) zs t) (sym (in-replies is))
        (subst (λ (ds : List Event). Answers m s ds (y ∷ replies_to_others es ys) t) (sym (in-events is)) h)

  pub site-has-its-trail : SiteHasItsTrail m
  site-has-its-trail a b [] [] h = ap (λ (s : Acquainted). s.site) h
  site-has-its-trail a b [] (y ∷ ys) h = absurd (h)
  site-has-its-trail a b (e ∷ es) [] h = absurd (h)
  site-has-its-trail a b (e ∷ es) (y ∷ ys) (inl done) =
      let later = site-has-its-trail ((acquainted m).step a e) b es ys done.1 in
      elim (cases_Bool (is_of_lives e.1)) [
        | inl t ↦
            left-out e es y ys a.site b.site t
            (subst (λ (s : Acquainted). Answers m s.site (others es) (replies_to_others es ys) b.site) (step-lives a e t) later)
        | inr f ↦
            taken-in e es y ys a.site b.site f (inl (
              done.0 ∙ reply-site a e f,
              subst (λ (s : Acquainted). Answers m s.site (others es) (replies_to_others es ys) b.site) (step-site a e f) later,
            ))
      ]
  site-has-its-trail a b (e ∷ es) (y ∷ ys) (inr undone) =
      let unsure = or_parts (is_of_lives e.1) (m.is_sure e) undone.1 in
      taken-in e es y ys a.site b.site unsure.0 (inr (undone.0, unsure.1, site-has-its-trail a b es ys undone.2))
