-- Of each number one site is met; and where one isn't met, nothing changes.
use Rattle.std.proofs.Common.{◌≡◌, ℕ, ◌-◌, ◌==◌, ◌&&◌, List, [], ◌∷◌, get_or, Option, Some, None, IsFalse, inl, inr, refl, sym, ap, subst, ◌∙◌, arith, nat_le, leb-true, eqb-true, if◌then◌else◌}
use Rattle.std.specs.Prelude.{is_none}
use Rattle.std.specs.Option.{option_map_or}
use Rattle.std.proofs.lemmas.Bool.{and_parts, cases_Bool, cond-true, cond-false, eq-eqb}
use Rattle.std.proofs.lemmas.List.{get_or-set_same}
use Rattle.tardis_base.specs.Plain.{PlainMachine}
use Rattle.tardis_base.specs.Valid.{is_u16}
use Rattle.wire_lives.specs.declared.introductions.Introduction.{Introduction}
use Rattle.wire_lives.specs.Spellings.{is_life, is_placed}
use Rattle.wire_lives.specs.Readings.{introduction_of}
use Rattle.wire_lives.specs.Laws.{IntroductionsHaveOneSpelling}
use Rattle.plain_site.specs.Site.{Site}
use Rattle.site_lives.specs.declared.lives.NewLife.{NewLife}
use Rattle.site_lives.specs.Lives.{Life, life_of, with_life, with_new, new_life, is_another, verdict, introduced, meet}
use Rattle.site_lives.specs.Acquainted.{Acquainted, with_news, acquainted}
use Rattle.site_lives.specs.Laws.{HasPlaces, Meets, RefusedMeetingsChangeNothing, OneLifeEach}
use Rattle.site_lives.proofs.Stays.{IsMet, is-met, is-this, of-it}
use Rattle.site_lives.proofs.Trails.{lives-stay}

module _ (m : PlainMachine Site) (one : IntroductionsHaveOneSpelling) where
  module _ (a : Acquainted) (n : ℕ) (fields : List ℕ) (i : Introduction) (meets : Meets m a n fields i) where
    abbrev own : ℕ
    own = a.site.own

    abbrev sites : ℕ
    sites = a.site.limits.sites

    met-is : meet own sites a.lives fields ≡ introduced own sites a.lives i
    met-is = ap (λ o. option_map_or (introduced own sites a.lives) o (4, None)) meets.introduced

    was-met : verdict own sites a.lives i ≡ 0
    was-met = sym (ap (λ x. x.0) met-is) ∙ ap (λ bytes. get_or bytes 1 0) meets.met

    met : IsMet own sites a.lives i
    met = is-met own sites a.lives i was-met

    -- what is known then, where nothing was
    put-there : HasPlaces a → life_of (with_life i.number i.life a.lives) i.number ≡ Some i.life
    put-there places =
        let valid = and_parts (is_u16 i.number && is_u16 i.sites && is_life i.life) (is_placed i) ((one.some fields i).0 meets.introduced).0 in
        let placed = and_parts (nat_le 1 i.number) (nat_le i.number i.sites) valid.1 in
        let least = leb-true 1 i.number placed.0 in
        let most = leb-true i.number i.sites placed.1 in
        let same = met.as_many in
        let few = places.sites in
        let room = places.lives in
        get_or-set_same a.lives (i.number - 1) (Some i.life) None (omega (arith, least, most, same, few, room))

    -- it is known then, as it was before or from then on
    known-so : HasPlaces a → (o : Option Life) → life_of a.lives i.number ≡ o → life_of (with_new (new_life a.lives i.number i.life) a.lives) i.number ≡ Some i.life
    known-so places None is =
        subst (λ o. life_of (with_new o a.lives) i.number ≡ Some i.life)
        (sym (ap (λ (o : Option Life). if is_none o then Some (of-it i.number i.life) else None) is)) (put-there places)
    known-so places (Some known) is =
        let this = is-this known i.life (subst (λ o. IsFalse (is_another o i.life)) is met.same) in
        subst (λ o. life_of (with_new o a.lives) i.number ≡ Some i.life)
        (sym (ap (λ (o : Option Life). if is_none o then Some (of-it i.number i.life) else None) is)) (is ∙ ap (λ l. Some l) this)

    known-then : HasPlaces a → life_of ((acquainted m).step a (n, 72 ∷ fields)).lives i.number ≡ Some i.life
    known-then places =
        let new = new_life a.lives i.number i.life in
        let takes = cond-true (verdict own sites a.lives i == 0) new None (eq-eqb (verdict own sites a.lives i) 0 was-met) in
        ap (λ o. life_of (with_new o a.lives) i.number) (ap (λ x. x.1) met-is ∙ takes) ∙ known-so places (life_of a.lives i.number) refl

  pub one-life-each : OneLifeEach m
  one-life-each a b n k first second i j events replies places meets trail meets_again same =
      let a' = (acquainted m).step a (n, 72 ∷ first) in
      let stays = lives-stay m a' b events replies i.number i.life trail (known-then a n first i meets places) in
      let there = ap (λ x. life_of b.lives x) (sym same) ∙ stays in
      is-this i.life j.life (subst (λ o. IsFalse (is_another o j.life)) there (met b k second j meets_again).same)

-- ===== A meeting that is refused

pub refused-meetings-change-nothing : (m : PlainMachine Site) → RefusedMeetingsChangeNothing m
refused-meetings-change-nothing m a n fields other = go (introduction_of fields) refl
  where
    nothing : (o : Option NewLife) → o ≡ None → with_news o a ≡ a
    nothing o e = ap (λ new. with_news new a) e

    go : (o : Option Introduction) → introduction_of fields ≡ o →
        with_news (option_map_or (introduced a.site.own a.site.limits.sites a.lives) (introduction_of fields) (4, None)).1 a ≡ a
    go None is = nothing _ (ap (λ o. (option_map_or (introduced a.site.own a.site.limits.sites a.lives) o (4, None)).1) is)
    go (Some i) is =
        let met = ap (λ o. option_map_or (introduced a.site.own a.site.limits.sites a.lives) o (4, None)) is in
        let v = verdict a.site.own a.site.limits.sites a.lives i in
        let new = new_life a.lives i.number i.life in
        elim (cases_Bool (v == 0)) [
          | inl t ↦ absurd (other (ap (λ (x : ℕ × Option NewLife). 72 ∷ x.0 ∷ []) met ∙ ap (λ k. 72 ∷ k ∷ []) (eqb-true v 0 t)))
          | inr f ↦ nothing _ (ap (λ (x : ℕ × Option NewLife). x.1) met ∙ cond-false (v == 0) new None f)
        ]
