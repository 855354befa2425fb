-- What lasts of a trail may be taken back.
use Rattle.std.proofs.Common.{◌≡◌, ℕ, ◌-◌, Bool, true, false, ◌==◌, ◌&&◌, List, [], ◌∷◌, ◌++◌, length, Option, Some, None, IsTrue, IsFalse, inl, inr, refl}
use Rattle.std.proofs.Common.{sym, ap, subst, ◌∙◌, arith, if◌then◌else◌, nat_le, leb-true, lt-ltb, eqb-true, ltb-true, ltb-false, unwrap_or}
use Rattle.std.specs.Prelude.{◌⊎◌, option_to_list, option_map, is_none, is_some, nat_lt}
use Rattle.std.specs.List.{list_all}
use Rattle.std.specs.Bool.{then_some}
use Rattle.std.specs.Option.{option_map_or, option_and_then}
use Rattle.std.proofs.lemmas.Bool.{both_ways, cases_Bool, cond-true, cond-false, and_parts, and_from, eq-eqb, ne_eqb}
use Rattle.std.proofs.lemmas.Option.{none-some}
use Rattle.std.proofs.lemmas.List.{get_or-set_same, set_past}
use Rattle.tardis_base.specs.Plain.{Event}
use Rattle.tardis_base.specs.Valid.{is_u16, is_within, are_limits}
use Rattle.tardis_base.specs.declared.records.Limits.{Limits}
use Rattle.tardis_base.specs.declared.records.Item.TheVariants.{State, Promise}
use Rattle.tardis_base.specs.declared.requests.Request.{Request}
use Rattle.wire_talk.specs.Laws.{RequestsHaveOneSpelling}
use Rattle.wire_talk.specs.RequestReadings.{request_of}
use Rattle.wire_lives.specs.declared.introductions.Introduction.{Introduction}
use Rattle.wire_lives.specs.Spellings.{is_life, is_placed}
use Rattle.wire_lives.specs.Readings.{introduction_of}
use Rattle.wire_lives.specs.Laws.{IntroductionsHaveOneSpelling}
use Rattle.plain_site.specs.Site.{Site}
use Rattle.plain_site.specs.Step.{step, site_machine}
use Rattle.plain_site.specs.Sound.{IsSound}
use Rattle.plain_site.specs.Rest.{Lasting, News, Collection, at_rest, lasting_of, lasting_of_event, replay, fits}
use Rattle.plain_site.specs.RestSpellings.{is_lasting}
use Rattle.plain_site.proofs.SoundRuns.{bytes-keep-sound}
use Rattle.rest_laws.proofs.Trails.{event-adds}
use Rattle.rest_laws.proofs.Valid.{what-lasts-is-spelled}
use Rattle.rest_laws.proofs.Fitting.{what-lasts-fits}
use Rattle.site_lives.specs.declared.lives.NewLife.{NewLife}
use Rattle.site_lives.specs.Lives.{Life, Lives, life_of, with_life, with_new, new_life, is_another, verdict, introduced, meet, begun, begin_life, lives_answer}
use Rattle.site_lives.specs.Lives.{fits_life}
use Rattle.site_lives.specs.Acquainted.{Acquainted, about_lives, acquainted_machine}
use Rattle.site_lives.specs.Things.{LastingThing, OfSite, OfLives, all_at_rest, thing_of_event, with_thing, fits_thing, replay_things, all_things_fit, is_thing, is_new_life, are_things}
use Rattle.site_lives.specs.RestLaws.{things_of_answers, OwnCameFirst, AllFits}
use Rattle.site_lives.proofs.Stays.{of-it, is-met, answer-keeps}
use Rattle.site_lives.proofs.Lasting.{about-or-not, thing-adds, undone-things, done-things, same-heads}

-- ===== Why a life is new

-- the own life began, of which none was known
pub record Begins (own : ℕ) (lives : Lives) (new : NewLife) : Type 0 where
  pub number : new.number ≡ own
  pub none : IsTrue (is_none (life_of lives own))
  pub life : IsTrue (is_life new.life)

-- a site was met of which none was known
pub record Meets (own sites : ℕ) (lives : Lives) (new : NewLife) : Type 0 where
  pub other : new.number ≡ own → ⊥
  pub placed : IsTrue (is_within 1 sites new.number)
  pub fits : IsTrue (is_u16 new.number)
  pub none : IsTrue (is_none (life_of lives new.number))
  pub life : IsTrue (is_life new.life)
  pub own_known : IsFalse (is_none (life_of lives own))

abbrev IsNew : ℕ → ℕ → Lives → NewLife → Type 0
IsNew own sites lives new = Begins own lives new ⊎ Meets own sites lives new

same-value : {A : Type 0} (x y : A) → ◌≡◌ {A = Option A} (Some x) (Some y) → x ≡ y
same-value x y e = ap (λ o. unwrap_or o x) e

is-new-life : (lives : Lives) (number : ℕ) (life : Life) (new : NewLife) → new_life lives number life ≡ Some new →
    IsTrue (is_none (life_of lives number)) × (of-it number life ≡ new)
is-new-life lives number life new e =
    elim (cases_Bool (is_none (life_of lives number))) [
      | inl t ↦ (t, same-value (of-it number life) new (sym (cond-true (is_none (life_of lives number)) (Some (of-it number life)) None t) ∙ e))
      | inr f ↦ absurd (none-some new (sym (cond-false (is_none (life_of lives number)) (Some (of-it number life)) None f) ∙ e))
    ]

module _ (one : IntroductionsHaveOneSpelling) (own sites : ℕ) (lives : Lives) (new : NewLife) where
  introduced-new : (fields : List ℕ) (i : Introduction) → introduction_of fields ≡ Some i → (introduced own sites lives i).1 ≡ Some new →
      Meets own sites lives new
  introduced-new fields i reads e =
      let put = new_life lives i.number i.life in
      elim (cases_Bool (verdict own sites lives i == 0)) [
        | inl t ↦
            let met = is-met own sites lives i (eqb-true (verdict own sites lives i) 0 t) in
            let is = is-new-life lives i.number i.life new (sym (cond-true (verdict own sites lives i == 0) put None t) ∙ e) in
            let valid = and_parts (is_u16 i.number && is_u16 i.sites && is_life i.life) (is_placed i) ((one.some fields i).0 reads).0 in
            let numbers = and_parts (is_u16 i.number && is_u16 i.sites) (is_life i.life) valid.0 in
            subst (Meets own sites lives) is.1 (record {
              other = met.other;
              placed = subst (λ n. IsTrue (is_within 1 n i.number)) met.as_many valid.1;
              fits = (and_parts (is_u16 i.number) (is_u16 i.sites) numbers.0).0;
              none = is.0;
              life = numbers.1;
              own_known = met.own_known;
            })
        | inr f ↦ absurd (none-some new (sym (cond-false (verdict own sites lives i == 0) put None f) ∙ e))
      ]

  meeting-new : (fields : List ℕ) → (meet own sites lives fields).1 ≡ Some new → Meets own sites lives new
  meeting-new fields e = go (introduction_of fields) refl e
    where
      go : (o : Option Introduction) → introduction_of fields ≡ o → (option_map_or (introduced own sites lives) o (4, None)).1 ≡ Some new →
          Meets own sites lives new
      go None is d = absurd (none-some new d)
      go (Some i) is d = introduced-new fields i is d

  begun-new : (life : Life) → IsTrue (is_life life) → (begun own lives life).1 ≡ Some new → Begins own lives new
  begun-new life valid e =
      let put = new_life lives own life in
      elim (cases_Bool (is_another (life_of lives own) life)) [
        | inl t ↦
            absurd (none-some new (sym (ap (λ (x : ℕ × Option NewLife). x.1) (cond-true (is_another (life_of lives own) life) (1, None) (0, put) t)) ∙ e))
        | inr f ↦
            let is = is-new-life lives own life new
            (sym (ap (λ (x : ℕ × Option NewLife). x.1) (cond-false (is_another (life_of lives own) life) (1, None) (0, put) f)) ∙ e) in
            subst (Begins own lives) is.1 (record { number = refl; none = is.0; life = valid })
      ]

  beginning-new : (fields : List ℕ) → (begin_life own lives fields).1 ≡ Some new → Begins own lives new
  beginning-new fields e = go (is_life fields) refl e
    where
      go : (t : Bool) → is_life fields ≡ t → (option_map_or (begun own lives) (then_some t fields) (5, None)).1 ≡ Some new → Begins own lives new
      go true valid d = begun-new fields valid d
      go false invalid d = absurd (none-some new d)

  pub is-new : (bytes : List ℕ) → (lives_answer own sites lives bytes).1 ≡ Some new → IsNew own sites lives new
  is-new [] e = absurd (none-some new e)
  is-new (code ∷ fields) e =
      elim (cases_Bool (code == 72)) [
        | inl t ↦
            inr (meeting-new fields
            (sym (ap (λ (x : ℕ × Option NewLife). x.1) (cond-true (code == 72) (meet own sites lives fields) (begin_life own lives fields) t)) ∙ e))
        | inr f ↦
            inl (beginning-new fields
            (sym (ap (λ (x : ℕ × Option NewLife). x.1) (cond-false (code == 72) (meet own sites lives fields) (begin_life own lives fields) f)) ∙ e))
      ]

-- ===== The own one comes first

abbrev pub IsOrdered : ℕ → Lives → Type 0
IsOrdered own lives = IsTrue (is_none (life_of lives own)) → IsTrue (list_all is_none lives)

-- it began: so it is known, or it has no place and nothing changed
pub begun-ordered : (own : ℕ) (lives : Lives) (life : Life) → IsOrdered own lives → IsOrdered own (with_life own life lives)
begun-ordered own lives life ordered none =
    elim (cases_Bool (nat_lt (own - 1) (length lives))) [
      | inl t ↦
          absurd (both_ways (is_none (life_of (with_life own life lives) own))
          (ap is_none (get_or-set_same lives (own - 1) (Some life) None (ltb-true (own - 1) (length lives) t))) none)
      | inr f ↦
          let same : with_life own life lives ≡ lives = set_past lives (own - 1) (Some life) (ltb-false (own - 1) (length lives) f) in
          subst (λ (l : Lives). IsTrue (list_all is_none l)) (sym same) (ordered (subst (λ (l : Lives). IsTrue (is_none (life_of l own))) same none))
    ]

answer-ordered : IntroductionsHaveOneSpelling → (own sites : ℕ) (lives : Lives) (bytes : List ℕ) → IsOrdered own lives →
    IsOrdered own (with_new (lives_answer own sites lives bytes).1 lives)
answer-ordered one own sites lives bytes ordered = go (lives_answer own sites lives bytes).1 refl
  where
    known : (o : Option Life) → life_of lives own ≡ o → IsFalse (is_none o) → IsOrdered own (with_new (lives_answer own sites lives bytes).1 lives)
    known None is f none = absurd (both_ways (is_none {T = Life} None) f refl)
    known (Some life) is f none =
        absurd (both_ways (is_none (life_of (with_new (lives_answer own sites lives bytes).1 lives) own))
        (ap is_none (answer-keeps lives own life is own sites bytes)) none)

    because : (new : NewLife) → (lives_answer own sites lives bytes).1 ≡ Some new → IsNew own sites lives new → IsOrdered own (with_new (Some new) lives)
    because new is (inl begins) =
        subst (λ n. IsOrdered own (with_life n new.life lives)) (sym begins.number) (begun-ordered own lives new.life ordered)
    because new is (inr meets) =
        subst (λ o. IsOrdered own (with_new o lives)) is (known (life_of lives own) refl meets.own_known)

    go : (o : Option NewLife) → (lives_answer own sites lives bytes).1 ≡ o → IsOrdered own (with_new o lives)
    go None is = ordered
    go (Some new) is = because new is (is-new one own sites lives new bytes is)

same-number : (o : Option Lasting) (site : Site) → (replay (option_to_list o) site).own ≡ site.own
same-number None site = refl
same-number (Some (News (State r))) site = refl
same-number (Some (News (Promise c))) site = refl
same-number (Some (Collection count)) site = refl

-- the site keeps its number
own-stays : (site : Site) (e : Event) → (site_machine.step site e).own ≡ site.own
own-stays site e = sym (ap (λ (s : Site). s.own) (event-adds site e)) ∙ same-number (lasting_of_event site e) (at_rest site)

step-ordered : IntroductionsHaveOneSpelling → (a : Acquainted) (e : Event) → OwnCameFirst a → OwnCameFirst (acquainted_machine.step a e)
step-ordered one a e ordered =
    about-or-not a e (λ next o. OwnCameFirst next) (λ t. answer-ordered one a.site.own a.site.limits.sites a.lives e.1 ordered)
    (λ f. subst (λ n. IsOrdered n a.lives) (sym (own-stays a.site e)) ordered)

-- ===== One event

some-from : (o : Option Life) → IsFalse (is_none o) → IsTrue (is_some o)
some-from None f = absurd (both_ways (is_none {T = Life} None) f refl)
some-from (Some life) f = refl

life-fits : (own sites : ℕ) (lives : Lives) (new : NewLife) → IsTrue (is_within 1 sites own) → IsOrdered own lives → IsNew own sites lives new →
    IsTrue (fits_life own sites lives new)
life-fits own sites lives new within ordered (inl begins) =
    let all = list_all is_none lives in
    let others = is_some (life_of lives own) in
    subst (λ n. IsTrue (is_within 1 sites n && is_none (life_of lives n) && (if n == own then all else others))) (sym begins.number)
    (and_from (is_within 1 sites own && is_none (life_of lives own)) (if own == own then all else others)
    (and_from (is_within 1 sites own) (is_none (life_of lives own)) within begins.none)
    (cond-true (own == own) all others (eq-eqb own own refl) ∙ ordered begins.none))
life-fits own sites lives new within ordered (inr meets) =
    let n = new.number in
    let all = list_all is_none lives in
    let others = is_some (life_of lives own) in
    and_from (is_within 1 sites n && is_none (life_of lives n)) (if n == own then all else others)
    (and_from (is_within 1 sites n) (is_none (life_of lives n)) meets.placed meets.none)
    (cond-false (n == own) all others (ne_eqb n own meets.other) ∙ some-from (life_of lives own) meets.own_known)

small-number : (limits : Limits) (own : ℕ) → IsTrue (are_limits limits) → IsTrue (is_within 1 limits.sites own) → IsTrue (is_u16 own)
small-number limits own valid within =
    let a : Bool = is_within 1 16 limits.sites in
    let b : Bool = is_within 1 65000 limits.max_kept in
    let c : Bool = is_within 1 65000 limits.max_path in
    let d : Bool = is_within 1 4096 limits.max_sessions in
    let e : Bool = nat_le limits.max_trail 1073741824 in
    let sites = (and_parts a b (and_parts (a && b) c (and_parts (a && b && c) d (and_parts (a && b && c && d) e valid).0).0).0).0 in
    let most = leb-true limits.sites 16 (and_parts (nat_le 1 limits.sites) (nat_le limits.sites 16) sites).1 in
    let few = leb-true own limits.sites (and_parts (nat_le 1 own) (nat_le own limits.sites) within).1 in
    lt-ltb own 65536 (omega (arith, most, few))

life-valid : (site : Site) (lives : Lives) (new : NewLife) → IsSound site → IsNew site.own site.limits.sites lives new → IsTrue (is_new_life new)
life-valid site lives new sound (inl begins) =
    and_from (is_u16 new.number) (is_life new.life)
    (subst (λ n. IsTrue (is_u16 n)) (sym begins.number) (small-number site.limits site.own sound.limits sound.own)) begins.life
life-valid site lives new sound (inr meets) = and_from (is_u16 new.number) (is_life new.life) meets.fits meets.life

abbrev pub Fits : Acquainted → LastingThing → Type 0
Fits a t = IsTrue (is_thing t) × IsTrue (fits_thing (all_at_rest a) t)

module _ (read : RequestsHaveOneSpelling) (one : IntroductionsHaveOneSpelling) where
  event-fits : (site : Site) (event : Event) (l : Lasting) → IsTrue (is_u16 event.0) → IsSound site → lasting_of_event site event ≡ Some l →
      IsTrue (is_lasting l) × IsTrue (fits (at_rest site) l)
  event-fits site (n, bytes) l small sound e = go (request_of bytes) refl e
    where
      go : (o : Option Request) → request_of bytes ≡ o → option_and_then (λ (q : Request). lasting_of q (step site n q)) o ≡ Some l →
          IsTrue (is_lasting l) × IsTrue (fits (at_rest site) l)
      go None is d = absurd (none-some l d)
      go (Some q) is d =
          let valid = ((read.some bytes q).0 is).0 in
          (what-lasts-is-spelled site n q l small valid sound d, what-lasts-fits site n q l small valid sound d)

  pub thing-fits : (a : Acquainted) (e : Event) (t : LastingThing) → IsTrue (is_u16 e.0) → IsSound a.site → OwnCameFirst a → thing_of_event a e ≡ Some t → Fits a t
  thing-fits a e t small sound ordered =
      about-or-not a e (λ next o. o ≡ Some t → Fits a t) (λ is. news (about_lives a e.1).1 refl) (λ is. own (lasting_of_event a.site e) refl)
    where
      news : (o : Option NewLife) → (about_lives a e.1).1 ≡ o → option_map OfLives o ≡ Some t → Fits a t
      news None is d = absurd (none-some t d)
      news (Some new) is d =
          let because = is-new one a.site.own a.site.limits.sites a.lives new e.1 is in
          subst (Fits a) (same-value (OfLives new) t d) (
            life-valid a.site a.lives new sound because,
            life-fits a.site.own a.site.limits.sites a.lives new sound.own ordered because,
          )

      own : (o : Option Lasting) → lasting_of_event a.site e ≡ o → option_map OfSite o ≡ Some t → Fits a t
      own None is d = absurd (none-some t d)
      own (Some l) is d = subst (Fits a) (same-value (OfSite l) t d) (event-fits a.site e l small sound is)

  step-sound : (a : Acquainted) (e : Event) → IsTrue (is_u16 e.0) → IsSound a.site → IsSound (acquainted_machine.step a e).site
  step-sound a e small sound = about-or-not a e (λ next o. IsSound next.site) (λ t. sound) (λ f. bytes-keep-sound read a.site e small sound)

  -- ===== Trails

  abbrev AllFit : Acquainted → List LastingThing → Type 0
  AllFit a kept = IsTrue (are_things kept) × IsTrue (all_things_fit (all_at_rest a) kept)

  one-fits : (a next : Acquainted) (t : LastingThing) (kept : List LastingThing) → Fits a t → with_thing t (all_at_rest a) ≡ all_at_rest next → AllFit next kept →
      AllFit a (t ∷ kept)
  one-fits a next t kept here same later = (
    and_from (is_thing t) (are_things kept) here.0 later.0,
    and_from (fits_thing (all_at_rest a) t) (all_things_fit (with_thing t (all_at_rest a)) kept) here.1
        (subst (λ (s : Acquainted). IsTrue (all_things_fit s kept)) (sym same) later.1),
  )

  pub all-fits : AllFits
  all-fits a b es ys [] lost small sound ordered h e = (refl, refl)
  all-fits a b [] ys (k ∷ kept) lost small sound ordered h e = absurd (cc)
  all-fits a b (d ∷ es) [] (k ∷ kept) lost small sound ordered h e = absurd (h)
  all-fits a b (d ∷ es) (y ∷ ys) (k ∷ kept) lost small sound ordered (inr (is, sure, more)) e =
      let parts = and_parts (is_u16 d.0) (list_all (λ (event : Event). is_u16 event.0) es) small in
      all-fits a b es ys (k ∷ kept) lost parts.1 sound ordered more (sym (undone-things a d es y ys is) ∙ e)
  all-fits a b (d ∷ es) (y ∷ ys) (k ∷ kept) lost small sound ordered (inl (is, more)) e =
      let parts = and_parts (is_u16 d.0) (list_all (λ (event : Event). is_u16 event.0) es) small in
      let after = step-sound a d parts.0 sound in
      let order = step-ordered one a d ordered in
      go (thing_of_event a d) refl (thing-adds a d) parts.0 (sym (done-things a d es y ys is) ∙ e)
      (λ f. all-fits (acquainted_machine.step a d) b es ys (k ∷ kept) lost parts.1 after order more f)
      (λ f. all-fits (acquainted_machine.step a d) b es ys kept lost parts.1 after order more f)
    where
      next : Acquainted
      next = acquainted_machine.step a d

      go : (o : Option LastingThing) → thing_of_event a d ≡ o → replay_things (option_to_list o) (all_at_rest a) ≡ all_at_rest next → IsTrue (is_u16 d.0) →
          option_to_list o ++ things_of_answers next es ys ≡ k ∷ kept ++ lost →
          (things_of_answers next es ys ≡ k ∷ kept ++ lost → AllFit next (k ∷ kept)) →
          (things_of_answers next es ys ≡ kept ++ lost → AllFit next kept) → AllFit a (k ∷ kept)
      go None is_none adds fine f all fewer =
          let same : all_at_rest a ≡ all_at_rest next = adds in
          let fit = all f in
          (fit.0, subst (λ (s : Acquainted). IsTrue (all_things_fit s (k ∷ kept))) (sym same) fit.1)
      go (Some t) is_some adds fine f all fewer =
          let same = same-heads t k (things_of_answers next es ys) (kept ++ lost) f in
          subst (λ (m : LastingThing). AllFit a (m ∷ kept)) same.0
          (one-fits a next t kept (thing-fits a d t fine sound ordered is_some) adds (fewer same.1))
