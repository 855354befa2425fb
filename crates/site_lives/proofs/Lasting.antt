-- What lasts of a trail leads to the site at rest behind it.
use Rattle.std.proofs.Common.{◌≡◌, ℕ, false, List, [], ◌∷◌, ◌++◌, length, Option, Some, None, IsTrue, IsFalse, inl, inr, refl, sym, ap, subst, ◌∙◌, bytes_eq, arith}
use Rattle.std.specs.Prelude.{option_to_list, option_map}
use Rattle.std.proofs.lemmas.Bool.{both_ways, cases_Bool, cond-true, cond-false, false_from_ne_true, or_parts}
use Rattle.std.proofs.lemmas.List.Folds.{list_all-append}
use Rattle.std.proofs.lemmas.Slice.Eq.{bytes_eq-Decides}
use Rattle.tardis_base.specs.Plain.{Event, no_memory}
use Rattle.plain_site.specs.Site.{Site}
use Rattle.plain_site.specs.Step.{site_machine}
use Rattle.plain_site.specs.Rest.{Lasting, at_rest, lasting_of_event, replay, fits, all_fit}
use Rattle.plain_site.proofs.RepliesMemory.{never-wants-memory}
use Rattle.rest_laws.specs.Trails.{lasting_of_answers}
use Rattle.rest_laws.proofs.Trails.{event-adds, undone-lasts, done-lasts}
use Rattle.std.proofs.lemmas.Bool.{and_parts, and_from}
use Rattle.site_lives.specs.declared.lives.NewLife.{NewLife}
use Rattle.site_lives.specs.Lives.{is_of_lives}
use Rattle.site_lives.specs.Acquainted.{Acquainted, about_lives, with_news, acquainted_machine}
use Rattle.site_lives.specs.Laws.{others, replies_to_others}
use Rattle.site_lives.specs.Things.{LastingThing, OfSite, OfLives, OfRow, OfCheckpoint, OfEnd, all_at_rest, thing_of_event, with_thing, fits_thing, replay_things, all_things_fit}
use Rattle.site_lives.specs.RestLaws.{things_of_answers, of_site, is_of_request, are_of_requests, NothingShorterLasts, SiteIsReplayed, SiteFits, SiteHasItsThings, AllIsReplayed, LedTo, FrontsAreOfFronts}
use Rattle.site_lives.proofs.Trails.{step-lives, step-site, reply-site, out-events, in-events, out-replies, in-replies}

-- ===== The site's own things

pub site-is-replayed : SiteIsReplayed
site-is-replayed a [] own = refl
site-is-replayed a (OfSite l ∷ ts) own = site-is-replayed (with_thing (OfSite l) a) ts own
site-is-replayed a (OfLives new ∷ ts) own = site-is-replayed (with_thing (OfLives new) a) ts own
site-is-replayed a (OfRow n count ∷ ts) own = absurd (let bad : ⊥ = cc in bad)
site-is-replayed a (OfCheckpoint p ∷ ts) own = absurd (let bad : ⊥ = cc in bad)
site-is-replayed a (OfEnd floors ∷ ts) own = absurd (let bad : ⊥ = cc in bad)

pub site-fits : SiteFits
site-fits a [] own fit = refl
site-fits a (OfSite l ∷ ts) own fit =
    let next = with_thing (OfSite l) a in
    let parts = and_parts (fits a.site l) (all_things_fit next ts) fit in
    and_from (fits a.site l) (all_fit next.site (of_site ts)) parts.0 (site-fits next ts own parts.1)
site-fits a (OfLives new ∷ ts) own fit =
    let next = with_thing (OfLives new) a in
    let parts = and_parts (fits_thing a (OfLives new)) (all_things_fit next ts) fit in
    site-fits next ts own parts.1
site-fits a (OfRow n count ∷ ts) own fit = absurd (let bad : ⊥ = cc in bad)
site-fits a (OfCheckpoint p ∷ ts) own fit = absurd (let bad : ⊥ = cc in bad)
site-fits a (OfEnd floors ∷ ts) own fit = absurd (let bad : ⊥ = cc in bad)

-- ===== One event

about-lives-thing : (a : Acquainted) (e : Event) → IsTrue (is_of_lives e.1) → thing_of_event a e ≡ option_map OfLives (about_lives a e.1).1
about-lives-thing a e t = cond-true (is_of_lives e.1) (option_map OfLives (about_lives a e.1).1) (option_map OfSite (lasting_of_event a.site e)) t

site-thing : (a : Acquainted) (e : Event) → IsFalse (is_of_lives e.1) → thing_of_event a e ≡ option_map OfSite (lasting_of_event a.site e)
site-thing a e f = cond-false (is_of_lives e.1) (option_map OfLives (about_lives a e.1).1) (option_map OfSite (lasting_of_event a.site e)) f

-- the event, as one about lives or as one to the site
pub about-or-not : (a : Acquainted) (e : Event) (P : Acquainted → Option LastingThing → Type 0) →
    (IsTrue (is_of_lives e.1) → P (with_news (about_lives a e.1).1 a) (option_map OfLives (about_lives a e.1).1)) →
    (IsFalse (is_of_lives e.1) → P (record a { site = site_machine.step a.site e }) (option_map OfSite (lasting_of_event a.site e))) →
    P (acquainted_machine.step a e) (thing_of_event a e)
about-or-not a e P lives site =
    elim (cases_Bool (is_of_lives e.1)) [
      | inl t ↦
          subst (λ (s : Acquainted). P s (thing_of_event a e)) (sym (step-lives site_machine a e t))
          (subst (λ (o : Option LastingThing). P (with_news (about_lives a e.1).1 a) o) (sym (about-lives-thing a e t)) (lives t))
      | inr f ↦
          subst (λ (s : Acquainted). P s (thing_of_event a e)) (sym (step-site site_machine a e f))
          (subst (λ (o : Option LastingThing). P (record a { site = site_machine.step a.site e }) o) (sym (site-thing a e f)) (site f))
    ]

-- what it adds
pub thing-adds : (a : Acquainted) (e : Event) →
    replay_things (option_to_list (thing_of_event a e)) (all_at_rest a) ≡ all_at_rest (acquainted_machine.step a e)
thing-adds a e =
    about-or-not a e (λ next o. replay_things (option_to_list o) (all_at_rest a) ≡ all_at_rest next)
    (λ t. news (about_lives a e.1).1)
    (λ f. own (lasting_of_event a.site e) (event-adds a.site e))
  where
    news : (new : Option NewLife) → replay_things (option_to_list (option_map OfLives new)) (all_at_rest a) ≡ all_at_rest (with_news new a)
    news None = refl
    news (Some new) = refl

    own : (o : Option Lasting) → replay (option_to_list o) (at_rest a.site) ≡ at_rest (site_machine.step a.site e) →
        replay_things (option_to_list (option_map OfSite o)) (all_at_rest a) ≡ all_at_rest (record a { site = site_machine.step a.site e })
    own None adds = ap (λ (s : Site). record a { site = s }) adds
    own (Some l) adds = ap (λ (s : Site). record a { site = s }) adds

-- a reply never says that memory is wanting
pub told-otherwise : (a : Acquainted) (e : Event) → acquainted_machine.reply a e ≡ no_memory → ⊥
told-otherwise a e is =
    elim (cases_Bool (is_of_lives e.1)) [
      | inl t ↦ two-bytes e.1 t (sym (cond-true (is_of_lives e.1) (about_lives a e.1).0 (site_machine.reply a.site e) t) ∙ is)
      | inr f ↦ never-wants-memory.spelled a.site e (sym (reply-site site_machine a e f) ∙ is)
    ]
  where
    two-bytes : (bytes : List ℕ) → IsTrue (is_of_lives bytes) → (about_lives a bytes).0 ≡ no_memory → ⊥
    two-bytes [] t e = both_ways (is_of_lives []) refl t
    two-bytes (code ∷ fields) t e = let lengths = ap length e in omega (arith, lengths)

-- ===== Trails

pub undone-things : (a : Acquainted) (e : Event) (es : List Event) (y : List ℕ) (ys : List (List ℕ)) → y ≡ no_memory →
    things_of_answers a (e ∷ es) (y ∷ ys) ≡ things_of_answers a es ys
undone-things a e es y ys is =
    cond-true (bytes_eq y no_memory) (things_of_answers a es ys)
    (option_to_list (thing_of_event a e) ++ things_of_answers (acquainted_machine.step a e) es ys)
    (subst (λ bytes. IsTrue (bytes_eq bytes no_memory)) (sym is) refl)

pub done-things : (a : Acquainted) (e : Event) (es : List Event) (y : List ℕ) (ys : List (List ℕ)) → y ≡ acquainted_machine.reply a e →
    things_of_answers a (e ∷ es) (y ∷ ys) ≡ option_to_list (thing_of_event a e) ++ things_of_answers (acquainted_machine.step a e) es ys
done-things a e es y ys is =
    let other : IsFalse (bytes_eq y no_memory) = false_from_ne_true (bytes_eq y no_memory) (λ t.
    told-otherwise a e (sym is ∙ (bytes_eq-Decides y no_memory).0 t)) in
    cond-false (bytes_eq y no_memory) (things_of_answers a es ys)
    (option_to_list (thing_of_event a e) ++ things_of_answers (acquainted_machine.step a e) es ys) other

-- of an event no row lasts, no part and no end of a checkpoint
thing-is-of-request : (a : Acquainted) (e : Event) → IsTrue (are_of_requests (option_to_list (thing_of_event a e)))
thing-is-of-request a e =
    about-or-not a e (λ next o. IsTrue (are_of_requests (option_to_list o))) (λ t. news (about_lives a e.1).1) (λ f. own (lasting_of_event a.site e))
  where
    news : (new : Option NewLife) → IsTrue (are_of_requests (option_to_list (option_map OfLives new)))
    news None = refl
    news (Some new) = refl

    own : (o : Option Lasting) → IsTrue (are_of_requests (option_to_list (option_map OfSite o)))
    own None = refl
    own (Some l) = refl

pub nothing-shorter-lasts : NothingShorterLasts
nothing-shorter-lasts a [] [] = refl
nothing-shorter-lasts a [] (y ∷ ys) = refl
nothing-shorter-lasts a (e ∷ es) [] = refl
nothing-shorter-lasts a (e ∷ es) (y ∷ ys) =
    let undone = things_of_answers a es ys in
    let next = acquainted_machine.step a e in
    let later = things_of_answers next es ys in
    let first = option_to_list (thing_of_event a e) in
    elim (cases_Bool (bytes_eq y no_memory)) [
      | inl t ↦ subst (λ ts. IsTrue (are_of_requests ts)) (sym (cond-true (bytes_eq y no_memory) undone (first ++ later) t)) (nothing-shorter-lasts a es ys)
      | inr f ↦
          subst (λ ts. IsTrue (are_of_requests ts)) (sym (cond-false (bytes_eq y no_memory) undone (first ++ later) f))
          (list_all-append is_of_request first later ∙ and_from (are_of_requests first) (are_of_requests later) (thing-is-of-request a e) (nothing-shorter-lasts next es ys))
    ]

pub replay-appended : (first more : List LastingThing) (a : Acquainted) → replay_things (first ++ more) a ≡ replay_things more (replay_things first a)
replay-appended [] more a = refl
replay-appended (t ∷ first) more a = replay-appended first more (with_thing t a)

one-more : (o : Option LastingThing) (later : List LastingThing) (rest next last : Acquainted) → replay_things (option_to_list o) rest ≡ next →
    replay_things later next ≡ last → replay_things (option_to_list o ++ later) rest ≡ last
one-more o later rest next last e more = replay-appended (option_to_list o) later rest ∙ (ap (replay_things later) e ∙ more)

pub all-is-replayed : AllIsReplayed
all-is-replayed a b [] [] h = ap all_at_rest (sym h)
all-is-replayed a b [] (y ∷ ys) h = absurd (h)
all-is-replayed a b (e ∷ es) [] h = absurd (h)
all-is-replayed a b (e ∷ es) (y ∷ ys) (inl (is, more)) =
    let next = acquainted_machine.step a e in
    ap (λ ts. replay_things ts (all_at_rest a)) (done-things a e es y ys is)
    ∙ one-more (thing_of_event a e) (things_of_answers next es ys) (all_at_rest a) (all_at_rest next) (all_at_rest b) (thing-adds a e)
    (all-is-replayed next b es ys more)
all-is-replayed a b (e ∷ es) (y ∷ ys) (inr (is, sure, more)) =
    ap (λ ts. replay_things ts (all_at_rest a)) (undone-things a e es y ys is) ∙ all-is-replayed a b es ys more

-- ===== Fronts

nothing-done : (a : Acquainted) (es : List Event) (ys : List (List ℕ)) → LedTo a es ys (all_at_rest a)
nothing-done a es ys = record {
  done = [];
  undone = es;
  done_replies = [];
  undone_replies = ys;
  state = a;
  events_are = refl;
  replies_are = refl;
  answered = refl;
  rests = refl;
}

one-done : (a : Acquainted) (e : Event) (es : List Event) (y : List ℕ) (ys : List (List ℕ)) (rest : Acquainted) → y ≡ acquainted_machine.reply a e →
    LedTo (acquainted_machine.step a e) es ys rest → LedTo a (e ∷ es) (y ∷ ys) rest
one-done a e es y ys rest is led = record {
  done = e ∷ led.done;
  undone = led.undone;
  done_replies = y ∷ led.done_replies;
  undone_replies = led.undone_replies;
  state = led.state;
  events_are = ap (λ ds. e ∷ ds) led.events_are;
  replies_are = ap (λ zs. y ∷ zs) led.replies_are;
  answered = inl (is, led.answered);
  rests = led.rests;
}

one-wanting : (a : Acquainted) (e : Event) (es : List Event) (y : List ℕ) (ys : List (List ℕ)) (rest : Acquainted) → y ≡ no_memory →
    acquainted_machine.is_sure e ≡ false → LedTo a es ys rest → LedTo a (e ∷ es) (y ∷ ys) rest
one-wanting a e es y ys rest is sure led = record {
  done = e ∷ led.done;
  undone = led.undone;
  done_replies = y ∷ led.done_replies;
  undone_replies = led.undone_replies;
  state = led.state;
  events_are = ap (λ ds. e ∷ ds) led.events_are;
  replies_are = ap (λ zs. y ∷ zs) led.replies_are;
  answered = inr (is, sure, led.answered);
  rests = led.rests;
}

pub same-heads : (t k : LastingThing) (ts ks : List LastingThing) → t ∷ ts ≡ k ∷ ks → (t ≡ k) × (ts ≡ ks)
same-heads t k ts ks e = (first, rest)
  where
    first : t ≡ k
    first = cc

    rest : ts ≡ ks
    rest = cc

pub fronts-are-of-fronts : FrontsAreOfFronts
fronts-are-of-fronts a b es ys [] lost h e = nothing-done a es ys
fronts-are-of-fronts a b [] ys (k ∷ kept) lost h e = absurd (cc)
fronts-are-of-fronts a b (d ∷ es) [] (k ∷ kept) lost h e = absurd (h)
fronts-are-of-fronts a b (d ∷ es) (y ∷ ys) (k ∷ kept) lost (inr (is, sure, more)) e =
    one-wanting a d es y ys (replay_things (k ∷ kept) (all_at_rest a)) is sure
    (fronts-are-of-fronts a b es ys (k ∷ kept) lost more (sym (undone-things a d es y ys is) ∙ e))
fronts-are-of-fronts a b (d ∷ es) (y ∷ ys) (k ∷ kept) lost (inl (is, more)) e =
    one-done a d es y ys (replay_things (k ∷ kept) (all_at_rest a)) is
    (go (thing_of_event a d) (thing-adds a d) (sym (done-things a d es y ys is) ∙ e)
    (λ f. fronts-are-of-fronts (acquainted_machine.step a d) b es ys (k ∷ kept) lost more f)
    (λ f. fronts-are-of-fronts (acquainted_machine.step a d) b es ys kept lost more f))
  where
    next : Acquainted
    next = acquainted_machine.step a d

    go : (o : Option LastingThing) → replay_things (option_to_list o) (all_at_rest a) ≡ all_at_rest next →
        option_to_list o ++ things_of_answers next es ys ≡ k ∷ kept ++ lost →
        (things_of_answers next es ys ≡ k ∷ kept ++ lost → LedTo next es ys (replay_things (k ∷ kept) (all_at_rest next))) →
        (things_of_answers next es ys ≡ kept ++ lost → LedTo next es ys (replay_things kept (all_at_rest next))) →
        LedTo next es ys (replay_things (k ∷ kept) (all_at_rest a))
    go None adds f all fewer = subst (λ s. LedTo next es ys (replay_things (k ∷ kept) s)) (sym adds) (all f)
    go (Some t) adds f all fewer =
        let same = same-heads t k (things_of_answers next es ys) (kept ++ lost) f in
        subst (λ s. LedTo next es ys (replay_things kept s)) (sym adds ∙ ap (λ m. with_thing m (all_at_rest a)) same.0) (fewer same.1)

-- ===== The things of the site's trail

of-site-appended : (first more : List LastingThing) → of_site (first ++ more) ≡ of_site first ++ of_site more
of-site-appended [] more = refl
of-site-appended (OfSite l ∷ first) more = ap (λ ls. l ∷ ls) (of-site-appended first more)
of-site-appended (OfLives new ∷ first) more = of-site-appended first more
of-site-appended (OfRow n count ∷ first) more = of-site-appended first more
of-site-appended (OfCheckpoint p ∷ first) more = of-site-appended first more
of-site-appended (OfEnd floors ∷ first) more = of-site-appended first more

of-news : (new : Option NewLife) → of_site (option_to_list (option_map OfLives new)) ≡ []
of-news None = refl
of-news (Some new) = refl

of-own : (o : Option Lasting) → of_site (option_to_list (option_map OfSite o)) ≡ option_to_list o
of-own None = refl
of-own (Some l) = refl

module _ (a b : Acquainted) (e : Event) (es : List Event) (y : List ℕ) (ys : List (List ℕ)) where
  abbrev Own : Site → Type 0
  Own s = of_site (things_of_answers (acquainted_machine.step a e) es ys) ≡ lasting_of_answers s (others es) (replies_to_others es ys)

  abbrev All : Type 0
  All = of_site (things_of_answers a (e ∷ es) (y ∷ ys)) ≡ lasting_of_answers a.site (others (e ∷ es)) (replies_to_others (e ∷ es) (y ∷ ys))

  lives-pass : IsTrue (is_of_lives e.1) → y ≡ acquainted_machine.reply a e → Own a.site → All
  lives-pass t is later =
      ap of_site (done-things a e es y ys is)
      ∙ (of-site-appended (option_to_list (thing_of_event a e)) (things_of_answers (acquainted_machine.step a e) es ys)
      ∙ (ap (λ o. of_site (option_to_list o) ++ of_site (things_of_answers (acquainted_machine.step a e) es ys)) (about-lives-thing a e t)
      ∙ (ap (λ ls. ls ++ of_site (things_of_answers (acquainted_machine.step a e) es ys)) (of-news (about_lives a e.1).1)
      ∙ (later
      ∙ (ap (λ zs. lasting_of_answers a.site (others es) zs) (sym (out-replies site_machine e es y ys t))
      ∙ ap (λ ds. lasting_of_answers a.site ds (replies_to_others (e ∷ es) (y ∷ ys))) (sym (out-events site_machine e es y ys t)))))))

  -- the event and its reply are in the site's trail
  in-trail : IsFalse (is_of_lives e.1) → lasting_of_answers a.site (e ∷ others es) (y ∷ replies_to_others es ys)
      ≡ lasting_of_answers a.site (others (e ∷ es)) (replies_to_others (e ∷ es) (y ∷ ys))
  in-trail f =
      ap (λ zs. lasting_of_answers a.site (e ∷ others es) zs) (sym (in-replies site_machine e es y ys f))
      ∙ ap (λ ds. lasting_of_answers a.site ds (replies_to_others (e ∷ es) (y ∷ ys))) (sym (in-events site_machine e es y ys f))

  site-done : IsFalse (is_of_lives e.1) → y ≡ acquainted_machine.reply a e → Own (site_machine.step a.site e) → All
  site-done f is later =
      ap of_site (done-things a e es y ys is)
      ∙ (of-site-appended (option_to_list (thing_of_event a e)) (things_of_answers (acquainted_machine.step a e) es ys)
      ∙ (ap (λ o. of_site (option_to_list o) ++ of_site (things_of_answers (acquainted_machine.step a e) es ys)) (site-thing a e f)
      ∙ (ap (λ ls. ls ++ of_site (things_of_answers (acquainted_machine.step a e) es ys)) (of-own (lasting_of_event a.site e))
      ∙ (ap (λ ls. option_to_list (lasting_of_event a.site e) ++ ls) later
      ∙ (sym (done-lasts a.site e (others es) y (replies_to_others es ys) (is ∙ reply-site site_machine a e f)) ∙ in-trail f)))))

  site-undone : IsFalse (is_of_lives e.1) → y ≡ no_memory →
      of_site (things_of_answers a es ys) ≡ lasting_of_answers a.site (others es) (replies_to_others es ys) → All
  site-undone f is later =
      ap of_site (undone-things a e es y ys is) ∙ (later ∙ (sym (undone-lasts a.site e (others es) y (replies_to_others es ys) is) ∙ in-trail f))

pub site-has-its-things : SiteHasItsThings
site-has-its-things a b [] [] h = refl
site-has-its-things a b [] (y ∷ ys) h = absurd (h)
site-has-its-things a b (e ∷ es) [] h = absurd (h)
site-has-its-things a b (e ∷ es) (y ∷ ys) (inl (is, more)) =
    let later = site-has-its-things (acquainted_machine.step a e) b es ys more in
    elim (cases_Bool (is_of_lives e.1)) [
      | inl t ↦ lives-pass a b e es y ys t is (subst (λ (s : Acquainted). Own a b e es y ys s.site) (step-lives site_machine a e t) later)
      | inr f ↦ site-done a b e es y ys f is (subst (λ (s : Acquainted). Own a b e es y ys s.site) (step-site site_machine a e f) later)
    ]
site-has-its-things a b (e ∷ es) (y ∷ ys) (inr (is, sure, more)) =
    site-undone a b e es y ys (or_parts (is_of_lives e.1) (site_machine.is_sure e) sure).0 is (site-has-its-things a b es ys more)
