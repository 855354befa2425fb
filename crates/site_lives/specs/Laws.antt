-- What stays so of a site and the lives that it knows, whatever the machine of the site.
use Rattle.std.specs.Prelude.{◌≡◌, ℕ, ◌≤◌, List, [], ◌∷◌, length, not, filter, Some, IsTrue, IsFalse, if◌then◌else◌}
use Rattle.tardis_base.specs.Sizes.{most_sites}
use Rattle.tardis_base.specs.Plain.{Event, PlainMachine, Answers}
use Rattle.wire_lives.specs.declared.life_codes.TheConstants.{MEET, MET}
use Rattle.wire_lives.specs.declared.introductions.Introduction.{Introduction}
use Rattle.wire_lives.specs.Readings.{introduction_of}
use Rattle.plain_site.specs.Site.{Site}
use Rattle.site_lives.specs.Lives.{Life, life_of, is_of_lives}
use Rattle.site_lives.specs.Acquainted.{Acquainted, acquainted}

-- ===== One step

-- a request about lives leaves the site as it is; every other one leaves the lives as they are, and is to the site what it is to a
-- site that knows none; and none changes what a checkpoint has told
pub record EachHasItsOwn (m : PlainMachine Site) : Type 0 where
  pub site : (a : Acquainted) (e : Event) → IsTrue (is_of_lives e.1) → ((acquainted m).step a e).site ≡ a.site
  pub lives : (a : Acquainted) (e : Event) → IsFalse (is_of_lives e.1) → ((acquainted m).step a e).lives ≡ a.lives
  pub step : (a : Acquainted) (e : Event) → IsFalse (is_of_lives e.1) → ((acquainted m).step a e).site ≡ m.step a.site e
  pub reply : (a : Acquainted) (e : Event) → IsFalse (is_of_lives e.1) → (acquainted m).reply a e ≡ m.reply a.site e
  pub told : (a : Acquainted) (e : Event) → ((acquainted m).step a e).told ≡ a.told

-- ===== Trails

-- those that aren't about lives
abbrev pub others : List Event → List Event
others events = filter (λ e. not (is_of_lives e.1)) events

-- the replies to these
abbrev pub replies_to_others : List Event → List (List ℕ) → List (List ℕ)
replies_to_others (e ∷ events) (reply ∷ replies) =
    let later = replies_to_others events replies in
    if is_of_lives e.1 then later else reply ∷ later
replies_to_others _ _ = []

-- What is answered to all other requests is one trail of the site, which leads to where it is at the end. So what is true of the
-- trails of sites is true of this one.
abbrev pub SiteHasItsTrail : PlainMachine Site → Type 0
SiteHasItsTrail m =
    (a b : Acquainted) (events : List Event) (replies : List (List ℕ)) → Answers (acquainted m) a events replies b →
    Answers m a.site (others events) (replies_to_others events replies) b.site

-- a life once known stays
abbrev pub LivesStay : PlainMachine Site → Type 0
LivesStay m =
    (a b : Acquainted) (events : List Event) (replies : List (List ℕ)) (number : ℕ) (life : Life) → Answers (acquainted m) a events replies b →
    life_of a.lives number ≡ Some life → life_of b.lives number ≡ Some life

-- each site may have a place among the lives
pub record HasPlaces (a : Acquainted) : Type 0 where
  pub lives : length a.lives ≡ most_sites
  pub sites : a.site.limits.sites ≤ most_sites

-- the site is asked to meet that of the introduction, and says that it met it
pub record Meets (m : PlainMachine Site) (a : Acquainted) (n : ℕ) (fields : List ℕ) (i : Introduction) : Type 0 where
  pub introduced : introduction_of fields ≡ Some i
  pub met : (acquainted m).reply a (n, MEET ∷ fields) ≡ MEET ∷ MET ∷ []

-- where the other site isn't met, nothing changes
abbrev pub RefusedMeetingsChangeNothing : PlainMachine Site → Type 0
RefusedMeetingsChangeNothing m =
    (a : Acquainted) (n : ℕ) (fields : List ℕ) → ((acquainted m).reply a (n, MEET ∷ fields) ≡ MEET ∷ MET ∷ [] → ⊥) →
    (acquainted m).step a (n, MEET ∷ fields) ≡ a

-- of each number one site is met, however long the trail: no other life of that number is ever met
abbrev pub OneLifeEach : PlainMachine Site → Type 0
OneLifeEach m =
    (a b : Acquainted) (n k : ℕ) (first second : List ℕ) (i j : Introduction) (events : List Event) (replies : List (List ℕ)) →
    HasPlaces a → Meets m a n first i → Answers (acquainted m) ((acquainted m).step a (n, MEET ∷ first)) events replies b → Meets m b k second j →
    i.number ≡ j.number → i.life ≡ j.life
