-- Which lives a site knows, and how it meets another site.
use Rattle.std.specs.Prelude.{ℕ, ◌-◌, Bool, false, ◌==◌, ◌||◌, ◌&&◌, not, bytes_eq, List, [], ◌∷◌, replicate, get_or, set, Option, Some, None, is_none, is_some, option_map, if◌then◌else◌}
use Rattle.std.specs.List.{list_all}
use Rattle.std.specs.Option.{option_map_or}
use Rattle.tardis_base.specs.Sizes.{most_sites}
use Rattle.tardis_base.specs.Valid.{is_within}
use Rattle.wire_lives.specs.declared.life_codes.TheConstants.{MEET, BEGIN_LIFE, MET, ANOTHER_LIFE, OWN_NUMBER, OTHER_SITES, NO_INTRODUCTION, NO_LIFE}
use Rattle.wire_lives.specs.declared.introductions.Introduction.{Introduction}
use Rattle.wire_lives.specs.Readings.{introduction_of, life_in}
use Rattle.site_lives.specs.declared.lives.NewLife.{NewLife}

-- a life: the 16 bytes that were drawn when a site's history began
abbrev pub Life : Type 0
Life = List ℕ

-- the life of each site of which one is known, the own one's among them; sites are numbered from 1
abbrev pub Lives : Type 0
Lives = List (Option Life)

-- none is known
abbrev pub no_lives : Lives
no_lives = replicate most_sites None

-- the life of a site
abbrev pub life_of : Lives → ℕ → Option Life
life_of lives number = get_or lives (number - 1) None

-- the lives, with this one of a site
abbrev pub with_life : ℕ → Life → Lives → Lives
with_life number life lives = set lives (number - 1) (Some life)

-- another life than this is known
abbrev pub is_another : Option Life → Life → Bool
is_another None life = false
is_another (Some known) life = not (bytes_eq known life)

-- ===== Meeting a site

-- What the site with a number, of so many sites, makes of an introduction. It meets no site of more sites or of fewer, none
-- that has its own number, and none that has another life than the site that it met by that number; and it meets none before
-- its own life has begun.
abbrev pub verdict : (own sites : ℕ) → Lives → Introduction → ℕ
verdict own sites lives i =
    if not (i.sites == sites) then OTHER_SITES else
    if i.number == own then OWN_NUMBER else
    if is_another (life_of lives i.number) i.life then ANOTHER_LIFE else
    if is_none (life_of lives own) then NO_LIFE else MET

-- the life of a site, where none was known of it
abbrev pub new_life : Lives → ℕ → Life → Option NewLife
new_life lives number life = if is_none (life_of lives number) then Some (record { number = number; life = life }) else None

-- what comes of an introduction, and the life that is known from then on and wasn't
abbrev pub introduced : (own sites : ℕ) → Lives → Introduction → ℕ × Option NewLife
introduced own sites lives i =
    let v = verdict own sites lives i in
    (v, if v == MET then new_life lives i.number i.life else None)

abbrev pub meet : (own sites : ℕ) → Lives → List ℕ → ℕ × Option NewLife
meet own sites lives fields = option_map_or (introduced own sites lives) (introduction_of fields) (NO_INTRODUCTION, None)

-- the own life begins, where no other one has begun
abbrev pub begun : (own : ℕ) → Lives → Life → ℕ × Option NewLife
begun own lives life = if is_another (life_of lives own) life then (ANOTHER_LIFE, None) else (MET, new_life lives own life)

abbrev pub begin_life : (own : ℕ) → Lives → List ℕ → ℕ × Option NewLife
begin_life own lives fields = option_map_or (begun own lives) (life_in fields) (NO_LIFE, None)

-- ===== Requests about lives

-- to meet a site, or to begin a life
abbrev pub is_of_lives : List ℕ → Bool
is_of_lives [] = false
is_of_lives (code ∷ fields) = code == MEET || code == BEGIN_LIFE

-- the reply, which is the request's code and what comes of it; and the life that is new
abbrev pub lives_answer : (own sites : ℕ) → Lives → List ℕ → List ℕ × Option NewLife
lives_answer own sites lives [] = ([], None)
lives_answer own sites lives (code ∷ fields) =
    let answer = if code == MEET then meet own sites lives fields else begin_life own lives fields in
    (code ∷ answer.0 ∷ [], answer.1)

-- the lives with what is new
abbrev pub with_new : Option NewLife → Lives → Lives
with_new None lives = lives
with_new (Some new) lives = with_life new.number new.life lives

-- how the site with this number, of so many, introduces itself, where its life has begun
abbrev pub introduction : (own sites : ℕ) → Lives → Option Introduction
introduction own sites lives = option_map (λ life. record { number = own; sites = sites; life = life }) (life_of lives own)

-- ===== Lives that were kept

-- A life that was new once may be taken back: it is that of one of so many sites, and none is known of that one; the own one came
-- first of all, and each other one behind it.
abbrev pub fits_life : (own sites : ℕ) → Lives → NewLife → Bool
fits_life own sites lives new =
    is_within 1 sites new.number && is_none (life_of lives new.number)
    && (if new.number == own then list_all is_none lives else is_some (life_of lives own))
