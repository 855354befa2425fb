-- A site and the lives that it knows, as a machine; and what a checkpoint tells beside it.
use Rattle.std.specs.Prelude.{ℕ, ◌||◌, List, Option, if◌then◌else◌}
use Rattle.tardis_base.specs.Plain.{PlainMachine}
use Rattle.plain_site.specs.Site.{Site}
use Rattle.plain_site.specs.Step.{site_machine}
use Rattle.plain_checkpoint.specs.Checkpoints.{Told, untold}
use Rattle.site_lives.specs.declared.lives.NewLife.{NewLife}
use Rattle.site_lives.specs.Lives.{Lives, no_lives, with_new, is_of_lives, lives_answer}

-- a site, the lives that it knows, and what a checkpoint has told so far, of which no end was told
pub record Acquainted : Type 0 where
  pub site : Site
  pub lives : Lives
  pub told : Told

-- a site that knows no life, its own neither, and of which nothing was told
abbrev pub unacquainted : Site → Acquainted
unacquainted site = record { site = site; lives = no_lives; told = untold }

-- what it makes of a request about lives
abbrev pub about_lives : Acquainted → List ℕ → List ℕ × Option NewLife
about_lives a bytes = lives_answer a.site.own a.site.limits.sites a.lives bytes

-- the site and its lives with what is new
abbrev pub with_news : Option NewLife → Acquainted → Acquainted
with_news new a = record a { lives = with_new new a.lives }

-- A machine of sites with the lives that they know: requests about lives change these alone, and all others the site alone,
-- as the machine says. None changes what was told. Memory fails none about lives.
abbrev pub acquainted : PlainMachine Site → PlainMachine Acquainted
acquainted m = record {
  step = λ a e. if is_of_lives e.1 then with_news (about_lives a e.1).1 a else record a { site = m.step a.site e };
  reply = λ a e. if is_of_lives e.1 then (about_lives a e.1).0 else m.reply a.site e;
  is_sure = λ e. is_of_lives e.1 || m.is_sure e;
}

abbrev pub acquainted_machine : PlainMachine Acquainted
acquainted_machine = acquainted site_machine
