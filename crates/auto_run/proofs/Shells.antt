-- What memory can't fail of a site, it can't fail where that is asked in lines.
use Rattle.std.proofs.Common.{◌≡◌, ℕ, false, ◌&&◌, List, Option, Some, None, refl, inl, inr}
use Rattle.std.specs.Option.{option_map_or}
use Rattle.tardis_base.specs.Plain.{Event}
use Rattle.tardis_base.specs.declared.requests.Request.{Request}
use Rattle.tardis_base.specs.declared.requests.Request.TheVariants.{Open, Begin as BeginAt, Get, Put, Delete, Commit, Abort, BeginMerge, ForkPoints}
use Rattle.tardis_base.specs.declared.requests.Request.TheVariants.{Conflicts, GetFor, Ceiling, Raise, RaiseAuto, Tidy, Stat, Show, Leaves, Pull, Deliver}
use Rattle.tardis_base.specs.declared.requests.Request.TheVariants.{Close, Settle}
use Rattle.wire_talk.specs.Memory.{takes_no_memory}
use Rattle.wire_talk.specs.RequestReadings.{request_of}
use Rattle.shell_run.specs.Answers.{over_lines, event_of_line, AskedMay, ShellMay}
use Rattle.plain_site.specs.Site.{Site}
use Rattle.plain_site.specs.Step.{is_sure, site_machine}

-- what memory can't fail is read without memory
sure_alone : (q : Request) → (is_sure q && takes_no_memory q) ≡ false → is_sure q ≡ false
sure_alone (Open follow) e = refl
sure_alone (BeginAt b) e = refl
sure_alone (Get k) e = refl
sure_alone (Put k v) e = refl
sure_alone (Delete k) e = refl
sure_alone (Commit flags k) e = refl
sure_alone Abort e = e
sure_alone (BeginMerge of) e = refl
sure_alone ForkPoints e = refl
sure_alone (Conflicts after) e = refl
sure_alone (GetFor k x) e = refl
sure_alone (Ceiling x) e = e
sure_alone (Raise x) e = e
sure_alone RaiseAuto e = e
sure_alone (Tidy n) e = e
sure_alone Stat e = e
sure_alone (Show x) e = refl
sure_alone Leaves e = refl
sure_alone (Pull counts) e = refl
sure_alone (Deliver item) e = refl
sure_alone Close e = e
sure_alone Settle e = refl

sure_read : (o : Option Request) → (option_map_or is_sure o false && option_map_or takes_no_memory o false) ≡ false → option_map_or is_sure o false ≡ false
sure_read None e = refl
sure_read (Some q) e = sure_alone q e

-- a reply over lines is one of the plain site
asked_may : (s : Site) (o : Option Event) (reply : List ℕ) (t : Site) → AskedMay (over_lines site_machine) s o reply t → AskedMay site_machine s o reply t
asked_may s None reply t may = may
asked_may s (Some event) reply t may = elim may as (λ _. AskedMay site_machine s (Some event) reply t) [
  | inl a ↦ inl a
  | inr b ↦ inr (b.0, sure_read (request_of event.1) b.1, b.2)
]

pub shell_may : (s : Site) (line answer : List ℕ) (t : Site) → ShellMay (over_lines site_machine) s line answer t → ShellMay site_machine s line answer t
shell_may s line answer t may = (may.0, (may.1.0, asked_may s (event_of_line line) may.0 t may.1.1))
