-- Runs of a hub over a site that is kept in a file.
use Rattle.std.proofs.Common.{◌≡◌, ◌⊎◌, inl, inr, ⊎_elim, ◌∙◌, List, [], ◌∷◌, ℕ, Option, sym, ap, subst}
use Rattle.std.specs.Prelude.{slice_index}
use Rattle.disk_store.specs.declared.disks.Disk.{Ghosts as ADisk}
use Rattle.hub.specs.declared.ports.Seen.{Seen}
use Rattle.hub.specs.declared.serves.End.{End}
use Rattle.hub.specs.Runs.{IsRun}
use Rattle.log_groups.specs.declared.fronts.LogFront.{LogFront}
use Rattle.daemon_words.specs.Daemons.{Daemon}
use Rattle.site_lives.specs.Acquainted.{Acquainted}
use Rattle.site_lives.specs.Things.{all_at_rest}
use Rattle.site_lives.specs.Bytes.{TakesBack}
use Rattle.rest_site.specs.Stands.{HeldSite, opened_alone}
use Rattle.site_log.specs.declared.logged.Logged.{Logged}
use Rattle.site_log.specs.Kept.{Kept, starts, opens_with}
use Rattle.site_log.specs.Images.{joined, Mark, IsSafe}
use Rattle.site_log.specs.Stood.{Stands}
use Rattle.site_doors.specs.Kept.{resting}
use Rattle.tardisd_main.specs.Sites.{upkeep_rule, scope_of, opens_at}
use Rattle.tardisd_main.specs.Files.{kept_site, begun, Keeps, ServesFile}
use Rattle.tardisd_main.proofs.Runs.{weaker}

abbrev life_in : List (List ℕ) → List ℕ
life_in [] = []
life_in (life ∷ more) = life

abbrev front_in : {S : Type 0} → Kept S → LogFront
front_in kept = record {
  sites = slice_index kept.settles 0;
  own = slice_index kept.settles 1;
  max_kept = slice_index kept.settles 2;
  max_path = slice_index kept.settles 3;
  max_sessions = slice_index kept.settles 4;
  life = life_in kept.things;
}

-- a front that stays as it is
pub same_front : {S : Type 0} (a b : LogFront) (s t : S) → opens_with a s ≡ opens_with b t → a ≡ b
same_front a b s t e = ap front_in e

-- the log's machine stands for this, with some moments
abbrev pub StandsFor : {K : Type 0} → ADisk K → Logged HeldSite K → Kept Acquainted → Type 0
StandsFor k l kept = (marks : List Mark) × Stands resting k l kept marks

-- an opening that stays as it is
pub same_opening : {S : Type 0} (a b : LogFront) (s t : S) → opens_with a s ≡ opens_with b t → s ≡ t
same_opening {S} a b s t e = ap (λ (kept : Kept S). kept.state) e

-- the disk of a log keeps what its machine stands for, where this opened as was asked for
at_end : {K : Type 0} (k : ADisk K) (asked : Daemon) (l : Logged HeldSite K) (kept : Kept Acquainted) → opened_alone l.machine ≡ opens_at asked
    → StandsFor k l kept → Keeps k asked l.file.disk l.file.front kept
at_end k asked l kept opened stands =
    record {
      sound = stands.1.stood.0.1;
      led = subst (λ (a : Acquainted). TakesBack a (joined kept.things) (all_at_rest kept.state)) opened stands.1.led;
      marks = stands.0;
      counts = stands.1.counts;
      safe = λ h. subst (λ (a : Acquainted). IsSafe resting k a l.file.disk l.file.front kept.things stands.0) opened (stands.1.safe h);
    }

-- and so does the disk that is handed back, in a log with the front that it had
pub keeps : {K : Type 0} (k : ADisk K) (asked : Daemon) (l : Logged HeldSite K) (front : LogFront) (back : K) (kept : Kept Acquainted)
    → opened_alone l.machine ≡ opens_at asked → l.file.front ≡ front → back ≡ l.file.disk → StandsFor k l kept → Keeps k asked back front kept
keeps {K} k asked l front back kept opened same is stands =
    subst (λ (f : LogFront). Keeps k asked back f kept) same
    (subst (λ (d : K). Keeps k asked d l.file.front kept) (sym is) (at_end k asked l kept opened stands))

-- and so does one whose front is that with which its machine opened
pub keeps_opening : {K : Type 0} (k : ADisk K) (asked : Daemon) (old new : Logged HeldSite K) (back : K) (kept : Kept Acquainted)
    → opened_alone old.machine ≡ opens_at asked
    → opens_with new.file.front (opened_alone new.machine) ≡ opens_with old.file.front (opened_alone old.machine) → back ≡ new.file.disk
    → StandsFor k new kept → Keeps k asked back old.file.front kept
keeps_opening k asked old new back kept opened opening is stands =
    keeps k asked new old.file.front back kept
    (same_opening new.file.front old.file.front (opened_alone new.machine) (opened_alone old.machine) opening ∙ opened)
    (same_front new.file.front old.file.front (opened_alone new.machine) (opened_alone old.machine) opening) is stands

-- so it is where there was no memory to serve it, be it that its life has begun or not
pub not_served : {K : Type 0} (k : ADisk K) (asked : Daemon) (life : List ℕ) (bodies : List (List ℕ)) (site : Acquainted) (old new : Logged HeldSite K) (back : K)
    → opened_alone old.machine ≡ opens_at asked
    → opens_with new.file.front (opened_alone new.machine) ≡ opens_with old.file.front (opened_alone old.machine) → back ≡ new.file.disk
    → StandsFor k new (starts site bodies) ⊎ StandsFor k new (begun site bodies life)
    → Keeps k asked back old.file.front (starts site bodies) ⊎ Keeps k asked back old.file.front (begun site bodies life)
not_served k asked life bodies site old new back opened opening is stands =
    ⊎_elim (λ (at : StandsFor k new (starts site bodies)). inl (keeps_opening k asked old new back (starts site bodies) opened opening is at))
    (λ (at : StandsFor k new (begun site bodies life)). inr (keeps_opening k asked old new back (begun site bodies life) opened opening is at)) stands

-- a run of a log's machine, whose disk is handed back
pub serves_file : {K : Type 0} (k : ADisk K) (asked : Daemon) (life : List ℕ) (bodies : List (List ℕ)) (site : Acquainted)
    (old new : Logged HeldSite K) (back : K) (end : End) (before after : Option (List Seen))
    → opened_alone old.machine ≡ opens_at asked
    → opens_with new.file.front (opened_alone new.machine) ≡ opens_with old.file.front (opened_alone old.machine) → back ≡ new.file.disk
    → IsRun kept_site (upkeep_rule asked.tidy asked.rules asked.join_after asked.every) (scope_of asked) (StandsFor k new) (begun site bodies life) end before after
    → ServesFile k asked life old.file.front bodies site back end before after
serves_file {K} k asked life bodies site old new back end before after opened opening is run =
    weaker kept_site (upkeep_rule asked.tidy asked.rules asked.join_after asked.every) (scope_of asked) (StandsFor k new) (λ kept. Keeps k asked back old.file.front kept) (begun site bodies life) end
    before after (λ kept at. keeps_opening k asked old new back kept opened opening is at) run
