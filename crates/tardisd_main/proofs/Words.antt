-- What the words of a server come to, by the calls that it makes for them.
use Rattle.std.proofs.Common.{◌≡◌, ◌⊎◌, ⊎_elim, ◌∙◌, ℕ, true, false, List, Option, Some, None, Result, Ok, Err, refl, sym, ap, subst}
use Rattle.disk_store.specs.declared.disks.Disk.{Ghosts as ADisk}
use Rattle.disk_store.specs.declared.stores.Store.{Ghosts as AStore}
use Rattle.daemon_words.specs.declared.daemons.DaemonPlan.{DaemonPlan}
use Rattle.command_words.specs.Settings.{settings}
use Rattle.daemon_words.specs.Daemons.{Daemon, daemon, daemon_of}
use Rattle.hub.specs.declared.ports.Seen.{Seen}
use Rattle.hub.specs.declared.serves.End.{End}
use Rattle.hub.specs.declared.serves.End.TheVariants.{Stopped, Unsettled, Spent as AllTurns}
use Rattle.log_groups.specs.declared.fronts.LogFront.{LogFront}
use Rattle.site_lives.specs.Acquainted.{Acquainted}
use Rattle.site_log.specs.declared.ends.OpenEnd.{OpenEnd}
use Rattle.site_log.specs.declared.ends.OpenEnd.TheVariants.{Disk as DiskFailed, NotALog, OtherVersion, BadFront, OtherSite, OtherLimits, Damaged, Unfit, NoMemory as NoMemoryLeft}
use Rattle.site_log.specs.Kept.{starts}
use Rattle.tardisd_main.specs.declared.endings.GateFault.{GateFault}
use Rattle.tardisd_main.specs.declared.endings.FileFault.TheVariants.{InUse, Refused}
use Rattle.tardisd_main.specs.declared.endings.DaemonEnd.{DaemonEnd}
use Rattle.tardisd_main.specs.declared.endings.DaemonEnd.TheVariants.{Usage, WriteFailed, NoMemory, Gate, File}
use Rattle.tardisd_main.specs.Ends.{end_by}
use Rattle.tardisd_main.specs.Sites.{ServesPlace}
use Rattle.tardisd_main.specs.Files.{begun, Keeps, ServesFile, IsRefused, not_opened}
use Rattle.tardisd_main.specs.Stores.{EndsKept, ServedFrom, NothingAsked, NoFile, WithFile, KeepsAs}
use Rattle.tardisd_main.specs.Runs.{EndsAs, ServesAs}

-- an end of words that were understood, and of which nothing had to be written
abbrev pub Served : DaemonEnd → Type 0
Served Usage = ⊥
Served WriteFailed = ⊥
Served end = Unit {0}

pub ends_so : (end other : DaemonEnd) → end ≡ other → Served other → Served end
ends_so end other is served = subst (λ (e : DaemonEnd). Served e) (sym is) served

pub neither : (end : DaemonEnd) → Served end → (end ≡ Usage → ⊥) × (end ≡ WriteFailed → ⊥)
neither end served = (λ is. subst (λ (e : DaemonEnd). Served e) is served, λ is. subst (λ (e : DaemonEnd). Served e) is served)

served_by : (why : End) → Served (end_by why)
served_by Stopped = tt
served_by AllTurns = tt
served_by Unsettled = tt

pub refused_by : (why : OpenEnd) → Served (not_opened why)
refused_by NotALog = tt
refused_by (OtherVersion version) = tt
refused_by BadFront = tt
refused_by (OtherSite front) = tt
refused_by (OtherLimits front) = tt
refused_by (Damaged place) = tt
refused_by (Unfit place) = tt
refused_by NoMemoryLeft = tt
refused_by DiskFailed = tt

over_edge : {P : Type 0} (seen : P → Option (List Seen)) (opened : Result P GateFault) (asked : Daemon) (life : List ℕ) (end : DaemonEnd)
    → EndsAs seen opened asked life end → Served end
over_edge {P} seen (Ok ports) asked life end became =
    ⊎_elim (λ (is : end ≡ NoMemory). ends_so end NoMemory is tt)
    (λ (p : (left : P) × (why : End) × ServesPlace asked life why (seen ports) (seen left) × (why ≡ Unsettled → ⊥) × (end ≡ end_by why)).
    ends_so end (end_by p.1) p.4 (served_by p.1)) became
over_edge {P} seen (Err fault) asked life end is = ends_so end (Gate fault) is tt

pub serves_as : {D P : Type 0} (opens : Daemon → Result P GateFault → Type 0) (seen : P → Option (List Seen)) (life : List ℕ) (old new : D) (asked : Daemon) (end : DaemonEnd)
    → ServesAs opens seen life old new asked end → Served end
serves_as {D} {P} opens seen life old new asked end served =
    ⊎_elim (λ (p : (end ≡ NoMemory) × (new ≡ old)). ends_so end NoMemory p.0 tt)
    (λ (p : (opened : Result P GateFault) × opens asked opened × EndsAs seen opened asked life end). over_edge seen p.0 asked life end p.2) served

kept_over : {P K : Type 0} (seen : P → Option (List Seen)) (k : ADisk K) (asked : Daemon) (life : List ℕ) (end : DaemonEnd) (front : LogFront) (bodies : List (List ℕ)) (site : Acquainted)
    (back : K) (opened : Result P GateFault) → EndsKept seen k asked life end front bodies site back opened → Served end
kept_over {P} seen k asked life end front bodies site back (Ok ports) became =
    ⊎_elim (λ (p : (end ≡ NoMemory) × (Keeps k asked back front (starts site bodies) ⊎ Keeps k asked back front (begun site bodies life))). ends_so end NoMemory p.0 tt)
    (λ (p : (left : P) × (why : End) × ServesFile k asked life front bodies site back why (seen ports) (seen left) × (end ≡ end_by why)).
    ends_so end (end_by p.1) p.3 (served_by p.1)) became
kept_over {P} seen k asked life end front bodies site back (Err fault) became = ends_so end (Gate fault) became.0 tt

module _ {D P S K : Type 0} (opens : Daemon → Result P GateFault → Type 0) (seen : P → Option (List Seen)) (st : AStore S K) (k : ADisk K)
    (life : List ℕ) (asked : Daemon) (path : List ℕ) (old new : D) (was now : S) (end : DaemonEnd) where
  with_file : WithFile opens seen st k life asked path old new was now end → Served end
  with_file of =
      ⊎_elim (λ (p : IsRefused k asked life of.disk of.back end × (new ≡ old)). ends_so end (not_opened p.0.why) p.0.tells (refused_by p.0.why))
      (λ (p : ServedFrom opens seen k asked life end of.disk of.back).
      kept_over seen k asked life end p.found.front p.bodies p.site of.back p.goes_on.0 p.goes_on.1.1) of.became

  without_file : NoFile opens seen st k life asked path old new was now end → Served end
  without_file of =
      ⊎_elim (λ (p : (end ≡ File InUse) × (st.locked now ≡ true)). ends_so end (File InUse) p.0 tt)
      (λ (p : (end ≡ File Refused) × (st.locked now ≡ false)). ends_so end (File Refused) p.0 tt) of.end_is

  pub keeps_as : KeepsAs opens seen st k life asked path old new was now end → Served end
  keeps_as keeps =
      ⊎_elim (λ (nothing : NothingAsked opens seen st k life asked path old new was now end). ends_so end NoMemory nothing.end_is tt)
      (λ (asks : NoFile opens seen st k life asked path old new was now end ⊎ WithFile opens seen st k life asked path old new was now end).
      ⊎_elim (λ (fails : NoFile opens seen st k life asked path old new was now end). without_file fails)
      (λ (of : WithFile opens seen st k life asked path old new was now end). with_file of) asks) keeps.became

abbrev in_some : {A : Type 0} → A → Option A → A
in_some other None = other
in_some other (Some a) = a

pub same_some : {A : Type 0} (a b : A) → Some a ≡ Some b → a ≡ b
same_some a b e = ap (in_some a) e

-- what is asked for is what the plan says
pub of_plan : (words : List (List ℕ)) (plan : DaemonPlan) (asked : Daemon) → daemon (settings words) ≡ Some (daemon_of plan)
    → daemon (settings words) ≡ Some asked → daemon_of plan ≡ asked
of_plan words plan asked says is = same_some (daemon_of plan) asked (sym says ∙ is)

-- words of which no plan was made: they have no form, or there was no memory for their doors
abbrev pub Unplanned : List (List ℕ) → DaemonEnd → Type 0
Unplanned words end =
    ((end ≡ Usage) × (daemon (settings words) ≡ None)) ⊎ ((end ≡ NoMemory) × (asked : Daemon) × (daemon (settings words) ≡ Some asked))

abbrev IsUsage : DaemonEnd → Type 0
IsUsage Usage = Unit {0}
IsUsage end = ⊥

abbrev HasNothing : {A : Type 0} → Option A → Type 0
HasNothing None = Unit {0}
HasNothing (Some a) = ⊥

pub no_form : {A : Type 0} (o : Option A) (a : A) → o ≡ None → o ≡ Some a → ⊥
no_form {A} o a none some = subst (λ (p : Option A). HasNothing p) (sym none ∙ some) tt

short : (end : DaemonEnd) → end ≡ NoMemory → Served end
short end is = ends_so end NoMemory is tt

-- words that are told as having no form have none
pub unplanned_usage : (words : List (List ℕ)) (end : DaemonEnd) → Unplanned words end → end ≡ Usage → daemon (settings words) ≡ None
unplanned_usage words end why is =
    ⊎_elim (λ (p : (end ≡ Usage) × (daemon (settings words) ≡ None)). p.1)
    (λ (p : (end ≡ NoMemory) × (asked : Daemon) × (daemon (settings words) ≡ Some asked)). absurd ((neither end (short end p.0)).0 is)) why

-- words without a form are told so
pub unplanned_none : (words : List (List ℕ)) (end : DaemonEnd) → Unplanned words end → daemon (settings words) ≡ None → end ≡ Usage
unplanned_none words end why none =
    ⊎_elim (λ (p : (end ≡ Usage) × (daemon (settings words) ≡ None)). p.0)
    (λ (p : (end ≡ NoMemory) × (asked : Daemon) × (daemon (settings words) ≡ Some asked)). absurd (no_form (daemon (settings words)) p.1 none p.2)) why

-- of words that have a form no plan is made for want of memory alone
pub unplanned_some : (words : List (List ℕ)) (end : DaemonEnd) (asked : Daemon) → Unplanned words end → daemon (settings words) ≡ Some asked → end ≡ NoMemory
unplanned_some words end asked why some =
    ⊎_elim (λ (p : (end ≡ Usage) × (daemon (settings words) ≡ None)). absurd (no_form (daemon (settings words)) asked p.1 some))
    (λ (p : (end ≡ NoMemory) × (asked : Daemon) × (daemon (settings words) ≡ Some asked)). p.0) why

pub unplanned_unwritten : (words : List (List ℕ)) (end : DaemonEnd) → Unplanned words end → end ≡ WriteFailed → ⊥
unplanned_unwritten words end why is =
    ⊎_elim (λ (p : (end ≡ Usage) × (daemon (settings words) ≡ None)). subst (λ (e : DaemonEnd). IsUsage e) (sym p.0 ∙ is) tt)
    (λ (p : (end ≡ NoMemory) × (asked : Daemon) × (daemon (settings words) ≡ Some asked)). (neither end (short end p.0)).1 is) why

-- what is asked for help is no answer to words that ask for none
pub unasked : {A : Type 0} (a : A) → ◌≡◌ {A = Option A} None (Some a) → ⊥
unasked {A} a is = no_form None a refl is
