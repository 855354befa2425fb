-- What becomes of a log that was opened, or wasn't.
use Rattle.std.proofs.Common.{◌≡◌, true, List, [], ◌∷◌, length, ℕ, Option, Result, sym, subst}
use Rattle.tardis_io.specs.Faults.{Rose}
use Rattle.disk_store.specs.declared.disks.Disk.{Ghosts as ADisk}
use Rattle.daemon_words.specs.declared.daemons.DaemonPlan.{DaemonPlan}
use Rattle.daemon_words.specs.Daemons.{Daemon, daemon_of}
use Rattle.hub.specs.declared.ports.Seen.{Seen}
use Rattle.log_groups.specs.declared.fronts.LogFront.{LogFront}
use Rattle.site_lives.specs.Acquainted.{Acquainted}
use Rattle.rest_site.specs.Stands.{HeldSite, AcquaintedStands, opened_alone}
use Rattle.site_log.specs.declared.ends.OpenEnd.{OpenEnd}
use Rattle.site_log.specs.declared.ends.OpenEnd.TheVariants.{Disk as DiskFailed}
use Rattle.site_log.specs.declared.opens.OpenedLog.{OpenedLog}
use Rattle.site_log.specs.Kept.{starts}
use Rattle.site_log.specs.Images.{Mark}
use Rattle.site_log.specs.Reads.{IsWanted}
use Rattle.site_log.specs.Opens.{Finds, IsOpened, OpeningLeaves, IsRefused as IsLogRefused}
use Rattle.site_log.specs.Stood.{Stands}
use Rattle.site_doors.specs.Kept.{resting}
use Rattle.tardisd_main.specs.declared.endings.GateFault.{GateFault}
use Rattle.tardisd_main.specs.declared.endings.DaemonEnd.{DaemonEnd}
use Rattle.tardisd_main.specs.Sites.{opens_at}
use Rattle.tardisd_main.specs.Files.{front_at, not_opened, IsRefused}
use Rattle.tardisd_main.specs.Stores.{GoesOn, ServedFrom}

module _ {K : Type 0} (k : ADisk K) where
  pub is_refused : (asked : Daemon) (life : List ℕ) (site : HeldSite) (disk : K) (front : LogFront) (why : OpenEnd) (back : K) (end : DaemonEnd)
      → front ≡ front_at asked life → AcquaintedStands site (opens_at asked) → end ≡ not_opened why
      → IsLogRefused resting k site disk front why back → (why ≡ DiskFailed → Rose (k.faults disk) (k.faults back))
      → (k.honest disk → OpeningLeaves k disk back front) → IsRefused k asked life disk back end
  is_refused asked life site disk front why back end is stands tells refused cause safe =
      record {
        why = why;
        tells = tells;
        bytes = (site, (stands, subst (λ (f : LogFront). IsLogRefused resting k site disk f why back) is refused));
        cause = cause;
        safe = λ h. subst (λ (f : LogFront). OpeningLeaves k disk back f) is (safe h);
      }

  pub served_from : {P : Type 0} (opens : Daemon → Result P GateFault → Type 0) (seen : P → Option (List Seen)) (plan : DaemonPlan) (end : DaemonEnd)
      (life : List ℕ) (site : HeldSite) (disk back : K) (front : LogFront) (it : OpenedLog HeldSite K)
      → front ≡ front_at (daemon_of plan) life → AcquaintedStands site (opens_at (daemon_of plan)) → opened_alone site ≡ opens_at (daemon_of plan)
      → (bodies : List (List ℕ)) × IsOpened resting k site disk front it bodies
      → IsWanted it.found.front front × (it.found.is_new ≡ true → it.found.front ≡ front)
      → (k.honest disk → OpeningLeaves k disk it.log.file.disk front)
      → ((bodies : List (List ℕ)) (state : Acquainted) (marks : List Mark) → Stands resting k it.log (starts state bodies) marks
      → GoesOn opens seen k (daemon_of plan) life end it.log.file.front bodies state back)
      → ServedFrom opens seen k (daemon_of plan) life end disk back
  served_from opens seen plan end life site disk back front it is stands alone opened wanted safe goes_on =
      let of = opened.1 in
      let led = of.stands (opens_at (daemon_of plan)) stands in
      record {
        found = it.found;
        bodies = opened.0;
        site = led.0;
        is_found = record {
          held = λ h. subst (λ (f : LogFront). Finds (k.reads disk) f it.found opened.0) is (of.found h);
          wanted = subst (λ (f : LogFront). IsWanted it.found.front f) is wanted.0;
          taken = led.1.0;
          between = it.log.file.disk;
          safe = λ h. subst (λ (f : LogFront). OpeningLeaves k disk it.log.file.disk f) is (safe h);
        };
        goes_on = subst (λ (f : LogFront). GoesOn opens seen k (daemon_of plan) life end f opened.0 led.0 back) of.front
            (goes_on opened.0 led.0 (record { moment = k.moment it.log.file.disk; count = length opened.0 } ∷ []) (led.1.2 (sym alone)));
      }
