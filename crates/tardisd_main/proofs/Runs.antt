-- Runs of a hub over a site.
use Rattle.std.proofs.Common.{◌≡◌, ◌<◌, ℕ, List, Option, Result, Ok, Err, IfOk, arith}
use Rattle.daemon_words.specs.Daemons.{Daemon}
use Rattle.hub.specs.declared.ports.Scope.{Scope}
use Rattle.hub.specs.declared.ports.Seen.{Seen}
use Rattle.hub.specs.declared.serves.End.{End}
use Rattle.hub.specs.declared.serves.End.TheVariants.{Unsettled}
use Rattle.hub.specs.Settlings.{PlainSettling}
use Rattle.hub.specs.Upkeeps.{UpkeepRule}
use Rattle.hub.specs.Runs.{IsRun}
use Rattle.plain_site.specs.Sound.{IsSound}
use Rattle.site_lives.specs.Acquainted.{Acquainted}
use Rattle.rest_site.specs.Ruled.{ruled_machine}
use Rattle.rest_site.specs.Stands.{HeldSite, AcquaintedStands}
use Rattle.site_doors.specs.declared.asked_sites.AskedSite.{AskedSite}
use Rattle.tardisd_main.specs.Sites.{upkeep_rule, scope_of, begin_life, opens_at, asked_site, ServesPlace}

-- a run, told of less of what is reached
pub weaker : {S : Type 0} (w : PlainSettling S) (rule : Option UpkeepRule) (scope : Scope) (to told : S → Type 0) (s : S) (end : End)
    (before after : Option (List Seen)) → ((t : S) → to t → told t) → IsRun w rule scope to s end before after
    → IsRun w rule scope told s end before after
weaker w rule scope to told s end before after tells run =
    record {
      turns = run.turns;
      state = run.state;
      ran = run.ran;
      stands = tells run.state run.stands;
      served = run.served;
      fetched = run.fetched;
      last = run.last;
      seen = run.seen;
      timely = run.timely;
      ended = run.ended;
    }

-- a run of what stands for the site of a place that opens and begins a life
pub serves_place : {E : Type 0} (asked : Daemon) (life : List ℕ) (held : HeldSite) (result : Result End E) (before after : Option (List Seen))
    → AcquaintedStands held (opens_at asked)
    → IfOk result (λ end. (a : Acquainted) → AcquaintedStands held a → IsRun asked_site (upkeep_rule asked.tidy asked.rules asked.join_after asked.every) (scope_of asked)
    (λ t. (m : AskedSite) × AcquaintedStands m.site t) (ruled_machine.step a (begin_life life)) end before after)
    → IfOk result (λ end. ServesPlace asked life end before after)
serves_place asked life held (Ok end) before after stands run =
    weaker asked_site (upkeep_rule asked.tidy asked.rules asked.join_after asked.every) (scope_of asked) (λ t. (m : AskedSite) × AcquaintedStands m.site t) (λ a. IsSound a.site)
    (ruled_machine.step (opens_at asked) (begin_life life)) end before after (λ t both. both.1.0.1) (run (opens_at asked) stands)
serves_place asked life held (Err fault) before after stands run = tt

-- a machine that counts no fault can always settle
pub always_settled : {E : Type 0} (result : Result End E) (faults : ℕ) → faults ≡ 0 → IfOk result (λ end. end ≡ Unsettled → 0 < faults)
    → IfOk result (λ end. end ≡ Unsettled → ⊥)
always_settled (Ok end) faults none fault = λ is. absurd (omega (arith, none, fault is))
always_settled (Err want) faults none fault = tt
