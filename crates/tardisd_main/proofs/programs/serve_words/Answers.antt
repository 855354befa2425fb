use Rattle.std.proofs.Common.{◌≡◌, None, Some, inl, map, refl, sym, subst}
use Rattle.std.specs.String.{string_bytes}
use Rattle.command_words.specs.Settings.{settings}
use Rattle.daemon_words.specs.Daemons.{Daemon, daemon, daemon_of}
use Rattle.tardisd_main.specs.Runs.{ServesAs}
use Rattle.tardisd_main.specs.Stores.{KeepsAs}
use Rattle.tardisd_main.proofs.Words.{no_form, of_plan, unplanned_usage, unplanned_none, unplanned_some, unplanned_unwritten}
use Rattle.tardisd_main.proofs.programs.serve_words.Goals as goal

pub returns-in-Ok-clause-usage : goal.returns-in-Ok-clause-usage
returns-in-Ok-clause-usage g c = λ is. absurd (c.serve_plan.ensures.neither.0 is)

pub returns-in-Ok-clause-none : goal.returns-in-Ok-clause-none
returns-in-Ok-clause-none g c = λ none.
    absurd (no_form (daemon (settings (map (λ w. string_bytes w) c.args.words.now))) (daemon_of c.in-Ok.plan) none c.in-Ok.ensures.plan)

pub returns-in-Ok-clause-serve : goal.returns-in-Ok-clause-serve
returns-in-Ok-clause-serve g c = λ asked is file.
    let asks = of_plan (map (λ w. string_bytes w) c.args.words.now) c.in-Ok.plan asked c.in-Ok.ensures.plan is in
    let served = c.serve_plan.ensures.memory (subst (λ (a : Daemon). a.file ≡ None) (sym asks) file) in (
      subst (λ (a : Daemon). ServesAs g.D.Doors.opens g.D.Ports.Ports.seen c.args.life c.args.doors.now c.serve_plan.new.doors a c.serve_plan.result) asks served.0,
      served.1,
    )

pub returns-in-Ok-clause-keep : goal.returns-in-Ok-clause-keep
returns-in-Ok-clause-keep g c = λ asked path is filed.
    let asks = of_plan (map (λ w. string_bytes w) c.args.words.now) c.in-Ok.plan asked c.in-Ok.ensures.plan is in
    subst (λ (a : Daemon). KeepsAs g.D.Doors.opens g.D.Ports.Ports.seen g.S.Store g.K.Disk c.args.life a path c.args.doors.now c.serve_plan.new.doors
    c.args.store.now c.serve_plan.new.store c.serve_plan.result) asks
    (c.serve_plan.ensures.file path (subst (λ (a : Daemon). a.file ≡ Some path) (sym asks) filed))

pub returns-in-Ok-clause-write : goal.returns-in-Ok-clause-write
returns-in-Ok-clause-write g c = c.serve_plan.ensures.neither.1

pub returns-in-Err-clause-usage : goal.returns-in-Err-clause-usage
returns-in-Err-clause-usage g c = unplanned_usage (map (λ w. string_bytes w) c.args.words.now) c.in-Err.refused c.in-Err.ensures.refused

pub returns-in-Err-clause-none : goal.returns-in-Err-clause-none
returns-in-Err-clause-none g c = λ none.
    (unplanned_none (map (λ w. string_bytes w) c.args.words.now) c.in-Err.refused c.in-Err.ensures.refused none, refl, refl)

pub returns-in-Err-clause-serve : goal.returns-in-Err-clause-serve
returns-in-Err-clause-serve g c = λ asked is file.
    (inl (unplanned_some (map (λ w. string_bytes w) c.args.words.now) c.in-Err.refused asked c.in-Err.ensures.refused is, refl), refl)

pub returns-in-Err-clause-keep : goal.returns-in-Err-clause-keep
returns-in-Err-clause-keep g c = λ asked path is filed.
    record {
      became = inl (record {
        end_is = unplanned_some (map (λ w. string_bytes w) c.args.words.now) c.in-Err.refused asked c.in-Err.ensures.refused is;
        no_edge = refl;
        no_file = refl;
      });
      still = λ h. h;
    }

pub returns-in-Err-clause-write : goal.returns-in-Err-clause-write
returns-in-Err-clause-write g c = unplanned_unwritten (map (λ w. string_bytes w) c.args.words.now) c.in-Err.refused c.in-Err.ensures.refused
