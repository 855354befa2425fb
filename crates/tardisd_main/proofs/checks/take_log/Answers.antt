use Rattle.std.proofs.Common.{inr, sym, subst}
use Rattle.log_groups.specs.declared.fronts.LogFront.{LogFront}
use Rattle.site_log.specs.Reads.{IsWanted, Refuses}
use Rattle.site_doors.specs.Kept.{resting}
use Rattle.tardisd_main.specs.Checks.{TellsBytes}
use Rattle.tardisd_main.proofs.Checking.{checked, tells_spoiled}
use Rattle.tardisd_main.proofs.checks.take_log.Goals as goal
use Rattle.tardisd_main.proofs.checks.take_log.Goals.{in-Ok, in-Err}

pub returns : goal.returns
returns c = elim c.match-read_log.branch [
  | in-Ok w ↦
      let p = w.in-Ok.ensures.taken in
      subst (TellsBytes c.args.bytes.now) (sym w.end-is)
      (checked c.args.site c.read_log.new.machine c.args.bytes.now c.args.front.now w.in-Ok.found p.0 w.checked.result c.requires.place c.requires.opens p.1
      (subst (λ (f : LogFront). IsWanted w.in-Ok.found.front f) c.widest.ensures w.in-Ok.ensures.wanted) w.checked.ensures.log w.checked.ensures.site)
  | in-Err w ↦
      subst (TellsBytes c.args.bytes.now) (sym w.end-is)
      (tells_spoiled c.args.bytes.now w.in-Err.end w.end_of-end.result w.end_of-end.ensures
      (inr (
        c.args.front.now,
        (
          c.requires.front,
          inr (
            c.args.site,
            (
              c.requires.opens,
              subst (λ (f : LogFront). Refuses resting c.args.site c.args.bytes.now f w.in-Err.end) c.widest.ensures w.in-Err.ensures.refused,
            ),
          ),
        ),
      )))
]
