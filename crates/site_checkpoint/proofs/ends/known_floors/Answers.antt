use Rattle.std.proofs.Common.{◌+◌, ◌<◌, ◌∙◌, ◌&&◌, length, drop, sym, ap, arith}
use Rattle.tardis_base.specs.Ids.{root}
use Rattle.tardis_base.specs.declared.records.Limits.{Limits}
use Rattle.site_checkpoint.specs.declared.ends.ToldFloor.{ToldFloor}
use Rattle.site_checkpoint.specs.Ends.{floors_told, may_be_floors}
use Rattle.site_checkpoint.proofs.Ending.{next-floor}
use Rattle.site_checkpoint.proofs.ends.known_floors.Goals as goal

pub returns-in-None-clause-fits : goal.returns-in-None-clause-fits
returns-in-None-clause-fits c = λ t stands.
    let fs = c.args.floors.now in
    let i = c.loop-place.place in
    let d : ToldFloor = record { state = root; number = 0; stated = 0 } in
    let behind = may_be_floors t (i + 1 + 1) (floors_told (drop (i + 1) fs)) in
    let sites = ap (λ (l : Limits). l.sites) c.limits.ensures in
    let within : i < length fs = omega arith in
    sym (c.loop-place.invariant.fits t stands ∙ (next-floor t (i + 1) fs i d within ∙ ap (λ b. b && behind) (sym (c.in-None.ensures.fits t stands))))
