use Rattle.std.proofs.Common.{◌∙◌, inl, inr, refl, List, String, Global, map, subst}
use Rattle.std.specs.String.{string_bytes}
use Rattle.tardisd_main.specs.Runs.{Checks, KeepsFile}
use Rattle.tardisd_main.proofs.programs.carry_out.Goals as goal

pub returns-in-Ok-clause-keep : goal.returns-in-Ok-clause-keep
returns-in-Ok-clause-keep g c =
    subst (λ (words : List (String Global)). KeepsFile g.D.Doors.opens g.D.Ports.Ports.seen g.S.Store g.K.Disk c.args.life c.args.doors.now c.tardisd.new.doors
    c.args.store.now c.tardisd.new.store c.args.output.now c.tardisd.new.output (map (λ w. string_bytes w) words) c.tardisd.result)
    (c.as_slice.ensures.value ∙ c.in-Ok.ensures) c.tardisd.ensures.keep

pub returns-in-Ok-clause-check : goal.returns-in-Ok-clause-check
returns-in-Ok-clause-check g c = λ path is.
    let of =
    subst (λ (words : List (String Global)). Checks g.S.Store g.K.Disk c.args.doors.now c.tardisd.new.doors c.args.store.now c.tardisd.new.store c.args.output.now
    c.tardisd.new.output (map (λ w. string_bytes w) words) c.tardisd.result) (c.as_slice.ensures.value ∙ c.in-Ok.ensures) c.tardisd.ensures.check path is in
    (inl of.0, of.1, of.2)

pub returns-in-Err-clause-check : goal.returns-in-Err-clause-check
returns-in-Err-clause-check g c = λ path is. (inr (refl, refl), refl, refl)
