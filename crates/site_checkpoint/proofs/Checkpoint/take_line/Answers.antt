use Rattle.std.proofs.Common.{Bool, true, Result, Ok, sym, subst}
use Rattle.tardis_base.specs.declared.faults.NoMemory.{NoMemory}
use Rattle.plain_checkpoint.specs.Checkpoints.{Part, ToldLine}
use Rattle.site_checkpoint.specs.Loaded.{Loaded}
use Rattle.site_checkpoint.specs.Held.{seen}
use Rattle.site_checkpoint.specs.Takes.{TakesPart}
use Rattle.site_checkpoint.proofs.Parts.{taken-held, line-takes, line-misses}
use Rattle.site_checkpoint.proofs.Checkpoint.take_line.Goals as goal
use Rattle.site_checkpoint.proofs.Checkpoint.take_line.Goals.{in-Ok, in-Err}

pub invariant_of-self : goal.invariant_of-self
invariant_of-self c =
    let old : Loaded = seen c.self.inside in
    let store = c.advance.new.self in
    let new : Loaded = record { store = store; root = c.self.inside.root } in
    let p : Part = ToldLine c.args.site c.args.count in
    elim c.match-advance.branch [
      | in-Ok w ↦
          taken-held old new p (Ok true)
          (line-takes old c.args.site c.args.count store w.in-Ok.ensures.advanced.0 c.advance.ensures.limits w.in-Ok.ensures.stands w.in-Ok.ensures.stand_ins)
          c.self.invariant
      | in-Err w ↦
          taken-held old new p w.untaken.result
          (line-misses old c.args.site c.args.count store w.in-Err.fault w.untaken.result w.in-Err.ensures.advanced w.in-Err.ensures.same w.untaken.ensures)
          c.self.invariant
    ]

pub returns-clause-taken : goal.returns-clause-taken
returns-clause-taken c =
    let old : Loaded = seen c.self.inside in
    let store = c.advance.new.self in
    let new : Loaded = record { store = store; root = c.self.inside.root } in
    let p : Part = ToldLine c.args.site c.args.count in
    elim c.match-advance.branch [
      | in-Ok w ↦
          subst (λ (told : Result Bool NoMemory). TakesPart c.args.self.now new p told) (sym w.result-is)
          (subst (λ v. TakesPart v new p (Ok true)) c.self.view_is
          (line-takes old c.args.site c.args.count store w.in-Ok.ensures.advanced.0 c.advance.ensures.limits w.in-Ok.ensures.stands w.in-Ok.ensures.stand_ins))
      | in-Err w ↦
          subst (λ (told : Result Bool NoMemory). TakesPart c.args.self.now new p told) (sym w.result-is)
          (subst (λ v. TakesPart v new p w.untaken.result) c.self.view_is
          (line-misses old c.args.site c.args.count store w.in-Err.fault w.untaken.result w.in-Err.ensures.advanced w.in-Err.ensures.same w.untaken.ensures))
    ]
