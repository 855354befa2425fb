use Rattle.std.proofs.Common.{◌∙◌, [], ◌∷◌, refl, ap}
use Rattle.tardis_base.specs.declared.requests.Request.TheVariants.{RaiseAuto, Tidy}
use Rattle.wire_talk.specs.Spellings.{request_spelling}
use Rattle.dag_lock.specs.Named.{start_of}
use Rattle.site_sync.specs.Rounds.{with_step}
use Rattle.site_sync.proofs.Going.{goes_both, goes_step}
use Rattle.site_sync.proofs.rounds.tidy_up.Goals as goal

pub returns-clause-goes_on : goal.returns-clause-goes_on
returns-clause-goes_on g c =
    let z = start_of c.args.lock.now in
    goes_both c.args.pass c.step-pass.result.0 c.step-pass-2.result.0
    (goes_step g.M.Machine.opening g.M.Machine.plain z c.args.pass c.step-pass.result.0 (0, request_spelling RaiseAuto) c.step-pass.new.out
    c.step-pass.result.1 (record { keeps = c.step-pass.ensures.pass; ended = c.step-pass.ensures.ended }))
    (goes_step g.M.Machine.opening g.M.Machine.plain z c.step-pass.result.0 c.step-pass-2.result.0 (0, request_spelling (Tidy 64)) c.step-pass-2.new.out
    c.step-pass-2.result.1 (record { keeps = c.step-pass-2.ensures.pass; ended = c.step-pass-2.ensures.ended }))

pub returns-clause-tidies : goal.returns-clause-tidies
returns-clause-tidies g c = record {
  steps = c.step-pass.result.1 ∷ c.step-pass-2.result.1 ∷ [];
  tried = (
    c.step-pass.result.0,
    c.step-pass.new.out,
    record { keeps = c.step-pass.ensures.pass; ended = c.step-pass.ensures.ended },
    (
      c.step-pass-2.result.0,
      c.step-pass-2.new.out,
      record { keeps = c.step-pass-2.ensures.pass; ended = c.step-pass-2.ensures.ended },
      refl,
    ),
  );
  numbers = c.with_step-2.ensures ∙ ap (with_step c.step-pass-2.result.1) c.with_step.ensures;
}
