use Rattle.std.proofs.Common.{◌≡◌, ℕ, Ok, ap, ◌∙◌, subst, arith}
use Rattle.site_log.specs.Drafts.{HasGuards}
use Rattle.site_log.proofs.Drafting.{guards_none, guards_more}
use Rattle.site_log.proofs.drafts.Draft.put_guards.Goals as goal

pub loop-guard-init : goal.loop-guard-init
loop-guard-init g c = (c.requires, λ from has. guards_none g.M.Resting c.args.front.now from c.args.self.now has)

pub loop-guard-preserved : goal.loop-guard-preserved
loop-guard-preserved g c =
    let is = c.in-Ok-true.is ∙ ap (λ f. Ok f) c.in-Ok-true.field-0-test in (
      c.put_body.ensures.empty is,
      λ from has.
          guards_more g.M.Resting c.args.front.now c.loop-guard._guard from c.loop-guard.self c.put_body.new.self c.loop-guard.self.body c.loop-guard.invariant.0
          (c.put_body.ensures.more is from) (c.loop-guard.invariant.1 from has),
    )

pub returns : goal.returns
returns g c = λ is from has.
    let all : c.loop-guard._guard ≡ c.args.guards = omega (arith, c.loop-guard.auto._guard-end, c.loop-guard-test.false) in
    subst (λ (n : ℕ). HasGuards g.M.Resting n from c.args.front.now c.loop-guard.self) all (c.loop-guard.invariant.1 from has)
