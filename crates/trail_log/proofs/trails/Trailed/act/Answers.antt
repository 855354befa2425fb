use Rattle.std.proofs.Common.{◌≡◌, ℕ, ◌+◌, [], ◌∷◌, ◌++◌, Some, length, List, sym, ap, ◌∙◌, subst, arith}
use Rattle.tardis_base.specs.Plain.{Event, PlainMachine, state_after, reply_at}
use Rattle.trail_log.specs.Trail.{bytes_of}
use Rattle.trail_log.proofs.Replies.{bytes_more, state_more, reply_last}
use Rattle.trail_log.proofs.trails.Trailed.act.Goals as goal

bytes_after : (old mid new : List Event) (e : Event) (n : ℕ) → n ≡ bytes_of old → mid ≡ old → new ≡ mid ++ e ∷ [] → n + (length e.1 + 6) ≡ bytes_of new
bytes_after old mid new e n was same more = omega (arith, bytes_more old e, ap bytes_of (more ∙ ap (λ t. t ++ e ∷ []) same))

stands_after : {M S : Type 0} (m : PlainMachine S) (stands : M → S → Type 0) (opening : M → S) (x y : M) (old mid new : List Event) (e : Event)
    → stands y (m.step (state_after m (opening x) old) e) → opening y ≡ opening x → mid ≡ old → new ≡ mid ++ e ∷ [] → stands y (state_after m (opening y) new)
stands_after m stands opening x y old mid new e is from same more =
    subst (stands y) (sym (ap (λ t. state_after m (opening y) t) (more ∙ ap (λ t. t ++ e ∷ []) same)
    ∙ (ap (λ s. state_after m s (old ++ e ∷ [])) from ∙ state_more m (opening x) old e))) is

reply_after : {S : Type 0} (m : PlainMachine S) (s : S) (old mid new : List Event) (e : Event) (out : List ℕ)
    → out ≡ m.reply (state_after m s old) e → mid ≡ old → new ≡ mid ++ e ∷ [] → reply_at m s new (length old) ≡ Some out
reply_after m s old mid new e out is same more =
    ap (λ t. reply_at m s t (length old)) (more ∙ ap (λ t. t ++ e ∷ []) same) ∙ (reply_last m s old e ∙ ap Some (sym is))

pub invariant_of-self-in-Ok : goal.invariant_of-self-in-Ok
invariant_of-self-in-Ok g c =
    let e : Event = (c.args.actor, c.args.request.now) in (
      bytes_after c.self.inside.log.trail c.reserve.new.self.trail c.push.new.self.trail e c.self.inside.bytes c.self.invariant.0 c.reserve.ensures.same
          c.push.ensures,
      omega (arith, c.self.invariant.1),
      stands_after g.M.Machine.plain g.M.Machine.stands g.M.Machine.opening c.self.inside.machine c.act.new.self c.self.inside.log.trail
          c.reserve.new.self.trail c.push.new.self.trail e
          (c.in-Ok.ensures.step (state_after g.M.Machine.plain (g.M.Machine.opening c.self.inside.machine) c.self.inside.log.trail) c.self.invariant.2)
          c.in-Ok.ensures.opening c.reserve.ensures.same c.push.ensures,
    )

pub returns-in-Ok-clause-reply : goal.returns-in-Ok-clause-reply
returns-in-Ok-clause-reply g c = λ _.
    rw (← c.self.view_is)
    (reply_after g.M.Machine.plain (g.M.Machine.opening c.self.inside.machine) c.self.inside.log.trail c.reserve.new.self.trail c.push.new.self.trail
    (c.args.actor, c.args.request.now) c.act.new.out
    (c.in-Ok.ensures.reply (state_after g.M.Machine.plain (g.M.Machine.opening c.self.inside.machine) c.self.inside.log.trail) c.self.invariant.2)
    c.reserve.ensures.same c.push.ensures)

pub returns-then-self-count-clause-full : goal.returns-then-self-count-clause-full
returns-then-self-count-clause-full g c = rw (← c.self.view_is) (c.self.invariant.0, omega arith)
