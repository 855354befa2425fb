use Rattle.std.proofs.Common.{◌∙◌, ◌+◌, sym, subst}
use Rattle.branch_region.specs.Walks.{waits_at, IsWalk, IsNoted}
use Rattle.branch_region.proofs.Told.{named-are_kept, all-told}
use Rattle.branch_region.proofs.Steps.{all-noted, noted-apart, walk-shared, walk-apart}
use Rattle.branch_region.proofs.Waiting.{newest-of, gone-from, stays-in, none-left}
use Rattle.branch_region.proofs.walks.Walk.step.Goals as goal

pub returns-in_default-clause-walk : goal.returns-in_default-clause-walk
returns-in_default-clause-walk c = λ rs ks stands xs are n b walk.
    let table = c.args.dag.now in
    let self = c.args.self.now in
    all-noted table rs ks stands xs (named-are_kept table rs ks stands c.args.states.now xs are) n b (waits_at self.waiting) self.apart.items
    self.shared.items walk
    (λ k s e. none-left self.waiting c.in_default.ensures.variant k s e)

pub returns-then-is_above_all-clause-walk : goal.returns-then-is_above_all-clause-walk
returns-then-is_above_all-clause-walk c = λ rs ks stands xs are n b walk.
    let table = c.args.dag.now in
    let self = c.args.self.now in
    let kept = named-are_kept table rs ks stands c.args.states.now xs are in
    let a = c.in-Some.arrival in
    let s = c.in-Some.slot in
    let value = c.in-Some.ensures.value in
    let greatest = c.in-Some.ensures.greatest in
    let updates = c.in-Some.ensures.updates in
    let left = c.pop_last.new.self in
    let all = sym (all-told table rs ks stands s (walk.waiting a s value).1.state (walk.waiting a s value).1.named c.args.states.now xs are)
    ∙ (sym c.is_above_all.ensures ∙ c.if-is_above_all.true) in (
      a,
      subst (λ ss. IsWalk table rs ks xs (n + 1) a (waits_at left) self.apart.items ss) (sym c.in_ok-push.ensures.items)
          (walk-shared table rs ks stands xs kept n b (waits_at self.waiting) self.apart.items self.shared.items walk a s value
          (newest-of self.waiting left a s value greatest updates) (waits_at left)
          (gone-from self.waiting left a s value greatest updates) (stays-in self.waiting left a s value greatest updates) all),
    )

pub returns-then-branch-clause-walk : goal.returns-then-branch-clause-walk
returns-then-branch-clause-walk c = λ rs ks stands xs are n b walk.
    let table = c.args.dag.now in
    let self = c.args.self.now in
    let kept = named-are_kept table rs ks stands c.args.states.now xs are in
    let a = c.in-Some.arrival in
    let s = c.in-Some.slot in
    let value = c.in-Some.ensures.value in
    let greatest = c.in-Some.ensures.greatest in
    let updates = c.in-Some.ensures.updates in
    let left = c.pop_last.new.self in
    let some = sym (all-told table rs ks stands s (walk.waiting a s value).1.state (walk.waiting a s value).1.named c.args.states.now xs are)
    ∙ (sym c.is_above_all.ensures ∙ c.if-is_above_all.false) in
    let put = c.in_ok-put_parents.ensures.parents rs ks stands (walk.waiting a s value).1.state (walk.waiting a s value).1.named c.if-branch.true in (
      a,
      subst (λ ss. IsWalk table rs ks xs (n + 1) a (waits_at c.put_parents.new.waiting) ss self.shared.items) (sym c.in_ok-push-2.ensures.items)
          (walk-apart table rs ks stands xs kept n b (waits_at self.waiting) self.apart.items self.shared.items walk a s value
          (newest-of self.waiting left a s value greatest updates) (waits_at left)
          (gone-from self.waiting left a s value greatest updates) (stays-in self.waiting left a s value greatest updates) some
          (waits_at c.put_parents.new.waiting) put),
    )

pub returns-else-branch-clause-walk : goal.returns-else-branch-clause-walk
returns-else-branch-clause-walk c = λ rs ks stands xs are n b walk.
    let table = c.args.dag.now in
    let self = c.args.self.now in
    let kept = named-are_kept table rs ks stands c.args.states.now xs are in
    let a = c.in-Some.arrival in
    let s = c.in-Some.slot in
    let value = c.in-Some.ensures.value in
    let greatest = c.in-Some.ensures.greatest in
    let updates = c.in-Some.ensures.updates in
    let left = c.pop_last.new.self in
    let some = sym (all-told table rs ks stands s (walk.waiting a s value).1.state (walk.waiting a s value).1.named c.args.states.now xs are)
    ∙ (sym c.is_above_all.ensures ∙ c.if-is_above_all.false) in
    subst (λ ss. IsNoted table rs ks xs a ss self.shared.items) (sym c.in_ok-push-2.ensures.items)
    (noted-apart table rs ks stands xs kept n b (waits_at self.waiting) self.apart.items self.shared.items walk a s value
    (newest-of self.waiting left a s value greatest updates) (waits_at left)
    (gone-from self.waiting left a s value greatest updates) (stays-in self.waiting left a s value greatest updates) some)
