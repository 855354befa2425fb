use Rattle.std.proofs.Common.{sym, subst}
use Rattle.session_core.proofs.Telling.{Gave}
use Rattle.session_core.proofs.Parts.serve.Goals as goal

pub returns-in-Open-clause-given : goal.returns-in-Open-clause-given
returns-in-Open-clause-given c =
    subst (λ q. Gave c.args.self.now c.open.new.self c.args.actor q c.open.result) (sym c.in-Open.is) c.open.ensures

pub returns-in-Begin-clause-given : goal.returns-in-Begin-clause-given
returns-in-Begin-clause-given c =
    subst (λ q. Gave c.args.self.now c.begin_told.new.self c.args.actor q c.begin_told.result) (sym c.in-Begin.is) c.begin_told.ensures

pub returns-in-Get-clause-given : goal.returns-in-Get-clause-given
returns-in-Get-clause-given c =
    subst (λ q. Gave c.args.self.now c.get.new.self c.args.actor q c.get.result) (sym c.in-Get.is) c.get.ensures

pub returns-in-Put-clause-given : goal.returns-in-Put-clause-given
returns-in-Put-clause-given c =
    subst (λ q. Gave c.args.self.now c.put_copy.new.self c.args.actor q c.put_copy.result) (sym c.in-Put.is) c.put_copy.ensures

pub returns-in-Delete-clause-given : goal.returns-in-Delete-clause-given
returns-in-Delete-clause-given c =
    subst (λ q. Gave c.args.self.now c.delete.new.self c.args.actor q c.delete.result) (sym c.in-Delete.is) c.delete.ensures

pub returns-in-Commit-clause-given : goal.returns-in-Commit-clause-given
returns-in-Commit-clause-given c =
    subst (λ q. Gave c.args.self.now c.commit_told.new.self c.args.actor q c.commit_told.result) (sym c.in-Commit.is) c.commit_told.ensures

pub returns-in-Abort-clause-given : goal.returns-in-Abort-clause-given
returns-in-Abort-clause-given c =
    subst (λ q. Gave c.args.self.now c.abort.new.self c.args.actor q c.abort.result) (sym c.in-Abort.is) c.abort.ensures.given

pub returns-in-BeginMerge-clause-given : goal.returns-in-BeginMerge-clause-given
returns-in-BeginMerge-clause-given c =
    subst (λ q. Gave c.args.self.now c.begin_merge.new.self c.args.actor q c.begin_merge.result) (sym c.in-BeginMerge.is) c.begin_merge.ensures

pub returns-in-Ceiling-clause-given : goal.returns-in-Ceiling-clause-given
returns-in-Ceiling-clause-given c =
    subst (λ q. Gave c.args.self.now c.set_ceiling.new.self c.args.actor q c.set_ceiling.result) (sym c.in-Ceiling.is) c.set_ceiling.ensures.given

pub returns-in-Raise-clause-given : goal.returns-in-Raise-clause-given
returns-in-Raise-clause-given c =
    subst (λ q. Gave c.args.self.now c.raise.new.self c.args.actor q c.raise.result) (sym c.in-Raise.is) c.raise.ensures.given

pub returns-in-RaiseAuto-clause-given : goal.returns-in-RaiseAuto-clause-given
returns-in-RaiseAuto-clause-given c =
    subst (λ q. Gave c.args.self.now c.raise_auto.new.self c.args.actor q c.raise_auto.result) (sym c.in-RaiseAuto.is) c.raise_auto.ensures.given

pub returns-in-Deliver-clause-given : goal.returns-in-Deliver-clause-given
returns-in-Deliver-clause-given c =
    subst (λ q. Gave c.args.self.now c.deliver_copy.new.self c.args.actor q c.deliver_copy.result) (sym c.in-Deliver.is) c.deliver_copy.ensures

pub returns-in-Settle-clause-given : goal.returns-in-Settle-clause-given
returns-in-Settle-clause-given c =
    subst (λ q. Gave c.args.self.now c.settle.new.self c.args.actor q c.settle.result) (sym c.in-Settle.is) c.settle.ensures

pub returns-in-Close-clause-given : goal.returns-in-Close-clause-given
returns-in-Close-clause-given c =
    subst (λ q. Gave c.args.self.now c.close.new.self c.args.actor q c.close.result) (sym c.in-Close.is) c.close.ensures.given

pub returns-in-ForkPoints-clause-given : goal.returns-in-ForkPoints-clause-given
returns-in-ForkPoints-clause-given c =
    subst (λ q. Gave c.args.self.now c.args.self.now c.args.actor q c.fork_points.result) (sym c.in-ForkPoints.is) c.fork_points.ensures

pub returns-in-Conflicts-clause-given : goal.returns-in-Conflicts-clause-given
returns-in-Conflicts-clause-given c =
    subst (λ q. Gave c.args.self.now c.args.self.now c.args.actor q c.conflicts.result) (sym c.in-Conflicts.is) c.conflicts.ensures

pub returns-in-GetFor-clause-given : goal.returns-in-GetFor-clause-given
returns-in-GetFor-clause-given c =
    subst (λ q. Gave c.args.self.now c.args.self.now c.args.actor q c.get_for.result) (sym c.in-GetFor.is) c.get_for.ensures

pub returns-in-Show-clause-given : goal.returns-in-Show-clause-given
returns-in-Show-clause-given c =
    subst (λ q. Gave c.args.self.now c.args.self.now c.args.actor q c.show.result) (sym c.in-Show.is) c.show.ensures

pub returns-in-Leaves-clause-given : goal.returns-in-Leaves-clause-given
returns-in-Leaves-clause-given c =
    subst (λ q. Gave c.args.self.now c.args.self.now c.args.actor q c.leaves.result) (sym c.in-Leaves.is) c.leaves.ensures
