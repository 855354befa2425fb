use Rattle.std.proofs.Common.{sym, ap, subst}
use Rattle.tardis_base.specs.declared.ids.StateId.{StateId}
use Rattle.plain_dag.specs.Begin.{begin_state}
use Rattle.begin_rule.specs.Choices.{ChosenAs}
use Rattle.begin_rule.proofs.Chosen.{any-chosen, ancestor-chosen}
use Rattle.begin_rule.proofs.choose.Goals as goal

pub returns-in-Any-clause-chosen : goal.returns-in-Any-clause-chosen
returns-in-Any-clause-chosen c = λ rs ks stands d at known last_at under.
    any-chosen c.args.dag.now rs ks stands c.args.begin.now c.args.last d c.args.ceiling c.last.result c.in-Any.is at known (c.last.ensures.last rs ks stands)

pub returns-in-Ancestor-clause-chosen : goal.returns-in-Ancestor-clause-chosen
returns-in-Ancestor-clause-chosen c = λ rs ks stands d at known last_at under.
    ancestor-chosen c.args.dag.now rs ks stands c.args.begin.now c.args.last d c.args.ceiling c.newest_below.result c.in-Ancestor.is at known
    (c.newest_below.ensures.newest rs ks stands c.args.last known last_at)

pub returns-in-Parent-clause-chosen : goal.returns-in-Parent-clause-chosen
returns-in-Parent-clause-chosen c = λ rs ks stands d at known last_at under.
    subst (λ (x : StateId). ChosenAs c.args.dag.now rs d x c.admitted.result) (sym (ap (begin_state rs c.args.last) c.in-Parent.is))
    (c.admitted.ensures.chosen rs ks stands d at known under)
