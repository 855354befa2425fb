use Rattle.log_groups.proofs.Ends.{no_next, not_last, not_few}
use Rattle.log_groups.proofs.endings.ending_of.Goals as goal

pub returns-then-not-is_zeros : goal.returns-then-not-is_zeros
returns-then-not-is_zeros c = λ life number. (
  no_next life number c.args.rest.now c.requires,
  not_last c.args.rest.now c.behind_end.result.now c.is_zeros-2.result c.behind_end.ensures c.is_zeros-2.ensures c.if-not-is_zeros.true,
)

pub returns-then-not-is_zeros-2 : goal.returns-then-not-is_zeros-2
returns-then-not-is_zeros-2 c = λ life number. (
  no_next life number c.args.rest.now c.requires,
  not_few c.args.rest.now c.behind_entry.result.now c.is_zeros-3.result c.behind_entry.ensures c.is_zeros-3.ensures c.if-not-is_zeros-2.true,
)
