use Rattle.std.proofs.Common.{length, take, IsTrue, sym, subst}
use Rattle.std.specs.List.{list_all}
use Rattle.state_dag.specs.Table.{is_slot}
use Rattle.record_store.proofs.Records.{named-are_slots}
use Rattle.site_exchange.proofs.judging.judge_parents.Goals as goal

pub comparable_pair-requires : goal.comparable_pair-requires
comparable_pair-requires c =
    let slots = take (length c.args.parents.now) c.slots_of-slots.result in
    subst (λ t. IsTrue (list_all (is_slot t) slots)) (sym c.dag-2.ensures)
    (named-are_slots c.args.store.now.table slots c.args.parents.now c.slots_of-slots.ensures)
