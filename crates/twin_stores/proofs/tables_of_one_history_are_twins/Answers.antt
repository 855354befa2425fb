use Rattle.twin_stores.proofs.TwinTables.{tables-of-one-history-are-twins}
use Rattle.twin_stores.proofs.tables_of_one_history_are_twins.Goals as goal

pub returns : goal.returns
returns c = tables-of-one-history-are-twins
