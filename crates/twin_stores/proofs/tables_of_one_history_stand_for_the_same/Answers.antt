use Rattle.twin_stores.proofs.TwinTables.{tables-of-one-history-stand-for-the-same}
use Rattle.twin_stores.proofs.tables_of_one_history_stand_for_the_same.Goals as goal

pub returns : goal.returns
returns c = tables-of-one-history-stand-for-the-same
