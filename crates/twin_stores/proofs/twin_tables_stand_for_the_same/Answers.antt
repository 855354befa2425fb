use Rattle.twin_stores.proofs.TwinTables.{twin-tables-stand-for-the-same}
use Rattle.twin_stores.proofs.twin_tables_stand_for_the_same.Goals as goal

pub returns : goal.returns
returns c = twin-tables-stand-for-the-same
