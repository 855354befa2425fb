use Rattle.twin_stores.proofs.TwinStores.{stores-of-one-history-are-twins}
use Rattle.twin_stores.proofs.stores_of_one_history_are_twins.Goals as goal

pub returns : goal.returns
returns c = stores-of-one-history-are-twins
