use Rattle.twin_stores.proofs.TwinStores.{stores-of-one-history-stand-for-the-same}
use Rattle.twin_stores.proofs.stores_of_one_history_stand_for_the_same.Goals as goal

pub returns : goal.returns
returns c = stores-of-one-history-stand-for-the-same
