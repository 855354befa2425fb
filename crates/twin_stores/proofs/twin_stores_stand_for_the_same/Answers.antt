use Rattle.twin_stores.proofs.TwinStores.{twin-stores-stand-for-the-same}
use Rattle.twin_stores.proofs.twin_stores_stand_for_the_same.Goals as goal

pub returns : goal.returns
returns c = twin-stores-stand-for-the-same
