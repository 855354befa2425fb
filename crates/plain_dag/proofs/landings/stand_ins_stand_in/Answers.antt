use Rattle.plain_dag.proofs.StandIns.{collected-share-stand-ins, stands-in-well}
use Rattle.plain_dag.proofs.StandInWriters.{latest-writers-stand-in-there}
use Rattle.plain_dag.proofs.landings.stand_ins_stand_in.Goals as goal

pub returns-clause-shared : goal.returns-clause-shared
returns-clause-shared c = collected-share-stand-ins

pub returns-clause-well : goal.returns-clause-well
returns-clause-well c = stands-in-well

pub returns-clause-latest : goal.returns-clause-latest
returns-clause-latest c = latest-writers-stand-in-there
