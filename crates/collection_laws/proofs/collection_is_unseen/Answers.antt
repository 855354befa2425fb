use Rattle.collection_laws.proofs.Laws.{collection-is-unseen, collecting-takes-no-room, only-collected-change}
use Rattle.collection_laws.proofs.Runs.{runs-go-the-same}
use Rattle.collection_laws.proofs.Wrong.{kept-alone-breaks, kept-alone-breaks-runs, filled-breaks, forgotten-breaks, collecting-makes-room}
use Rattle.collection_laws.proofs.collection_is_unseen.Goals as goal

pub returns-clause-unseen : goal.returns-clause-unseen
returns-clause-unseen c = collection-is-unseen

pub returns-clause-rest_stays : goal.returns-clause-rest_stays
returns-clause-rest_stays c = only-collected-change

pub returns-clause-runs : goal.returns-clause-runs
returns-clause-runs c = runs-go-the-same

pub returns-clause-makes_room : goal.returns-clause-makes_room
returns-clause-makes_room c = collecting-makes-room

pub returns-clause-kept_alone_breaks : goal.returns-clause-kept_alone_breaks
returns-clause-kept_alone_breaks c = kept-alone-breaks

pub returns-clause-forgotten_breaks : goal.returns-clause-forgotten_breaks
returns-clause-forgotten_breaks c = forgotten-breaks

pub returns-clause-kept_alone_breaks_runs : goal.returns-clause-kept_alone_breaks_runs
returns-clause-kept_alone_breaks_runs c = kept-alone-breaks-runs

pub returns-clause-takes_no_room : goal.returns-clause-takes_no_room
returns-clause-takes_no_room c = collecting-takes-no-room

pub returns-clause-filled_breaks : goal.returns-clause-filled_breaks
returns-clause-filled_breaks c = filled-breaks
