use Rattle.txn_book.proofs.Written.{own-isnt_noted}
use Rattle.txn_book.proofs.slot_to_read.Goals as goal

pub returns-in-Some : goal.returns-in-Some
returns-in-Some c = own-isnt_noted c.args.key.now c.in-Single.single c.args.txn.now c.in-Single.is c.in-Some.ensures
