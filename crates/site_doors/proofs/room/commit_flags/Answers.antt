use Rattle.site_doors.proofs.Bounds.{flags-unlent}
use Rattle.site_doors.proofs.room.commit_flags.Goals as goal

pub returns-in-None : goal.returns-in-None
returns-in-None c = flags-unlent c.talk_has_one_spelling.ensures.request c.args.body.now c.read_lent.result c.in-None.is c.read_lent.ensures.all
