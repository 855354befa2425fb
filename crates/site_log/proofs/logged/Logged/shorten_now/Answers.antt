use Rattle.site_log.proofs.Telling.{looks_again}
use Rattle.site_log.proofs.logged.Logged.shorten_now.Goals as goal

pub returns-in_default : goal.returns-in_default
returns-in_default g c =
    let told = c.shorten_beyond.ensures in
    let again = looks_again g.K.Disk c.args.self.now c.shorten_beyond.new.self c.requires.none c.shorten_beyond.result c.in_default.not-Failed told.told told.next in
    record {
      stands = told.stands;
      again = again.0;
      done = again.1;
      failed = tt;
      cause = tt;
      machine = told.machine;
      waiting = told.waiting;
      owed = told.owed;
      front = told.front;
      later = told.later;
    }
