use Rattle.site_lives.proofs.Ahead.{bytes-take-nothing-away}
use Rattle.site_lives.proofs.Larger.{larger-limits-take-bytes, untold-is-sound, bytes-keep-sound}
use Rattle.site_lives.proofs.lasting_laws.larger_limits_take_the_same_bytes.Goals as goal

pub returns-clause-takes : goal.returns-clause-takes
returns-clause-takes c = larger-limits-take-bytes

pub returns-clause-untold : goal.returns-clause-untold
returns-clause-untold c = untold-is-sound

pub returns-clause-sound : goal.returns-clause-sound
returns-clause-sound c = bytes-keep-sound

pub returns-clause-nothing_away : goal.returns-clause-nothing_away
returns-clause-nothing_away c = bytes-take-nothing-away
