use Rattle.site_peers.proofs.Exchanging.{exchanges_are_whole}
use Rattle.site_peers.proofs.Shortness.{turns_are_short, time_says_nothing}
use Rattle.site_peers.proofs.Rooms.{room_is_read}
use Rattle.site_peers.proofs.laws.exchanges_are_whole.Goals as goal

pub returns-clause-whole : goal.returns-clause-whole
returns-clause-whole c = exchanges_are_whole

pub returns-clause-short : goal.returns-clause-short
returns-clause-short c = turns_are_short

pub returns-clause-in_time : goal.returns-clause-in_time
returns-clause-in_time c = time_says_nothing

pub returns-clause-room : goal.returns-clause-room
returns-clause-room c = room_is_read
