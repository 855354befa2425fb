use Rattle.site_doors.proofs.Shares.{one-site-has-all-its-room}
use Rattle.site_doors.proofs.laws.one_site_has_all_its_room.Goals as goal

pub returns : goal.returns
returns c = one-site-has-all-its-room
