use Rattle.site_doors.proofs.Shares.{commits-keep-to-the-share}
use Rattle.site_doors.proofs.laws.commits_keep_to_the_share.Goals as goal

pub returns : goal.returns
returns c = commits-keep-to-the-share c.talk_has_one_spelling.ensures.request
