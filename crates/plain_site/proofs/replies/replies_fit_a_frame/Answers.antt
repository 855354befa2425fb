use Rattle.plain_site.proofs.RepliesFit.{replies-fit}
use Rattle.plain_site.proofs.RepliesToBytes.{replies-to-bytes-fit}
use Rattle.plain_site.proofs.replies.replies_fit_a_frame.Goals as goal

pub returns : goal.returns
returns c = record { requests = replies-fit; bytes = replies-to-bytes-fit c.talk_has_one_spelling.ensures.request }
