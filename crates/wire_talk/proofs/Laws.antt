-- The laws of the spellings of requests and replies.
use Rattle.std.proofs.Common.{refl}
use Rattle.tardis_base.specs.declared.requests.Request.TheVariants.{Open, Begin, Get, Put, Delete, Commit, Abort, BeginMerge, ForkPoints, Conflicts, GetFor}
use Rattle.tardis_base.specs.declared.requests.Request.TheVariants.{Ceiling, Raise, RaiseAuto, Tidy, Stat, Show, Leaves, Pull, Deliver, Close, Settle}
use Rattle.wire_item.proofs.Laws.{one_spelling}
use Rattle.wire_talk.specs.Laws.{RequestsHaveOneSpelling, RepliesHaveOneSpelling, RequestsBeginWithTheirCode}
use Rattle.wire_talk.proofs.Requests.{reads-request}
use Rattle.wire_talk.proofs.Replies.{reads-reply}

pub requests : RequestsHaveOneSpelling
requests = one_spelling reads-request

pub replies : RepliesHaveOneSpelling
replies = one_spelling reads-reply

pub codes : RequestsBeginWithTheirCode
codes (Open follow) = (_, refl)
codes (Begin begin) = (_, refl)
codes (Get key) = (_, refl)
codes (Put key value) = (_, refl)
codes (Delete key) = (_, refl)
codes (Commit flags k) = (_, refl)
codes Abort = (_, refl)
codes (BeginMerge of) = (_, refl)
codes ForkPoints = (_, refl)
codes (Conflicts after) = (_, refl)
codes (GetFor key state) = (_, refl)
codes (Ceiling state) = (_, refl)
codes (Raise state) = (_, refl)
codes RaiseAuto = (_, refl)
codes (Tidy n) = (_, refl)
codes Stat = (_, refl)
codes (Show state) = (_, refl)
codes Leaves = (_, refl)
codes (Pull counts) = (_, refl)
codes (Deliver item) = (_, refl)
codes Close = (_, refl)
codes Settle = (_, refl)
