-- The codes with which requests begin.
use Rattle.std.specs.Prelude.{ℕ}
use Rattle.tardis_base.specs.declared.requests.Request.{Request}
use Rattle.tardis_base.specs.declared.requests.Request.TheVariants.{Open, Begin, Get, Put, Delete, Commit, Abort, BeginMerge, ForkPoints}
use Rattle.tardis_base.specs.declared.requests.Request.TheVariants.{Conflicts, GetFor, Ceiling, Raise, RaiseAuto, Tidy, Stat, Show, Leaves}
use Rattle.tardis_base.specs.declared.requests.Request.TheVariants.{Pull, Deliver, Close, Settle}
use Rattle.wire_talk.specs.declared.request_codes.TheConstants.{OPEN, BEGIN, GET, PUT, DELETE, COMMIT, ABORT, BEGIN_MERGE, FORK_POINTS, CONFLICTS, GET_FOR}
use Rattle.wire_talk.specs.declared.request_codes.TheConstants.{CEILING, RAISE, RAISE_AUTO, TIDY, STAT, SHOW, LEAVES, PULL, DELIVER, CLOSE, SETTLE}

-- the code of the request
abbrev pub code_of : Request → ℕ
code_of (Open follow) = OPEN
code_of (Begin begin) = BEGIN
code_of (Get key) = GET
code_of (Put key value) = PUT
code_of (Delete key) = DELETE
code_of (Commit flags k) = COMMIT
code_of Abort = ABORT
code_of (BeginMerge of) = BEGIN_MERGE
code_of ForkPoints = FORK_POINTS
code_of (Conflicts after) = CONFLICTS
code_of (GetFor key state) = GET_FOR
code_of (Ceiling state) = CEILING
code_of (Raise state) = RAISE
code_of RaiseAuto = RAISE_AUTO
code_of (Tidy n) = TIDY
code_of Stat = STAT
code_of (Show state) = SHOW
code_of Leaves = LEAVES
code_of (Pull counts) = PULL
code_of (Deliver item) = DELIVER
code_of Close = CLOSE
code_of Settle = SETTLE
