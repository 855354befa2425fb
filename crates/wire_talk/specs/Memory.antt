-- Which requests and replies are read without memory.
use Rattle.std.specs.Prelude.{Bool, true, false}
use Rattle.tardis_base.specs.declared.requests.Request.{Request}
use Rattle.tardis_base.specs.declared.replies.Refusal.{Refusal}
use Rattle.tardis_base.specs.declared.replies.Refusal.TheVariants.{Malformed, NotOpen, AlreadyOpen, SessionsFull, TxnOpen, NoTxn, WrongMode}
use Rattle.tardis_base.specs.declared.replies.Refusal.TheVariants.{TooMany, Unknown, Below, Comparable, NotRead, ConflictKey, OpenConflict}
use Rattle.tardis_base.specs.declared.replies.Refusal.TheVariants.{Branches, CeilingBack, FloorBack, Held, Collected, Full, PathFull}
use Rattle.tardis_base.specs.declared.replies.Refusal.TheVariants.{SeqEnd, BadSite, ClosedParent, OwnItem, TrailFull, Unsupported}
use Rattle.tardis_base.specs.declared.replies.Refusal.TheVariants.{NoSuchItem, BagFull}
use Rattle.tardis_base.specs.declared.replies.Reply.{Reply}
use Rattle.tardis_base.specs.declared.replies.Reply.TheVariants.{Opened, Begun, Merging, Value, Deleted, Absent, Done, Committed, Ended}
use Rattle.tardis_base.specs.declared.replies.Reply.TheVariants.{States, Keys, Raised, Tidied, Stat as Statistics, Shown, Batch, Applied}
use Rattle.tardis_base.specs.declared.replies.Reply.TheVariants.{Known, Early, Closed, Refused, NoMemory}
use Rattle.tardis_base.specs.declared.requests.Request.TheVariants.{Open, Begin, Get, Put, Delete, Commit, Abort, BeginMerge, ForkPoints}
use Rattle.tardis_base.specs.declared.requests.Request.TheVariants.{Conflicts, GetFor, Ceiling, Raise, RaiseAuto, Tidy, Stat, Show, Leaves}
use Rattle.tardis_base.specs.declared.requests.Request.TheVariants.{Pull, Deliver, Close, Settle}

-- the request has no key, no value, no list and no item
abbrev pub takes_no_memory : Request → Bool
takes_no_memory (Open follow) = true
takes_no_memory (Begin begin) = true
takes_no_memory (Get key) = false
takes_no_memory (Put key value) = false
takes_no_memory (Delete key) = false
takes_no_memory (Commit flags k) = true
takes_no_memory Abort = true
takes_no_memory (BeginMerge of) = false
takes_no_memory ForkPoints = true
takes_no_memory (Conflicts after) = false
takes_no_memory (GetFor key state) = false
takes_no_memory (Ceiling state) = true
takes_no_memory (Raise state) = true
takes_no_memory RaiseAuto = true
takes_no_memory (Tidy n) = true
takes_no_memory Stat = true
takes_no_memory (Show state) = true
takes_no_memory Leaves = true
takes_no_memory (Pull counts) = false
takes_no_memory (Deliver item) = false
takes_no_memory Close = true
takes_no_memory Settle = true

-- the refusal has no key
abbrev pub refusal_takes_no_memory : Refusal → Bool
refusal_takes_no_memory Malformed = true
refusal_takes_no_memory NotOpen = true
refusal_takes_no_memory AlreadyOpen = true
refusal_takes_no_memory (SessionsFull n) = true
refusal_takes_no_memory TxnOpen = true
refusal_takes_no_memory NoTxn = true
refusal_takes_no_memory WrongMode = true
refusal_takes_no_memory (TooMany what n) = true
refusal_takes_no_memory (Unknown state) = true
refusal_takes_no_memory (Below state ceiling) = true
refusal_takes_no_memory (Comparable a b) = true
refusal_takes_no_memory (NotRead state) = true
refusal_takes_no_memory (ConflictKey key) = false
refusal_takes_no_memory (OpenConflict key) = false
refusal_takes_no_memory (Branches constraint state children) = true
refusal_takes_no_memory (CeilingBack ceiling) = true
refusal_takes_no_memory (FloorBack floor) = true
refusal_takes_no_memory (Held session ceiling) = true
refusal_takes_no_memory (Collected state) = true
refusal_takes_no_memory (Full kept) = true
refusal_takes_no_memory (PathFull state pairs) = true
refusal_takes_no_memory SeqEnd = true
refusal_takes_no_memory (BadSite site) = true
refusal_takes_no_memory (ClosedParent state) = true
refusal_takes_no_memory (OwnItem site number) = true
refusal_takes_no_memory (TrailFull bytes) = true
refusal_takes_no_memory (Unsupported op) = true
refusal_takes_no_memory (NoSuchItem batches) = true
refusal_takes_no_memory (BagFull batches) = true

-- the reply has no key, no value, no batch, and no list but that of site lines
abbrev pub reply_takes_no_memory : Reply → Bool
reply_takes_no_memory (Opened ceiling) = true
reply_takes_no_memory (Begun state) = true
reply_takes_no_memory (Merging states) = false
reply_takes_no_memory (Value writer value) = false
reply_takes_no_memory (Deleted writer) = true
reply_takes_no_memory Absent = true
reply_takes_no_memory Done = true
reply_takes_no_memory (Committed id parents) = false
reply_takes_no_memory (Ended state) = true
reply_takes_no_memory (States total first) = false
reply_takes_no_memory (Keys total first) = false
reply_takes_no_memory (Raised floor number) = true
reply_takes_no_memory (Tidied collected) = true
reply_takes_no_memory (Statistics known kept leaves sessions sites) = true
reply_takes_no_memory (Shown arrival children path) = false
reply_takes_no_memory (Batch batch) = false
reply_takes_no_memory Applied = true
reply_takes_no_memory Known = true
reply_takes_no_memory (Early have) = true
reply_takes_no_memory Closed = true
reply_takes_no_memory (Refused refusal) = refusal_takes_no_memory refusal
reply_takes_no_memory NoMemory = true
