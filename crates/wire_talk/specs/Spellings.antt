-- How requests, refusals and replies are spelled in bytes: a code, and then the fields.
use Rattle.std.specs.Prelude.{ℕ, Bool, List, [], ◌∷◌, ◌++◌, length, flat_map, if◌then◌else◌}
use Rattle.tardis_base.specs.declared.ids.StateId.{StateId}
use Rattle.tardis_base.specs.declared.requests.Begin.{Begin}
use Rattle.tardis_base.specs.declared.requests.Begin.TheVariants.{Any, Ancestor, Parent, At}
use Rattle.tardis_base.specs.declared.requests.MergeOf.{MergeOf}
use Rattle.tardis_base.specs.declared.requests.MergeOf.TheVariants.{Leaves as AllLeaves, States as TheseStates}
use Rattle.tardis_base.specs.declared.requests.Request.{Request}
use Rattle.tardis_base.specs.declared.requests.Request.TheVariants.{Open, Begin as BeginAt, Get, Put, Delete, Commit, Abort, BeginMerge}
use Rattle.tardis_base.specs.declared.requests.Request.TheVariants.{ForkPoints, Conflicts, GetFor, Ceiling, Raise, RaiseAuto, Tidy, Stat}
use Rattle.tardis_base.specs.declared.requests.Request.TheVariants.{Show, Leaves, Pull, Deliver, Close, Settle}
use Rattle.tardis_base.specs.declared.replies.SiteLine.{SiteLine}
use Rattle.tardis_base.specs.declared.replies.Excess.{Excess}
use Rattle.tardis_base.specs.declared.replies.Excess.TheVariants.{WrittenKeys, ReadKeys, MergedStates}
use Rattle.tardis_base.specs.declared.replies.Refusal.{Refusal}
use Rattle.tardis_base.specs.declared.replies.Refusal.TheVariants.{Malformed, NotOpen, AlreadyOpen, SessionsFull, TxnOpen, NoTxn, WrongMode}
use Rattle.tardis_base.specs.declared.replies.Refusal.TheVariants.{TooMany, Unknown, Below, Comparable, NotRead, ConflictKey, OpenConflict}
use Rattle.tardis_base.specs.declared.replies.Refusal.TheVariants.{Branches, CeilingBack, FloorBack, Held, Collected, Full, PathFull}
use Rattle.tardis_base.specs.declared.replies.Refusal.TheVariants.{SeqEnd, BadSite, ClosedParent, OwnItem, TrailFull, Unsupported}
use Rattle.tardis_base.specs.declared.replies.Refusal.TheVariants.{NoSuchItem, BagFull}
use Rattle.tardis_base.specs.declared.replies.Reply.{Reply}
use Rattle.tardis_base.specs.declared.replies.Reply.TheVariants.{Opened, Begun, Merging, Value, Deleted, Absent, Done, Committed, Ended}
use Rattle.tardis_base.specs.declared.replies.Reply.TheVariants.{States, Keys, Raised, Tidied, Stat as Statistics, Shown, Batch, Applied}
use Rattle.tardis_base.specs.declared.replies.Reply.TheVariants.{Known, Early, Closed, Refused, NoMemory}
use Rattle.wire_item.specs.Spellings.{u8_spelling, u16_spelling, u32_spelling, u64_spelling, id_spelling, key_spelling, value_spelling}
use Rattle.wire_item.specs.Spellings.{parents_spelling, item_spelling, batch_spelling}
use Rattle.wire_talk.specs.declared.request_codes.TheConstants.{OPEN, BEGIN, GET, PUT, DELETE, COMMIT, ABORT, BEGIN_MERGE, FORK_POINTS, CONFLICTS, GET_FOR}
use Rattle.wire_talk.specs.declared.request_codes.TheConstants.{CEILING, RAISE, RAISE_AUTO, TIDY, STAT, SHOW, LEAVES, PULL, DELIVER, CLOSE, SETTLE}
use Rattle.wire_talk.specs.declared.reply_codes.TheConstants.{OPENED, BEGUN, MERGING, VALUE, DELETED, ABSENT, DONE, COMMITTED, ENDED, STATES, KEYS}
use Rattle.wire_talk.specs.declared.reply_codes.TheConstants.{RAISED, TIDIED, STAT as STATISTICS, SHOWN, BATCH, APPLIED, KNOWN, EARLY, CLOSED, REFUSED, NO_MEMORY}
use Rattle.wire_talk.specs.declared.refusal_codes.TheConstants.{MALFORMED, NOT_OPEN, ALREADY_OPEN, SESSIONS_FULL, TXN_OPEN, NO_TXN, WRONG_MODE, TOO_MANY, UNKNOWN, BELOW, COMPARABLE}
use Rattle.wire_talk.specs.declared.refusal_codes.TheConstants.{NOT_READ, CONFLICT_KEY, OPEN_CONFLICT, BRANCHES, CEILING_BACK, FLOOR_BACK, HELD, COLLECTED, FULL, PATH_FULL, SEQ_END}
use Rattle.wire_talk.specs.declared.refusal_codes.TheConstants.{BAD_SITE, CLOSED_PARENT, OWN_ITEM, TRAIL_FULL, UNSUPPORTED, NO_SUCH_ITEM, BAG_FULL}

-- 1 for yes, 0 for no
abbrev pub flag_spelling : Bool → List ℕ
flag_spelling flag = u8_spelling (if flag then 1 else 0)

-- 0 to 3 for the kind, and the id after 3
abbrev pub begin_spelling : Begin → List ℕ
begin_spelling Any = 0 ∷ []
begin_spelling Ancestor = 1 ∷ []
begin_spelling Parent = 2 ∷ []
begin_spelling (At state) = 3 ∷ id_spelling state

-- a u8 for the number of states, and the states; 0 for the leaves
abbrev pub merge_of_spelling : MergeOf → List ℕ
merge_of_spelling AllLeaves = 0 ∷ []
merge_of_spelling (TheseStates states) = u8_spelling (length states) ++ flat_map id_spelling states

-- a u8 for the length, and the bytes
abbrev pub after_spelling : List ℕ → List ℕ
after_spelling bytes = u8_spelling (length bytes) ++ bytes

-- a u8 for the number of counts, and the counts
abbrev pub counts_spelling : List ℕ → List ℕ
counts_spelling counts = u8_spelling (length counts) ++ flat_map u32_spelling counts

abbrev pub request_spelling : Request → List ℕ
request_spelling (Open follow) = OPEN ∷ flag_spelling follow
request_spelling (BeginAt begin) = BEGIN ∷ begin_spelling begin
request_spelling (Get key) = GET ∷ key_spelling key
request_spelling (Put key value) = PUT ∷ (key_spelling key ++ value_spelling value)
request_spelling (Delete key) = DELETE ∷ key_spelling key
request_spelling (Commit flags k) = COMMIT ∷ (u8_spelling flags.0 ++ u16_spelling k)
request_spelling Abort = ABORT ∷ []
request_spelling (BeginMerge of) = BEGIN_MERGE ∷ merge_of_spelling of
request_spelling ForkPoints = FORK_POINTS ∷ []
request_spelling (Conflicts after) = CONFLICTS ∷ after_spelling after
request_spelling (GetFor key state) = GET_FOR ∷ (key_spelling key ++ id_spelling state)
request_spelling (Ceiling state) = CEILING ∷ id_spelling state
request_spelling (Raise state) = RAISE ∷ id_spelling state
request_spelling RaiseAuto = RAISE_AUTO ∷ []
request_spelling (Tidy n) = TIDY ∷ u16_spelling n
request_spelling Stat = STAT ∷ []
request_spelling (Show state) = SHOW ∷ id_spelling state
request_spelling Leaves = LEAVES ∷ []
request_spelling (Pull counts) = PULL ∷ counts_spelling counts
request_spelling (Deliver item) = DELIVER ∷ item_spelling item
request_spelling Close = CLOSE ∷ []
request_spelling Settle = SETTLE ∷ []

-- what there would be too many of
abbrev pub excess_code : Excess → ℕ
excess_code WrittenKeys = 1
excess_code ReadKeys = 2
excess_code MergedStates = 3

abbrev pub excess_spelling : Excess → List ℕ
excess_spelling what = u8_spelling (excess_code what)

abbrev pub refusal_spelling : Refusal → List ℕ
refusal_spelling Malformed = MALFORMED ∷ []
refusal_spelling NotOpen = NOT_OPEN ∷ []
refusal_spelling AlreadyOpen = ALREADY_OPEN ∷ []
refusal_spelling (SessionsFull n) = SESSIONS_FULL ∷ u16_spelling n
refusal_spelling TxnOpen = TXN_OPEN ∷ []
refusal_spelling NoTxn = NO_TXN ∷ []
refusal_spelling WrongMode = WRONG_MODE ∷ []
refusal_spelling (TooMany what n) = TOO_MANY ∷ (excess_spelling what ++ u32_spelling n)
refusal_spelling (Unknown state) = UNKNOWN ∷ id_spelling state
refusal_spelling (Below state ceiling) = BELOW ∷ (id_spelling state ++ id_spelling ceiling)
refusal_spelling (Comparable a b) = COMPARABLE ∷ (id_spelling a ++ id_spelling b)
refusal_spelling (NotRead state) = NOT_READ ∷ id_spelling state
refusal_spelling (ConflictKey key) = CONFLICT_KEY ∷ key_spelling key
refusal_spelling (OpenConflict key) = OPEN_CONFLICT ∷ key_spelling key
refusal_spelling (Branches constraint state children) = BRANCHES ∷ (u8_spelling constraint ++ id_spelling state ++ u32_spelling children)
refusal_spelling (CeilingBack ceiling) = CEILING_BACK ∷ id_spelling ceiling
refusal_spelling (FloorBack floor) = FLOOR_BACK ∷ id_spelling floor
refusal_spelling (Held session ceiling) = HELD ∷ (u16_spelling session ++ id_spelling ceiling)
refusal_spelling (Collected state) = COLLECTED ∷ id_spelling state
refusal_spelling (Full kept) = FULL ∷ u32_spelling kept
refusal_spelling (PathFull state pairs) = PATH_FULL ∷ (id_spelling state ++ u32_spelling pairs)
refusal_spelling SeqEnd = SEQ_END ∷ []
refusal_spelling (BadSite site) = BAD_SITE ∷ u16_spelling site
refusal_spelling (ClosedParent state) = CLOSED_PARENT ∷ id_spelling state
refusal_spelling (OwnItem site number) = OWN_ITEM ∷ (u16_spelling site ++ u32_spelling number)
refusal_spelling (TrailFull bytes) = TRAIL_FULL ∷ u64_spelling bytes
refusal_spelling (Unsupported op) = UNSUPPORTED ∷ u8_spelling op
refusal_spelling (NoSuchItem batches) = NO_SUCH_ITEM ∷ u32_spelling batches
refusal_spelling (BagFull batches) = BAG_FULL ∷ u32_spelling batches

-- a u32 for how many there are, a u16 for the number of those that follow, and these
abbrev pub first_ids_spelling : ℕ → List StateId → List ℕ
first_ids_spelling total first = u32_spelling total ++ (u16_spelling (length first) ++ flat_map id_spelling first)

-- the same with keys
abbrev pub first_keys_spelling : ℕ → List (List ℕ) → List ℕ
first_keys_spelling total first = u32_spelling total ++ (u16_spelling (length first) ++ flat_map key_spelling first)

-- a u32 for the count, the floor, a u32 for the consent's number
abbrev pub site_line_spelling : SiteLine → List ℕ
site_line_spelling line = u32_spelling line.count ++ id_spelling line.floor ++ u32_spelling line.number

-- a u8 for the number of lines, and the lines
abbrev pub site_lines_spelling : List SiteLine → List ℕ
site_lines_spelling lines = u8_spelling (length lines) ++ flat_map site_line_spelling lines

-- a u32 for the number of ids, and the ids
abbrev pub children_spelling : List StateId → List ℕ
children_spelling children = u32_spelling (length children) ++ flat_map id_spelling children

-- the fork, and a u32 for the branch
abbrev pub pair_spelling : StateId × ℕ → List ℕ
pair_spelling pair = id_spelling pair.0 ++ u32_spelling pair.1

-- a u32 for the number of pairs, and the pairs
abbrev pub path_spelling : List (StateId × ℕ) → List ℕ
path_spelling path = u32_spelling (length path) ++ flat_map pair_spelling path

abbrev pub reply_spelling : Reply → List ℕ
reply_spelling (Opened ceiling) = OPENED ∷ id_spelling ceiling
reply_spelling (Begun state) = BEGUN ∷ id_spelling state
reply_spelling (Merging states) = MERGING ∷ parents_spelling states
reply_spelling (Value writer value) = VALUE ∷ (id_spelling writer ++ value_spelling value)
reply_spelling (Deleted writer) = DELETED ∷ id_spelling writer
reply_spelling Absent = ABSENT ∷ []
reply_spelling Done = DONE ∷ []
reply_spelling (Committed id parents) = COMMITTED ∷ (id_spelling id ++ parents_spelling parents)
reply_spelling (Ended state) = ENDED ∷ id_spelling state
reply_spelling (States total first) = STATES ∷ first_ids_spelling total first
reply_spelling (Keys total first) = KEYS ∷ first_keys_spelling total first
reply_spelling (Raised floor number) = RAISED ∷ (id_spelling floor ++ u32_spelling number)
reply_spelling (Tidied collected) = TIDIED ∷ u32_spelling collected
reply_spelling (Statistics known kept leaves sessions sites) =
    STATISTICS ∷ (u64_spelling known ++ u32_spelling kept ++ u32_spelling leaves ++ u16_spelling sessions ++ site_lines_spelling sites)
reply_spelling (Shown arrival children path) = SHOWN ∷ (u64_spelling arrival ++ children_spelling children ++ path_spelling path)
reply_spelling (Batch batch) = BATCH ∷ batch_spelling batch
reply_spelling Applied = APPLIED ∷ []
reply_spelling Known = KNOWN ∷ []
reply_spelling (Early have) = EARLY ∷ u32_spelling have
reply_spelling Closed = CLOSED ∷ []
reply_spelling (Refused refusal) = REFUSED ∷ refusal_spelling refusal
reply_spelling NoMemory = NO_MEMORY ∷ []
