-- Which requests, refusals and replies there are.
use Rattle.std.specs.Prelude.{ℕ, Bool, true, ◌==◌, ◌&&◌, ◌||◌, List, length, min, nat_lt, nat_le, if◌then◌else◌}
use Rattle.std.specs.List.{list_all}
use Rattle.tardis_base.specs.declared.ids.StateId.{StateId}
use Rattle.tardis_base.specs.declared.requests.Begin.{Begin}
use Rattle.tardis_base.specs.declared.requests.Begin.TheVariants.{Any, Ancestor, Parent, At}
use Rattle.tardis_base.specs.declared.requests.EndFlags.{EndFlags}
use Rattle.tardis_base.specs.declared.requests.MergeOf.{MergeOf}
use Rattle.tardis_base.specs.declared.requests.MergeOf.TheVariants.{Leaves as AllLeaves, States as TheseStates}
use Rattle.tardis_base.specs.declared.requests.Request.{Request}
use Rattle.tardis_base.specs.declared.requests.Request.TheVariants.{Open, Begin as BeginAt, Get, Put, Delete, Commit, Abort, BeginMerge}
use Rattle.tardis_base.specs.declared.requests.Request.TheVariants.{ForkPoints, Conflicts, GetFor, Ceiling, Raise, RaiseAuto, Tidy, Stat}
use Rattle.tardis_base.specs.declared.requests.Request.TheVariants.{Show, Leaves, Pull, Deliver, Close, Settle}
use Rattle.tardis_base.specs.declared.replies.SiteLine.{SiteLine}
use Rattle.tardis_base.specs.declared.replies.Refusal.{Refusal}
use Rattle.tardis_base.specs.declared.replies.Refusal.TheVariants.{Malformed, NotOpen, AlreadyOpen, SessionsFull, TxnOpen, NoTxn, WrongMode}
use Rattle.tardis_base.specs.declared.replies.Refusal.TheVariants.{TooMany, Unknown, Below, Comparable, NotRead, ConflictKey, OpenConflict}
use Rattle.tardis_base.specs.declared.replies.Refusal.TheVariants.{Branches, CeilingBack, FloorBack, Held, Collected, Full, PathFull}
use Rattle.tardis_base.specs.declared.replies.Refusal.TheVariants.{SeqEnd, BadSite, ClosedParent, OwnItem, TrailFull, Unsupported}
use Rattle.tardis_base.specs.declared.replies.Refusal.TheVariants.{NoSuchItem, BagFull}
use Rattle.tardis_base.specs.declared.replies.Reply.{Reply}
use Rattle.tardis_base.specs.declared.replies.Reply.TheVariants.{Opened, Begun, Merging, Value, Deleted, Absent, Done, Committed, Ended}
use Rattle.tardis_base.specs.declared.replies.Reply.TheVariants.{States, Keys, Raised, Tidied, Stat as Statistics, Shown, Batch, Applied}
use Rattle.tardis_base.specs.declared.replies.Reply.TheVariants.{Known, Early, Closed, Refused, NoMemory}
use Rattle.tardis_base.specs.Sizes.{longest_key, most_named, most_sites}
use Rattle.tardis_base.specs.Flags.{is_kb}
use Rattle.tardis_base.specs.Keys.{are_ascending_keys}
use Rattle.tardis_base.specs.Valid.{is_u16, is_u32, is_u64, is_within, are_bytes, is_id, is_key, is_value, are_parents}
use Rattle.wire_item.specs.Valid.{is_u8, is_item, is_batch}

abbrev pub is_begin : Begin → Bool
is_begin Any = true
is_begin Ancestor = true
is_begin Parent = true
is_begin (At state) = is_id state

-- four flags; k is 1 or more where it counts, else 0
abbrev pub is_commit : EndFlags → ℕ → Bool
is_commit flags k = nat_lt flags.0 16 && is_u16 k && (if is_kb flags then nat_le 1 k else k == 0)

-- the leaves, or 1 to 255 states
abbrev pub is_merge_of : MergeOf → Bool
is_merge_of AllLeaves = true
is_merge_of (TheseStates states) = is_within 1 255 (length states) && list_all is_id states

-- 0 to 128 bytes
abbrev pub is_after : List ℕ → Bool
is_after bytes = nat_le (length bytes) longest_key && are_bytes bytes

-- 1 to 16 numbers
abbrev pub are_counts : List ℕ → Bool
are_counts counts = is_within 1 most_sites (length counts) && list_all is_u32 counts

abbrev pub is_request : Request → Bool
is_request (Open follow) = true
is_request (BeginAt begin) = is_begin begin
is_request (Get key) = is_key key
is_request (Put key value) = is_key key && is_value value
is_request (Delete key) = is_key key
is_request (Commit flags k) = is_commit flags k
is_request Abort = true
is_request (BeginMerge of) = is_merge_of of
is_request ForkPoints = true
is_request (Conflicts after) = is_after after
is_request (GetFor key state) = is_key key && is_id state
is_request (Ceiling state) = is_id state
is_request (Raise state) = is_id state
is_request RaiseAuto = true
is_request (Tidy n) = is_u16 n
is_request Stat = true
is_request (Show state) = is_id state
is_request Leaves = true
is_request (Pull counts) = are_counts counts
is_request (Deliver item) = is_item item
is_request Close = true
is_request Settle = true

-- the flag 4, for no branch, or 8, for so many branches
abbrev pub is_constraint : ℕ → Bool
is_constraint constraint = constraint == 4 || constraint == 8

abbrev pub is_refusal : Refusal → Bool
is_refusal Malformed = true
is_refusal NotOpen = true
is_refusal AlreadyOpen = true
is_refusal (SessionsFull n) = is_u16 n
is_refusal TxnOpen = true
is_refusal NoTxn = true
is_refusal WrongMode = true
is_refusal (TooMany what n) = is_u32 n
is_refusal (Unknown state) = is_id state
is_refusal (Below state ceiling) = is_id state && is_id ceiling
is_refusal (Comparable a b) = is_id a && is_id b
is_refusal (NotRead state) = is_id state
is_refusal (ConflictKey key) = is_key key
is_refusal (OpenConflict key) = is_key key
is_refusal (Branches constraint state children) = is_constraint constraint && is_id state && is_u32 children
is_refusal (CeilingBack ceiling) = is_id ceiling
is_refusal (FloorBack floor) = is_id floor
is_refusal (Held session ceiling) = is_u16 session && is_id ceiling
is_refusal (Collected state) = is_id state
is_refusal (Full kept) = is_u32 kept
is_refusal (PathFull state pairs) = is_id state && is_u32 pairs
is_refusal SeqEnd = true
is_refusal (BadSite site) = is_u16 site
is_refusal (ClosedParent state) = is_id state
is_refusal (OwnItem site number) = is_u16 site && is_u32 number
is_refusal (TrailFull bytes) = is_u64 bytes
is_refusal (Unsupported op) = is_u8 op
is_refusal (NoSuchItem batches) = is_u32 batches
is_refusal (BagFull batches) = is_u32 batches

-- the first 256 of so many, or all where there are fewer
abbrev pub is_first_of : ℕ → ℕ → Bool
is_first_of total number = number == min total most_named

-- the first ids of so many
abbrev pub are_first_ids : ℕ → List StateId → Bool
are_first_ids total first = is_u32 total && list_all is_id first && is_first_of total (length first)

-- the first keys of so many, ascending
abbrev pub are_first_keys : ℕ → List (List ℕ) → Bool
are_first_keys total first = is_u32 total && list_all is_key first && is_first_of total (length first) && are_ascending_keys first

abbrev pub is_site_line : SiteLine → Bool
is_site_line line = is_u32 line.count && is_id line.floor && is_u32 line.number

-- 1 to 16 lines
abbrev pub are_site_lines : List SiteLine → Bool
are_site_lines lines = is_within 1 most_sites (length lines) && list_all is_site_line lines

-- as many ids as a u32 tells
abbrev pub are_children : List StateId → Bool
are_children children = is_u32 (length children) && list_all is_id children

-- a fork and the number of one of its branches
abbrev pub is_pair : StateId × ℕ → Bool
is_pair pair = is_id pair.0 && is_u32 pair.1

-- as many pairs as a u32 tells
abbrev pub is_path : List (StateId × ℕ) → Bool
is_path path = is_u32 (length path) && list_all is_pair path

abbrev pub is_reply : Reply → Bool
is_reply (Opened ceiling) = is_id ceiling
is_reply (Begun state) = is_id state
is_reply (Merging states) = are_parents states
is_reply (Value writer value) = is_id writer && is_value value
is_reply (Deleted writer) = is_id writer
is_reply Absent = true
is_reply Done = true
is_reply (Committed id parents) = is_id id && are_parents parents
is_reply (Ended state) = is_id state
is_reply (States total first) = are_first_ids total first
is_reply (Keys total first) = are_first_keys total first
is_reply (Raised floor number) = is_id floor && is_u32 number
is_reply (Tidied collected) = is_u32 collected
is_reply (Statistics known kept leaves sessions sites) = is_u64 known && is_u32 kept && is_u32 leaves && is_u16 sessions && are_site_lines sites
is_reply (Shown arrival children path) = is_u64 arrival && are_children children && is_path path
is_reply (Batch batch) = is_batch batch
is_reply Applied = true
is_reply Known = true
is_reply (Early have) = is_u32 have
is_reply Closed = true
is_reply (Refused refusal) = is_refusal refusal
is_reply NoMemory = true
