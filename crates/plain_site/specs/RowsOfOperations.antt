-- Worked rows: what each operation does beyond the other rows.
use Rattle.std.specs.Prelude.{◌≡◌, ℕ, ◌+◌, List, [], ◌∷◌, ◌++◌, codes, replicate, map, flat_map}
use Rattle.std.specs.List.{range_with_len}
use Rattle.tardis_base.specs.declared.records.Record.{Record}
use Rattle.tardis_base.specs.declared.records.Consent.{Consent}
use Rattle.tardis_base.specs.declared.records.Write.TheVariants.{Put as Written, Delete as Deletion}
use Rattle.tardis_base.specs.declared.records.Item.TheVariants.{State, Promise}
use Rattle.tardis_base.specs.declared.requests.Request.TheVariants.{Delete, Abort, ForkPoints, Conflicts, Ceiling, Raise, RaiseAuto, Stat as AskStat, Leaves}
use Rattle.tardis_base.specs.declared.requests.Request.TheVariants.{Pull, Deliver, Close}
use Rattle.tardis_base.specs.declared.replies.Refusal.TheVariants.{NotOpen, AlreadyOpen, NoTxn, WrongMode, Unknown, Branches, OpenConflict, Held, FloorBack}
use Rattle.tardis_base.specs.declared.replies.Refusal.TheVariants.{Full, SeqEnd}
use Rattle.tardis_base.specs.declared.replies.Reply.TheVariants.{Opened, Begun, Merging, Deleted, Absent, Done, Committed, States, Keys, Raised, Stat, Batch}
use Rattle.tardis_base.specs.declared.replies.Reply.TheVariants.{Applied, Known, Early, Closed, Refused}
use Rattle.plain_site.specs.Site.{Site, opening}
use Rattle.plain_site.specs.Merges.{page_of_states, page_of_keys}
use Rattle.plain_site.specs.Exchange.{fitting}
use Rattle.plain_site.specs.RowWords.{Line, Talk, lone_site, program_limits, ◌·◌, ◌asks◌=>◌, opens, opens_following, begin_any, begin_at, get, put, none, ser}
use Rattle.plain_site.specs.RowWords.{nb, commit, merge_leaves, merge, conflicts, get_for, value}
use Rattle.plain_site.specs.RowsOfCommits.{two_open}
use Rattle.plain_site.specs.RowsOfMerges.{branched}
use Rattle.plain_site.specs.RowsOfExchange.{first_of_two}
use Rattle.plain_site.specs.RowsOfLimits.{one_session}
use Rattle.plain_site.specs.RowsOfChoices.{deliver_bare}

-- ===== Deletions

-- a deletion is read as one, with its writer, and it conflicts as any write does
abbrev pub DeletionsAreRead : Type 0
DeletionsAreRead =
    Talk lone_site
    (two_open
    ++ 1 asks begin_any => Begun (0 · 0)
    ∷ 2 asks begin_any => Begun (0 · 0)
    ∷ 1 asks put "x" "1" => Done
    ∷ 1 asks Delete (codes "x") => Done
    ∷ 1 asks get "x" => Deleted (0 · 0)
    ∷ 1 asks commit ser => Committed (1 · 1) (0 · 0 ∷ [])
    ∷ 1 asks begin_any => Begun (1 · 1)
    ∷ 1 asks get "x" => Deleted (1 · 1)
    ∷ 1 asks Abort => Done
    ∷ 2 asks get "x" => Absent
    ∷ 2 asks put "x" "2" => Done
    ∷ 2 asks commit ser => Committed (1 · 2) (0 · 0 ∷ [])
    ∷ 1 asks merge_leaves => Merging (1 · 1 ∷ 1 · 2 ∷ [])
    ∷ 1 asks conflicts => Keys 1 (codes "x" ∷ [])
    ∷ 1 asks get_for "x" (1 · 1) => Deleted (1 · 1)
    ∷ 1 asks Delete (codes "x") => Done
    ∷ 1 asks get "x" => Deleted (0 · 0)
    ∷ 1 asks commit none => Committed (1 · 3) (1 · 1 ∷ 1 · 2 ∷ [])
    ∷ [])

-- ===== Sessions

-- a session that closes takes its transaction and its ceiling with it, and opens anew
abbrev pub ClosedSessionsAreGone : Type 0
ClosedSessionsAreGone =
    Talk lone_site
    (two_open
    ++ 2 asks begin_any => Begun (0 · 0)
    ∷ 2 asks put "y" "1" => Done
    ∷ 1 asks begin_any => Begun (0 · 0)
    ∷ 1 asks put "x" "1" => Done
    ∷ 1 asks commit ser => Committed (1 · 1) (0 · 0 ∷ [])
    ∷ 0 asks Raise (1 · 1) => Refused (Held 1 (0 · 0))
    ∷ 1 asks Ceiling (1 · 1) => Done
    ∷ 0 asks Raise (1 · 1) => Refused (Held 2 (0 · 0))
    ∷ 2 asks Close => Closed
    ∷ 2 asks Close => Refused NotOpen
    ∷ 0 asks Raise (1 · 1) => Raised (1 · 1) 1
    ∷ 2 asks opens => Opened (1 · 1)
    ∷ 2 asks get "y" => Refused NoTxn
    ∷ 2 asks begin_any => Begun (1 · 1)
    ∷ 2 asks get "y" => Absent
    ∷ [])

-- where no more sessions may open, one that is open is still told so
abbrev pub OpenSessionIsToldFirst : Type 0
OpenSessionIsToldFirst =
    Talk one_session
    (1 asks opens => Opened (0 · 0)
    ∷ 1 asks opens => Refused AlreadyOpen
    ∷ [])

-- ===== What a merge shows

-- both branches write x and y, and the second writes z too
abbrev pub branched_twice : List Line
branched_twice =
    two_open
    ++ 1 asks begin_any => Begun (0 · 0)
    ∷ 2 asks begin_any => Begun (0 · 0)
    ∷ 1 asks put "y" "1" => Done
    ∷ 1 asks put "x" "1" => Done
    ∷ 2 asks get "x" => Absent
    ∷ 2 asks put "z" "2" => Done
    ∷ 2 asks put "y" "2" => Done
    ∷ 2 asks put "x" "2" => Done
    ∷ 1 asks commit ser => Committed (1 · 1) (0 · 0 ∷ [])
    ∷ 2 asks commit ser => Committed (1 · 2) (0 · 0 ∷ [])
    ∷ []

-- the conflict keys behind the given one are counted and listed, written or not; the states are listed in their order, and
-- one of them is read as it is, whatever was written since
abbrev pub ConflictsComeInPages : Type 0
ConflictsComeInPages =
    Talk lone_site
    (branched_twice
    ++ 1 asks merge (1 · 2 ∷ 1 · 1 ∷ []) => Merging (1 · 1 ∷ 1 · 2 ∷ [])
    ∷ 1 asks conflicts => Keys 2 (codes "x" ∷ codes "y" ∷ [])
    ∷ 1 asks Conflicts (codes "x") => Keys 1 (codes "y" ∷ [])
    ∷ 1 asks Conflicts (codes "y") => Keys 0 []
    ∷ 1 asks put "x" "3" => Done
    ∷ 1 asks get_for "x" (1 · 1) => value (1 · 1) "1"
    ∷ 1 asks conflicts => Keys 2 (codes "x" ∷ codes "y" ∷ [])
    ∷ 1 asks commit none => Refused (OpenConflict (codes "y"))
    ∷ 1 asks get "q" => Absent
    ∷ [])

-- eight states may be merged
abbrev pub EightStatesAreMerged : Type 0
EightStatesAreMerged =
    let eight = range_with_len 1 8 in
    Talk lone_site
    (flat_map (λ n. n asks opens => Opened (0 · 0) ∷ n asks begin_any => Begun (0 · 0) ∷ []) eight
    ++ flat_map (λ n. n asks get "x" => Absent ∷ n asks put "x" "1" => Done ∷ n asks commit ser => Committed (1 · n) (0 · 0 ∷ []) ∷ []) eight
    ++ 1 asks merge_leaves => Merging (map (λ n. 1 · n) eight)
    ∷ 1 asks conflicts => Keys 1 (codes "x" ∷ [])
    ∷ 1 asks put "x" "2" => Done
    ∷ 1 asks commit none => Committed (1 · 9) (map (λ n. 1 · n) eight)
    ∷ [])

-- of more than 256 states or keys the first 256 are shown
abbrev pub PagesHaveTheFirst : Type 0
PagesHaveTheFirst =
    (page_of_states (map (λ n. 1 · n) (range_with_len 1 300)) ≡ States 300 (map (λ n. 1 · n) (range_with_len 1 256)))
    × (page_of_keys (map (λ n. n ∷ []) (range_with_len 1 300)) ≡ Keys 300 (map (λ n. n ∷ []) (range_with_len 1 256)))

-- a transaction with one read state has no branches to show
abbrev pub SingleTransactionsShowNoBranches : Type 0
SingleTransactionsShowNoBranches =
    Talk lone_site
    (1 asks opens => Opened (0 · 0)
    ∷ 1 asks ForkPoints => Refused NoTxn
    ∷ 1 asks begin_any => Begun (0 · 0)
    ∷ 1 asks ForkPoints => Refused WrongMode
    ∷ 1 asks conflicts => Refused WrongMode
    ∷ 1 asks get_for "x" (0 · 0) => Refused WrongMode
    ∷ [])

-- ===== What a site shows

-- all leaves are shown, and they count in the statistics
abbrev pub LeavesAreShown : Type 0
LeavesAreShown =
    Talk lone_site
    (0 asks Leaves => States 1 (0 · 0 ∷ [])
    ∷ []
    ++ branched
    ++ 0 asks Leaves => States 2 (1 · 1 ∷ 1 · 2 ∷ [])
    ∷ 0 asks AskStat => Stat 3 3 2 2 (record { count = 2; floor = 0 · 0; number = 0 } ∷ [])
    ∷ [])

-- ===== Floors

-- a state that isn't there is told first
abbrev pub UnknownStatesAreToldFirst : Type 0
UnknownStatesAreToldFirst =
    Talk lone_site
    (two_open
    ++ 1 asks Ceiling (1 · 1) => Refused (Unknown (1 · 1))
    ∷ 0 asks Raise (1 · 1) => Refused (Unknown (1 · 1))
    ∷ [])

-- the automatic floor stays above all ceilings: two sessions that follow two branches hold it at the fork
abbrev pub AutomaticFloorStaysAboveCeilings : Type 0
AutomaticFloorStaysAboveCeilings =
    Talk lone_site
    (1 asks opens_following => Opened (0 · 0)
    ∷ 2 asks opens_following => Opened (0 · 0)
    ∷ 1 asks begin_any => Begun (0 · 0)
    ∷ 1 asks put "a" "1" => Done
    ∷ 1 asks commit ser => Committed (1 · 1) (0 · 0 ∷ [])
    ∷ 1 asks begin_any => Begun (1 · 1)
    ∷ 2 asks begin_any => Begun (1 · 1)
    ∷ 2 asks get "x" => Absent
    ∷ 1 asks put "x" "1" => Done
    ∷ 2 asks put "x" "2" => Done
    ∷ 1 asks commit ser => Committed (1 · 2) (1 · 1 ∷ [])
    ∷ 2 asks commit ser => Committed (1 · 3) (1 · 1 ∷ [])
    ∷ 0 asks RaiseAuto => Raised (1 · 1) 1
    ∷ [])

-- that the own floor isn't above a state is told before which session holds it; the automatic floor doesn't leave its branch
abbrev pub FloorIsToldBeforeSessions : Type 0
FloorIsToldBeforeSessions =
    Talk lone_site
    (branched
    ++ 1 asks Ceiling (1 · 1) => Done
    ∷ 2 asks Ceiling (1 · 1) => Done
    ∷ 0 asks Raise (1 · 1) => Raised (1 · 1) 1
    ∷ 0 asks Raise (1 · 2) => Refused (FloorBack (1 · 1))
    ∷ 1 asks Close => Closed
    ∷ 2 asks Close => Closed
    ∷ 0 asks RaiseAuto => Raised (1 · 1) 2
    ∷ [])

-- after so many moves of the floor that there is no next number
abbrev pub out_of_numbers : Site
out_of_numbers = record lone_site { floors = record { state = 0 · 0; number = 4294967295; stated = 0 } ∷ [] }

abbrev pub NumbersRunOut : Type 0
NumbersRunOut =
    Talk out_of_numbers
    (0 asks Raise (0 · 0) => Refused SeqEnd
    ∷ 0 asks RaiseAuto => Refused SeqEnd
    ∷ [])

-- ===== Limits

-- a site of four states at most, whose paths have one pair at most
abbrev pub narrow : Site
narrow = opening (record (program_limits 2) { max_kept = 4; max_path = 1 }) 1

-- end constraints are looked at before room, and room before paths; a record that is delivered needs room too
abbrev pub RoomIsLookedAtBetween : Type 0
RoomIsLookedAtBetween =
    Talk narrow
    (branched
    ++ 1 asks begin_at (1 · 1) => Begun (1 · 1)
    ∷ 2 asks begin_at (1 · 1) => Begun (1 · 1)
    ∷ 2 asks get "x" => value (1 · 1) "1"
    ∷ 1 asks put "x" "3" => Done
    ∷ 2 asks put "x" "4" => Done
    ∷ 1 asks commit ser => Committed (1 · 3) (1 · 1 ∷ [])
    ∷ 2 asks commit (ser + nb) => Refused (Branches nb (1 · 1) 1)
    ∷ 2 asks commit ser => Refused (Full 4)
    ∷ 0 asks deliver_bare (2 · 1) (1 · 1 ∷ []) => Refused (Full 4)
    ∷ [])

-- ===== Exchange

-- the record of 2.1 below the root, without writes
abbrev pub two_one : Record
two_one = record { id = 2 · 1; parents = 0 · 0 ∷ []; writes = [] }

-- the record of 1.1 below it, with its writes in the order of their keys
abbrev pub one_one : Record
one_one = record { id = 1 · 1; parents = 2 · 1 ∷ []; writes = (codes "x", Deletion) ∷ (codes "y", Written (codes "3")) ∷ [] }

abbrev pub two_records : List Line
two_records =
    1 asks opens => Opened (0 · 0)
    ∷ 0 asks Deliver (State two_one) => Applied
    ∷ 1 asks begin_any => Begun (2 · 1)
    ∷ 1 asks put "y" "2" => Done
    ∷ 1 asks Delete (codes "x") => Done
    ∷ 1 asks put "y" "3" => Done
    ∷ 1 asks commit ser => Committed (1 · 1) (2 · 1 ∷ [])
    ∷ []

-- a batch has the records that are news, in arrival order, and not the root
abbrev pub BatchesHaveTheNews : Type 0
BatchesHaveTheNews =
    Talk first_of_two
    (two_records
    ++ 0 asks Pull (0 ∷ 0 ∷ []) => Batch (record { records = two_one ∷ one_one ∷ []; consents = [] })
    ∷ 0 asks Pull (0 ∷ 1 ∷ []) => Batch (record { records = one_one ∷ []; consents = [] })
    ∷ 0 asks Pull (1 ∷ 1 ∷ []) => Batch (record { records = []; consents = [] })
    ∷ [])

-- site 2's consent to the floor 2.1, and that of this site, which made one state
abbrev pub consent_of_two : Consent
consent_of_two = record { site = 2; number = 1; floor = 2 · 1; count = 1 }

abbrev pub consent_of_one : Consent
consent_of_one = record { site = 1; number = 1; floor = 2 · 1; count = 1 }

-- a state at or above one floor is news as long as it isn't at or above all of them
abbrev pub BatchesLeaveOutWhatAllHave : Type 0
BatchesLeaveOutWhatAllHave =
    Talk first_of_two
    (two_records
    ++ 0 asks Deliver (Promise consent_of_two) => Applied
    ∷ 0 asks Pull (0 ∷ 0 ∷ []) => Batch (record { records = two_one ∷ one_one ∷ []; consents = consent_of_two ∷ [] })
    ∷ 1 asks Ceiling (2 · 1) => Done
    ∷ 0 asks Raise (2 · 1) => Raised (2 · 1) 1
    ∷ 0 asks Pull (0 ∷ 0 ∷ []) => Batch (record { records = one_one ∷ []; consents = consent_of_one ∷ consent_of_two ∷ [] })
    ∷ [])

-- a state above one floor isn't closed as long as it isn't above all of them
abbrev pub OneFloorClosesNothing : Type 0
OneFloorClosesNothing =
    Talk first_of_two
    (0 asks deliver_bare (2 · 1) (0 · 0 ∷ []) => Applied
    ∷ 0 asks deliver_bare (2 · 2) (2 · 1 ∷ []) => Applied
    ∷ 0 asks Deliver (Promise (record { site = 2; number = 1; floor = 2 · 2; count = 2 })) => Applied
    ∷ 0 asks deliver_bare (2 · 3) (2 · 1 ∷ []) => Applied
    ∷ [])

-- a record with a value of so many bytes, whose spelling has 19 more
abbrev pub record_with_value_of : ℕ → Record
record_with_value_of n = record { id = 1 · 1; parents = 0 · 0 ∷ []; writes = (codes "x", Written (replicate n 49)) ∷ [] }

-- a batch may be filled to its last byte
abbrev pub BatchesAreFilled : Type 0
BatchesAreFilled = fitting 50 (record_with_value_of 1 ∷ record_with_value_of 11 ∷ []) ≡ record_with_value_of 1 ∷ record_with_value_of 11 ∷ []

-- it stops at the first record that doesn't fit, even where a later one would
abbrev pub BatchesStopWhereTheyAreFull : Type 0
BatchesStopWhereTheyAreFull = fitting 50 (record_with_value_of 1 ∷ record_with_value_of 12 ∷ record_with_value_of 1 ∷ []) ≡ record_with_value_of 1 ∷ []

-- a consent waits for its floor, and for the count that it states; one with a lesser number says nothing new
abbrev pub ConsentsWaitForBoth : Type 0
ConsentsWaitForBoth =
    Talk first_of_two
    (0 asks deliver_bare (2 · 1) (0 · 0 ∷ []) => Applied
    ∷ 0 asks Deliver (Promise (record { site = 2; number = 1; floor = 2 · 1; count = 2 })) => Early 1
    ∷ 0 asks Deliver (Promise (record { site = 2; number = 1; floor = 1 · 1; count = 1 })) => Early 1
    ∷ 0 asks Deliver (Promise (record { site = 2; number = 3; floor = 2 · 1; count = 1 })) => Applied
    ∷ 0 asks Deliver (Promise (record { site = 2; number = 2; floor = 2 · 1; count = 1 })) => Known
    ∷ [])
