-- Worked lines.
use Rattle.std.specs.Prelude.{◌≡◌, true, [], ◌∷◌, Some, None, codes}
use Rattle.tardis_base.specs.declared.requests.MergeOf.TheVariants.{Leaves as AllLeaves}
use Rattle.tardis_base.specs.declared.requests.Request.TheVariants.{Open, Put, Commit, BeginMerge, GetFor, RaiseAuto, Pull, Settle}
use Rattle.tardis_base.specs.declared.replies.Excess.TheVariants.{ReadKeys}
use Rattle.tardis_base.specs.declared.replies.Refusal.TheVariants.{TooMany}
use Rattle.tardis_base.specs.declared.replies.Reply.TheVariants.{Committed, Stat as Statistics, Refused}
use Rattle.shell_text.specs.RequestTexts.{asked_of}
use Rattle.shell_text.specs.ReplyTexts.{line_reply_of}

abbrev pub OpenLineIsRead : Type 0
OpenLineIsRead = asked_of (codes "10 open follow") ≡ Some (10, Open true)

-- a key of one space, and no value
abbrev pub PutLineIsRead : Type 0
PutLineIsRead = asked_of (codes "1 put #20 #") ≡ Some (1, Put (32 ∷ []) [])

abbrev pub CommitLineIsRead : Type 0
CommitLineIsRead = asked_of (codes "1 commit ser+kb:3") ≡ Some (1, Commit (record { 0 = 9 }) 3)

abbrev pub MergeLineIsRead : Type 0
MergeLineIsRead = asked_of (codes "1 merge leaves") ≡ Some (1, BeginMerge AllLeaves)

abbrev pub GetForLineIsRead : Type 0
GetForLineIsRead = asked_of (codes "7 getfor x 1.2") ≡ Some (7, GetFor (120 ∷ []) (record { site = 1; sequence = 2 }))

abbrev pub RaiseAutoLineIsRead : Type 0
RaiseAutoLineIsRead = asked_of (codes "0 raise auto") ≡ Some (0, RaiseAuto)

abbrev pub PullLineIsRead : Type 0
PullLineIsRead = asked_of (codes "0 pull 3 0") ≡ Some (0, Pull (3 ∷ 0 ∷ []))

abbrev pub SettleLineIsRead : Type 0
SettleLineIsRead = asked_of (codes "0 settle") ≡ Some (0, Settle)

abbrev pub LeadingZeroIsNoLine : Type 0
LeadingZeroIsNoLine = asked_of (codes "01 open") ≡ None

abbrev pub TwoSpacesAreNoLine : Type 0
TwoSpacesAreNoLine = asked_of (codes "1  open") ≡ None

abbrev pub SpaceBehindIsNoLine : Type 0
SpaceBehindIsNoLine = asked_of (codes "1 open ") ≡ None

abbrev pub OtherOrderIsNoLine : Type 0
OtherOrderIsNoLine = asked_of (codes "1 commit si+ser") ≡ None

-- x is its own word
abbrev pub HexOfPlainIsNoLine : Type 0
HexOfPlainIsNoLine = asked_of (codes "1 get #78") ≡ None

abbrev pub UpperCaseIsNoLine : Type 0
UpperCaseIsNoLine = asked_of (codes "1 get #0A") ≡ None

abbrev pub EmptyAfterIsNoLine : Type 0
EmptyAfterIsNoLine = asked_of (codes "1 conflicts #") ≡ None

abbrev pub LongNumberIsNoLine : Type 0
LongNumberIsNoLine = asked_of (codes "0 pull 10000000000") ≡ None

abbrev pub CommittedLineIsRead : Type 0
CommittedLineIsRead =
    line_reply_of (codes "committed 1.1 from 0.0") ≡ Some (Committed (record { site = 1; sequence = 1 }) (record { site = 0; sequence = 0 } ∷ []))

abbrev pub StatisticsLineIsRead : Type 0
StatisticsLineIsRead =
    line_reply_of (codes "stat known 1 kept 1 leaves 1 sessions 0 sites 1 0:0.0:0")
    ≡ Some (Statistics 1 1 1 0 (record { count = 0; floor = record { site = 0; sequence = 0 }; number = 0 } ∷ []))

abbrev pub RefusedLineIsRead : Type 0
RefusedLineIsRead = line_reply_of (codes "refused toomany reads 257") ≡ Some (Refused (TooMany ReadKeys 257))
