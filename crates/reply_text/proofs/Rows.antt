-- Worked lines, computed.
use Rattle.std.proofs.Common.{refl}
use Rattle.std.specs.Fmt.{digits}
use Rattle.hex.specs.Hex.{encode_with, decode_pairs}
use Rattle.reply_text.specs.Rows.{OpenLineIsRead, PutLineIsRead, CommitLineIsRead, MergeLineIsRead, GetForLineIsRead, RaiseAutoLineIsRead, PullLineIsRead}
use Rattle.reply_text.specs.Rows.{SettleLineIsRead, LeadingZeroIsNoLine, TwoSpacesAreNoLine, SpaceBehindIsNoLine, OtherOrderIsNoLine, HexOfPlainIsNoLine}
use Rattle.reply_text.specs.Rows.{UpperCaseIsNoLine, EmptyAfterIsNoLine, LongNumberIsNoLine, CommittedLineIsRead, StatisticsLineIsRead, RefusedLineIsRead}

pub row-open : OpenLineIsRead
unfolding digits encode_with decode_pairs
row-open = refl

pub row-put : PutLineIsRead
unfolding digits encode_with decode_pairs
row-put = refl

pub row-commit : CommitLineIsRead
unfolding digits encode_with decode_pairs
row-commit = refl

pub row-merge : MergeLineIsRead
unfolding digits encode_with decode_pairs
row-merge = refl

pub row-get_for : GetForLineIsRead
unfolding digits encode_with decode_pairs
row-get_for = refl

pub row-raise_auto : RaiseAutoLineIsRead
unfolding digits encode_with decode_pairs
row-raise_auto = refl

pub row-pull : PullLineIsRead
unfolding digits encode_with decode_pairs
row-pull = refl

pub row-settle : SettleLineIsRead
unfolding digits encode_with decode_pairs
row-settle = refl

pub row-leading_zero : LeadingZeroIsNoLine
unfolding digits encode_with decode_pairs
row-leading_zero = refl

pub row-two_spaces : TwoSpacesAreNoLine
unfolding digits encode_with decode_pairs
row-two_spaces = refl

pub row-space_behind : SpaceBehindIsNoLine
unfolding digits encode_with decode_pairs
row-space_behind = refl

pub row-other_order : OtherOrderIsNoLine
unfolding digits encode_with decode_pairs
row-other_order = refl

pub row-hex_of_plain : HexOfPlainIsNoLine
unfolding digits encode_with decode_pairs
row-hex_of_plain = refl

pub row-upper_case : UpperCaseIsNoLine
unfolding digits encode_with decode_pairs
row-upper_case = refl

pub row-empty_after : EmptyAfterIsNoLine
unfolding digits encode_with decode_pairs
row-empty_after = refl

pub row-long_number : LongNumberIsNoLine
unfolding digits encode_with decode_pairs
row-long_number = refl

pub row-committed : CommittedLineIsRead
unfolding digits encode_with decode_pairs
row-committed = refl

pub row-statistics : StatisticsLineIsRead
unfolding digits encode_with decode_pairs
row-statistics = refl

pub row-refused : RefusedLineIsRead
unfolding digits encode_with decode_pairs
row-refused = refl
