-- Worked rows: requests and replies in bytes.
use Rattle.std.specs.Prelude.{List, [], ◌∷◌, ◌++◌, replicate}
use Rattle.plain_site.specs.RowWords.{lone_site}
use Rattle.plain_site.specs.RowByteWords.{ByteLine, TalkInBytes, ◌sends◌=>◌, hex}

-- ===== A session puts x, commits, begins again and reads it

abbrev pub put_and_read : List ByteLine
put_and_read =
    1 sends hex "01 00" => hex "01 0000 00000000"
    ∷ 1 sends hex "02 00" => hex "02 0000 00000000"
    ∷ 1 sends hex "04 01 78 0001 31" => hex "07"
    ∷ 1 sends hex "06 01 0000" => hex "08 0001 00000001 01 0000 00000000"
    ∷ 1 sends hex "02 00" => hex "02 0001 00000001"
    ∷ 1 sends hex "03 01 78" => hex "04 0001 00000001 0001 31"
    ∷ []

abbrev pub WriteIsReadBack : Type 0
WriteIsReadBack = TalkInBytes lone_site put_and_read

-- ===== What has no session, and what is no request

-- no session is open
abbrev pub NoneIsOpen : Type 0
NoneIsOpen =
    TalkInBytes lone_site
    (1 sends hex "02 01" => hex "15 02"
    ∷ 1 sends hex "06 00 0000" => hex "15 02"
    ∷ 1 sends hex "08 00" => hex "15 02"
    ∷ 1 sends hex "09" => hex "15 02"
    ∷ 1 sends hex "0c 0000 00000000" => hex "15 02"
    ∷ [])

-- no operation, no such kind of Begin, a byte too many, branches counted without KB, a number of which bytes are missing
abbrev pub malformed_lines : List ByteLine
malformed_lines =
    1 sends hex "ff" => hex "15 01"
    ∷ 1 sends hex "17" => hex "15 01"
    ∷ 1 sends hex "02 04" => hex "15 01"
    ∷ 1 sends hex "02 01 00" => hex "15 01"
    ∷ 1 sends hex "06 01 0001" => hex "15 01"
    ∷ 1 sends hex "0f ff" => hex "15 01"
    ∷ 1 sends [] => hex "15 01"
    ∷ []

abbrev pub OtherBytesAreMalformed : Type 0
OtherBytesAreMalformed = TalkInBytes lone_site malformed_lines

-- ===== Lengths of keys and values

-- a key of 128 bytes and a value of 4,096
abbrev pub LongestKeyAndValueArePut : Type 0
LongestKeyAndValueArePut =
    TalkInBytes lone_site
    (1 sends hex "01 00" => hex "01 0000 00000000"
    ∷ 1 sends hex "02 00" => hex "02 0000 00000000"
    ∷ 1 sends hex "04 80" ++ replicate 128 120 ++ hex "1000" ++ replicate 4096 49 => hex "07"
    ∷ [])

-- a key of 0 bytes, one of 129, and a value of 4,097, with a session and without
abbrev pub LongerOnesAreMalformed : Type 0
LongerOnesAreMalformed =
    TalkInBytes lone_site
    (1 sends hex "03 00" => hex "15 01"
    ∷ 1 sends hex "01 00" => hex "01 0000 00000000"
    ∷ 1 sends hex "02 00" => hex "02 0000 00000000"
    ∷ 1 sends hex "04 00 0001 31" => hex "15 01"
    ∷ 1 sends hex "04 81" ++ replicate 129 120 ++ hex "0001 31" => hex "15 01"
    ∷ 1 sends hex "04 01 78 1001" ++ replicate 4097 49 => hex "15 01"
    ∷ [])
