-- Worked rows: what another site delivers. This is site 1 of 2.
use Rattle.std.specs.Prelude.{ℕ, List, [], ◌∷◌, ◌++◌}
use Prim.Native.String.{String}
use Rattle.tardis_base.specs.declared.requests.Request.{Request}
use Rattle.tardis_base.specs.declared.requests.Request.TheVariants.{Pull, Raise}
use Rattle.tardis_base.specs.declared.replies.Refusal.TheVariants.{BadSite, OwnItem, ClosedParent, Comparable, OpenConflict, FloorBack, Unknown}
use Rattle.tardis_base.specs.declared.replies.Reply.{Reply}
use Rattle.tardis_base.specs.declared.replies.Reply.TheVariants.{Early, Applied, Known, Raised, Refused}
use Rattle.wire_talk.specs.Spellings.{request_spelling, reply_spelling}
use Rattle.plain_site.specs.Site.{Site, opening}
use Rattle.plain_site.specs.RowWords.{program_limits, ◌·◌}
use Rattle.plain_site.specs.RowByteWords.{ByteLine, TalkInBytes, ◌sends◌=>◌, hex}

abbrev pub first_of_two : Site
first_of_two = opening (program_limits 2) 1

-- Deliver with this item, in hexadecimal
abbrev pub deliver : String → List ℕ
deliver item = 20 ∷ hex item

abbrev pub asked : Request → List ℕ
asked request = request_spelling request

abbrev pub told : Reply → List ℕ
told reply = reply_spelling reply

-- 2.1 below the root writes a, and so does 2.2 below 2.1
abbrev pub two_records : List ByteLine
two_records =
    0 sends deliver "01 0002 00000002 01 0002 00000001 01 01 61 01 0001 32" => told (Early 0)
    ∷ 0 sends deliver "01 0002 00000001 01 0000 00000000 01 01 61 01 0001 31" => told Applied
    ∷ 0 sends deliver "01 0002 00000002 01 0002 00000001 01 01 61 01 0001 32" => told Applied
    ∷ []

-- records come in their order, each once
abbrev pub RecordsComeInOrder : Type 0
RecordsComeInOrder =
    TalkInBytes first_of_two
    (two_records
    ++ 0 sends deliver "01 0002 00000002 01 0002 00000001 01 01 61 01 0001 32" => told Known
    ∷ 0 sends deliver "01 0003 00000001 01 0000 00000000 01 01 61 01 0001 31" => told (Refused (BadSite 3))
    ∷ 0 sends deliver "01 0001 00000001 01 0000 00000000 01 01 61 01 0001 31" => told (Refused (OwnItem 1 1))
    ∷ 0 sends asked (Pull (0 ∷ [])) => told (Refused (BadSite 1))
    ∷ [])

-- the consent of site 2 to the floor 2.3 waits for that record; once both floors are there, a record below a closed state
-- is refused, and a batch has the consents alone
abbrev pub ConsentsCloseStates : Type 0
ConsentsCloseStates =
    TalkInBytes first_of_two
    (two_records
    ++ 0 sends deliver "02 0002 00000001 0002 00000003 00000003" => told (Early 2)
    ∷ 0 sends deliver "01 0002 00000003 01 0002 00000002 01 01 61 01 0001 33" => told Applied
    ∷ 0 sends deliver "02 0002 00000001 0002 00000003 00000003" => told Applied
    ∷ 0 sends deliver "02 0002 00000001 0002 00000003 00000003" => told Known
    ∷ 0 sends asked (Raise (2 · 3)) => told (Raised (2 · 3) 1)
    ∷ 0 sends deliver "01 0002 00000004 01 0002 00000001 01 01 62 01 0001 39" => told (Refused (ClosedParent (2 · 1)))
    ∷ 0 sends asked (Pull (0 ∷ 0 ∷ []))
    => hex "10 0000 02 0001 00000001 0002 00000003 00000000 0002 00000001 0002 00000003 00000003"
    ∷ [])

-- records and consents that no honest site makes are refused, and those that one might are taken
abbrev pub LyingPeersAreRefused : Type 0
LyingPeersAreRefused =
    TalkInBytes first_of_two
    (two_records
    -- below 2.1 and 2.2, which is below 2.1
    ++ 0 sends deliver "01 0002 00000003 02 0002 00000001 0002 00000002 00" => told (Refused (Comparable (2 · 1) (2 · 2)))
    -- below 1.7, which isn't there
    ∷ 0 sends deliver "01 0002 00000003 01 0001 00000007 00" => told (Early 2)
    ∷ 0 sends deliver "01 0002 00000003 01 0002 00000001 01 01 61 01 0001 33" => told Applied
    -- below 2.2 and 2.3, which both write a
    ∷ 0 sends deliver "01 0002 00000004 02 0002 00000002 0002 00000003 00" => told (Refused (OpenConflict (hex "61")))
    ∷ 0 sends deliver "02 0002 00000001 0002 00000002 00000002" => told Applied
    -- from the floor 2.2 to 2.1
    ∷ 0 sends deliver "02 0002 00000002 0002 00000001 00000002" => told (Refused (FloorBack (2 · 2)))
    -- a consent in the name of this site
    ∷ 0 sends deliver "02 0001 00000001 0000 00000000 00000000" => told (Refused (OwnItem 1 1))
    ∷ [])

-- an id may name a site that there can't be; that site is none of these
abbrev pub SitesPastTheLimitAreBad : Type 0
SitesPastTheLimitAreBad =
    TalkInBytes first_of_two
    (0 sends deliver "01 0011 00000001 01 0000 00000000 00" => told (Refused (BadSite 17))
    ∷ 0 sends asked (Raise (17 · 1)) => told (Refused (Unknown (17 · 1)))
    ∷ [])
