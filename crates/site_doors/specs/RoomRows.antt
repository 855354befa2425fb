-- Worked rows: a site of two with room for six states. Its share is two, and five where a client joins several.
use Rattle.std.specs.Prelude.{◌≡◌, ℕ, List, [], ◌∷◌, map, Option, Some, None}
use Rattle.tardis_base.specs.Plain.{Event, PlainMachine}
use Rattle.tardis_base.specs.declared.records.Limits.{Limits}
use Rattle.plain_site.specs.Site.{opening}
use Rattle.plain_site.specs.RowByteWords.{hex}
use Rattle.hub.specs.Doors.{seen_through}
use Rattle.site_lives.specs.Acquainted.{Acquainted, unacquainted}
use Rattle.rest_site.specs.Ruled.{ruled_machine}
use Rattle.site_doors.specs.Room.{share, merge_share}
use Rattle.site_doors.specs.Rules.{site_doors}

-- what is asked through a door, or through none, and the reply
pub record DoorLine : Type 0 where
  pub door : Option ℕ
  pub actor : ℕ
  pub request : List ℕ
  pub reply : List ℕ

abbrev pub client : ℕ → List ℕ → List ℕ → DoorLine
client actor request reply = record { door = Some 1; actor = actor; request = request; reply = reply }

abbrev pub anyone : ℕ → List ℕ → List ℕ → DoorLine
anyone actor request reply = record { door = Some 0; actor = actor; request = request; reply = reply }

abbrev pub server : List ℕ → List ℕ → DoorLine
server request reply = record { door = None; actor = 0; request = request; reply = reply }

abbrev pub seen_at : Option ℕ → PlainMachine Acquainted
seen_at None = ruled_machine
seen_at (Some door) = seen_through ruled_machine site_doors door

-- the replies to the requests of these lines, one after another
abbrev pub door_replies : Acquainted → List DoorLine → List (List ℕ)
door_replies a [] = []
door_replies a (line ∷ lines) =
    let event : Event = (line.actor, line.request) in
    (seen_at line.door).reply a event ∷ door_replies ((seen_at line.door).step a event) lines

-- each line has the reply to its request, at the site after the lines before it
abbrev pub TalkThroughDoors : Acquainted → List DoorLine → Type 0
TalkThroughDoors a lines = door_replies a lines ≡ map (λ line. line.reply) lines

abbrev pub room_for_six : ℕ → Limits
room_for_six sites = record { sites = sites; max_kept = 6; max_path = 64; max_sessions = 4; max_trail = 1024 }

-- the first of two sites, and the only one, as they open
abbrev pub one_of_two : Acquainted
one_of_two = unacquainted (opening (room_for_six 2) 1)

abbrev pub only_one : Acquainted
only_one = unacquainted (opening (room_for_six 1) 1)

abbrev pub SharesOfSix : Type 0
SharesOfSix =
    (share (room_for_six 2) ≡ 2)
    × (merge_share (room_for_six 2) ≡ 5)
    × (share (record { sites = 3; max_kept = 16384; max_path = 64; max_sessions = 4; max_trail = 1024 }) ≡ 1820)
    × (merge_share (record { sites = 3; max_kept = 16384; max_path = 64; max_sessions = 4; max_trail = 1024 }) ≡ 15474)

-- A client commits while the root alone is kept. With two states the next commit is refused, through either door, and again; the
-- transaction stays open, ends where it is given up, and one that wrote nothing ends as it did. A client whose transaction isn't open and
-- bytes that spell no Commit are told that. What the server delivers comes in, a pull is answered, and a client joins the two leaves.
abbrev pub CommitsStopAtTheShare : Type 0
CommitsStopAtTheShare = TalkThroughDoors one_of_two
    (client 1 (hex "01 00") (hex "01 0000 00000000")
    ∷ client 1 (hex "02 00") (hex "02 0000 00000000")
    ∷ client 1 (hex "04 01 78 0001 31") (hex "07")
    ∷ client 1 (hex "06 00 0000") (hex "08 0001 00000001 01 0000 00000000")
    ∷ client 1 (hex "02 00") (hex "02 0001 00000001")
    ∷ client 1 (hex "04 01 78 0001 32") (hex "07")
    ∷ client 1 (hex "06 00 0000") (hex "15 14 00000002")
    ∷ anyone 1 (hex "06 00 0000") (hex "15 14 00000002")
    ∷ client 2 (hex "06 00 0000") (hex "15 02")
    ∷ client 1 (hex "06 00") (hex "15 01")
    ∷ client 1 (hex "03 01 78") (hex "04 0000 00000000 0001 32")
    ∷ client 1 (hex "07") (hex "07")
    ∷ client 1 (hex "06 00 0000") (hex "15 06")
    ∷ client 1 (hex "02 00") (hex "02 0001 00000001")
    ∷ client 1 (hex "06 00 0000") (hex "09 0001 00000001")
    ∷ server (hex "14 01 0002 00000001 01 0000 00000000 01 01 78 01 0001 33") (hex "11")
    ∷ client 1 (hex "08 00") (hex "03 02 0001 00000001 0002 00000001")
    ∷ client 1 (hex "04 01 78 0001 34") (hex "07")
    ∷ client 1 (hex "06 00 0000") (hex "08 0001 00000002 02 0001 00000001 0002 00000001")
    ∷ [])

-- the same commits at the only site
abbrev pub OneSiteCommitsOn : Type 0
OneSiteCommitsOn = TalkThroughDoors only_one
    (client 1 (hex "01 00") (hex "01 0000 00000000")
    ∷ client 1 (hex "02 00") (hex "02 0000 00000000")
    ∷ client 1 (hex "04 01 78 0001 31") (hex "07")
    ∷ client 1 (hex "06 00 0000") (hex "08 0001 00000001 01 0000 00000000")
    ∷ client 1 (hex "02 00") (hex "02 0001 00000001")
    ∷ client 1 (hex "04 01 78 0001 32") (hex "07")
    ∷ client 1 (hex "06 00 0000") (hex "08 0001 00000002 01 0001 00000001")
    ∷ [])
