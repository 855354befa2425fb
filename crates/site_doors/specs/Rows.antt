-- Worked rows: what comes in through each door, and what is answered there.
use Rattle.std.specs.Prelude.{◌≡◌, true, false, []}
use Rattle.plain_site.specs.RowWords.{site_after, lone_site, program_limits}
use Rattle.plain_site.specs.Site.{opening}
use Rattle.plain_site.specs.RowByteWords.{hex}
use Rattle.plain_questions.specs.RowsOfReads.{parted}
use Rattle.site_lives.specs.Acquainted.{Acquainted, unacquainted}
use Rattle.rest_site.specs.Ruled.{ruled_machine, ruled_bytes}
use Rattle.site_doors.specs.Rules.{is_let_in, told_at, is_sure_at}

-- All requests, Tidy among them; a code of no request is the site's to answer, and a question is answered at the door. To join leaves, and
-- to ask which ceiling is the oldest, is no request that comes in, and no question.
abbrev pub AllComesInByTheFirstDoor : Type 0
AllComesInByTheFirstDoor =
    let site = unacquainted (site_after lone_site parted) in
    (is_let_in 0 (hex "0f 0001") ≡ true)
    × (is_let_in 0 (hex "3f") ≡ true)
    × (is_let_in 0 [] ≡ true)
    × (is_let_in 0 (hex "45 00") ≡ false)
    -- the sessions behind 1, and bytes that spell no question
    × (told_at 0 site (hex "45 01 0001") ≡ hex "45 0000 00000000 00000001 0001 0002 00 0000 00000000 0001 00000003 00 01")
    × (told_at 0 site (hex "ff") ≡ hex "15 01")
    × (is_let_in 0 (hex "4a") ≡ false)
    × (told_at 0 site (hex "4a") ≡ hex "15 01")
    × (is_let_in 0 (hex "4b") ≡ false)
    × (told_at 0 site (hex "4b") ≡ hex "15 01")

-- a Commit comes in, and a Tidy doesn't; y at 1.1 is told, and the sessions aren't
abbrev pub ClientsComeInByTheSecondDoor : Type 0
ClientsComeInByTheSecondDoor =
    let site = unacquainted (site_after lone_site parted) in
    (is_let_in 1 (hex "06 00 0000") ≡ true)
    × (is_let_in 1 (hex "0f 0001") ≡ false)
    × (is_let_in 1 (hex "4a") ≡ false)
    × (is_let_in 1 (hex "4b") ≡ false)
    × (is_let_in 1 [] ≡ true)
    × (told_at 1 site (hex "0f 0001") ≡ hex "15 1b 0f")
    × (told_at 1 site (hex "4a") ≡ hex "15 1b 4a")
    × (told_at 1 site (hex "4b") ≡ hex "15 1b 4b")
    × (told_at 1 site (hex "40 0001 00000001 01 79") ≡ hex "40 00")
    × (told_at 1 site (hex "45 00") ≡ hex "15 1b 45")

-- a Pull comes in, and an Open doesn't; the site is told, and the keys aren't
abbrev pub PeersComeInByTheThirdDoor : Type 0
PeersComeInByTheThirdDoor =
    let site = unacquainted (site_after lone_site parted) in
    (is_let_in 2 (hex "13 0001 00000000") ≡ true)
    × (is_let_in 2 (hex "01 00") ≡ false)
    × (is_let_in 2 (hex "4a") ≡ false)
    × (is_let_in 2 (hex "4b") ≡ false)
    × (told_at 2 site (hex "4b") ≡ hex "15 1b 4b")
    × (told_at 2 site (hex "01 00") ≡ hex "15 1b 01")
    × (told_at 2 site (hex "46") ≡ hex "46 0001 0001 00004000 00001000 0100 0000000040000000 0001 0000000000000004 00000004")
    × (told_at 2 site (hex "41 0001 00000001 00 00") ≡ hex "15 1b 41")

-- nothing
abbrev pub NothingComesInByAFourthDoor : Type 0
NothingComesInByAFourthDoor =
    let site = unacquainted (site_after lone_site parted) in
    (is_let_in 3 (hex "10") ≡ false)
    × (told_at 3 site (hex "10") ≡ hex "15 1b 10")
    × (told_at 3 site (hex "46") ≡ hex "15 1b 46")

-- A life that began is told at each of the three doors, and before it begins there is none to tell. To begin one and to meet a site come
-- in through no door.
abbrev pub LivesAreToldAtEachDoor : Type 0
LivesAreToldAtEachDoor =
    let unborn = unacquainted (site_after lone_site parted) in
    let site = ruled_machine.step unborn (0, hex "49 aaaaaaaaaaaaaaaaaaaaaaaaaaaaaaaa") in
    let told = hex "47 0001 0001 aaaaaaaaaaaaaaaaaaaaaaaaaaaaaaaa" in
    (is_let_in 0 (hex "47") ≡ false)
    × (told_at 0 site (hex "47") ≡ told)
    × (told_at 1 site (hex "47") ≡ told)
    × (told_at 2 site (hex "47") ≡ told)
    × (told_at 3 site (hex "47") ≡ hex "15 1b 47")
    × (told_at 0 site (hex "47 00") ≡ hex "15 01")
    × (told_at 2 unborn (hex "47") ≡ hex "15 1b 47")
    × (is_let_in 0 (hex "48") ≡ false)
    × (told_at 0 site (hex "48 47 0002 0002 bbbbbbbbbbbbbbbbbbbbbbbbbbbbbbbb") ≡ hex "15 01")
    × (told_at 2 site (hex "48 47 0002 0002 bbbbbbbbbbbbbbbbbbbbbbbbbbbbbbbb") ≡ hex "15 1b 48")
    × (is_let_in 0 (hex "49") ≡ false)
    × (told_at 0 unborn (hex "49 aaaaaaaaaaaaaaaaaaaaaaaaaaaaaaaa") ≡ hex "15 01")

-- What a server asks without a door: what keeps states from being collected. Nobody, where no state arrived but the root. Session 1, where two
-- have their ceilings at the root; session 2 once the first moved its own down to 1.2, and still once it moved its own to 1.1; none of them but
-- 2 leaves once it is at 1.3, and where both are closed. Of two sites that have these sessions: session 1, which is named before the other site,
-- whose floor is at the root too; and site 2, once both moved down to their leaves, and where both are closed. With a field it is no request.
-- Nothing lasts of it.
abbrev pub TheOldestCeilingIsTold : Type 0
TheOldestCeilingIsTold =
    let site = unacquainted (site_after lone_site parted) in
    let moved = ruled_machine.step site (1, hex "0c 0001 00000002") in
    let closed = λ (s : Acquainted). ruled_machine.step (ruled_machine.step s (1, hex "15")) (2, hex "15") in
    let of_two = unacquainted (site_after (opening (program_limits 2) 1) parted) in
    let both_moved = ruled_machine.step (ruled_machine.step of_two (1, hex "0c 0001 00000002")) (2, hex "0c 0001 00000003") in
    (ruled_machine.reply (unacquainted lone_site) (0, hex "4b") ≡ hex "4b 00")
    × (ruled_machine.reply site (0, hex "4b") ≡ hex "4b 01 0001")
    × (ruled_machine.reply moved (0, hex "4b") ≡ hex "4b 01 0002")
    × (ruled_machine.reply (ruled_machine.step moved (2, hex "0c 0001 00000001")) (0, hex "4b") ≡ hex "4b 01 0002")
    × (ruled_machine.reply (ruled_machine.step moved (2, hex "0c 0001 00000003")) (0, hex "4b") ≡ hex "4b 03 00000002")
    × (ruled_machine.reply (closed site) (0, hex "4b") ≡ hex "4b 03 00000002")
    × (ruled_machine.reply of_two (0, hex "4b") ≡ hex "4b 01 0001")
    × (ruled_machine.reply both_moved (0, hex "4b") ≡ hex "4b 02 0002")
    × (ruled_machine.reply (closed of_two) (0, hex "4b") ≡ hex "4b 02 0002")
    × (ruled_machine.reply site (0, hex "4b 00") ≡ hex "15 01")
    × (ruled_bytes moved (0, hex "4b") ≡ [])

-- refusals, bytes that spell no question, the question Site, and who the site is
abbrev pub SomeAnswersAreSure : Type 0
SomeAnswersAreSure =
    (is_sure_at 1 (hex "0f 0001") ≡ true)
    × (is_sure_at 0 (hex "ff") ≡ true)
    × (is_sure_at 2 (hex "46") ≡ true)
    × (is_sure_at 2 (hex "47") ≡ true)
    × (is_sure_at 1 (hex "40 0001 00000001 01 79") ≡ false)
