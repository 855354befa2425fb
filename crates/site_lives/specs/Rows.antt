-- Worked rows: what the first of two sites answers when it is to meet others.
use Rattle.std.specs.Prelude.{◌≡◌, ℕ, true, false, List, [], ◌∷◌, ◌++◌, map, codes}
use Rattle.tardis_base.specs.declared.ids.StateId.{StateId}
use Rattle.tardis_base.specs.declared.records.Record.{Record}
use Rattle.tardis_base.specs.declared.records.Item.TheVariants.{State, Promise}
use Rattle.tardis_base.specs.declared.records.Write.TheVariants.{Put}
use Rattle.tardis_base.specs.Ids.{root}
use Rattle.tardis_base.specs.Plain.{Event}
use Rattle.plain_dag.specs.Collection.{kept_states}
use Rattle.plain_dag.specs.Floors.{unpromised}
use Rattle.plain_site.specs.Site.{opening}
use Rattle.plain_site.specs.RowWords.{◌·◌, program_limits}
use Rattle.plain_site.specs.Rest.{News, Collection}
use Rattle.plain_site.specs.RowByteWords.{hex, ByteLine, ◌sends◌=>◌}
use Rattle.plain_checkpoint.specs.Checkpoints.{ToldState, ToldLine, ToldGone, untold}
use Rattle.site_lives.specs.Acquainted.{Acquainted, unacquainted, acquainted_machine}
use Rattle.site_lives.specs.Things.{LastingThing, OfSite, OfLives, OfRow, OfCheckpoint, OfEnd, replay_things, all_things_fit, all_spellings}
use Rattle.site_lives.specs.Bytes.{lasting_bytes}

-- the replies to the requests of these lines, one after another
abbrev pub replies : Acquainted → List ByteLine → List (List ℕ)
replies a [] = []
replies a (line ∷ lines) =
    let later = replies (acquainted_machine.step a (line.actor, line.request)) lines in
    acquainted_machine.reply a (line.actor, line.request) ∷ later

abbrev pub MeetingsAreAnswered : Type 0
MeetingsAreAnswered =
    let lines =
    -- before its life began it meets nobody, and 15 bytes are no life
    (0 sends hex "48 47 0002 0002 bbbbbbbbbbbbbbbbbbbbbbbbbbbbbbbb" => hex "48 05")
    ∷ (0 sends hex "49 aaaaaaaaaaaaaaaaaaaaaaaaaaaaaa" => hex "49 05")
    -- it begins once
    ∷ (0 sends hex "49 aaaaaaaaaaaaaaaaaaaaaaaaaaaaaaaa" => hex "49 00")
    ∷ (0 sends hex "49 aaaaaaaaaaaaaaaaaaaaaaaaaaaaaaab" => hex "49 01")
    -- the second site is met, and met again, and met with no other life
    ∷ (0 sends hex "48 47 0002 0002 bbbbbbbbbbbbbbbbbbbbbbbbbbbbbbbb" => hex "48 00")
    ∷ (0 sends hex "48 47 0002 0002 bbbbbbbbbbbbbbbbbbbbbbbbbbbbbbbb" => hex "48 00")
    ∷ (0 sends hex "48 47 0002 0002 cccccccccccccccccccccccccccccccc" => hex "48 01")
    -- its own number, be it with its own life; one of three sites
    ∷ (0 sends hex "48 47 0001 0002 aaaaaaaaaaaaaaaaaaaaaaaaaaaaaaaa" => hex "48 02")
    ∷ (0 sends hex "48 47 0002 0003 bbbbbbbbbbbbbbbbbbbbbbbbbbbbbbbb" => hex "48 03")
    -- the third of two sites, the site 0, another code, and bytes left over
    ∷ (0 sends hex "48 47 0003 0002 bbbbbbbbbbbbbbbbbbbbbbbbbbbbbbbb" => hex "48 04")
    ∷ (0 sends hex "48 47 0000 0002 bbbbbbbbbbbbbbbbbbbbbbbbbbbbbbbb" => hex "48 04")
    ∷ (0 sends hex "48 46 0002 0002 bbbbbbbbbbbbbbbbbbbbbbbbbbbbbbbb" => hex "48 04")
    ∷ (0 sends hex "48 47 0002 0002 bbbbbbbbbbbbbbbbbbbbbbbbbbbbbbbb 00" => hex "48 04")
    ∷ (0 sends hex "48" => hex "48 04")
    -- all others are the site's to answer: an Open, and the question who it is, which is none to it
    ∷ (1 sends hex "01 00" => hex "01 0000 00000000")
    ∷ (0 sends hex "47" => hex "15 01")
    ∷ [] in
    replies (unacquainted (opening (program_limits 2) 1)) lines ≡ map (λ line. line.reply) lines

-- What lasts of such meetings, and what a site knows that started again: of a life that is new its number and its 16 bytes last, of all
-- others nothing; and taken back, oldest first, they make a site that meets no other life of the second one.
abbrev pub LivesOutlastTheSite : Type 0
LivesOutlastTheSite =
    let site = unacquainted (opening (program_limits 2) 1) in
    let begins : Event = (0, hex "49 aaaaaaaaaaaaaaaaaaaaaaaaaaaaaaaa") in
    let meets : Event = (0, hex "48 47 0002 0002 bbbbbbbbbbbbbbbbbbbbbbbbbbbbbbbb") in
    let meets_another : Event = (0, hex "48 47 0002 0002 cccccccccccccccccccccccccccccccc") in
    let born = acquainted_machine.step site begins in
    let met = acquainted_machine.step born meets in
    let own = OfLives (record { number = 1; life = hex "aaaaaaaaaaaaaaaaaaaaaaaaaaaaaaaa" }) in
    let second = OfLives (record { number = 2; life = hex "bbbbbbbbbbbbbbbbbbbbbbbbbbbbbbbb" }) in
    let again = replay_things (own ∷ second ∷ []) site in
    (lasting_bytes site meets ≡ [])
    × (lasting_bytes site begins ≡ hex "04 0001 aaaaaaaaaaaaaaaaaaaaaaaaaaaaaaaa")
    × (lasting_bytes born begins ≡ [])
    × (lasting_bytes born meets ≡ hex "04 0002 bbbbbbbbbbbbbbbbbbbbbbbbbbbbbbbb")
    × (lasting_bytes met meets ≡ [])
    × (lasting_bytes met meets_another ≡ [])
    × (all_things_fit site (own ∷ second ∷ []) ≡ true)
    × (acquainted_machine.reply again meets ≡ hex "48 00")
    × (acquainted_machine.reply again meets_another ≡ hex "48 01")
    -- the own life comes first, and each only once; a third of two sites has none
    × (all_things_fit site (second ∷ []) ≡ false)
    × (all_things_fit site (own ∷ own ∷ []) ≡ false)
    × (all_things_fit site (own ∷ OfLives (record { number = 3; life = hex "bbbbbbbbbbbbbbbbbbbbbbbbbbbbbbbb" }) ∷ []) ≡ false)

-- A row is 5, the site's number and how many states there are. A site that opens takes it back, and another one behind it: of the
-- states of both the last is kept. None fits that is of a third of two sites, or stands behind the promise of a floor.
abbrev pub RowsAreTakenBack : Type 0
RowsAreTakenBack =
    let site = unacquainted (opening (program_limits 2) 1) in
    let rows = OfRow 2 2 ∷ OfRow 1 1 ∷ [] in
    let behind = (replay_things rows site).site in
    let promise = OfSite (News (Promise (record { site = 1; number = 1; floor = root; count = 0 }))) in
    (all_spellings rows ≡ hex "05 0002 00000002 05 0001 00000001")
    × (all_things_fit site rows ≡ true)
    × (kept_states behind.dag behind.collected ≡ (1 · 1) ∷ [])
    × (all_things_fit site (OfRow 3 1 ∷ []) ≡ false)
    × (all_things_fit site (promise ∷ []) ≡ true)
    × (all_things_fit site (promise ∷ OfRow 2 2 ∷ []) ≡ false)

-- Behind the record of a state below the root the floors are at the root still, and it isn't closed. A row of no states moves them to
-- that state, and the root is collected. It fits at a site that opens too; not of a third of two sites, nor behind a promise.
abbrev pub EmptyRowsMoveTheFloors : Type 0
EmptyRowsMoveTheFloors =
    let site = unacquainted (opening (program_limits 2) 1) in
    let made = OfSite (News (State (record { id = 1 · 1; parents = root ∷ []; writes = [] }))) in
    let collected = OfSite (Collection 1) in
    let promise = OfSite (News (Promise (record { site = 1; number = 1; floor = root; count = 0 }))) in
    let things = made ∷ OfRow 2 0 ∷ collected ∷ [] in
    let behind = (replay_things things site).site in
    (all_spellings things ≡ hex "01 0001 00000001 01 0000 00000000 00 05 0002 00000000 03 00000001")
    × (all_things_fit site things ≡ true)
    × (kept_states behind.dag behind.collected ≡ (1 · 1) ∷ [])
    × (all_things_fit site (made ∷ collected ∷ []) ≡ false)
    × (all_things_fit site (OfRow 2 0 ∷ []) ≡ true)
    × (all_things_fit site (OfRow 3 0 ∷ []) ≡ false)
    × (all_things_fit site (promise ∷ OfRow 2 0 ∷ []) ≡ false)

-- what lasts of a commit of the only site below this state: its fourth state, which writes x
abbrev pub fourth_below : StateId → LastingThing
fourth_below parent = OfSite (News (State (record { id = 1 · 4; parents = parent ∷ []; writes = (codes "x", Put (codes "1")) ∷ [] })))

-- Behind a row of three states stands the record of a fourth one: it is below the last of them, which is kept, and below none that is
-- collected.
abbrev pub RecordsStandBehindRows : Type 0
RecordsStandBehindRows =
    let site = unacquainted (opening (program_limits 1) 1) in
    let things = OfRow 1 3 ∷ fourth_below (1 · 3) ∷ [] in
    let behind = (replay_things things site).site in
    (all_spellings things ≡ hex "05 0001 00000003 01 0001 00000004 01 0001 00000003 01 01 78 01 0001 31")
    × (all_things_fit site things ≡ true)
    × (kept_states behind.dag behind.collected ≡ (1 · 3) ∷ (1 · 4) ∷ [])
    × (all_things_fit site (OfRow 1 3 ∷ fourth_below (1 · 2) ∷ []) ≡ false)

-- A checkpoint of two sites: the first one makes a state below the root, and two more below that; all but the last are gone. It ends
-- with the floors: the first site promised one there, under the number 1. The site stays as it opened until then; then nothing more
-- is told, and the last state is kept.
abbrev pub CheckpointsAreTakenBack : Type 0
CheckpointsAreTakenBack =
    let site = unacquainted (opening (program_limits 2) 1) in
    let made : Record = record { id = 1 · 1; parents = root ∷ []; writes = [] } in
    let parts = OfCheckpoint (ToldState made) ∷ OfCheckpoint (ToldLine 1 2) ∷ OfCheckpoint (ToldGone root) ∷ [] in
    let end = OfEnd (record { state = 1 · 3; number = 1; stated = 3 } ∷ unpromised (1 · 3) ∷ []) ∷ [] in
    let told = replay_things parts site in
    let behind = replay_things end told in
    let end_at_root = OfEnd (unpromised root ∷ unpromised root ∷ []) in
    let promise = OfSite (News (Promise (record { site = 1; number = 1; floor = root; count = 0 }))) in
    (all_spellings parts ≡ hex "06 0001 00000001 01 0000 00000000 00 07 0001 00000002 08 0000 00000000")
    × (all_spellings end ≡ hex "09 02 0001 00000003 00000001 00000003 0001 00000003 00000000 00000000")
    × (all_things_fit site (parts ++ end) ≡ true)
    × (told.site ≡ site.site)
    × (behind.told ≡ untold)
    × (kept_states behind.site.dag behind.site.collected ≡ (1 · 3) ∷ [])
    -- where nothing was told, the end is that of a site that opens; but behind a state, a promise or another end no end fits
    × ((replay_things (end_at_root ∷ []) site).site ≡ site.site)
    × (all_things_fit site (end_at_root ∷ []) ≡ true)
    × (all_things_fit site (OfSite (News (State made)) ∷ end_at_root ∷ []) ≡ false)
    × (all_things_fit site (promise ∷ end_at_root ∷ []) ≡ false)
    × (all_things_fit site (parts ++ end ++ parts ++ end) ≡ false)
    -- nor does one whose floors don't fit what was told, or a part that doesn't
    × (all_things_fit site (parts ++ end_at_root ∷ []) ≡ false)
    × (all_things_fit site (OfCheckpoint (ToldGone root) ∷ []) ≡ false)
