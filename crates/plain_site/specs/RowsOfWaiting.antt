-- Worked rows: records that wait for others. This is site 1 of 2.
use Rattle.std.specs.Prelude.{◌≡◌, ℕ, ◌+◌, List, [], ◌∷◌}
use Rattle.tardis_base.specs.declared.ids.StateId.{StateId}
use Rattle.tardis_base.specs.declared.records.Record.{Record}
use Rattle.tardis_base.specs.declared.records.Item.TheVariants.{State}
use Rattle.tardis_base.specs.declared.requests.Request.TheVariants.{Deliver, Settle}
use Rattle.tardis_base.specs.declared.replies.Refusal.TheVariants.{Full}
use Rattle.tardis_base.specs.declared.replies.Reply.{Reply}
use Rattle.tardis_base.specs.declared.replies.Reply.TheVariants.{Done, Applied, Known, Early, Refused}
use Rattle.plain_site.specs.WaitingRoom.{hold}
use Rattle.plain_site.specs.Site.{Site, opening}
use Rattle.plain_site.specs.RowWords.{Line, Talk, site_after, lone_site, program_limits, ◌·◌, ◌asks◌=>◌}
use Rattle.plain_site.specs.RowByteWords.{TalkInBytes, ◌sends◌=>◌, hex}
use Rattle.plain_site.specs.RowsOfExchange.{first_of_two, deliver, asked, told}

-- 2.2, which is below 2.1, waits until that is there
abbrev pub EarlyRecordIsSettled : Type 0
EarlyRecordIsSettled =
    TalkInBytes first_of_two
    (0 sends deliver "01 0002 00000002 01 0002 00000001 01 01 61 01 0001 32" => told (Early 0)
    ∷ 0 sends asked Settle => told Done
    ∷ 0 sends deliver "01 0002 00000001 01 0000 00000000 01 01 61 01 0001 31" => told Applied
    ∷ 0 sends asked Settle => told Applied
    ∷ 0 sends asked Settle => told Done
    ∷ 0 sends deliver "01 0002 00000002 01 0002 00000001 01 01 61 01 0001 32" => told Known
    ∷ [])

-- a site that opens has nothing that waits
abbrev pub NothingIsSettled : Type 0
NothingIsSettled = TalkInBytes lone_site (0 sends hex "16" => hex "07" ∷ [])

-- ===== Rooms

-- the record of 2.n below these, which writes nothing
abbrev pub second_site : ℕ → List StateId → Record
second_site n parents = record { id = 2 · n; parents = parents; writes = [] }

abbrev pub comes : Record → Reply → Line
comes r reply = 0 asks Deliver (State r) => reply

abbrev pub settles : Reply → Line
settles reply = 0 asks Settle => reply

-- these lines are answered so, and then these records wait
abbrev pub TalkAndWait : Site → List Line → List Record → Type 0
TalkAndWait site lines waiting = Talk site lines × ((site_after site lines).waiting ≡ waiting)

abbrev pub first_one : Record
first_one = second_site 1 (0 · 0 ∷ [])

abbrev pub second_one : Record
second_one = second_site 2 (2 · 1 ∷ [])

-- a record below 2.1 and 2.2, of which one is above the other
abbrev pub unfit_one : Record
unfit_one = second_site 3 (2 · 1 ∷ 2 · 2 ∷ [])

-- what comes early twice waits once
abbrev pub EachWaitsOnce : Type 0
EachWaitsOnce = TalkAndWait first_of_two (comes second_one (Early 0) ∷ comes second_one (Early 0) ∷ []) (second_one ∷ [])

-- the first record that is fit is taken, and not the first; one that would be refused stays
abbrev pub FirstFitOneIsTaken : Type 0
FirstFitOneIsTaken =
    TalkAndWait first_of_two
    (comes unfit_one (Early 0) ∷ comes second_one (Early 0) ∷ comes first_one Applied ∷ settles Applied ∷ settles Done ∷ [])
    (unfit_one ∷ [])

-- a record that was taken another way is known, and stays too
abbrev pub KnownOneStays : Type 0
KnownOneStays =
    TalkAndWait first_of_two (comes second_one (Early 0) ∷ comes first_one Applied ∷ comes second_one Applied ∷ settles Done ∷ []) (second_one ∷ [])

-- where the site may not grow, the fit record goes on waiting
abbrev pub FitOneWaitsForRoom : Type 0
FitOneWaitsForRoom =
    TalkAndWait (opening (record (program_limits 2) { max_kept = 2 }) 1)
    (comes second_one (Early 0) ∷ comes first_one Applied ∷ settles (Refused (Full 2)) ∷ [])
    (second_one ∷ [])

-- so many records of the second site, from this sequence on
abbrev pub several : ℕ → ℕ → List Record
several n ℕ.zero = []
several n (ℕ.suc more) = second_site n (0 · 0 ∷ []) ∷ several (n + 1) more

-- 256 records wait; with one more the first goes
abbrev pub FullRoomLosesTheFirst : Type 0
FullRoomLosesTheFirst =
    (hold (second_site 257 (0 · 0 ∷ [])) (several 2 255) ≡ several 2 256) × (hold (second_site 258 (0 · 0 ∷ [])) (several 2 256) ≡ several 3 256)
