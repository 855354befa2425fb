-- Worked rows: what the step answers where wrong ones break laws, and what the lines tell.
use Rattle.std.specs.Prelude.{◌≡◌, false, List, [], ◌∷◌, Some, codes}
use Rattle.tardis_base.specs.declared.records.Write.TheVariants.{Put}
use Rattle.tardis_base.specs.declared.requests.Request.TheVariants.{Abort}
use Rattle.tardis_base.specs.declared.replies.Refusal.TheVariants.{Below}
use Rattle.tardis_base.specs.declared.replies.Reply.TheVariants.{Refused, Begun, Absent, Done, Committed, NoMemory}
use Rattle.plain_dag.specs.Floors.{Session}
use Rattle.plain_site.specs.Step.{step}
use Rattle.plain_site.specs.RowWords.{Line, lone_site, ◌·◌, ◌asks◌=>◌, begin_any, begin_ancestor, begin_parent, begin_at, get, get_for, none, ser, si, commit}
use Rattle.plain_site.specs.RowWords.{value}
use Rattle.plain_site.specs.ClientRuns.{IsRun, Told, told, told_session}
use Rattle.plain_site.specs.WrongSteps.{followed, raced, forked, both_wrote, merging_both, refused_commit}

-- the lines are a run of the only site
abbrev pub AreRun : List Line → Type 0
AreRun lines = IsRun step lone_site lines

-- what session 1 read is news of 1.1, so with SER it commits beside that
abbrev pub ReadersFork : Type 0
ReadersFork = AreRun (1 asks commit ser => Committed (1 · 2) (0 · 0 ∷ []) ∷ raced)

-- with SI it does so where both wrote x
abbrev pub WritersFork : Type 0
WritersFork = AreRun (1 asks commit si => Committed (1 · 2) (0 · 0 ∷ []) ∷ both_wrote)

-- it reads x as it was when it began, and y as it wrote it
abbrev pub ReadsAreOld : Type 0
ReadsAreOld = AreRun (1 asks get "y" => value (0 · 0) "1" ∷ 1 asks get "x" => Absent ∷ raced)

-- where memory was wanting for its commit, it sends that again
abbrev pub WantingIsSentAgain : Type 0
WantingIsSentAgain = AreRun (1 asks commit ser => Committed (1 · 2) (0 · 0 ∷ []) ∷ 1 asks commit ser => NoMemory ∷ raced)

-- refused where it would branch, it commits with weaker constraints
abbrev pub WeakerIsSentAfter : Type 0
WeakerIsSentAfter = AreRun (1 asks commit none => Committed (1 · 2) (1 · 1 ∷ []) ∷ refused_commit ∷ raced)

-- session 2 begins at its commit, where another state arrived last; anywhere it begins at that one
abbrev pub CommitsAreFound : Type 0
CommitsAreFound = AreRun (2 asks begin_any => Begun (1 · 2) ∷ 2 asks Abort => Done ∷ 2 asks begin_ancestor => Begun (1 · 1) ∷ 2 asks Abort => Done ∷
    2 asks begin_parent => Begun (1 · 1) ∷ forked)

-- a following session isn't let above its commit
abbrev pub FollowersStayBelow : Type 0
FollowersStayBelow = AreRun (1 asks begin_at (0 · 0) => Refused (Below (0 · 0) (1 · 1)) ∷ followed)

-- a merge is shown both sides, and joins them
abbrev pub SidesAreJoined : Type 0
SidesAreJoined =
    AreRun
    (1 asks commit none => Committed (1 · 3) (1 · 1 ∷ 1 · 2 ∷ [])
    ∷ 1 asks get_for "x" (1 · 1) => value (1 · 1) "2"
    ∷ 1 asks get_for "x" (1 · 2) => Absent
    ∷ merging_both)

-- the transaction of session 1 and the session 2, as their clients know them
abbrev pub LinesTell : Type 0
LinesTell =
    let t : Told = record { merges = false; states = 0 · 0 ∷ []; reads = (codes "x", Absent) ∷ []; writes = (codes "y", Put (codes "1")) ∷ [] } in
    let s : Session = record { follow = false; ceiling = 0 · 0; last = 1 · 1 } in
    (told 1 raced ≡ Some t) × (told_session lone_site 2 raced ≡ Some s)
