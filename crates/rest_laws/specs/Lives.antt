-- Lives of a site: that it starts again is as if its sessions had been closed, and no record had ever waited. So what is true
-- of every run is true of runs through any number of lives.
use Rattle.std.specs.Prelude.{◌≡◌, ℕ, List, [], ◌∷◌, ◌++◌, Some, None}
use Rattle.tardis_base.specs.declared.records.Item.TheVariants.{State}
use Rattle.tardis_base.specs.declared.requests.Request.{Request}
use Rattle.tardis_base.specs.declared.requests.Request.TheVariants.{Deliver, Settle, Close}
use Rattle.tardis_base.specs.declared.replies.Reply.{Reply}
use Rattle.tardis_base.specs.declared.replies.Reply.TheVariants.{Applied, Early, Closed}
use Rattle.plain_dag.specs.Floors.{Sessions}
use Rattle.plain_dag.specs.States.{record_at}
use Rattle.plain_site.specs.Site.{Site}
use Rattle.plain_site.specs.Exchange.{first_fit_record}
use Rattle.plain_site.specs.RowWords.{Line, ◌asks◌=>◌}
use Rattle.plain_site.specs.ClientRuns.{Service, Told, IsRun, AreAnswered, site_after, told}
use Rattle.plain_site.specs.ClientLaws.{DoneCommit, as_line}
use Rattle.plain_site.specs.Rest.{at_rest}

-- ===== Lines stand newest first.

-- the line that was asked at this site, as if nothing ever waited: a record that came early didn't come, and one that Settle
-- took was delivered then
abbrev pub as_if_none_waited : Site → ℕ → Request → Reply → List Line
as_if_none_waited site n (Deliver (State r)) (Early have) = []
as_if_none_waited site n Settle Applied =
    elim (first_fit_record site) [ None ↦ [] | Some found ↦ n asks Deliver (State found.1) => Applied ∷ [] ]
as_if_none_waited site n Settle reply = []
as_if_none_waited site n q reply = n asks q => reply ∷ []

abbrev pub none_waited : Service → Site → List Line → List Line
none_waited service start [] = []
none_waited service start (line ∷ older) =
    let others = none_waited service start older in
    as_if_none_waited (site_after service start older) line.actor line.request line.reply ++ others

-- these sessions are closed, the first of them first
abbrev pub closings : Sessions → List Line
closings [] = []
closings (s ∷ ss) =
    let later = closings ss in
    later ++ s.0 asks Close => Closed ∷ []

-- the lines as if none waited, and then each session that is open is closed
abbrev pub put_to_rest : Service → Site → List Line → List Line
put_to_rest service start lines = closings (site_after service start lines).sessions ++ none_waited service start lines

-- Two lives are one run: the lines of a life, put to rest, and the lines of the next behind them are a run, and lead to the
-- same site. So it may end and start again in its turn.
abbrev pub LivesAreOneRun : Service → Type 0
LivesAreOneRun service = (start : Site) (lines next_life : List Line) → IsRun service start lines →
    let rest = at_rest (site_after service start lines) in
    AreAnswered service rest next_life →
    IsRun service start (next_life ++ put_to_rest service start lines)
    × (site_after service start (next_life ++ put_to_rest service start lines) ≡ site_after service rest next_life)

-- In it each commit stands as it stood, with what its actor was told before.
abbrev pub CommitsStayTold : Service → Type 0
CommitsStayTold service = (start : Site) (newer older : List Line) (c : DoneCommit) → IsRun service start (newer ++ as_line c ∷ older) →
    (later : List Line)
    × (put_to_rest service start (newer ++ as_line c ∷ older) ≡ later ++ as_line c ∷ none_waited service start older)
    × (told c.actor (none_waited service start older) ≡ told c.actor older)

-- Nothing committed is lost when the site ends: in the next life each commit's state has its parents, and what its transaction
-- wrote.
abbrev pub CommitsOutliveTheSite : Service → Type 0
CommitsOutliveTheSite service = (start : Site) (newer older next_life : List Line) (c : DoneCommit) →
    let lines = newer ++ as_line c ∷ older in
    let rest = at_rest (site_after service start lines) in
    IsRun service start lines → AreAnswered service rest next_life →
    (t : Told) × (told c.actor older ≡ Some t)
    × (record_at (site_after service rest next_life).dag c.state ≡ Some (record { id = c.state; parents = c.parents; writes = t.writes }))
