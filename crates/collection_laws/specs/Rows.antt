-- Wrong steps that let what is collected be seen, and a worked row in which collecting makes room.
use Rattle.std.specs.Prelude.{◌==◌, not, List, [], ◌∷◌, length, filter, if◌then◌else◌}
use Rattle.tardis_base.specs.declared.requests.Request.TheVariants.{Get, Commit, Tidy, Ceiling, RaiseAuto}
use Rattle.tardis_base.specs.declared.replies.Refusal.TheVariants.{Full}
use Rattle.tardis_base.specs.declared.replies.Reply.TheVariants.{Opened, Begun, Absent, Done, Committed, Raised, Tidied, Refused}
use Rattle.tardis_base.specs.Ids.{is_among}
use Rattle.plain_site.specs.Site.{Site, opening}
use Rattle.plain_site.specs.Answers.{refused}
use Rattle.plain_site.specs.Step.{step}
use Rattle.plain_site.specs.RowWords.{Line, Talk, site_after, program_limits, ◌·◌, ◌asks◌=>◌, opens, begin_any, get, put, none, commit}
use Rattle.plain_site.specs.ClientRuns.{Service}
use Rattle.plain_site.specs.WrongSteps.{followed}

-- the records of the kept states alone
abbrev pub with_kept_alone : Site → Site
with_kept_alone site = record site { dag = filter (λ r. not (is_among r.id site.collected)) site.dag }

-- a Get finds only what kept states wrote
abbrev pub reads_kept_alone : Service
reads_kept_alone site n (Get k) = ((step site n (Get k)).0, (step (with_kept_alone site) n (Get k)).1)
reads_kept_alone site n q = step site n q

-- a commit finds no room where something is collected
abbrev pub fills_with_collected : Service
fills_with_collected site n (Commit flags k) =
    if length site.collected == 0 then step site n (Commit flags k) else refused site (Full (length site.dag))
fills_with_collected site n q = step site n q

-- after its 1.1 wrote x, a following session makes 1.2; 1.1 is collected, and x isn't found at 1.2
abbrev pub write_missed : List Line
write_missed =
    1 asks get "x" => Absent
    ∷ 1 asks begin_any => Begun (1 · 2)
    ∷ 0 asks Tidy 1 => Tidied 1
    ∷ 0 asks RaiseAuto => Raised (1 · 2) 1
    ∷ 1 asks commit none => Committed (1 · 2) (1 · 1 ∷ [])
    ∷ 1 asks put "y" "1" => Done
    ∷ 1 asks begin_any => Begun (1 · 1)
    ∷ followed

-- ===== Room

-- a site that keeps two states
abbrev pub two_states : Site
two_states = opening (record (program_limits 1) { max_kept = 2 }) 1

-- 1 makes 1.1, and the root is closed; then it begins at 1.1
abbrev pub root_is_closed : List Line
root_is_closed =
    1 asks opens => Opened (0 · 0)
    ∷ 1 asks begin_any => Begun (0 · 0)
    ∷ 1 asks put "x" "1" => Done
    ∷ 1 asks commit none => Committed (1 · 1) (0 · 0 ∷ [])
    ∷ 1 asks Ceiling (1 · 1) => Done
    ∷ 0 asks RaiseAuto => Raised (1 · 1) 1
    ∷ 1 asks begin_any => Begun (1 · 1)
    ∷ []

-- and that site
abbrev pub closed_above : Site
closed_above = site_after two_states root_is_closed

-- a full site refuses a commit, and once the root is collected the same commit is done
abbrev pub CollectingMakesRoom : Type 0
CollectingMakesRoom =
    Talk closed_above
    (1 asks put "x" "2" => Done
    ∷ 1 asks commit none => Refused (Full 2)
    ∷ 0 asks Tidy 1 => Tidied 1
    ∷ 1 asks commit none => Committed (1 · 2) (1 · 1 ∷ [])
    ∷ [])
