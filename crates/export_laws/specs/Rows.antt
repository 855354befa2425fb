-- Worked rows of scripts that are carried out, and wrong steps that break the laws.
use Rattle.std.specs.Prelude.{◌≡◌, ℕ, ◌==◌, List, [], ◌∷◌, ◌++◌, length, map, replicate, codes, if◌then◌else◌}
use Rattle.std.specs.List.{range_with_len}
use Rattle.tardis_base.specs.declared.requests.Request.TheVariants.{Put, Commit, Abort, Tidy}
use Rattle.tardis_base.specs.declared.replies.Excess.TheVariants.{WrittenKeys}
use Rattle.tardis_base.specs.declared.replies.Refusal.TheVariants.{TooMany}
use Rattle.tardis_base.specs.declared.replies.Reply.{Reply}
use Rattle.tardis_base.specs.declared.replies.Reply.TheVariants.{Opened, Begun, Done, Committed, Raised, Tidied}
use Rattle.plain_dag.specs.States.{states}
use Rattle.plain_site.specs.Site.{writes_of}
use Rattle.plain_site.specs.Answers.{refused, with_txn}
use Rattle.plain_site.specs.Step.{step}
use Rattle.plain_site.specs.RowWords.{lone_site, ◌·◌}
use Rattle.plain_site.specs.ClientRuns.{Service}
use Rattle.branch_export.specs.Exports.{Entry, export_of, export_spelling}
use Rattle.branch_export.specs.Scripts.{script}
use Rattle.export_laws.specs.Laws.{replies, scripted_site}

-- ===== Worked rows

-- the script of these entries is answered so
abbrev pub IsAnsweredBy : List Entry → List Reply → Type 0
IsAnsweredBy es answers = replies step lone_site (script es) ≡ answers

-- then this state has the export of these entries
abbrev pub ComesBackAt : List Entry → ℕ → Type 0
ComesBackAt es n = export_of (scripted_site step es).dag (1 · n) ≡ export_spelling es

abbrev pub x_is_1 : List Entry
x_is_1 = (codes "x", codes "1") ∷ []

abbrev pub OneEntry : Type 0
OneEntry =
    IsAnsweredBy x_is_1 (Opened (0 · 0) ∷ Begun (0 · 0) ∷ Done ∷ Committed (1 · 1) (0 · 0 ∷ []) ∷ Raised (1 · 1) 1 ∷ Tidied 1 ∷ [])
    × ComesBackAt x_is_1 1

abbrev pub NoEntries : Type 0
NoEntries = IsAnsweredBy [] (Opened (0 · 0) ∷ [])

-- so many keys of one byte, without a byte as the value of each
abbrev pub short_entries : ℕ → List Entry
short_entries n = map (λ k. (k ∷ [], [])) (range_with_len 1 n)

-- one entry more than a group has makes a second state, and the first is collected
abbrev pub TwoGroups : Type 0
TwoGroups =
    IsAnsweredBy (short_entries 65)
    (Opened (0 · 0) ∷ Begun (0 · 0) ∷ replicate 64 Done
    ++ (Committed (1 · 1) (0 · 0 ∷ [])
    ∷ Raised (1 · 1) 1
    ∷ Tidied 1
    ∷ Begun (1 · 1)
    ∷ Done
    ∷ Committed (1 · 2) (1 · 1 ∷ [])
    ∷ Raised (1 · 2) 2
    ∷ Tidied 1
    ∷ []))
    × ComesBackAt (short_entries 65) 2

-- ===== Wrong steps

-- a transaction takes one write
abbrev pub takes_one_write : Service
takes_one_write site n (Put k v) = with_txn site n (λ s t. if length (writes_of t) == 0 then step site n (Put k v) else refused site (TooMany WrittenKeys 2))
takes_one_write site n q = step site n q

-- a commit is said to be done, and makes no state
abbrev pub commits_nothing : Service
commits_nothing site n (Commit flags k) = step site n Abort
commits_nothing site n q = step site n q

-- all states are collected, the last one too
abbrev pub collects_all : Service
collects_all site n (Tidy count) = (record site { collected = states site.dag }, Tidied (length site.dag))
collects_all site n q = step site n q

-- nothing is collected
abbrev pub collects_nothing : Service
collects_nothing site n (Tidy count) = (site, Tidied 0)
collects_nothing site n q = step site n q
