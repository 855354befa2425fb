-- Worked rows: the exports of states, and their scripts.
use Rattle.std.specs.Prelude.{◌≡◌, ℕ, List, [], ◌∷◌, ◌++◌, codes}
use Rattle.tardis_base.specs.declared.ids.StateId.{StateId}
use Rattle.tardis_base.specs.declared.requests.Request.TheVariants.{Delete, RaiseAuto, Tidy, Close}
use Rattle.tardis_base.specs.declared.replies.Reply.TheVariants.{Opened, Begun, Done, Committed, Merging, Raised, Tidied, Closed}
use Rattle.plain_site.specs.RowWords.{Line, Talk, lone_site, site_after, ◌·◌, ◌asks◌=>◌, opens, opens_following, begin_any, get, put, value, none, ser, commit}
use Rattle.plain_site.specs.RowWords.{merge_leaves}
use Rattle.branch_export.specs.Exports.{export_of}
use Rattle.branch_export.specs.Scripts.{script_frames}

-- a number of entries, below 256
abbrev pub entries_of : ℕ → List ℕ
entries_of n = 0 ∷ 0 ∷ 0 ∷ 0 ∷ 0 ∷ 0 ∷ 0 ∷ n ∷ []

-- the key x with the value 1
abbrev pub x_is_1 : List ℕ
x_is_1 = 1 ∷ 120 ∷ 0 ∷ 1 ∷ 49 ∷ []

-- these lines are answered so, and then the state has this export
abbrev pub Exports : List Line → StateId → List ℕ → Type 0
Exports lines x bytes = Talk lone_site lines × (export_of (site_after lone_site lines).dag x ≡ bytes)

-- one session commits x
abbrev pub one_key : List Line
one_key =
    1 asks opens_following => Opened (0 · 0)
    ∷ 1 asks begin_any => Begun (0 · 0)
    ∷ 1 asks put "x" "1" => Done
    ∷ 1 asks commit none => Committed (1 · 1) (0 · 0 ∷ [])
    ∷ []

abbrev pub OneKeyIsExported : Type 0
OneKeyIsExported = Exports one_key (1 · 1) (entries_of 1 ++ x_is_1)

-- at the root nothing is read
abbrev pub RootIsEmpty : Type 0
RootIsEmpty = Exports [] (0 · 0) (entries_of 0)

-- x is deleted and z put below it: the deletion isn't exported, and at the state before it x still is
abbrev pub x_deleted : List Line
x_deleted =
    one_key
    ++ 1 asks begin_any => Begun (1 · 1)
    ∷ 1 asks Delete (codes "x") => Done
    ∷ 1 asks put "z" "" => Done
    ∷ 1 asks commit none => Committed (1 · 2) (1 · 1 ∷ [])
    ∷ []

abbrev pub DeletionsAreNotExported : Type 0
DeletionsAreNotExported = Exports x_deleted (1 · 2) (entries_of 1 ++ 1 ∷ 122 ∷ 0 ∷ 0 ∷ [])

abbrev pub ExportsAreOfTheirState : Type 0
ExportsAreOfTheirState = Exports x_deleted (1 · 1) (entries_of 1 ++ x_is_1)

-- two sessions read x; what each writes makes a branch of its own
abbrev pub two_branches : List Line
two_branches =
    one_key
    ++ 2 asks opens => Opened (0 · 0)
    ∷ 1 asks begin_any => Begun (1 · 1)
    ∷ 2 asks begin_any => Begun (1 · 1)
    ∷ 1 asks get "x" => value (1 · 1) "1"
    ∷ 2 asks get "x" => value (1 · 1) "1"
    ∷ 1 asks put "x" "2" => Done
    ∷ 2 asks put "x" "3" => Done
    ∷ 2 asks put "a" "4" => Done
    ∷ 1 asks commit ser => Committed (1 · 2) (1 · 1 ∷ [])
    ∷ 2 asks commit ser => Committed (1 · 3) (1 · 1 ∷ [])
    ∷ []

abbrev pub OtherBranchesAreNotExported : Type 0
OtherBranchesAreNotExported = Exports two_branches (1 · 2) (entries_of 1 ++ 1 ∷ 120 ∷ 0 ∷ 1 ∷ 50 ∷ [])

-- they are merged, and all but the merge is collected: what stood above is exported as it is read there
abbrev pub merged : List Line
merged =
    two_branches
    ++ 2 asks Close => Closed
    ∷ 1 asks merge_leaves => Merging (1 · 2 ∷ 1 · 3 ∷ [])
    ∷ 1 asks put "x" "5" => Done
    ∷ 1 asks commit none => Committed (1 · 4) (1 · 2 ∷ 1 · 3 ∷ [])
    ∷ 1 asks RaiseAuto => Raised (1 · 4) 1
    ∷ 1 asks Tidy 64 => Tidied 4
    ∷ []

abbrev pub CollectedValuesAreExported : Type 0
CollectedValuesAreExported = Exports merged (1 · 4) (entries_of 2 ++ 1 ∷ 97 ∷ 0 ∷ 1 ∷ 52 ∷ 1 ∷ 120 ∷ 0 ∷ 1 ∷ 53 ∷ [])

-- the script of one entry
abbrev pub OneEntryIsScripted : Type 0
OneEntryIsScripted =
    script_frames ((codes "x", codes "1") ∷ [])
    ≡ 0 ∷ 0 ∷ 0 ∷ 4 ∷ 0 ∷ 1 ∷ 1 ∷ 1
    ∷ 0 ∷ 0 ∷ 0 ∷ 4 ∷ 0 ∷ 1 ∷ 2 ∷ 0
    ∷ 0 ∷ 0 ∷ 0 ∷ 8 ∷ 0 ∷ 1 ∷ 4 ∷ 1 ∷ 120 ∷ 0 ∷ 1 ∷ 49
    ∷ 0 ∷ 0 ∷ 0 ∷ 6 ∷ 0 ∷ 1 ∷ 6 ∷ 0 ∷ 0 ∷ 0
    ∷ 0 ∷ 0 ∷ 0 ∷ 3 ∷ 0 ∷ 1 ∷ 14
    ∷ 0 ∷ 0 ∷ 0 ∷ 5 ∷ 0 ∷ 1 ∷ 15 ∷ 0 ∷ 64
    ∷ []

-- without an entry the session alone is opened
abbrev pub EmptyExportIsScripted : Type 0
EmptyExportIsScripted = script_frames [] ≡ 0 ∷ 0 ∷ 0 ∷ 4 ∷ 0 ∷ 1 ∷ 1 ∷ 1 ∷ []
