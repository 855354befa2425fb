-- Worked rows: two branches with more conflict keys than a transaction may write are joined by several merges.
use Rattle.std.specs.Prelude.{ℕ, List, [], ◌∷◌, ◌++◌, map}
use Rattle.std.specs.List.{range_with_len}
use Rattle.tardis_base.specs.declared.requests.Request.TheVariants.{Get, Put}
use Rattle.tardis_base.specs.declared.replies.Refusal.TheVariants.{OpenConflict}
use Rattle.tardis_base.specs.declared.replies.Reply.TheVariants.{Begun, Merging, Absent, Done, Committed, Keys, Refused}
use Rattle.plain_site.specs.Site.{Site}
use Rattle.plain_site.specs.RowWords.{Line, Talk, site_after, lone_site, ◌·◌, ◌asks◌=>◌, begin_any, begin_at, none, ser, commit, merge_leaves, merge, conflicts}
use Rattle.plain_site.specs.RowsOfCommits.{two_open}

-- the keys of two bytes that begin with this one, this many of them
abbrev pub keys_under : ℕ → ℕ → List (List ℕ)
keys_under first many = map (λ n. first ∷ n ∷ []) (range_with_len 0 many)

-- a session's puts to these keys, the last first
abbrev pub puts_under : ℕ → ℕ → ℕ → List Line
puts_under actor first ℕ.zero = []
puts_under actor first (ℕ.suc n) = actor asks Put (first ∷ n ∷ []) [] => Done ∷ puts_under actor first n

-- two branches of two states each: the first states write the same 64 keys, and the second ones 64 others
abbrev pub wide_branches : List Line
wide_branches =
    two_open
    ++ 1 asks begin_any => Begun (0 · 0)
    ∷ 2 asks begin_any => Begun (0 · 0)
    ∷ 2 asks Get (0 ∷ 0 ∷ []) => Absent
    ∷ []
    ++ puts_under 1 0 64
    ++ puts_under 2 0 64
    ++ 1 asks commit ser => Committed (1 · 1) (0 · 0 ∷ [])
    ∷ 2 asks commit ser => Committed (1 · 2) (0 · 0 ∷ [])
    ∷ 1 asks begin_at (1 · 1) => Begun (1 · 1)
    ∷ 2 asks begin_at (1 · 2) => Begun (1 · 2)
    ∷ []
    ++ puts_under 1 1 64
    ++ puts_under 2 1 64
    ++ 1 asks commit ser => Committed (1 · 3) (1 · 1 ∷ [])
    ∷ 2 asks commit ser => Committed (1 · 4) (1 · 2 ∷ [])
    ∷ []

abbrev pub WideBranchesAreMade : Type 0
WideBranchesAreMade = Talk lone_site wide_branches

abbrev pub wide_site : Site
wide_site = site_after lone_site wide_branches

-- one merge of the two leaves would have to write 128 keys
abbrev pub WideMergeIsRefused : Type 0
WideMergeIsRefused =
    Talk wide_site
    (1 asks merge_leaves => Merging (1 · 3 ∷ 1 · 4 ∷ [])
    ∷ 1 asks conflicts => Keys 128 (keys_under 0 64 ++ keys_under 1 64)
    ∷ 1 asks commit none => Refused (OpenConflict (0 ∷ 0 ∷ []))
    ∷ [])

-- three merges join the branches: of the first states, of that merge with one second state, and of that with the other
abbrev pub WideBranchesAreJoinedInSteps : Type 0
WideBranchesAreJoinedInSteps =
    Talk wide_site
    (1 asks merge (1 · 1 ∷ 1 · 2 ∷ []) => Merging (1 · 1 ∷ 1 · 2 ∷ [])
    ∷ 1 asks conflicts => Keys 64 (keys_under 0 64)
    ∷ []
    ++ puts_under 1 0 64
    ++ 1 asks commit none => Committed (1 · 5) (1 · 1 ∷ 1 · 2 ∷ [])
    ∷ 1 asks merge (1 · 3 ∷ 1 · 5 ∷ []) => Merging (1 · 3 ∷ 1 · 5 ∷ [])
    ∷ 1 asks conflicts => Keys 0 []
    ∷ 1 asks commit none => Committed (1 · 6) (1 · 3 ∷ 1 · 5 ∷ [])
    ∷ 1 asks merge (1 · 4 ∷ 1 · 6 ∷ []) => Merging (1 · 4 ∷ 1 · 6 ∷ [])
    ∷ 1 asks conflicts => Keys 64 (keys_under 1 64)
    ∷ []
    ++ puts_under 1 1 64
    ++ 1 asks commit none => Committed (1 · 7) (1 · 4 ∷ 1 · 6 ∷ [])
    ∷ [])
