-- The script of an export: what is asked of a fresh site, so that it has the same contents.
use Rattle.std.specs.Prelude.{ℕ, true, List, [], ◌∷◌, ◌++◌, length, map, flat_map, take, drop}
use Rattle.tardis_base.specs.declared.requests.Begin.TheVariants.{Any}
use Rattle.tardis_base.specs.declared.requests.Request.{Request}
use Rattle.tardis_base.specs.declared.requests.Request.TheVariants.{Open, Begin, Put, Commit, RaiseAuto, Tidy}
use Rattle.tardis_base.specs.Sizes.{most_writes}
use Rattle.wire_talk.specs.Spellings.{request_spelling}
use Rattle.frame_cut.specs.Frames.{frames}
use Rattle.branch_export.specs.Exports.{Entry}

-- these in groups of as many as one transaction writes in their order, the last group having the rest: at most so many groups
abbrev pub groups_up_to : ℕ → List Entry → List (List Entry)
groups_up_to ℕ.zero es = []
groups_up_to (ℕ.suc n) [] = []
groups_up_to (ℕ.suc n) (e ∷ es) = take most_writes (e ∷ es) ∷ groups_up_to n (drop most_writes (e ∷ es))

-- all of them, which are at most as many groups
abbrev pub groups : List Entry → List (List Entry)
groups es = groups_up_to (length es) es

abbrev pub put : Entry → Request
put e = Put e.0 e.1

-- one transaction that puts these, without constraints; then the floor goes up, and what it closed is collected
abbrev pub group_requests : List Entry → List Request
group_requests es = Begin Any ∷ map put es ++ Commit (record { 0 = 0 }) 0 ∷ RaiseAuto ∷ Tidy 64 ∷ []

-- a session that follows is opened, and group by group is put
abbrev pub script : List Entry → List Request
script es = Open true ∷ flat_map group_requests (groups es)

-- the request asked by actor 1, as the body of a frame
abbrev pub body : Request → List ℕ
body request = 0 ∷ 1 ∷ request_spelling request

-- the frames of the script
abbrev pub script_frames : List Entry → List ℕ
script_frames es = frames (map body (script es))
