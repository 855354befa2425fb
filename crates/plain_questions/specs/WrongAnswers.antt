-- Wrong ways to answer: each is the answer but for one kind of question.
use Rattle.std.specs.Prelude.{not, ◌&&◌, List, [], ◌∷◌, ◌++◌, filter, is_some, map, codes}
use Rattle.tardis_base.specs.declared.records.Write.{Write}
use Rattle.tardis_base.specs.declared.requests.Request.TheVariants.{Abort, Ceiling, RaiseAuto}
use Rattle.tardis_base.specs.declared.replies.Reply.TheVariants.{Opened, Begun, Merging, Done, Committed, Raised}
use Rattle.tardis_base.specs.Ids.{is_among}
use Rattle.tardis_base.specs.Keys.{is_key_before}
use Rattle.plain_dag.specs.States.{root_record}
use Rattle.plain_dag.specs.Begin.{last_arrived}
use Rattle.plain_dag.specs.Forks.{fork_points}
use Rattle.plain_dag.specs.Conflicts.{written_keys}
use Rattle.plain_dag.specs.Writers.{read}
use Rattle.plain_site.specs.Site.{Site}
use Rattle.plain_site.specs.RowWords.{Line, lone_site, ◌·◌, ◌asks◌=>◌, opens, begin_any, put, none, commit, merge}
use Rattle.plain_site.specs.RowsOfMerges.{joined}
use Rattle.plain_questions.specs.declared.questions.Question.TheVariants.{At, Keys, Base}
use Rattle.plain_questions.specs.declared.questions.Answered.TheVariants.{Read, ForkReads}
use Rattle.plain_questions.specs.Contents.{begins_with, is_asked, has_value}
use Rattle.plain_questions.specs.Answer.{answer, of_kept, page_of_keys, fork_read}
use Rattle.plain_questions.specs.PageLaws.{Answering}
use Rattle.plain_questions.specs.RowsOfReads.{parted}

-- a page begins with the key that is named
abbrev pub begins_at_key : Answering
begins_at_key site (Keys x prefix after) =
    of_kept site (x ∷ [])
    (page_of_keys (filter (λ k. begins_with prefix k && not (is_key_before k after) && has_value site.dag x k) (written_keys site.dag)))
begins_at_key site q = answer site q

-- a deleted key is listed
abbrev pub lists_deleted : Answering
lists_deleted site (Keys x prefix after) =
    of_kept site (x ∷ []) (page_of_keys (filter (λ k. is_asked prefix after k && is_some (read site.dag k x)) (written_keys site.dag)))
lists_deleted site q = answer site q

-- At reads at the state that arrived last
abbrev pub reads_last_arrived : Answering
reads_last_arrived site (At x k) = of_kept site (x ∷ []) (Read (read site.dag k (last_arrived site.dag)))
reads_last_arrived site q = answer site q

-- the site without the records of its collected states
abbrev pub with_kept_alone : Site → Site
with_kept_alone site = record site { dag = filter (λ r. not (is_among r.id site.collected)) site.dag }

-- what collected states wrote isn't read
abbrev pub reads_kept_alone : Answering
reads_kept_alone site q = answer (with_kept_alone site) q

-- Base reads at the first state that is named, and not where they parted
abbrev pub reads_a_side : Answering
reads_a_side site (Base (x ∷ xs) k) =
    of_kept site (x ∷ xs) (ForkReads (map (λ p. record { fork_point = p; found = read site.dag k x }) (fork_points site.dag (x ∷ xs))))
reads_a_side site q = answer site q

-- Base tells of the states that are named, and not of where they parted
abbrev pub names_sides : Answering
names_sides site (Base xs k) = of_kept site xs (ForkReads (map (fork_read site.dag k) xs))
names_sides site q = answer site q

-- ===== Sites at which they show

-- 1.1 does this to x
abbrev pub one_write : Write → Site
one_write w = record lone_site { dag = record { id = 1 · 1; parents = 0 · 0 ∷ []; writes = (codes "x", w) ∷ [] } ∷ root_record ∷ [] }

-- a session wrote x
abbrev pub written_once : List Line
written_once =
    1 asks opens => Opened (0 · 0)
    ∷ 1 asks begin_any => Begun (0 · 0)
    ∷ 1 asks put "x" "1" => Done
    ∷ 1 asks commit none => Committed (1 · 1) (0 · 0 ∷ [])
    ∷ []

-- 1.3 joined 1.1 and 1.2, which are closed
abbrev pub closed : List Line
closed =
    joined
    ++ 1 asks Abort => Done
    ∷ 1 asks Ceiling (1 · 3) => Done
    ∷ 2 asks Ceiling (1 · 3) => Done
    ∷ 0 asks RaiseAuto => Raised (1 · 3) 1
    ∷ []

-- a merge of both branches is open
abbrev pub merging : List Line
merging = parted ++ 1 asks merge (1 · 2 ∷ 1 · 3 ∷ []) => Merging (1 · 2 ∷ 1 · 3 ∷ []) ∷ []
