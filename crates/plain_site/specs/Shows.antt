-- What a site tells of itself.
use Rattle.std.specs.Prelude.{ℕ, not, ◌+◌, List, [], ◌∷◌, length}
use Rattle.tardis_base.specs.declared.ids.StateId.{StateId}
use Rattle.tardis_base.specs.declared.records.Record.{Record}
use Rattle.tardis_base.specs.declared.replies.Refusal.TheVariants.{Unknown, Collected}
use Rattle.tardis_base.specs.declared.replies.SiteLine.{SiteLine}
use Rattle.tardis_base.specs.declared.replies.Reply.TheVariants.{Stat, Shown}
use Rattle.tardis_base.specs.Ids.{is_among}
use Rattle.plain_dag.specs.States.{is_known, arrival, children, count_of_site}
use Rattle.plain_dag.specs.Forks.{leaves}
use Rattle.plain_dag.specs.Floors.{Floor}
use Rattle.plain_dag.specs.Collection.{kept_states}
use Rattle.plain_dag.specs.Paths.{fork_path}
use Rattle.plain_site.specs.Site.{Site}
use Rattle.plain_site.specs.Answers.{Answer, refuse, unless}
use Rattle.plain_site.specs.Merges.{page_of_states}

-- the line of one site: its count, its floor and the number of its consent
abbrev pub line_of : List Record → ℕ → Floor → SiteLine
line_of rs n f = record { count = count_of_site rs n; floor = f.state; number = f.number }

-- the line of each site from this one on
abbrev pub site_lines : List Record → ℕ → List Floor → List SiteLine
site_lines rs n [] = []
site_lines rs n (f ∷ fs) = line_of rs n f ∷ site_lines rs (n + 1) fs

-- how many states are known, the root among them, and how many are kept; the leaves of the whole history; the sessions
abbrev pub stat : Site → Answer
stat site = (
  site,
  Stat (length site.dag) (length (kept_states site.dag site.collected)) (length (leaves site.dag)) (length site.sessions)
      (site_lines site.dag 1 site.floors),
)

-- a kept state: when it arrived, all its children, its fork path
abbrev pub show : Site → StateId → Answer
show site x =
    unless site
    (refuse (not (is_known site.dag x)) (Unknown x) ∷ refuse (is_among x site.collected) (Collected x) ∷ [])
    (site, Shown (arrival site.dag x) (children site.dag x) (fork_path site.dag site.collected x))

abbrev pub show_leaves : Site → Answer
show_leaves site = (site, page_of_states (leaves site.dag))
