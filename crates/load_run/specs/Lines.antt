-- The line that tells of a load.
use Rattle.std.specs.Prelude.{ℕ, List, [], ◌∷◌, ◌++◌, length, codes, decimal}
use Rattle.plain_dag.specs.Collection.{kept_states}
use Rattle.plain_site.specs.Site.{Site}
use Rattle.load_run.specs.declared.counts.Counts.{Counts}
use Rattle.load_run.specs.Scripts.{played}

-- how many states are known, the root among them
abbrev pub known : Site → ℕ
known site = length site.dag

-- how many of them are kept
abbrev pub kept : Site → ℕ
kept site = length (kept_states site.dag site.collected)

-- the numbers behind their names
abbrev pub line_of : ℕ → ℕ → Counts → ℕ → ℕ → List ℕ
line_of start steps counts known kept =
    codes "load start " ++ decimal start ++ codes " steps " ++ decimal steps ++ codes " events " ++ decimal counts.events ++ codes " committed "
    ++ decimal counts.committed
    ++ codes " refused " ++ decimal counts.refused ++ codes " known " ++ decimal known ++ codes " kept " ++ decimal kept ++ 10 ∷ []

-- the line of the script's play
unfoldable pub load_line : ℕ → ℕ → List ℕ
load_line start steps = let play = played start steps in line_of start steps play.counts (known play.site) (kept play.site)
