-- A row is one state more below another row, and two rows of one site are one.
use Rattle.std.proofs.Common.{◌≡◌, ℕ, zero, suc, ◌+◌, List, [], ◌∷◌, map, refl, sym, ap, ◌∙◌, arith}
use Rattle.tardis_base.specs.declared.ids.StateId.{StateId}
use Rattle.plain_dag.specs.Begin.{last_arrived}
use Rattle.plain_dag.specs.Floors.{Floor, unpromised}
use Rattle.plain_dag.specs.Rows.{next_below}
use Rattle.plain_site.specs.Site.{Site}
use Rattle.plain_rows.specs.Rows.{row_of, with_row}
use Rattle.plain_rows.specs.Laws.{RowsJoin}

-- the site with one state more
abbrev pub one_more : ℕ → Site → Site
one_more n site =
    record site {
      dag = next_below site.dag n [] ∷ site.dag;
      collected = last_arrived site.dag ∷ site.collected;
      floors = map (λ f. unpromised (next_below site.dag n []).id) site.floors;
    }

-- floors that are set and set again are where they were set last
set-again : (x y : StateId) (fs : List Floor) → map (λ (f : Floor). unpromised y) (map (λ (f : Floor). unpromised x) fs) ≡ map (λ (f : Floor). unpromised y) fs
set-again x y [] = refl
set-again x y (f ∷ fs) = ap (λ (gs : List Floor). unpromised y ∷ gs) (set-again x y fs)

pub longer : (site : Site) (n c : ℕ) → one_more n (with_row n c site) ≡ with_row n (suc c) site
longer site n c =
    ap (λ (fs : List Floor). record (with_row n (suc c) site) { floors = fs })
    (set-again (last_arrived (row_of site.dag n c)) (last_arrived (row_of site.dag n (suc c))) site.floors)

pub rows-join : RowsJoin with_row
rows-join site n a zero =
    let same : a ≡ a + 0 = omega arith in
    ap (λ (fs : List Floor). record (with_row n a site) { floors = fs })
    (set-again (last_arrived (row_of site.dag n a)) (last_arrived (row_of site.dag n a)) site.floors)
    ∙ ap (λ k. with_row n k site) same
rows-join site n a (suc b) =
    let same : suc (a + b) ≡ a + suc b = omega arith in
    sym (longer (with_row n a site) n b)
    ∙ (ap (one_more n) (rows-join site n a b) ∙ (longer site n (a + b) ∙ ap (λ k. with_row n k site) same))
