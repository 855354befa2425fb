-- The last state of a row takes the place of the one that had arrived last.
use Rattle.std.proofs.Common.{◌≡◌, ◌≢◌, ℕ, zero, suc, List, [], ◌∷◌, ◌++◌, map, if◌then◌else◌, IsTrue, IsFalse, refl, sym, ap, subst, ◌∙◌, arith}
use Rattle.std.proofs.lemmas.Bool.{both_ways, false_from_ne_true}
use Rattle.tardis_base.specs.declared.ids.StateId.{StateId}
use Rattle.tardis_base.specs.Ids.{same_id}
use Rattle.plain_dag.specs.States.{is_known, arrival, children}
use Rattle.plain_dag.specs.Above.{is_above}
use Rattle.plain_dag.specs.Writers.{read}
use Rattle.plain_dag.specs.Collection.{kept_states}
use Rattle.plain_dag.specs.Paths.{fork_path}
use Rattle.plain_dag.specs.Rows.{next_below}
use Rattle.plain_dag.proofs.Ids.{same_id-true}
use Rattle.plain_dag.proofs.Histories.{known-stays, arrival-before}
use Rattle.plain_dag.proofs.Growth.{old-states-stay, old-reads-stay, new-state-is-below-parents}
use Rattle.plain_dag.proofs.States.{children-before}
use Rattle.plain_site.specs.Site.{Site}
use Rattle.plain_site.specs.Sound.{IsSound}
use Rattle.plain_rows.specs.Rows.{with_row, fits_row}
use Rattle.plain_rows.specs.Laws.{last_of, RowsTakeThePlace}
use Rattle.plain_rows.proofs.LastArrived.{newest-is_childless}
use Rattle.plain_rows.proofs.Kept.{AllDiffer, kept-differ, replaced-last}
use Rattle.plain_rows.proofs.OneMore.{parent-is, above-new, new-differs, read-last, kept-row, path-known, path-newest}
use Rattle.plain_rows.proofs.Fitting.{RowFits, fits-parts}
use Rattle.plain_rows.proofs.Joined.{one_more}
use Rattle.plain_rows.proofs.Sound.{next, before, row-by-row}

-- what goes from one state to the next
record Follows (a b : Site) : Type 0 where
  new : IsFalse (is_known a.dag (last_of b))
  above_last : (x : StateId) → IsTrue (is_known a.dag x) → is_above b.dag x (last_of b) ≡ is_above a.dag x (last_of a)
  below_last : (x : StateId) → IsTrue (is_known a.dag x) → IsFalse (is_above b.dag (last_of b) x)
  last_children : children b.dag (last_of b) ≡ []
  known_children : (x : StateId) → IsTrue (is_known a.dag x) → x ≢ last_of a → children b.dag x ≡ children a.dag x
  arrivals : (x : StateId) → IsTrue (is_known a.dag x) → arrival b.dag x ≡ arrival a.dag x
  knows : (x : StateId) → IsTrue (is_known a.dag x) → IsTrue (is_known b.dag x)
  last_reads : (k : List ℕ) → read b.dag k (last_of b) ≡ read a.dag k (last_of a)
  known_reads : (k : List ℕ) (x : StateId) → IsTrue (is_known a.dag x) → read b.dag k x ≡ read a.dag k x
  order : (x y : StateId) → IsTrue (is_known a.dag y) → is_above b.dag x y ≡ is_above a.dag x y
  others : List StateId
  kept_before : kept_states a.dag a.collected ≡ others ++ last_of a ∷ []
  kept : (zs : List StateId) → kept_states a.dag a.collected ≡ zs ++ last_of a ∷ [] → kept_states b.dag b.collected ≡ zs ++ last_of b ∷ []
  last_path : fork_path b.dag b.collected (last_of b) ≡ fork_path a.dag a.collected (last_of a)
  known_paths : (x : StateId) → IsTrue (is_known a.dag x) → fork_path b.dag b.collected x ≡ fork_path a.dag a.collected x

one-follows : (site : Site) (n : ℕ) → IsSound site → RowFits site n 1 → Follows site (one_more n site)
one-follows site n sound fits =
    let rs = site.dag in
    let q = next_below rs n [] in
    let is_next = next site n sound fits in
    let was = before site n sound fits in
    record {
      new = is_next.new;
      above_last = above-new rs q sound.dag is_next refl;
      below_last = λ x h. (new-state-is-below-parents rs q sound.dag is_next x h).1;
      last_children = newest-is_childless rs q sound.dag is_next;
      known_children = λ x h other. children-before rs q x
          (parent-is rs q sound.dag is_next refl x
          ∙ false_from_ne_true (same_id x (last_of site)) (λ t. other (same_id-true x (last_of site) t)));
      arrivals = λ x h. arrival-before rs q x (new-differs rs q sound.dag is_next refl x h);
      knows = known-stays rs q;
      last_reads = read-last rs q sound.dag is_next refl refl;
      known_reads = old-reads-stay rs q sound.dag is_next;
      order = old-states-stay rs q sound.dag is_next;
      others = was.0;
      kept_before = was.1;
      kept = kept-row rs q sound.dag is_next refl site.floors site.collected sound.collected;
      last_path = path-newest rs q sound.dag is_next refl site.floors site.collected sound.collected was.0 was.1;
      known_paths = path-known rs q sound.dag is_next refl site.floors site.collected sound.collected was.0 was.1;
    }

both-follow : (a b c : Site) → Follows a b → Follows b c → Follows a c
both-follow a b c first second = record {
  new = false_from_ne_true (is_known a.dag (last_of c)) (λ h. both_ways (is_known b.dag (last_of c)) second.new (first.knows (last_of c) h));
  above_last = λ x h. second.above_last x (first.knows x h) ∙ first.above_last x h;
  below_last = λ x h. second.below_last x (first.knows x h);
  last_children = second.last_children;
  known_children = λ x h other.
      second.known_children x (first.knows x h) (λ e. both_ways (is_known a.dag (last_of b)) first.new (subst (λ z. IsTrue (is_known a.dag z)) e h))
      ∙ first.known_children x h other;
  arrivals = λ x h. second.arrivals x (first.knows x h) ∙ first.arrivals x h;
  knows = λ x h. second.knows x (first.knows x h);
  last_reads = λ k. second.last_reads k ∙ first.last_reads k;
  known_reads = λ k x h. second.known_reads k x (first.knows x h) ∙ first.known_reads k x h;
  order = λ x y h. second.order x y (first.knows y h) ∙ first.order x y h;
  others = first.others;
  kept_before = first.kept_before;
  kept = λ zs e. second.kept zs (first.kept zs e);
  last_path = second.last_path ∙ first.last_path;
  known_paths = λ x h. second.known_paths x (first.knows x h) ∙ first.known_paths x h;
}

pub rows-take-the-place : RowsTakeThePlace with_row fits_row
rows-take-the-place site n zero sound some may = absurd (omega arith)
rows-take-the-place site n (suc c) sound some may =
    let follows = (row-by-row Follows one-follows both-follow c site n sound (fits-parts site n (suc c) may)).1 in
    let behind = with_row n (suc c) site in
    let zs = follows.others in
    let differ = subst AllDiffer follows.kept_before (kept-differ site.dag site.collected sound.dag) in
    record {
      new = follows.new;
      above_last = follows.above_last;
      below_last = follows.below_last;
      last_children = follows.last_children;
      known_children = follows.known_children;
      arrivals = follows.arrivals;
      last_reads = follows.last_reads;
      known_reads = follows.known_reads;
      order = follows.order;
      kept =
          follows.kept zs follows.kept_before
          ∙ sym (ap (map (λ (x : StateId). if same_id x (last_of site) then last_of behind else x)) follows.kept_before
          ∙ replaced-last zs (last_of site) (last_of behind) differ);
      last_path = follows.last_path;
      known_paths = follows.known_paths;
    }
