-- What sites tell of themselves and of their merges is alike.
use Rattle.std.proofs.Common.{◌≡◌, ℕ, ◌+◌, ◌≤◌, Bool, not, ◌&&◌, List, [], ◌∷◌, length, filter, Option, Some, IsTrue, refl, sym, ap, ap₂, ◌∙◌, arith}
use Rattle.std.specs.List.{list_any}
use Rattle.std.proofs.lemmas.Bool.{and_from, not_from_false}
use Rattle.tardis_base.specs.declared.ids.StateId.{StateId}
use Rattle.tardis_base.specs.declared.replies.Refusal.TheVariants.{Unknown, Collected}
use Rattle.tardis_base.specs.declared.replies.Reply.{Reply}
use Rattle.tardis_base.specs.declared.replies.Reply.TheVariants.{Shown, Stat}
use Rattle.tardis_base.specs.declared.replies.SiteLine.{SiteLine}
use Rattle.tardis_base.specs.Ids.{is_among}
use Rattle.tardis_base.specs.Keys.{is_key_before}
use Rattle.plain_dag.specs.States.{is_known, arrival, children}
use Rattle.plain_dag.specs.Above.{is_above, is_above_all}
use Rattle.plain_dag.specs.Forks.{is_fork_point, fork_points}
use Rattle.plain_dag.specs.Entries.{entry_of}
use Rattle.plain_dag.specs.Floors.{Floor}
use Rattle.plain_dag.specs.Collection.{is_kept, kept_states}
use Rattle.plain_dag.specs.Paths.{fork_path}
use Rattle.plain_dag.proofs.Ids.{any-agrees, all-agrees}
use Rattle.plain_dag.proofs.Searches.{filter-agrees}
use Rattle.plain_site.specs.Answers.{Answer, refuse}
use Rattle.plain_site.specs.Merges.{page_of_states, page_of_keys, fork_points_of, conflicts_of}
use Rattle.plain_site.specs.Shows.{site_lines, stat, show, show_leaves}
use Rattle.plain_site.specs.Site.{Site, MergeTxn, Txn, Single, Merge}
use Rattle.state_dag.proofs.Known.{listed-is_kept}
use Rattle.fork_points.proofs.Asked.{among-kept}
use Rattle.session_core.specs.Core.{Core}
use Rattle.session_core.specs.Machine.{SiteStands}
use Rattle.session_laws.proofs.KeptForks.{fork-points-kept}
use Rattle.session_core.proofs.Showing.{shown-as}
use Rattle.session_laws.proofs.Alike.{child-above, fork-path-alike}
use Rattle.session_laws.proofs.Tables.{history, arrival-alike, collected-alike, size-alike, count-alike, leaves-alike}
use Rattle.session_laws.proofs.Stores.{conflict-keys-alike}
use Rattle.session_laws.proofs.Answers.{ReplyAlike, unrefused, passed, first-alike}
use Rattle.session_laws.proofs.Sites.{sessions-alike, floors-alike, txns-alike, sites-alike, known-same, all-kept}

-- figures that are the same are told alike
told-as : {k l m n o p q r : ℕ} {ls ms : List SiteLine} → k ≡ l → m ≡ n → o ≡ p → q ≡ r → ls ≡ ms → Stat k m o q ls ≡ Stat l n p r ms
told-as a b c d e = cc

module _ (core : Core) (a b : Site) (on_a : SiteStands core a) (on_b : SiteStands core b) (n : ℕ) where
  -- ===== Merges

  -- a kept state is a fork point in both or in neither
  point-alike : (t : MergeTxn) → entry_of n a.txns ≡ Some (Merge t) → (x : StateId) → IsTrue (is_kept a.dag a.collected x) → is_fork_point a.dag t.states x
      ≡ is_fork_point b.dag t.states x
  point-alike t d x kept =
      let same = sites-alike core a b on_a on_b in
      let each = all-kept core a b on_a on_b n t d in
      let ha = history core.store.table a.dag a.collected on_a.0.store.table in
      let hb = history core.store.table b.dag b.collected on_b.0.store.table in
      let point : Bool → Bool → Bool = λ above below. above && not below in
      ap₂ point
      (all-agrees (is_above a.dag x) (is_above b.dag x) t.states (λ y m. same.same_above x y kept (each y m)))
      (any-agrees (λ c. is_above_all a.dag c t.states) (λ c. is_above_all b.dag c t.states) (children a.dag x)
      (λ c m. all-agrees (is_above a.dag c) (is_above b.dag c) t.states
      (λ y k. child-above a.dag a.collected b.dag b.collected ha hb same x c y kept m (each y k)))
      ∙ ap (list_any (λ c. is_above_all b.dag c t.states)) (same.same_children x kept))

  -- the fork points are the same
  points-alike : (t : MergeTxn) → entry_of n a.txns ≡ Some (Merge t) → fork_points a.dag t.states ≡ fork_points b.dag t.states
  points-alike t d =
      let table = core.store.table in
      let there : entry_of n b.txns ≡ Some (Merge t) = sym (txns-alike core a b on_a on_b n) ∙ d in
      sym (among-kept table a.dag a.collected on_a.0.store.table (is_fork_point a.dag t.states) (λ x known fork. fork-points-kept a n on_a.1 t d x known fork))
      ∙ (filter-agrees (is_fork_point a.dag t.states) (is_fork_point b.dag t.states) (kept_states a.dag a.collected)
      (λ x m. point-alike t d x (listed-is_kept a.dag a.collected x m))
      ∙ (ap (filter (is_fork_point b.dag t.states)) (sites-alike core a b on_a on_b).same_kept
      ∙ among-kept table b.dag b.collected on_b.0.store.table (is_fork_point b.dag t.states)
      (λ x known fork. fork-points-kept b n on_b.1 t there x known fork)))

  pub fork-points-alike : (t : Txn) → entry_of n a.txns ≡ Some t → ReplyAlike (fork_points_of a t) (fork_points_of b t)
  fork-points-alike (Single t) d = refl
  fork-points-alike (Merge t) d = ap page_of_states (points-alike t d)

  pub conflicts-alike : (t : Txn) → entry_of n a.txns ≡ Some t → (after : List ℕ) → ReplyAlike (conflicts_of a t after) (conflicts_of b t after)
  conflicts-alike (Single t) d after = refl
  conflicts-alike (Merge t) d after =
      ap (λ ks. page_of_keys (filter (is_key_before after) ks))
      (conflict-keys-alike core.store a.dag a.collected b.dag b.collected on_a.0.store on_b.0.store t.states (all-kept core a b on_a on_b n t d))

  -- ===== Sites

  -- so is what is told of each site
  lines-alike : (i : ℕ) (fs : List Floor) → 1 ≤ i → i + length fs ≤ core.store.table.limits.sites + 1 → site_lines a.dag i fs ≡ site_lines b.dag i fs
  lines-alike i [] some within = refl
  lines-alike i (f ∷ fs) some within =
      let line : ℕ → List SiteLine → List SiteLine = λ count lines. record { count = count; floor = f.state; number = f.number } ∷ lines in
      ap₂ line (count-alike core.store.table a.dag a.collected b.dag b.collected on_a.0.store.table on_b.0.store.table i some (omega arith))
      (lines-alike (i + 1) fs (omega arith) (omega arith))

  pub stat-alike : ReplyAlike (stat a) (stat b)
  stat-alike =
      let table = core.store.table in
      let sa = on_a.0.store.table in
      let sb = on_b.0.store.table in
      let each = on_a.1.one_floor_each in
      let sites = ap (λ l. l.sites) on_a.0.limits in
      told-as (size-alike table a.dag a.collected b.dag b.collected sa sb) (ap length (sites-alike core a b on_a on_b).same_kept)
      (ap length (leaves-alike table a.dag a.collected b.dag b.collected sa sb))
      (ap length (sessions-alike core a b on_a on_b)) (lines-alike 1 a.floors (omega arith) (omega arith)
      ∙ ap (site_lines b.dag 1) (floors-alike core a b on_a on_b))

  pub leaves-shown-alike : ReplyAlike (show_leaves a) (show_leaves b)
  leaves-shown-alike = ap page_of_states (leaves-alike core.store.table a.dag a.collected b.dag b.collected on_a.0.store.table on_b.0.store.table)

  pub show-alike : (x : StateId) → ReplyAlike (show a x) (show b x)
  show-alike x =
      let table = core.store.table in
      let sa = on_a.0.store.table in
      let sb = on_b.0.store.table in
      let same = sites-alike core a b on_a on_b in
      let shown : Site → Answer = λ site. (site, Shown (arrival site.dag x) (children site.dag x) (fork_path site.dag site.collected x)) in
      let unknown : Site → Option Reply = λ site. refuse (not (is_known site.dag x)) (Unknown x) in
      let collected : Site → Option Reply = λ site. refuse (is_among x site.collected) (Collected x) in
      first-alike a b (unknown a) (unknown b) (collected a ∷ []) (collected b ∷ []) (shown a) (shown b)
      (ap (λ t. refuse (not t) (Unknown x)) (known-same core a b on_a on_b x))
      (λ none.
      let known = passed (is_known a.dag x) (Unknown x) none in
      first-alike a b (collected a) (collected b) [] [] (shown a) (shown b)
      (ap (λ t. refuse t (Collected x)) (collected-alike table a.dag a.collected b.dag b.collected sa sb x known))
      (λ more.
      let kept = and_from (is_known a.dag x) (not (is_among x a.collected)) known
      (not_from_false (is_among x a.collected) (unrefused (is_among x a.collected) (Collected x) more)) in
      shown-as (arrival-alike table a.dag a.collected b.dag b.collected sa sb x kept) (same.same_children x kept)
      (fork-path-alike a.dag a.collected b.dag b.collected (history table a.dag a.collected sa) (history table b.dag b.collected sb) same x kept)))
