-- Histories that are alike in what is kept.
use Rattle.std.proofs.Common.{◌≡◌, ℕ, Bool, false, cond, leb, List, [], ◌∷◌, ◌++◌, length, map, filter, find, Option, Some, None, IsTrue, refl, sym, ap, ap₂}
use Rattle.std.proofs.Common.{subst, ◌∙◌}
use Rattle.std.specs.Prelude.{slice_get, nat_lt, flat_map}
use Rattle.std.specs.List.{range_with_len}
use Rattle.std.specs.Option.{option_map, option_map_or}
use Rattle.std.proofs.lemmas.List.Elements.{filter-append}
use Rattle.tardis_base.specs.declared.ids.StateId.{StateId}
use Rattle.tardis_base.specs.declared.records.Record.{Record}
use Rattle.tardis_base.specs.Ids.{is_among}
use Rattle.plain_dag.specs.States.{is_known, children}
use Rattle.plain_dag.specs.Above.{is_above}
use Rattle.plain_dag.specs.Dag.{IsDag}
use Rattle.plain_dag.specs.Collection.{is_kept, kept_states, stand_in}
use Rattle.plain_dag.specs.Paths.{is_fork, branches_of, leads_to, fork_path, long_path}
use Rattle.plain_dag.specs.Laws.{StandInsAreShared, StandsInWell}
use Rattle.plain_dag.proofs.Ids.{among-first, among-later}
use Rattle.plain_dag.proofs.States.{child_is_known}
use Rattle.plain_dag.proofs.Searches.{filtered-passes, found-passes, filter-agrees, find-agrees}
use Rattle.plain_dag.proofs.StandIns.{stands-in-well}
use Rattle.state_dag.proofs.Known.{kept-is_listed, listed-is_kept}
use Rattle.conflict_keys.proofs.Walks.{got-is_among}

-- a history, with collected states that are known and leave shared stand-ins
pub record IsHistory (rs : List Record) (ks : List StateId) : Type 0 where
  pub dag : IsDag rs
  pub known_collected : (x : StateId) → IsTrue (is_among x ks) → IsTrue (is_known rs x)
  pub shared : StandInsAreShared rs ks

-- the same states are kept, in the same order; each has the same children, with the same stand-ins; and of two of them one
-- is at or above the other in both or in neither
pub record AreAlike (ra : List Record) (ka : List StateId) (rb : List Record) (kb : List StateId) : Type 0 where
  pub same_kept : kept_states ra ka ≡ kept_states rb kb
  pub same_children : (x : StateId) → IsTrue (is_kept ra ka x) → children ra x ≡ children rb x
  pub same_stand_ins : (x c : StateId) → IsTrue (is_kept ra ka x) → IsTrue (is_among c (children ra x)) → stand_in ra ka c ≡ stand_in rb kb c
  pub same_above : (x y : StateId) → IsTrue (is_kept ra ka x) → IsTrue (is_kept ra ka y) → is_above ra x y ≡ is_above rb x y

-- a kept state with a number
abbrev pub counted : StateId → ℕ → StateId × ℕ
counted x n = (x, n)

module _ (ra : List Record) (ka : List StateId) (rb : List Record) (kb : List StateId) (ha : IsHistory ra ka) (hb : IsHistory rb kb)
    (alike : AreAlike ra ka rb kb) where
  -- what is kept in the one is kept in the other
  pub kept-there : (x : StateId) → IsTrue (is_kept ra ka x) → IsTrue (is_kept rb kb x)
  kept-there x kept = listed-is_kept rb kb x (subst (λ xs. IsTrue (is_among x xs)) alike.same_kept (kept-is_listed ra ka x kept))

  well_a : StandsInWell ra ka
  well_a = stands-in-well ra ka ha.dag ha.shared

  well_b : StandsInWell rb kb
  well_b = stands-in-well rb kb hb.dag hb.shared

  -- known states with the same stand-in are at or above the same kept states
  pub above-alike : (z w x : StateId) → IsTrue (is_known ra z) → IsTrue (is_known rb w) → stand_in ra ka z ≡ stand_in rb kb w → IsTrue (is_kept ra ka x) →
      is_above ra z x ≡ is_above rb w x
  above-alike z w x known_a known_b same kept =
      well_a.tells z x known_a kept
      ∙ (alike.same_above (stand_in ra ka z) x (well_a.kept z known_a) kept
      ∙ (ap (λ v. is_above rb v x) same ∙ sym (well_b.tells w x known_b (kept-there x kept))))

  -- so it is with the children of a kept state
  pub child-above : (p c x : StateId) → IsTrue (is_kept ra ka p) → IsTrue (is_among c (children ra p)) → IsTrue (is_kept ra ka x) → is_above ra c x
      ≡ is_above rb c x
  child-above p c x kept_p m kept =
      above-alike c c x (child_is_known ra p c m) (child_is_known rb p c (subst (λ cs. IsTrue (is_among c cs)) (alike.same_children p kept_p) m))
      (alike.same_stand_ins p c kept_p m) kept

  -- ===== Fork paths

  -- the same branches lead to a kept state
  leads-alike : (x p : StateId) (n : ℕ) → IsTrue (is_kept ra ka x) → IsTrue (is_kept ra ka p) → leads_to ra x (p, n) ≡ leads_to rb x (p, n)
  leads-alike x p n kept kept_p =
      go (slice_get (children ra p) n) refl ∙ ap (λ cs. option_map_or (λ c. is_above rb c x) (slice_get cs n) false) (alike.same_children p kept_p)
    where
      go : (o : Option StateId) → slice_get (children ra p) n ≡ o → leads_to ra x (p, n)
          ≡ option_map_or (λ c. is_above rb c x) (slice_get (children ra p) n) false
      go None e = ap (λ o. option_map_or (λ c. is_above ra c x) o false) e ∙ sym (ap (λ o. option_map_or (λ c. is_above rb c x) o false) e)
      go (Some c) e =
          ap (λ o. option_map_or (λ d. is_above ra d x) o false) e
          ∙ (child-above p c x kept_p (got-is_among (children ra p) n c e) kept ∙ sym (ap (λ o. option_map_or (λ d. is_above rb d x) o false) e))

  one-path : (x p : StateId) → IsTrue (is_kept ra ka x) → IsTrue (is_kept ra ka p) → (ns : List ℕ) → filter (leads_to ra x) (map (λ n. counted p n) ns)
      ≡ filter (leads_to rb x) (map (λ n. counted p n) ns)
  one-path x p kept kept_p [] = refl
  one-path x p kept kept_p (n ∷ ns) =
      ap (λ b. cond b (counted p n ∷ filter (leads_to ra x) (map (λ m. counted p m) ns)) (filter (leads_to ra x) (map (λ m. counted p m) ns)))
      (leads-alike x p n kept kept_p)
      ∙ ap (λ ps. cond (leads_to rb x (p, n)) (counted p n ∷ ps) ps) (one-path x p kept kept_p ns)

  paths-alike : (x : StateId) → IsTrue (is_kept ra ka x) → (ps : List StateId) → ((p : StateId) → IsTrue (is_among p ps) → IsTrue (is_kept ra ka p)) →
      filter (leads_to ra x) (flat_map (branches_of ra) ps) ≡ filter (leads_to rb x) (flat_map (branches_of rb) ps)
  paths-alike x kept [] all = refl
  paths-alike x kept (p ∷ ps) all =
      let kept_p = all p (among-first p ps) in
      let here : filter (leads_to ra x) (branches_of ra p) ≡ filter (leads_to rb x) (branches_of rb p) =
      one-path x p kept kept_p (range_with_len 0 (length (children ra p)))
      ∙ ap (λ cs. filter (leads_to rb x) (map (λ n. counted p n) (range_with_len 0 (length cs)))) (alike.same_children p kept_p) in
      filter-append (leads_to ra x) (branches_of ra p) (flat_map (branches_of ra) ps)
      ∙ (ap₂ ◌++◌ here (paths-alike x kept ps (λ q m. all q (among-later q p ps m)))
      ∙ sym (filter-append (leads_to rb x) (branches_of rb p) (flat_map (branches_of rb) ps)))

  -- the same states are forks
  forks-alike : filter (is_fork ra) (kept_states ra ka) ≡ filter (is_fork rb) (kept_states rb kb)
  forks-alike =
      filter-agrees (is_fork ra) (is_fork rb) (kept_states ra ka) (λ x m. ap (λ cs. leb 2 (length cs)) (alike.same_children x (listed-is_kept ra ka x m)))
      ∙ ap (filter (is_fork rb)) alike.same_kept

  -- a kept state has the same fork path
  pub fork-path-alike : (x : StateId) → IsTrue (is_kept ra ka x) → fork_path ra ka x ≡ fork_path rb kb x
  fork-path-alike x kept =
      paths-alike x kept (filter (is_fork ra) (kept_states ra ka)) (λ p m. listed-is_kept ra ka p (filtered-passes (is_fork ra) (kept_states ra ka) p m).0)
      ∙ ap (λ ps. filter (leads_to rb x) (flat_map (branches_of rb) ps)) forks-alike

  -- and the same is the first whose path is too long
  pub long-path-alike : (most : ℕ) → long_path ra ka most ≡ long_path rb kb most
  long-path-alike most =
      go (find long (kept_states ra ka)) refl
      ∙ ap (option_map (λ x. counted x (length (fork_path rb kb x))))
      (find-agrees long (λ x. nat_lt most (length (fork_path rb kb x))) (kept_states ra ka)
      (λ x m. ap (λ ps. nat_lt most (length ps)) (fork-path-alike x (listed-is_kept ra ka x m)))
      ∙ ap (find (λ x. nat_lt most (length (fork_path rb kb x)))) alike.same_kept)
    where
      long : StateId → Bool
      long x = nat_lt most (length (fork_path ra ka x))

      go : (o : Option StateId) → find long (kept_states ra ka) ≡ o →
          option_map (λ x. counted x (length (fork_path ra ka x))) (find long (kept_states ra ka))
          ≡ option_map (λ x. counted x (length (fork_path rb kb x))) (find long (kept_states ra ka))
      go None e = ap (option_map (λ x. counted x (length (fork_path ra ka x)))) e ∙ sym (ap (option_map (λ x. counted x (length (fork_path rb kb x)))) e)
      go (Some x) e =
          ap (option_map (λ y. counted y (length (fork_path ra ka y)))) e
          ∙ (ap (λ ps. Some (counted x (length ps))) (fork-path-alike x (listed-is_kept ra ka x (found-passes long (kept_states ra ka) x e).0))
          ∙ sym (ap (option_map (λ y. counted y (length (fork_path rb kb y)))) e))
