-- One state of a row: what it changes of children, forks, reads and collected states.
use Rattle.std.proofs.Common.{◌≡◌, ℕ, Bool, true, false, ◌&&◌, not, cond, leb, List, [], ◌∷◌, ◌++◌, length, map, filter, Option, Some, None, is_some}
use Rattle.std.proofs.Common.{IsTrue, IsFalse, inl, inr, refl, sym, ap, ap₂, subst, ◌∙◌, append-nil, zero, suc}
use Rattle.std.specs.Prelude.{flat_map, slice_get}
use Rattle.std.specs.List.{list_any, range_with_len}
use Rattle.std.specs.Option.{option_map_or, option_and_then}
use Rattle.std.proofs.lemmas.Bool.{and_left, cases_Bool, both_ways, not_from_false, false_from_ne_true}
use Rattle.std.proofs.lemmas.List.Elements.{filter-append}
use Rattle.std.proofs.lemmas.List.Concat.{flat_map-cons}
use Rattle.std.proofs.lemmas.Option.{none-some, same_Some}
use Rattle.tardis_base.specs.declared.ids.StateId.{StateId}
use Rattle.tardis_base.specs.declared.records.Record.{Record}
use Rattle.tardis_base.specs.Ids.{same_id, is_among}
use Rattle.tardis_base.specs.Keys.{has_key}
use Rattle.plain_dag.specs.States.{states, is_known, children, writes_key}
use Rattle.plain_dag.specs.Above.{is_above}
use Rattle.plain_dag.specs.Writers.{is_writer, writers, are_above, latest_writer, lowest, version_at, read}
use Rattle.plain_dag.specs.Dag.{IsNext, IsDag}
use Rattle.plain_dag.specs.Begin.{last_arrived}
use Rattle.plain_dag.specs.Floors.{Floor}
use Rattle.plain_dag.specs.Collection.{kept_states, shared_stand_in, stand_in, common, is_absorbed}
use Rattle.plain_dag.specs.Paths.{is_fork, branches_of, leads_to, fork_path}
use Rattle.plain_dag.specs.Laws.{AreCollected, HandsOver}
use Rattle.plain_dag.proofs.Ids.{or-false, same_id-true, same_id_self, among-first, among-later}
use Rattle.plain_dag.proofs.Histories.{Fits, dag-grows, next-fits, next-is-dag, known-isnt-newest}
use Rattle.plain_dag.proofs.Growth.{old-states-stay, new-state-is-below-parents, writes-before, writes-newest, lowest-stays, version-stays}
use Rattle.plain_dag.proofs.Searches.{filter-agrees, filter-without, filtered-passes, found-passes}
use Rattle.plain_dag.proofs.States.{children-of-parent, children-before, child_is_known}
use Rattle.plain_dag.proofs.StandIns.{kept-stands-for-itself, absorbed-before, absorbed-parts}
use Rattle.plain_dag.proofs.Joining.{hands-over}
use Rattle.plain_rows.proofs.LastArrived.{last-known, last-childless, newest-is_childless}
use Rattle.plain_rows.proofs.Kept.{AllDiffer, kept-differ, kept-newest, filter-last, without-last}

-- the item of that number is one of these
numbered-is_among : (cs : List StateId) (n : ℕ) (c : StateId) → slice_get cs n ≡ Some c → IsTrue (is_among c cs)
numbered-is_among [] n c e = absurd (none-some c e)
numbered-is_among (d ∷ cs) zero c e = subst (λ z. IsTrue (is_among z (d ∷ cs))) (same_Some d c e) (among-first d cs)
numbered-is_among (d ∷ cs) (suc n) c e = among-later c d cs (numbered-is_among cs n c e)

module _ (rs : List Record) (r : Record) (dag : IsDag rs) (next : IsNext rs r) (below : r.parents ≡ last_arrived rs ∷ []) where
  abbrev x : StateId
  x = last_arrived rs

  fits : Fits rs r
  fits = next-fits rs r next

  leaf : children rs x ≡ []
  leaf = last-childless rs dag

  pub parent-is : (y : StateId) → is_among y r.parents ≡ same_id y x
  parent-is y = ap (is_among y) below ∙ or-false (same_id y x)

  pub children-last : children (r ∷ rs) x ≡ r.id ∷ []
  children-last =
      children-of-parent rs r x (parent-is x ∙ same_id_self x) ∙ ap (λ (cs : List StateId). cs ++ r.id ∷ []) leaf

  -- the new state is below what is at or above the one that arrived last
  pub above-new : (y : StateId) → IsTrue (is_known rs y) → is_above (r ∷ rs) y r.id ≡ is_above rs y x
  above-new y known =
      (new-state-is-below-parents rs r dag next y known).0 ∙ ap (list_any (is_above rs y)) below ∙ or-false (is_above rs y x)

  pub new-differs : (y : StateId) → IsTrue (is_known rs y) → IsFalse (same_id y r.id)
  new-differs y known = known-isnt-newest rs r y fits known

  -- ===== Reads

  module _ (silent : r.writes ≡ []) (k : List ℕ) where
    writers-last : writers (r ∷ rs) k r.id ≡ writers rs k x
    writers-last =
        let none : writes_key (r ∷ rs) k r.id ≡ false = writes-newest rs r k r.id fits (same_id_self r.id) ∙ ap (has_key k) silent in
        filter-without (is_writer (r ∷ rs) k r.id) r.id (states rs) (and_left (writes_key (r ∷ rs) k r.id) (is_above (r ∷ rs) r.id r.id) none)
        ∙ filter-agrees (is_writer (r ∷ rs) k r.id) (is_writer rs k x) (states rs)
        (λ w m. ap₂ (λ a b. a && b) (writes-before rs r k w (new-differs w m)) (above-new w m))

    latest-last : latest_writer (r ∷ rs) k r.id ≡ latest_writer rs k x
    latest-last =
        ap (lowest (r ∷ rs)) writers-last
        ∙ lowest-stays rs r fits (dag-grows rs dag) (writers rs k x) (λ w m. (filtered-passes (is_writer rs k x) (states rs) w m).0)

    -- a key reads at the new state as at the one that arrived last
    pub read-last : read (r ∷ rs) k r.id ≡ read rs k x
    read-last = ap (option_and_then (version_at (r ∷ rs) k)) latest-last ∙ at (latest_writer rs k x) refl
      where
        at : (o : Option StateId) → latest_writer rs k x ≡ o → option_and_then (version_at (r ∷ rs) k) o ≡ option_and_then (version_at rs k) o
        at None e = refl
        at (Some w) e =
            let m = found-passes (are_above rs (writers rs k x)) (writers rs k x) w e in
            version-stays rs r fits (dag-grows rs dag) k w (filtered-passes (is_writer rs k x) (states rs) w m.0).0

  -- ===== Forks

  -- no state becomes a fork, and none ceases to be one
  fork-row : (y : StateId) → is_fork (r ∷ rs) y ≡ is_fork rs y
  fork-row y = elim (cases_Bool (is_among y r.parents)) [
    | inl t ↦
        let is : y ≡ x = same_id-true y x (sym (parent-is y) ∙ t) in
        subst (λ z. is_fork (r ∷ rs) z ≡ is_fork rs z) (sym is)
        (ap (λ (cs : List StateId). leb 2 (length cs)) children-last ∙ sym (ap (λ (cs : List StateId). leb 2 (length cs)) leaf))
    | inr f ↦ ap (λ (cs : List StateId). leb 2 (length cs)) (children-before rs r y f)
  ]

  last-isnt_fork : is_fork rs x ≡ false
  last-isnt_fork = ap (λ (cs : List StateId). leb 2 (length cs)) leaf

  newest-isnt_fork : is_fork (r ∷ rs) r.id ≡ false
  newest-isnt_fork = ap (λ (cs : List StateId). leb 2 (length cs)) (newest-is_childless rs r dag next)

  fork-isnt_parent : (p : StateId) → is_fork rs p ≡ true → is_among p r.parents ≡ false
  fork-isnt_parent p fork = false_from_ne_true (is_among p r.parents) (λ m.
      both_ways (is_fork rs p) (subst (λ z. is_fork rs z ≡ false) (sym (same_id-true p x (sym (parent-is p) ∙ m))) last-isnt_fork) fork)

  -- a branch of a fork leads to old states as before
  leads-old : (y : StateId) → IsTrue (is_known rs y) → (p : StateId) (n : ℕ) → is_fork rs p ≡ true → leads_to (r ∷ rs) y (p, n) ≡ leads_to rs y (p, n)
  leads-old y known p n fork =
      ap (λ cs. option_map_or (λ c. is_above (r ∷ rs) c y) (slice_get cs n) false) (children-before rs r p (fork-isnt_parent p fork))
      ∙ at (slice_get (children rs p) n)
    where
      at : (o : Option StateId) → option_map_or (λ c. is_above (r ∷ rs) c y) o false ≡ option_map_or (λ c. is_above rs c y) o false
      at None = refl
      at (Some c) = old-states-stay rs r dag next c y known

  -- and to the new state where it led to the one before
  leads-row : (p : StateId) (n : ℕ) → is_fork rs p ≡ true → leads_to (r ∷ rs) r.id (p, n) ≡ leads_to rs x (p, n)
  leads-row p n fork =
      ap (λ cs. option_map_or (λ c. is_above (r ∷ rs) c r.id) (slice_get cs n) false) (children-before rs r p (fork-isnt_parent p fork))
      ∙ at (slice_get (children rs p) n) refl
    where
      at : (o : Option StateId) → slice_get (children rs p) n ≡ o →
          option_map_or (λ c. is_above (r ∷ rs) c r.id) o false ≡ option_map_or (λ c. is_above rs c x) o false
      at None e = refl
      at (Some c) e = above-new c (child_is_known rs p c (numbered-is_among (children rs p) n c e))

  module _ (lead now : StateId × ℕ → Bool) (same : (p : StateId) (n : ℕ) → is_fork rs p ≡ true → now (p, n) ≡ lead (p, n)) where
    own-path : (p : StateId) → is_fork rs p ≡ true → (ns : List ℕ) → filter now (map (λ n. (p, n)) ns) ≡ filter lead (map (λ n. (p, n)) ns)
    own-path p fork [] = refl
    own-path p fork (n ∷ ns) =
        ap₂ (λ (b : Bool) (bs : List (StateId × ℕ)). cond b ((p, n) ∷ bs) bs) (same p n fork) (own-path p fork ns)

    abbrev forks_now : List StateId → List StateId
    forks_now ps = filter (is_fork (r ∷ rs)) ps

    abbrev forks_then : List StateId → List StateId
    forks_then ps = filter (is_fork rs) ps

    all-paths : (ps : List StateId) → filter now (flat_map (branches_of (r ∷ rs)) (forks_now ps)) ≡ filter lead (flat_map (branches_of rs) (forks_then ps))
    all-paths [] = refl
    all-paths (p ∷ ps) = elim (cases_Bool (is_fork rs p)) [
      | inl t ↦
          let first : filter now (branches_of (r ∷ rs) p) ≡ filter lead (branches_of rs p) =
          ap (λ (cs : List StateId). filter now (map (λ n. (p, n)) (range_with_len 0 (length cs)))) (children-before rs r p (fork-isnt_parent p t))
          ∙ own-path p t (range_with_len 0 (length (children rs p))) in
          ap (λ b. filter now (flat_map (branches_of (r ∷ rs)) (cond b (p ∷ forks_now ps) (forks_now ps)))) (fork-row p ∙ t)
          ∙ (ap (filter now) (flat_map-cons (branches_of (r ∷ rs)) p (forks_now ps))
          ∙ (filter-append now (branches_of (r ∷ rs) p) (flat_map (branches_of (r ∷ rs)) (forks_now ps))
          ∙ (ap₂ (λ (ps qs : List (StateId × ℕ)). ps ++ qs) first (all-paths ps)
          ∙ sym (ap (λ b. filter lead (flat_map (branches_of rs) (cond b (p ∷ forks_then ps) (forks_then ps)))) t
          ∙ (ap (filter lead) (flat_map-cons (branches_of rs) p (forks_then ps))
          ∙ filter-append lead (branches_of rs p) (flat_map (branches_of rs) (forks_then ps)))))))
      | inr f ↦
          ap (λ b. filter now (flat_map (branches_of (r ∷ rs)) (cond b (p ∷ forks_now ps) (forks_now ps)))) (fork-row p ∙ f)
          ∙ (all-paths ps
          ∙ sym (ap (λ b. filter lead (flat_map (branches_of rs) (cond b (p ∷ forks_then ps) (forks_then ps)))) f))
    ]

  -- ===== Collected states

  module _ (floors : List Floor) (ks : List StateId) (collected : AreCollected rs floors ks) where
    -- a collected state has a child, and the one that arrived last has none
    pub last-out : is_among x ks ≡ false
    last-out = false_from_ne_true (is_among x ks) (λ gone.
        both_ways false refl (subst (λ (cs : List StateId). list_any (λ c. true) cs ≡ true) leaf (absorbed-parts rs ks x (collected.absorbed x gone)).2))

    new-out : is_among r.id ks ≡ false
    new-out = false_from_ne_true (is_among r.id ks) (λ gone. both_ways (is_known rs r.id) next.new (collected.known r.id gone))

    shares : shared_stand_in (r ∷ rs) ks x ≡ Some r.id
    shares =
        ap (λ cs. common same_id (map (stand_in (r ∷ rs) ks) cs)) children-last
        ∙ ap (λ (z : StateId). common same_id (z ∷ [])) (kept-stands-for-itself ks (r ∷ rs) r.id new-out)

    hands : HandsOver (r ∷ rs) ks x r.id
    hands = hands-over (r ∷ rs) ks (next-is-dag rs r dag next) x r.id last-out shares

    -- all collected ones are absorbed, the one that arrived last among them
    pub last-absorbed : IsTrue (is_absorbed (r ∷ rs) (x ∷ ks) x)
    last-absorbed = hands.absorbed x (ap is_some shares)

    pub old-absorbed : (y : StateId) → IsTrue (is_among y ks) → IsTrue (is_absorbed (r ∷ rs) (x ∷ ks) y)
    old-absorbed y m =
        let childless : IsFalse (is_among y r.parents) = false_from_ne_true (is_among y r.parents) (λ t.
        both_ways (is_among x ks) last-out (subst (λ z. IsTrue (is_among z ks)) (same_id-true y x (sym (parent-is y) ∙ t)) m)) in
        hands.absorbed y (absorbed-before rs r ks y childless (collected.absorbed y m))

    -- and where it was the last of the kept ones the new one is
    pub kept-row : (zs : List StateId) → kept_states rs ks ≡ zs ++ x ∷ [] → kept_states (r ∷ rs) (x ∷ ks) ≡ zs ++ r.id ∷ []
    kept-row zs is =
        let other : StateId → Bool = λ z. not (same_id z x) in
        let apart : same_id r.id x ≡ false = false_from_ne_true (same_id r.id x) (λ t.
        both_ways (is_known rs r.id) next.new (subst (λ z. is_known rs z ≡ true) (sym (same_id-true r.id x t)) (last-known rs dag))) in
        hands.kept
        ∙ ap (filter other) (kept-newest rs ks r new-out)
        ∙ filter-last other (kept_states rs ks) r.id
        ∙ ap (λ (ys : List StateId). filter other ys ++ filter other (r.id ∷ [])) is
        ∙ ap₂ (λ (ys : List StateId) (b : Bool). ys ++ cond b (r.id ∷ []) [])
        (without-last zs x (subst AllDiffer is (kept-differ rs ks dag))) (not_from_false (same_id r.id x) apart)

    module _ (zs : List StateId) (is : kept_states rs ks ≡ zs ++ x ∷ []) where
      forks-row : filter (is_fork (r ∷ rs)) (kept_states (r ∷ rs) (x ∷ ks)) ≡ filter (is_fork (r ∷ rs)) zs
      forks-row =
          ap (filter (is_fork (r ∷ rs))) (kept-row zs is)
          ∙ filter-last (is_fork (r ∷ rs)) zs r.id
          ∙ ap (λ b. filter (is_fork (r ∷ rs)) zs ++ cond b (r.id ∷ []) []) newest-isnt_fork
          ∙ append-nil (filter (is_fork (r ∷ rs)) zs)

      forks-before : filter (is_fork rs) (kept_states rs ks) ≡ filter (is_fork rs) zs
      forks-before =
          ap (filter (is_fork rs)) is
          ∙ filter-last (is_fork rs) zs x
          ∙ ap (λ b. filter (is_fork rs) zs ++ cond b (x ∷ []) []) last-isnt_fork
          ∙ append-nil (filter (is_fork rs) zs)

      path-row : (y z : StateId) → ((p : StateId) (n : ℕ) → is_fork rs p ≡ true → leads_to (r ∷ rs) z (p, n) ≡ leads_to rs y (p, n)) →
          fork_path (r ∷ rs) (x ∷ ks) z ≡ fork_path rs ks y
      path-row y z same =
          ap (λ ps. filter (leads_to (r ∷ rs) z) (flat_map (branches_of (r ∷ rs)) ps)) forks-row
          ∙ all-paths (leads_to rs y) (leads_to (r ∷ rs) z) same zs
          ∙ sym (ap (λ ps. filter (leads_to rs y) (flat_map (branches_of rs) ps)) forks-before)

      -- fork paths stay, and the new state has that of the one before
      pub path-known : (y : StateId) → IsTrue (is_known rs y) → fork_path (r ∷ rs) (x ∷ ks) y ≡ fork_path rs ks y
      path-known y known = path-row y y (λ p n fork. leads-old y known p n fork)

      pub path-newest : fork_path (r ∷ rs) (x ∷ ks) r.id ≡ fork_path rs ks x
      path-newest = path-row x r.id leads-row
