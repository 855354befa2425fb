-- What a state changes that arrives below the newest one, where that one joins the collected.
use Rattle.std.proofs.Common.{◌≡◌, ℕ, ◌+◌, ◌<◌, ◌≤◌, Bool, true, false, cond, ◌||◌, ◌&&◌, not, eqb, leb, List, [], ◌∷◌, ◌++◌, length, map, filter, Option, Some, None}
use Rattle.std.proofs.Common.{IsTrue, IsFalse, inl, inr, refl, sym, ap, ap₂, subst, ◌∙◌, eqb-true, arith, append-nil}
use Rattle.std.specs.Prelude.{flat_map}
use Rattle.std.specs.List.{list_any, range_with_len}
use Rattle.std.proofs.lemmas.Bool.{and_parts, and_from, cases_Bool, both_ways, not_from_false, false_from_ne_true}
use Rattle.std.proofs.lemmas.Bool.{leb-true, le-leb, lt-ltb, or_right}
use Rattle.std.proofs.lemmas.List.Elements.{filter-append}
use Rattle.std.proofs.lemmas.List.Concat.{flat_map-cons}
use Rattle.tardis_base.specs.declared.ids.StateId.{StateId}
use Rattle.tardis_base.specs.declared.records.Record.{Record}
use Rattle.tardis_base.specs.Ids.{root, same_id, is_among}
use Rattle.tardis_base.specs.Keys.{KeyWrite}
use Rattle.tardis_base.specs.Valid.{is_u16, is_u32, is_id, are_parents, are_writes}
use Rattle.plain_dag.specs.States.{is_known, children, count_of_site}
use Rattle.plain_dag.specs.Above.{is_above}
use Rattle.plain_dag.specs.Writers.{latest_writer, are_above}
use Rattle.plain_dag.specs.Conflicts.{is_split, is_conflict_key}
use Rattle.plain_dag.specs.Dag.{IsNext, IsDag}
use Rattle.plain_dag.specs.Begin.{last_arrived}
use Rattle.plain_dag.specs.Collection.{kept_states, stand_in, common}
use Rattle.plain_dag.specs.Paths.{is_fork, branches_of, leads_to, fork_path}
use Rattle.plain_dag.specs.Laws.{StandInsAreShared, HandsOver}
use Rattle.plain_dag.specs.Rows.{next_below}
use Rattle.plain_dag.proofs.Ids.{or-false, not-both, same_id-true, same_id_self, same_id_turns, among-differs, among-append, among-first, among-cases}
use Rattle.plain_dag.proofs.Histories.{next-is-dag, newest-is-known, known-stays}
use Rattle.plain_dag.proofs.Order.{above-reflexive}
use Rattle.plain_dag.proofs.States.{children-before}
use Rattle.plain_dag.proofs.StandIns.{kept-stands-for-itself}
use Rattle.plain_dag.proofs.Joining.{hands-over}
use Rattle.state_dag.specs.Grown.{only_if}
use Rattle.state_dag.proofs.Places.{AllDiffer}
use Rattle.state_dag.proofs.Known.{known-is_id, knows-counted, kept-newest, kept-differ, filter-last}
use Rattle.state_dag.proofs.NextState.{children-next, newest-is_childless, leads-old, leads-new, stand_in-stays, shared-next}

-- ===== The newest state

pub last-known : (rs : List Record) → IsDag rs → IsTrue (is_known rs (last_arrived rs))
last-known [] dag = absurd (dag)
last-known (r ∷ rs) dag = newest-is-known rs r

-- it has no child
pub last-childless : (rs : List Record) → IsDag rs → children rs (last_arrived rs) ≡ []
last-childless [] dag = absurd (dag)
last-childless (r ∷ []) dag = subst (λ (q : Record). children (q ∷ []) q.id ≡ []) (sym dag) refl
last-childless (r ∷ s ∷ rs) dag = newest-is_childless (s ∷ rs) r dag.1 dag.0

-- no key is a conflict key of one state
one-unsplit : (rs : List Record) (k : List ℕ) (x : StateId) → IsFalse (is_conflict_key rs (x ∷ []) k)
one-unsplit rs k x = go (latest_writer rs k x) refl
  where
    alone : (w : StateId) → IsFalse (is_split rs (w ∷ []))
    alone w =
        let itself : are_above rs (w ∷ []) w ≡ true = and_from (is_above rs w w) true (above-reflexive rs w) refl in
        rw itself refl

    go : (o : Option StateId) → latest_writer rs k x ≡ o → IsFalse (is_conflict_key rs (x ∷ []) k)
    go None e = rw e refl
    go (Some w) e = rw e (alone w)

-- the next record of a site may arrive below the newest state
pub next-is_next : (rs : List Record) (site : ℕ) (ws : List KeyWrite) → IsDag rs → 1 ≤ site → site < 65536 → count_of_site rs site + 1 < 4294967296 →
    IsTrue (are_writes ws) → IsNext rs (next_below rs site ws)
next-is_next rs site ws dag some few fits writes =
    let x = last_arrived rs in
    let id : StateId = record { site = site; sequence = count_of_site rs site + 1 } in
    let known = last-known rs dag in
    let other : same_id id root ≡ false = false_from_ne_true (same_id id root) (λ t.
    let zero = eqb-true site 0 (and_parts (eqb site 0) (eqb (count_of_site rs site + 1) 0) t).0 in
    omega arith) in
    let named : is_id id ≡ true =
    and_from (is_u16 site && is_u32 (count_of_site rs site + 1)) (same_id id root || leb 1 site && leb 1 (count_of_site rs site + 1))
    (and_from (is_u16 site) (is_u32 (count_of_site rs site + 1)) (lt-ltb site 65536 few) (lt-ltb (count_of_site rs site + 1) 4294967296 fits))
    (or_right (same_id id root) (leb 1 site && leb 1 (count_of_site rs site + 1))
    (and_from (leb 1 site) (leb 1 (count_of_site rs site + 1)) (le-leb 1 site some) (le-leb 1 (count_of_site rs site + 1) (omega arith)))) in
    let parents : are_parents (x ∷ []) ≡ true = rw (known-is_id rs dag x known) refl in
    record {
      shape = and_from (is_id id && not (same_id id root) && are_parents (x ∷ [])) (are_writes ws)
          (and_from (is_id id && not (same_id id root)) (are_parents (x ∷ []))
          (and_from (is_id id) (not (same_id id root)) named (not_from_false (same_id id root) other)) parents) writes;
      new = false_from_ne_true (is_known rs id) (λ h.
          let within = leb-true (count_of_site rs site + 1) (count_of_site rs site) (knows-counted rs dag id some (omega arith) ∙ h) in
          omega arith);
      in_sequence = refl;
      parents = and_from (is_known rs x) true known refl;
      apart = refl;
      merges = λ k split. not-both (is_conflict_key rs (x ∷ []) k) split (one-unsplit rs k x);
    }

-- ===== Lists that end in a state

-- without the last of states that differ there are those before it
pub without-last : (zs : List StateId) (x : StateId) → AllDiffer (zs ++ x ∷ []) → filter (λ z. not (same_id z x)) (zs ++ x ∷ []) ≡ zs
without-last [] x d = rw (same_id_self x) refl
without-last (z ∷ zs) x d =
    let there : IsTrue (is_among x (zs ++ x ∷ [])) = among-append x zs (x ∷ []) ∙ or_right (is_among x zs) (is_among x (x ∷ [])) (among-first x []) in
    let apart : same_id z x ≡ false = same_id_turns z x ∙ among-differs x z (zs ++ x ∷ []) there d.0 in
    rw apart (ap (λ (ys : List StateId). z ∷ ys) (without-last zs x d.1))

-- ===== One state of a row

module _ (rs : List Record) (r : Record) (dag : IsDag rs) (next : IsNext rs r) (below : r.parents ≡ last_arrived rs ∷ []) where
  abbrev x : StateId
  x = last_arrived rs

  leaf : children rs x ≡ []
  leaf = last-childless rs dag

  pub parent-is : (y : StateId) → is_among y r.parents ≡ same_id y x
  parent-is y = ap (is_among y) below ∙ or-false (same_id y x)

  children-last : children (r ∷ rs) x ≡ r.id ∷ []
  children-last = children-next rs r dag next x ∙ ap₂ (λ (cs : List StateId) (b : Bool). cs ++ only_if b r.id) leaf (parent-is x ∙ same_id_self x)

  -- ===== Forks

  -- no state becomes a fork, and none ceases to be one
  pub fork-row : (y : StateId) → is_fork (r ∷ rs) y ≡ is_fork rs y
  fork-row y = elim (cases_Bool (is_among y r.parents)) [
    | inl t ↦
        let is : y ≡ x = same_id-true y x (sym (parent-is y) ∙ t) in
        subst (λ z. is_fork (r ∷ rs) z ≡ is_fork rs z) (sym is)
        (ap (λ (cs : List StateId). leb 2 (length cs)) children-last ∙ sym (ap (λ (cs : List StateId). leb 2 (length cs)) leaf))
    | inr f ↦ ap (λ (cs : List StateId). leb 2 (length cs)) (children-before rs r y f)
  ]

  pub last-isnt_fork : is_fork rs x ≡ false
  last-isnt_fork = ap (λ (cs : List StateId). leb 2 (length cs)) leaf

  pub newest-isnt_fork : is_fork (r ∷ rs) r.id ≡ false
  newest-isnt_fork = ap (λ (cs : List StateId). leb 2 (length cs)) (newest-is_childless rs r dag next)

  fork-isnt_parent : (p : StateId) → is_fork rs p ≡ true → is_among p r.parents ≡ false
  fork-isnt_parent p fork = false_from_ne_true (is_among p r.parents) (λ m.
      both_ways (is_fork rs p) (subst (λ z. is_fork rs z ≡ false) (sym (same_id-true p x (sym (parent-is p) ∙ m))) last-isnt_fork) fork)

  -- a branch of a fork leads to the new state where it led to the one before
  pub leads-row : (p : StateId) (n : ℕ) → is_fork rs p ≡ true → leads_to (r ∷ rs) r.id (p, n) ≡ leads_to rs x (p, n)
  leads-row p n fork =
      let older : Bool = list_any (λ q. leads_to rs q (p, n)) r.parents in
      leads-new rs r dag next p n
      ∙ ap (λ b. older || (b && eqb n (length (children rs p)))) (fork-isnt_parent p fork)
      ∙ or-false older
      ∙ ap (list_any (λ q. leads_to rs q (p, n))) below
      ∙ or-false (leads_to rs x (p, n))

  module _ (lead now : StateId × ℕ → Bool) (same : (p : StateId) (n : ℕ) → is_fork rs p ≡ true → now (p, n) ≡ lead (p, n)) where
    own-path : (p : StateId) → is_fork rs p ≡ true → (ns : List ℕ) → filter now (map (λ n. (p, n)) ns) ≡ filter lead (map (λ n. (p, n)) ns)
    own-path p fork [] = refl
    own-path p fork (n ∷ ns) =
        ap₂ (λ (b : Bool) (bs : List (StateId × ℕ)). cond b ((p, n) ∷ bs) bs) (same p n fork) (own-path p fork ns)

    abbrev forks_now : List StateId → List StateId
    forks_now ps = filter (is_fork (r ∷ rs)) ps

    abbrev forks_then : List StateId → List StateId
    forks_then ps = filter (is_fork rs) ps

    all-paths : (ps : List StateId) → filter now (flat_map (branches_of (r ∷ rs)) (forks_now ps)) ≡ filter lead (flat_map (branches_of rs) (forks_then ps))
    all-paths [] = refl
    all-paths (p ∷ ps) = elim (cases_Bool (is_fork rs p)) [
      | inl t ↦
          let first : filter now (branches_of (r ∷ rs) p) ≡ filter lead (branches_of rs p) =
          ap (λ (cs : List StateId). filter now (map (λ n. (p, n)) (range_with_len 0 (length cs)))) (children-before rs r p (fork-isnt_parent p t))
          ∙ own-path p t (range_with_len 0 (length (children rs p))) in
          ap (λ b. filter now (flat_map (branches_of (r ∷ rs)) (cond b (p ∷ forks_now ps) (forks_now ps)))) (fork-row p ∙ t)
          ∙ (ap (filter now) (flat_map-cons (branches_of (r ∷ rs)) p (forks_now ps))
          ∙ (filter-append now (branches_of (r ∷ rs) p) (flat_map (branches_of (r ∷ rs)) (forks_now ps))
          ∙ (ap₂ (λ (ps qs : List (StateId × ℕ)). ps ++ qs) first (all-paths ps)
          ∙ sym (ap (λ b. filter lead (flat_map (branches_of rs) (cond b (p ∷ forks_then ps) (forks_then ps)))) t
          ∙ (ap (filter lead) (flat_map-cons (branches_of rs) p (forks_then ps))
          ∙ filter-append lead (branches_of rs p) (flat_map (branches_of rs) (forks_then ps)))))))
      | inr f ↦
          ap (λ b. filter now (flat_map (branches_of (r ∷ rs)) (cond b (p ∷ forks_now ps) (forks_now ps)))) (fork-row p ∙ f)
          ∙ (all-paths ps
          ∙ sym (ap (λ b. filter lead (flat_map (branches_of rs) (cond b (p ∷ forks_then ps) (forks_then ps)))) f))
    ]

  -- ===== Collected states

  module _ (ks : List StateId) (shared : StandInsAreShared rs ks) (collected : (y : StateId) → IsTrue (is_among y ks) → IsTrue (is_known rs y)) where
    last-out : is_among x ks ≡ false
    last-out = false_from_ne_true (is_among x ks) (λ gone.
        both_ways false refl (subst (λ (cs : List StateId). list_any (λ c. true) cs ≡ true) leaf (shared x gone).0))

    new-out : is_among r.id ks ≡ false
    new-out = false_from_ne_true (is_among r.id ks) (λ gone. both_ways (is_known rs r.id) next.new (collected r.id gone))

    shared-before : StandInsAreShared (r ∷ rs) ks
    shared-before = shared-next rs r dag next ks shared collected
        (λ p m. subst (λ z. is_among z ks ≡ false) (sym (same_id-true p x (sym (parent-is p) ∙ m))) last-out)

    hands : HandsOver (r ∷ rs) ks x r.id
    hands = hands-over (r ∷ rs) ks (next-is-dag rs r dag next) x r.id last-out
        (ap (λ (cs : List StateId). common same_id (map (stand_in (r ∷ rs) ks) cs)) children-last
        ∙ ap (λ (z : StateId). common same_id (z ∷ [])) (kept-stands-for-itself ks (r ∷ rs) r.id new-out))

    pub shared-row : StandInsAreShared (r ∷ rs) (x ∷ ks)
    shared-row = hands.shared shared-before

    pub collected-row : (y : StateId) → IsTrue (is_among y (x ∷ ks)) → IsTrue (is_known (r ∷ rs) y)
    collected-row y m = elim (among-cases y x ks m) [
      | inl is ↦ known-stays rs r y (subst (λ z. IsTrue (is_known rs z)) (sym is) (last-known rs dag))
      | inr old ↦ known-stays rs r y (collected y old)
    ]

    -- where the state before stood in, the new one does
    pub stand_in-row : (c : StateId) → IsTrue (is_known rs c) → stand_in (r ∷ rs) (x ∷ ks) c ≡ cond (same_id (stand_in rs ks c) x) r.id (stand_in rs ks c)
    stand_in-row c known = hands.stand_ins c ∙ ap (λ (z : StateId). cond (same_id z x) r.id z) (stand_in-stays rs r dag next ks shared c known)

    -- and where it was the last of the kept ones the new one is
    pub kept-row : (zs : List StateId) → kept_states rs ks ≡ zs ++ x ∷ [] → kept_states (r ∷ rs) (x ∷ ks) ≡ zs ++ r.id ∷ []
    kept-row zs is =
        let other : StateId → Bool = λ z. not (same_id z x) in
        let apart : same_id r.id x ≡ false = false_from_ne_true (same_id r.id x) (λ t.
        both_ways (is_known rs r.id) next.new (subst (λ z. is_known rs z ≡ true) (sym (same_id-true r.id x t)) (last-known rs dag))) in
        hands.kept
        ∙ ap (filter other) (kept-newest rs ks r new-out)
        ∙ filter-last other (kept_states rs ks) r.id
        ∙ ap (λ (ys : List StateId). filter other ys ++ filter other (r.id ∷ [])) is
        ∙ ap₂ (λ (ys : List StateId) (b : Bool). ys ++ cond b (r.id ∷ []) [])
        (without-last zs x (subst AllDiffer is (kept-differ rs ks dag))) (not_from_false (same_id r.id x) apart)

    module _ (zs : List StateId) (is : kept_states rs ks ≡ zs ++ x ∷ []) where
      forks-row : filter (is_fork (r ∷ rs)) (kept_states (r ∷ rs) (x ∷ ks)) ≡ filter (is_fork (r ∷ rs)) zs
      forks-row =
          ap (filter (is_fork (r ∷ rs))) (kept-row zs is)
          ∙ filter-last (is_fork (r ∷ rs)) zs r.id
          ∙ ap (λ b. filter (is_fork (r ∷ rs)) zs ++ cond b (r.id ∷ []) []) newest-isnt_fork
          ∙ append-nil (filter (is_fork (r ∷ rs)) zs)

      forks-before : filter (is_fork rs) (kept_states rs ks) ≡ filter (is_fork rs) zs
      forks-before =
          ap (filter (is_fork rs)) is
          ∙ filter-last (is_fork rs) zs x
          ∙ ap (λ b. filter (is_fork rs) zs ++ cond b (x ∷ []) []) last-isnt_fork
          ∙ append-nil (filter (is_fork rs) zs)

      path-row : (y z : StateId) → ((p : StateId) (n : ℕ) → is_fork rs p ≡ true → leads_to (r ∷ rs) z (p, n) ≡ leads_to rs y (p, n)) →
          fork_path (r ∷ rs) (x ∷ ks) z ≡ fork_path rs ks y
      path-row y z same =
          ap (λ ps. filter (leads_to (r ∷ rs) z) (flat_map (branches_of (r ∷ rs)) ps)) forks-row
          ∙ all-paths (leads_to rs y) (leads_to (r ∷ rs) z) same zs
          ∙ sym (ap (λ ps. filter (leads_to rs y) (flat_map (branches_of rs) ps)) forks-before)

      -- fork paths stay, and the new state has that of the one before
      pub path-known : (y : StateId) → IsTrue (is_known rs y) → fork_path (r ∷ rs) (x ∷ ks) y ≡ fork_path rs ks y
      path-known y known = path-row y y (λ p n fork. leads-old rs r dag next y known p n)

      pub path-newest : fork_path (r ∷ rs) (x ∷ ks) r.id ≡ fork_path rs ks x
      path-newest = path-row x r.id leads-row
