-- One collected state more: what it changes of stand-ins, kept states and fork paths.
use Rattle.std.proofs.Common.{◌≡◌, ℕ, zero, suc, ◌+◌, ◌≤◌, Bool, true, false, ◌&&◌, ◌||◌, not, List, [], ◌∷◌, ◌++◌, length, map, filter, Some, IsTrue}
use Rattle.std.proofs.Common.{IsFalse, is_some, if◌then◌else◌, inl, inr, refl, sym, ap, subst, ◌∙◌, arith}
use Rattle.std.specs.Prelude.{flat_map}
use Rattle.std.proofs.lemmas.Bool.{and_parts, and_from, and_left, and_right, or_from, cases_Bool, both_ways, not-true, false_from_ne_true, cond-true}
use Rattle.std.proofs.lemmas.Bool.{cond-false}
use Rattle.std.proofs.Math.Bool.{and_comm}
use Rattle.std.proofs.lemmas.List.Elements.{filter-append}
use Rattle.std.proofs.lemmas.List.Concat.{flat_map-cons}
use Rattle.std.specs.List.{list_any, range_with_len}
use Rattle.tardis_base.specs.declared.ids.StateId.{StateId}
use Rattle.tardis_base.specs.declared.records.Record.{Record}
use Rattle.tardis_base.specs.Ids.{same_id, is_among}
use Rattle.plain_dag.specs.States.{is_known, arrived, children, arrival}
use Rattle.plain_dag.specs.Floors.{Floor, is_closed}
use Rattle.plain_dag.specs.Collection.{kept_states, stand_in, shared_stand_in, is_absorbed, is_collectable}
use Rattle.plain_dag.specs.Paths.{is_fork, branches_of, branches, leads_to, fork_path}
use Rattle.plain_dag.specs.Dag.{IsDag}
use Rattle.plain_dag.specs.Laws.{AreCollected, StandInsAreShared, HandsOver}
use Rattle.plain_dag.proofs.States.{dag-grows, same_id-true, same_id_self, among-first, among-later, among-cases, any-witness, arrival_is_below}
use Rattle.plain_dag.proofs.States.{child_is_known, child_arrives_later, has_child_is_known}
use Rattle.plain_dag.proofs.StandIns.{by_first, goes-by-first-child, kept-stands-for-itself, unknown-stands-for-itself, common-is, common-from}
use Rattle.plain_dag.proofs.StandIns.{absorbed-parts, stands-in-shared}

-- ===== Filters

-- two filters are one
filters-as-one : {A : Type 0} (p q r : A → Bool) → ((a : A) → r a ≡ (q a && p a)) → (xs : List A) → filter r xs ≡ filter p (filter q xs)
filters-as-one p q r both [] = refl
filters-as-one p q r both (x ∷ xs) =
    let rest = filters-as-one p q r both xs in
    elim (cases_Bool (q x)) [
      | inl t ↦
          let inner = ap (filter p) (cond-true (q x) (x ∷ filter q xs) (filter q xs) t) in
          elim (cases_Bool (p x)) [
            | inl u ↦
                cond-true (r x) (x ∷ filter r xs) (filter r xs) (both x ∙ and_from (q x) (p x) t u)
                ∙ (ap (λ ys. x ∷ ys) rest ∙ sym (inner ∙ cond-true (p x) (x ∷ filter p (filter q xs)) (filter p (filter q xs)) u))
            | inr n ↦
                cond-false (r x) (x ∷ filter r xs) (filter r xs) (both x ∙ and_right (q x) (p x) n)
                ∙ (rest ∙ sym (inner ∙ cond-false (p x) (x ∷ filter p (filter q xs)) (filter p (filter q xs)) n))
          ]
      | inr n ↦
          cond-false (r x) (x ∷ filter r xs) (filter r xs) (both x ∙ and_left (q x) (p x) n)
          ∙ (rest ∙ sym (ap (filter p) (cond-false (q x) (x ∷ filter q xs) (filter q xs) n)))
    ]

-- it doesn't matter which comes first
filters-commute : {A : Type 0} (p q : A → Bool) (xs : List A) → filter p (filter q xs) ≡ filter q (filter p xs)
filters-commute p q xs =
    sym (filters-as-one p q (λ a. q a && p a) (λ a. refl) xs) ∙ filters-as-one q p (λ a. q a && p a) (λ a. and_comm (q a) (p a)) xs

not-either : (a b : Bool) → not (a || b) ≡ (not b && not a)
not-either true true = refl
not-either true false = refl
not-either false true = refl
not-either false false = refl

module _ (rs : List Record) (x : StateId) where
  -- the kept states are those without x
  pub kept-without : (ks : List StateId) → kept_states rs (x ∷ ks) ≡ filter (λ z. not (same_id z x)) (kept_states rs ks)
  kept-without ks =
      filters-as-one (λ z. not (same_id z x)) (λ z. not (is_among z ks)) (λ z. not (is_among z (x ∷ ks)))
      (λ z. not-either (same_id z x) (is_among z ks)) (arrived rs)

  own-branches-stay : (y : StateId) (ns : List ℕ) → IsTrue (not (same_id y x)) →
      filter (λ (b : StateId × ℕ). not (same_id b.0 x)) (map (λ n. (y, n)) ns) ≡ map (λ n. (y, n)) ns
  own-branches-stay y [] other = refl
  own-branches-stay y (n ∷ ns) other =
      let rest : List (StateId × ℕ) = map (λ m. (y, m)) ns in
      let kept : List (StateId × ℕ) = filter (λ (b : StateId × ℕ). not (same_id b.0 x)) rest in
      cond-true (not (same_id y x)) ((y, n) ∷ kept) kept other ∙ ap (λ bs. (y, n) ∷ bs) (own-branches-stay y ns other)

  own-branches-go : (y : StateId) (ns : List ℕ) → IsFalse (not (same_id y x)) → filter (λ (b : StateId × ℕ). not (same_id b.0 x)) (map (λ n. (y, n)) ns) ≡ []
  own-branches-go y [] same = refl
  own-branches-go y (n ∷ ns) same =
      let rest : List (StateId × ℕ) = map (λ m. (y, m)) ns in
      let kept : List (StateId × ℕ) = filter (λ (b : StateId × ℕ). not (same_id b.0 x)) rest in
      cond-false (not (same_id y x)) ((y, n) ∷ kept) kept same ∙ own-branches-go y ns same

  branches-without : (ys : List StateId) → flat_map (branches_of rs) (filter (λ z. not (same_id z x)) ys)
      ≡ filter (λ (b : StateId × ℕ). not (same_id b.0 x)) (flat_map (branches_of rs) ys)
  branches-without [] = refl
  branches-without (y ∷ ys) =
      let off : StateId × ℕ → Bool = λ b. not (same_id b.0 x) in
      let other : StateId → Bool = λ z. not (same_id z x) in
      let rest = branches-without ys in
      let ns = range_with_len 0 (length (children rs y)) in
      let split : filter off (flat_map (branches_of rs) (y ∷ ys)) ≡ filter off (branches_of rs y) ++ filter off (flat_map (branches_of rs) ys) =
      ap (filter off) (flat_map-cons (branches_of rs) y ys) ∙ filter-append off (branches_of rs y) (flat_map (branches_of rs) ys) in
      elim (cases_Bool (not (same_id y x))) [
        | inl t ↦
            ap (flat_map (branches_of rs)) (cond-true (not (same_id y x)) (y ∷ filter other ys) (filter other ys) t)
            ∙ (flat_map-cons (branches_of rs) y (filter other ys)
            ∙ (ap (λ bs. branches_of rs y ++ bs) rest
            ∙ sym (split ∙ ap (λ bs. bs ++ filter off (flat_map (branches_of rs) ys)) (own-branches-stay y ns t))))
        | inr f ↦
            ap (flat_map (branches_of rs)) (cond-false (not (same_id y x)) (y ∷ filter other ys) (filter other ys) f)
            ∙ (rest ∙ sym (split ∙ ap (λ bs. bs ++ filter off (flat_map (branches_of rs) ys)) (own-branches-go y ns f)))
      ]

  -- fork paths lose the pairs of x
  pub path-without : (ks : List StateId) (y : StateId) → fork_path rs (x ∷ ks) y ≡ filter (λ (b : StateId × ℕ). not (same_id b.0 x)) (fork_path rs ks y)
  path-without ks y =
      let off : StateId × ℕ → Bool = λ b. not (same_id b.0 x) in
      let other : StateId → Bool = λ z. not (same_id z x) in
      let fewer : branches rs (x ∷ ks) ≡ filter off (branches rs ks) =
      ap (λ ys. flat_map (branches_of rs) (filter (is_fork rs) ys)) (kept-without ks)
      ∙ (ap (flat_map (branches_of rs)) (filters-commute (is_fork rs) other (kept_states rs ks))
      ∙ branches-without (filter (is_fork rs) (kept_states rs ks))) in
      ap (filter (leads_to rs y)) fewer ∙ filters-commute (leads_to rs y) off (branches rs ks)

-- ===== Stand-ins

module _ (rs : List Record) (ks : List StateId) (dag : IsDag rs) (x s : StateId) (fresh : IsFalse (is_among x ks))
    (shares : shared_stand_in rs ks x ≡ Some s) where
  -- what x stood in for, s stands in for
  abbrev moved : StateId → StateId
  moved z = if same_id z x then s else z

  moved-from : moved x ≡ s
  moved-from = cond-true (same_id x x) s x (same_id_self x)

  moved-to : moved s ≡ s
  moved-to = elim (cases_Bool (same_id s x)) [
    | inl t ↦ cond-true (same_id s x) s s t
    | inr f ↦ cond-false (same_id s x) s s f
  ]

  moved-other : (z : StateId) → IsFalse (same_id z x) → moved z ≡ z
  moved-other z f = cond-false (same_id z x) s z f

  parts : IsTrue (list_any (λ c. true) (children rs x)) × ((c : StateId) → IsTrue (is_among c (children rs x)) → stand_in rs ks c ≡ s)
  parts = common-is (stand_in rs ks) (children rs x) s shares

  known-here : IsTrue (is_known rs x)
  known-here = let w = any-witness (λ c. true) (children rs x) parts.0 in has_child_is_known rs dag x w.0 w.1

  abbrev Moves : StateId → Type 0
  Moves z = stand_in rs (x ∷ ks) z ≡ moved (stand_in rs ks z)

  kept-moves : (z : StateId) → IsFalse (same_id z x) → IsFalse (is_among z ks) → Moves z
  kept-moves z other out =
      kept-stands-for-itself (x ∷ ks) rs z (or_from (same_id z x) (is_among z ks) other out)
      ∙ sym (ap moved (kept-stands-for-itself ks rs z out) ∙ moved-other z other)

  here-moves : ((c : StateId) → IsTrue (is_among c (children rs x)) → Moves c) → Moves x
  here-moves below =
      stands-in-shared rs (x ∷ ks) (dag-grows rs dag) x s (among-first x ks) parts.0 (λ c m. below c m ∙ (ap moved (parts.1 c m) ∙ moved-to))
      ∙ sym (ap moved (kept-stands-for-itself ks rs x fresh) ∙ moved-from)

  collected-moves : (z : StateId) → IsTrue (is_among z ks) → ((c : StateId) → IsTrue (is_among c (children rs z)) → Moves c) → Moves z
  collected-moves z gone below =
      go (children rs z) (goes-by-first-child (x ∷ ks) rs (dag-grows rs dag) z (among-later z x ks gone))
      (goes-by-first-child ks rs (dag-grows rs dag) z gone) below
    where
      other : IsFalse (same_id z x)
      other = false_from_ne_true (same_id z x) (λ t. both_ways (is_among x ks) fresh (subst (λ w. IsTrue (is_among w ks)) (same_id-true z x t) gone))

      go : (cs : List StateId) → stand_in rs (x ∷ ks) z ≡ by_first (stand_in rs (x ∷ ks)) z cs → stand_in rs ks z ≡ by_first (stand_in rs ks) z cs →
          ((c : StateId) → IsTrue (is_among c cs) → Moves c) → Moves z
      go [] new old below = new ∙ sym (ap moved old ∙ moved-other z other)
      go (c ∷ cs) new old below = new ∙ (below c (among-first c cs) ∙ ap moved (sym old))

  all-move : (n : ℕ) (z : StateId) → IsTrue (is_known rs z) → length rs ≤ arrival rs z + n → Moves z
  all-move zero z known enough = absurd (let within = arrival_is_below rs z known in omega arith)
  all-move (suc n) z known enough =
      let below : (c : StateId) → IsTrue (is_among c (children rs z)) → Moves c =
      λ c m. (let later = child_arrives_later rs dag z c m in all-move n c (child_is_known rs z c m) (omega arith)) in
      elim (cases_Bool (same_id z x)) [
        | inl t ↦
            let is = same_id-true z x t in
            subst Moves (sym is) (here-moves (subst (λ w. (c : StateId) → IsTrue (is_among c (children rs w)) → Moves c) is below))
        | inr f ↦ elim (cases_Bool (is_among z ks)) [
          | inl gone ↦ collected-moves z gone below
          | inr out ↦ kept-moves z f out
        ]
      ]

  unknown-moves : (z : StateId) → IsFalse (is_known rs z) → Moves z
  unknown-moves z unknown =
      let g = dag-grows rs dag in
      let other = false_from_ne_true (same_id z x) (λ t. both_ways (is_known rs z) unknown
      (subst (λ w. IsTrue (is_known rs w)) (sym (same_id-true z x t)) known-here)) in
      unknown-stands-for-itself (x ∷ ks) rs g z unknown ∙ sym (ap moved (unknown-stands-for-itself ks rs g z unknown) ∙ moved-other z other)

  -- where x stood in, s stands in; all else stays
  pub stand-ins-move : (z : StateId) → stand_in rs (x ∷ ks) z ≡ (if same_id (stand_in rs ks z) x then s else stand_in rs ks z)
  stand-ins-move z = elim (cases_Bool (is_known rs z)) [
    | inl known ↦ all-move (length rs) z known (omega arith)
    | inr unknown ↦ unknown-moves z unknown
  ]

  -- x has the stand-in that its children share
  pub joined-stands-in : stand_in rs (x ∷ ks) x ≡ s
  joined-stands-in = stand-ins-move x ∙ (ap moved (kept-stands-for-itself ks rs x fresh) ∙ moved-from)

  pub shared-join : StandInsAreShared rs ks → StandInsAreShared rs (x ∷ ks)
  shared-join shared y m = elim (among-cases y x ks m) [
    | inl is ↦ subst Shared (sym is) (parts.0, λ c n. stand-ins-move c ∙ (ap moved (parts.1 c n) ∙ (moved-to ∙ sym joined-stands-in)))
    | inr old ↦ ((shared y old).0, λ c n. stand-ins-move c ∙ (ap moved ((shared y old).1 c n) ∙ sym (stand-ins-move y)))
  ]
    where
      Shared : StateId → Type 0
      Shared y = IsTrue (list_any (λ c. true) (children rs y))
          × ((c : StateId) → IsTrue (is_among c (children rs y)) → stand_in rs (x ∷ ks) c ≡ stand_in rs (x ∷ ks) y)

  -- what children shared they still share
  pub shares-still : (y t : StateId) → shared_stand_in rs ks y ≡ Some t → shared_stand_in rs (x ∷ ks) y ≡ Some (if same_id t x then s else t)
  shares-still y t e =
      let each = common-is (stand_in rs ks) (children rs y) t e in
      common-from (stand_in rs (x ∷ ks)) (children rs y) (moved t) each.0 (λ c m. stand-ins-move c ∙ ap moved (each.1 c m))

  pub absorbed-stays : (y : StateId) → IsTrue (is_absorbed rs ks y) → IsTrue (is_absorbed rs (x ∷ ks) y)
  absorbed-stays y absorbed = let was = absorbed-parts rs ks y absorbed in ap is_some (shares-still y was.0 was.1)

  pub hands-over : HandsOver rs ks x s
  hands-over = record {
    stand_ins = stand-ins-move;
    shared = shared-join;
    absorbed = absorbed-stays;
    kept = kept-without rs x ks;
    paths = path-without rs x ks;
  }

-- what is collectable may join
pub collected-join : (rs : List Record) (floors : List Floor) (ks : List StateId) (x : StateId) → IsDag rs → AreCollected rs floors ks →
    IsTrue (is_collectable rs floors ks x) → AreCollected rs floors (x ∷ ks)
collected-join rs floors ks x dag collected collectable =
    let fits = and_parts (not (is_among x ks) && is_closed rs floors x) (is_absorbed rs ks x) collectable in
    let first = and_parts (not (is_among x ks)) (is_closed rs floors x) fits.0 in
    let fresh = not-true (is_among x ks) first.0 in
    let was = absorbed-parts rs ks x fits.1 in
    let stays = absorbed-stays rs ks dag x was.0 fresh was.1 in
    record {
      known = λ y m. elim (among-cases y x ks m) [
        | inl is ↦ subst (λ w. IsTrue (is_known rs w)) (sym is) (known-here rs ks dag x was.0 fresh was.1)
        | inr old ↦ collected.known y old
      ];
      closed = λ y m. elim (among-cases y x ks m) [
        | inl is ↦ subst (λ w. IsTrue (is_closed rs floors w)) (sym is) first.1
        | inr old ↦ collected.closed y old
      ];
      absorbed = λ y m. elim (among-cases y x ks m) [
        | inl is ↦ subst (λ w. IsTrue (is_absorbed rs (x ∷ ks) w)) (sym is) (stays x fits.1)
        | inr old ↦ stays y (collected.absorbed y old)
      ];
    }
