-- Collection keeps a sound site sound.
use Rattle.std.proofs.Common.{◌≡◌, ℕ, zero, suc, ◌+◌, ◌≤◌, Bool, not, List, [], ◌∷◌, ◌++◌, length, filter, find, Option, Some, None, IsTrue, inl, inr, refl}
use Rattle.std.proofs.Common.{ap, ◌∙◌, arith, length-append}
use Rattle.std.specs.Prelude.{◌&&◌, flat_map}
use Rattle.std.proofs.lemmas.Bool.{and_parts, and_from, cases_Bool, cond-true, cond-false, or_parts, not-true, not_from_false}
use Rattle.std.proofs.lemmas.List.Elements.{filter-append}
use Rattle.tardis_base.specs.declared.ids.StateId.{StateId}
use Rattle.tardis_base.specs.declared.records.Record.{Record}
use Rattle.tardis_base.specs.Ids.{same_id, is_among}
use Rattle.plain_dag.specs.States.{states, arrived, is_known}
use Rattle.plain_dag.specs.Floors.{is_closed}
use Rattle.plain_dag.specs.Collection.{is_absorbed, is_collectable, tidied}
use Rattle.plain_dag.specs.Paths.{is_fork, branches_of, leads_to}
use Rattle.plain_dag.proofs.Searches.{found-passes}
use Rattle.plain_dag.proofs.Joining.{collected-join}
use Rattle.plain_site.specs.Site.{Site}
use Rattle.plain_site.specs.FloorSteps.{tidy}
use Rattle.plain_site.specs.Sound.{are_distinct, IsSound}

-- ===== Fewer kept states

-- of two tests the one that is true more seldom filters fewer
filters-fewer : (p q : StateId → Bool) → ((x : StateId) → IsTrue (p x) → IsTrue (q x)) → (xs : List StateId) → length (filter p xs) ≤ length (filter q xs)
filters-fewer p q f [] = omega arith
filters-fewer p q f (x ∷ xs) =
    let rest = filters-fewer p q f xs in
    elim (cases_Bool (p x)) [
      | inl t ↦
          let a : length (filter p (x ∷ xs)) ≡ suc (length (filter p xs)) = ap length (cond-true (p x) (x ∷ filter p xs) (filter p xs) t) in
          let b : length (filter q (x ∷ xs)) ≡ suc (length (filter q xs)) = ap length (cond-true (q x) (x ∷ filter q xs) (filter q xs) (f x t)) in
          omega arith
      | inr n ↦
          let a : length (filter p (x ∷ xs)) ≡ length (filter p xs) = ap length (cond-false (p x) (x ∷ filter p xs) (filter p xs) n) in
          elim (cases_Bool (q x)) [
            | inl t ↦
                let b : length (filter q (x ∷ xs)) ≡ suc (length (filter q xs)) = ap length (cond-true (q x) (x ∷ filter q xs) (filter q xs) t) in
                omega arith
            | inr m ↦
                let b : length (filter q (x ∷ xs)) ≡ length (filter q xs) = ap length (cond-false (q x) (x ∷ filter q xs) (filter q xs) m) in
                omega arith
          ]
    ]

module _ (rs : List Record) (z : StateId) where
  -- how many branches of the forks among these lead to z
  abbrev paths : List StateId → ℕ
  paths xs = length (filter (leads_to rs z) (flat_map (branches_of rs) (filter (is_fork rs) xs)))

  -- of the state alone
  abbrev paths_at : StateId → ℕ
  paths_at x = paths (x ∷ [])

  -- one state more
  paths-more : (x : StateId) (xs : List StateId) → paths (x ∷ xs) ≡ paths_at x + paths xs
  paths-more x xs = elim (cases_Bool (is_fork rs x)) [
    | inl t ↦
        let here = branches_of rs x in
        let there = flat_map (branches_of rs) (filter (is_fork rs) xs) in
        let a : filter (is_fork rs) (x ∷ xs) ≡ x ∷ filter (is_fork rs) xs = cond-true (is_fork rs x) (x ∷ filter (is_fork rs) xs) (filter (is_fork rs) xs) t in
        let b : filter (is_fork rs) (x ∷ []) ≡ x ∷ [] = cond-true (is_fork rs x) (x ∷ []) [] t in
        let many : paths (x ∷ xs) ≡ length (filter (leads_to rs z) (here ++ there)) =
        ap (λ (ys : List StateId). length (filter (leads_to rs z) (flat_map (branches_of rs) ys))) a in
        let one : paths_at x ≡ length (filter (leads_to rs z) (here ++ [])) =
        ap (λ (ys : List StateId). length (filter (leads_to rs z) (flat_map (branches_of rs) ys))) b in
        let split : length (filter (leads_to rs z) (here ++ there)) ≡ length (filter (leads_to rs z) here) + length (filter (leads_to rs z) there) =
        ap length (filter-append (leads_to rs z) here there) ∙ length-append (filter (leads_to rs z) here) (filter (leads_to rs z) there) in
        let alone : length (filter (leads_to rs z) (here ++ [])) ≡ length (filter (leads_to rs z) here) + 0 =
        ap length (filter-append (leads_to rs z) here []) ∙ length-append (filter (leads_to rs z) here) [] in
        omega arith
    | inr f ↦
        let a : paths (x ∷ xs) ≡ paths xs =
        ap (λ (ys : List StateId). length (filter (leads_to rs z) (flat_map (branches_of rs) ys)))
        (cond-false (is_fork rs x) (x ∷ filter (is_fork rs) xs) (filter (is_fork rs) xs) f) in
        let b : paths_at x ≡ 0 =
        ap (λ (ys : List StateId). length (filter (leads_to rs z) (flat_map (branches_of rs) ys))) (cond-false (is_fork rs x) (x ∷ []) [] f) in
        omega arith
  ]

  paths-fewer : (p q : StateId → Bool) → ((x : StateId) → IsTrue (p x) → IsTrue (q x)) → (xs : List StateId) → paths (filter p xs) ≤ paths (filter q xs)
  paths-fewer p q f [] = omega arith
  paths-fewer p q f (x ∷ xs) =
      let rest = paths-fewer p q f xs in
      elim (cases_Bool (p x)) [
        | inl t ↦
            let a : paths (filter p (x ∷ xs)) ≡ paths_at x + paths (filter p xs) =
            ap paths (cond-true (p x) (x ∷ filter p xs) (filter p xs) t) ∙ paths-more x (filter p xs) in
            let b : paths (filter q (x ∷ xs)) ≡ paths_at x + paths (filter q xs) =
            ap paths (cond-true (q x) (x ∷ filter q xs) (filter q xs) (f x t)) ∙ paths-more x (filter q xs) in
            omega arith
        | inr n ↦
            let a : paths (filter p (x ∷ xs)) ≡ paths (filter p xs) = ap paths (cond-false (p x) (x ∷ filter p xs) (filter p xs) n) in
            elim (cases_Bool (q x)) [
              | inl t ↦
                  let b : paths (filter q (x ∷ xs)) ≡ paths_at x + paths (filter q xs) =
                  ap paths (cond-true (q x) (x ∷ filter q xs) (filter q xs) t) ∙ paths-more x (filter q xs) in
                  omega arith
              | inr m ↦
                  let b : paths (filter q (x ∷ xs)) ≡ paths (filter q xs) = ap paths (cond-false (q x) (x ∷ filter q xs) (filter q xs) m) in
                  omega arith
            ]
      ]

-- ===== One collected state more

still-kept : (x : StateId) (ks : List StateId) (y : StateId) → IsTrue (not (is_among y (x ∷ ks))) → IsTrue (not (is_among y ks))
still-kept x ks y t = not_from_false (is_among y ks) (or_parts (same_id y x) (is_among y ks) (not-true (is_among y (x ∷ ks)) t)).1

collected-keeps : (site : Site) (x : StateId) → IsSound site →
    IsTrue (is_collectable site.dag site.floors site.collected x) → IsSound (record site { collected = x ∷ site.collected })
collected-keeps site x sound collectable =
    let rs = site.dag in
    let ks = site.collected in
    let fresh = not (is_among x ks) in
    let first = and_parts fresh (is_closed rs site.floors x) (and_parts (fresh && is_closed rs site.floors x) (is_absorbed rs ks x) collectable).0 in
    let few = sound.few_kept in
    let fewer = filters-fewer (λ y. not (is_among y (x ∷ ks))) (λ y. not (is_among y ks)) (still-kept x ks) (arrived rs) in
    record {
      limits = sound.limits;
      own = sound.own;
      dag = sound.dag;
      of_the_sites = sound.of_the_sites;
      few_kept = omega arith;
      short_paths = λ y kept.
          let kept_parts = and_parts (is_known rs y) (not (is_among y (x ∷ ks))) kept in
          let short = sound.short_paths y (and_from (is_known rs y) (not (is_among y ks)) kept_parts.0 (still-kept x ks y kept_parts.1)) in
          let shorter = paths-fewer rs y (λ w. not (is_among w (x ∷ ks))) (λ w. not (is_among w ks)) (still-kept x ks) (arrived rs) in
          omega arith;
      few_children = sound.few_children;
      few_sessions = sound.few_sessions;
      session_numbers = sound.session_numbers;
      each_session = sound.each_session;
      txn_numbers = sound.txn_numbers;
      each_txn = sound.each_txn;
      one_floor_each = sound.one_floor_each;
      each_floor = sound.each_floor;
      under_floor = sound.under_floor;
      collected = collected-join rs site.floors ks x sound.dag sound.collected collectable;
      collected_once = and_from fresh (are_distinct ks) first.0 sound.collected_once;
      waiting = sound.waiting;
    }

tidied-keeps : (n : ℕ) (site : Site) → IsSound site → IsSound (record site { collected = tidied n site.dag site.floors site.collected })
tidied-keeps zero site sound = sound
tidied-keeps (suc n) site sound =
    go (tidied-keeps n) (find (is_collectable site.dag site.floors site.collected) (states site.dag)) refl
  where
    go : ((next : Site) → IsSound next → IsSound (record next { collected = tidied n next.dag next.floors next.collected })) →
        (o : Option StateId) → find (is_collectable site.dag site.floors site.collected) (states site.dag) ≡ o →
        IsSound (record site {
          collected = elim o as (λ u. List StateId) [
            | None ↦ site.collected
            | Some x ↦
                tidied n site.dag site.floors (x ∷ site.collected)
          ];
        })
    go later None e = sound
    go later (Some x) e =
        let found = found-passes (is_collectable site.dag site.floors site.collected) (states site.dag) x e in
        later (record site { collected = x ∷ site.collected }) (collected-keeps site x sound found.1)

pub tidy-keeps : (site : Site) (n : ℕ) → IsSound site → IsSound (tidy site n).0
tidy-keeps site n sound = tidied-keeps n site sound
