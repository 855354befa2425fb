-- Who collected more has more room.
use Rattle.std.proofs.Common.{◌≡◌, ℕ, ◌+◌, ◌≤◌, Bool, not, cond, List, [], ◌∷◌, length, filter, find, Option, Some, None, IsTrue, IsFalse, inl, inr}
use Rattle.std.proofs.Common.{refl, sym, ap, ◌∙◌, arith}
use Rattle.std.specs.Prelude.{◌==◌, nat_lt, flat_map}
use Rattle.std.specs.Option.{option_map}
use Rattle.std.proofs.lemmas.Bool.{cases_Bool, both_ways, cond-true, cond-false, eqb-false, ne_eqb, ltb-true, lt-ltb}
use Rattle.std.proofs.lemmas.List.{length-append}
use Rattle.std.proofs.lemmas.List.Elements.{filter-append}
use Rattle.std.proofs.lemmas.List.Concat.{flat_map-cons}
use Rattle.std.proofs.lemmas.Option.{none-some}
use Rattle.tardis_base.specs.declared.ids.StateId.{StateId}
use Rattle.tardis_base.specs.declared.records.Record.{Record}
use Rattle.tardis_base.specs.declared.records.Limits.{Limits}
use Rattle.tardis_base.specs.declared.replies.Refusal.{Refusal}
use Rattle.tardis_base.specs.declared.replies.Refusal.TheVariants.{Full, PathFull}
use Rattle.tardis_base.specs.Ids.{is_among}
use Rattle.plain_dag.specs.States.{arrived}
use Rattle.plain_dag.specs.Collection.{kept_states}
use Rattle.plain_dag.specs.Paths.{is_fork, branches_of, leads_to, fork_path, long_path}
use Rattle.plain_dag.specs.Growth.{growth_refusal}

-- ===== Lists

-- what passes the narrower test is found among what passes the wider one
narrower : {A : Type 0} (p q : A → Bool) → ((a : A) → IsTrue (q a) → IsTrue (p a)) → (xs : List A) → filter q xs ≡ filter q (filter p xs)
narrower p q wider [] = refl
narrower p q wider (x ∷ xs) =
    let rest = narrower p q wider xs in
    elim (cases_Bool (p x)) [
      | inl t ↦
          ap (λ zs. cond (q x) (x ∷ zs) zs) rest ∙ sym (ap (filter q) (cond-true (p x) (x ∷ filter p xs) (filter p xs) t))
      | inr f ↦
          let fails : IsFalse (q x) = elim (cases_Bool (q x)) [ inl u ↦ absurd (both_ways (p x) f (wider x u)) | inr n ↦ n ] in
          cond-false (q x) (x ∷ filter q xs) (filter q xs) fails ∙ (rest ∙ sym (ap (filter q) (cond-false (p x) (x ∷ filter p xs) (filter p xs) f)))
    ]

-- where nothing is found, nothing is found among fewer, by a narrower test
finds-no-more : {A : Type 0} (test narrow q : A → Bool) → ((a : A) → IsTrue (narrow a) → IsTrue (test a)) → (xs : List A) → find test xs ≡ None →
    find narrow (filter q xs) ≡ None
finds-no-more test narrow q wider [] e = refl
finds-no-more test narrow q wider (x ∷ xs) e =
    elim (cases_Bool (test x)) [
      | inl t ↦ absurd (none-some x (sym e ∙ cond-true (test x) (Some x) (find test xs) t))
      | inr f ↦
          let rest = finds-no-more test narrow q wider xs (sym (cond-false (test x) (Some x) (find test xs) f) ∙ e) in
          let fails : IsFalse (narrow x) = elim (cases_Bool (narrow x)) [ inl u ↦ absurd (both_ways (test x) f (wider x u)) | inr n ↦ n ] in
          elim (cases_Bool (q x)) [
            | inl t ↦
                ap (find narrow) (cond-true (q x) (x ∷ filter q xs) (filter q xs) t)
                ∙ (cond-false (narrow x) (Some x) (find narrow (filter q xs)) fails ∙ rest)
            | inr n ↦ ap (find narrow) (cond-false (q x) (x ∷ filter q xs) (filter q xs) n) ∙ rest
          ]
    ]

module _ {A B : Type 0} (fork : A → Bool) (ways : A → List B) (leads : B → Bool) where
  -- how many ways of forks lead there
  abbrev count : List A → ℕ
  count xs = length (filter leads (flat_map ways (filter fork xs)))

  abbrev own : A → ℕ
  own x = count (x ∷ [])

  leading : (x : A) (xs : List A) → length (filter leads (flat_map ways (x ∷ xs))) ≡ length (filter leads (ways x)) + length (filter leads (flat_map ways xs))
  leading x xs =
      ap (λ bs. length (filter leads bs)) (flat_map-cons ways x xs)
      ∙ (ap length (filter-append leads (ways x) (flat_map ways xs)) ∙ length-append (filter leads (ways x)) (filter leads (flat_map ways xs)))

  counts : (x : A) (xs : List A) → count (x ∷ xs) ≡ own x + count xs
  counts x xs = elim (cases_Bool (fork x)) [
    | inl t ↦
        let forks = cond-true (fork x) (x ∷ filter fork xs) (filter fork xs) t in
        let all = ap (λ ys. length (filter leads (flat_map ways ys))) forks ∙ leading x (filter fork xs) in
        let one = ap (λ ys. length (filter leads (flat_map ways ys))) (cond-true (fork x) (x ∷ []) [] t) ∙ leading x [] in
        omega arith
    | inr f ↦
        let all = ap (λ ys. length (filter leads (flat_map ways ys))) (cond-false (fork x) (x ∷ filter fork xs) (filter fork xs) f) in
        let one = ap (λ ys. length (filter leads (flat_map ways ys))) (cond-false (fork x) (x ∷ []) [] f) in
        omega arith
  ]

  -- among fewer there are no more
  counts-fewer : (q : A → Bool) (xs : List A) → count (filter q xs) ≤ count xs
  counts-fewer q [] = omega arith
  counts-fewer q (x ∷ xs) =
      let rest = counts-fewer q xs in
      let all = counts x xs in
      elim (cases_Bool (q x)) [
        | inl t ↦ let e = ap count (cond-true (q x) (x ∷ filter q xs) (filter q xs) t) ∙ counts x (filter q xs) in omega arith
        | inr f ↦ let e = ap count (cond-false (q x) (x ∷ filter q xs) (filter q xs) f) in omega arith
      ]

length-fewer : {A : Type 0} (q : A → Bool) (xs : List A) → length (filter q xs) ≤ length xs
length-fewer q [] = omega arith
length-fewer q (x ∷ xs) =
    let rest = length-fewer q xs in
    elim (cases_Bool (q x)) [
      | inl t ↦ let e = ap length (cond-true (q x) (x ∷ filter q xs) (filter q xs) t) in omega arith
      | inr f ↦ let e = ap length (cond-false (q x) (x ∷ filter q xs) (filter q xs) f) in omega arith
    ]

not-found : {A B : Type 0} (o : Option A) (f : A → B) → option_map f o ≡ None → o ≡ None
not-found None f e = refl
not-found (Some a) f e = absurd (cc)

-- ===== Kept states and their fork paths

module _ (ks js : List StateId) (more : (x : StateId) → IsTrue (is_among x ks) → IsTrue (is_among x js)) where
  abbrev stays : StateId → Bool
  stays x = not (is_among x js)

  stayed : (x : StateId) → IsTrue (not (is_among x js)) → IsTrue (not (is_among x ks))
  stayed x h = elim (cases_Bool (is_among x ks)) [
    | inl t ↦ absurd (both_ways (not (is_among x js)) (ap not (more x t)) h)
    | inr f ↦ ap not f
  ]

  kept-narrower : (rs : List Record) → kept_states rs js ≡ filter stays (kept_states rs ks)
  kept-narrower rs = narrower (λ x. not (is_among x ks)) stays stayed (arrived rs)

  fewer-kept : (rs : List Record) → length (kept_states rs js) ≤ length (kept_states rs ks)
  fewer-kept rs = let e = ap length (kept-narrower rs) in let fewer = length-fewer stays (kept_states rs ks) in omega arith

  paths-shorter : (rs : List Record) (x : StateId) → length (fork_path rs js x) ≤ length (fork_path rs ks x)
  paths-shorter rs x =
      let e = ap (λ (ys : List StateId). length (filter (leads_to rs x) (flat_map (branches_of rs) (filter (is_fork rs) ys)))) (kept-narrower rs) in
      let fewer = counts-fewer (is_fork rs) (branches_of rs) (leads_to rs x) stays (kept_states rs ks) in
      omega arith

  no-longer : (rs : List Record) (most : ℕ) → long_path rs ks most ≡ None → long_path rs js most ≡ None
  no-longer rs most e =
      let long : StateId → Bool = λ x. nat_lt most (length (fork_path rs ks x)) in
      let long_there : StateId → Bool = λ x. nat_lt most (length (fork_path rs js x)) in
      let longer : (x : StateId) → IsTrue (long_there x) → IsTrue (long x) =
      λ x h.
      let shorter = paths-shorter rs x in
      let above = ltb-true most (length (fork_path rs js x)) h in
      lt-ltb most (length (fork_path rs ks x)) (omega arith) in
      let none : find long (kept_states rs ks) ≡ None = not-found (find long (kept_states rs ks)) (λ x. (x, length (fork_path rs ks x))) e in
      let none_there = ap (find long_there) (kept-narrower rs) ∙ finds-no-more long long_there stays longer (kept_states rs ks) none in
      ap (option_map (λ (x : StateId). (x, length (fork_path rs js x)))) none_there

  -- where the history of who kept no more than it may grows, that of who collected more grows too
  pub grows-too : (limits : Limits) (rs : List Record) (r : Record) → length (kept_states rs ks) ≤ limits.max_kept →
      growth_refusal limits ks rs r ≡ None → growth_refusal limits js rs r ≡ None
  grows-too limits rs r few e =
      let kept = length (kept_states rs ks) in
      let kept_there = length (kept_states rs js) in
      let fewer = fewer-kept rs in
      let tell : StateId × ℕ → Refusal = λ p. PathFull p.0 p.1 in
      let too_long = option_map tell (long_path (r ∷ rs) ks limits.max_path) in
      let too_long_there = option_map tell (long_path (r ∷ rs) js limits.max_path) in
      elim (cases_Bool (kept == limits.max_kept)) [
        | inl t ↦ absurd (none-some (Full kept) (sym e ∙ cond-true (kept == limits.max_kept) (Some (Full kept)) too_long t))
        | inr f ↦
            let less = eqb-false kept limits.max_kept f in
            let differs : IsFalse (kept_there == limits.max_kept) = ne_eqb kept_there limits.max_kept (λ same. less (omega arith)) in
            let none : too_long ≡ None = sym (cond-false (kept == limits.max_kept) (Some (Full kept)) too_long f) ∙ e in
            cond-false (kept_there == limits.max_kept) (Some (Full kept_there)) too_long_there differs
            ∙ ap (option_map tell) (no-longer (r ∷ rs) limits.max_path (not-found (long_path (r ∷ rs) ks limits.max_path) tell none))
      ]
